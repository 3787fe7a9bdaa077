-- What was asked, the edges and the lists decide the report.
use Rattle.std.proofs.Common.{◌≡◌, ◌<◌, List, [], ◌∷◌, sym, ◌∙◌, inl, inr, arith, subst}
use Rattle.gl_event.specs.declared.events.Event.{Event}
use Rattle.gl_event.specs.declared.events.Segment.{Segment}
use Rattle.gl_segments.specs.Segments.{Before, IsBelow, IsLeastInRing}
use Rattle.gl_segments.proofs.LawLemmas.{agree}
use Rattle.gl_cycles.specs.Reports.{ReportsAreUnique, LoopsAreUnique, NoReportOfLoops, report_by}

pub reports_agree : ReportsAreUnique
reports_agree asked pairs lists a b of_a of_b =
    of_a.is
    ∙ (λ i. report_by asked (λ s t. agree lists of_a.before of_b.before of_a.decides of_b.decides s t i) pairs)
    ∙ sym of_b.is

-- the segment that a ring begins with is before itself
loops : (lists : List (List Event)) (at : Segment) (ring : List Segment) → IsLeastInRing lists at ring → Before lists at at
loops lists at [] least = let e = least.begins in absurd (cc)
loops lists at (s ∷ via) least =
    let first : s ≡ at = (let e = least.begins in cc) in
    subst (λ (t : Segment). Before lists t t) first (via, least.rings)

-- of two segments of which neither is below the other
pub same_segment : (a b : Segment) → ¬ IsBelow a b → ¬ IsBelow b a → a ≡ b
same_segment a b not_below not_above =
    let thread_low : ¬ (a.thread < b.thread) = (λ l. not_below (inl l)) in
    let thread_high : ¬ (b.thread < a.thread) = (λ l. not_above (inl l)) in
    let threads : a.thread ≡ b.thread = omega arith in
    let index_low : ¬ (a.index < b.index) = (λ l. not_below (inr (threads, l))) in
    let index_high : ¬ (b.index < a.index) = (λ l. not_above (inr (sym threads, l))) in
    let indexes : a.index ≡ b.index = omega arith in
    (λ i. record { thread = threads i; index = indexes i })

pub loops_agree : LoopsAreUnique
loops_agree lists a b ring other of_a of_b = same_segment a b (of_b.least a (loops lists a ring of_a)) (of_a.least b (loops lists b other of_b))

pub none_of_loops : NoReportOfLoops
none_of_loops asked pairs lists report at ring least is = is.consistent.each at (loops lists at ring least)
