use Rattle.std.proofs.Common.{◌≡◌, length, get_or, Some, true, sym, ◌∙◌, subst, arith}
use Rattle.std.proofs.lemmas.Bool.{false≢true}
use Rattle.std.proofs.lemmas.List.{length-map}
use Rattle.std.proofs.lemmas.Option.{get_or_from_slice_get}
use Rattle.gl_filters.specs.Picked.{edges_of_table}
use Rattle.gl_filters.specs.Test.{leads_to}
use Rattle.gl_index.specs.Listed.{IsNextWith}
use Rattle.gl_index.specs.Sides.{lock_towards}
use Rattle.gl_index.specs.declared.sides.Side.TheVariants.{Leader}
use Rattle.gl_index.proofs.Lists.{element_at, fewer_left}
use Rattle.gl_sought.proofs.Places.{edge_is}
use Rattle.gl_grounds.specs.Passing.{may_pass, stay, IsNextLed}
use Rattle.gl_grounds.proofs.PassageSteps.{begins, goes_past}
use Rattle.gl_grounds.proofs.passages.Passages.add_from.Goals as goal
use Rattle.gl_grounds.proofs.passages.Passages.add_from.Goals.{then-leads_on+in_ok-note, else-leads_on}

pub loop-next-init : goal.loop-next-init
loop-next-init c =
    let table = c.args.table.now in
    let edges = edges_of_table table in
    let here = element_at edges c.args.i (omega (arith, c.requires.there, length-map table (λ pair. pair.0))) in
    let same = edge_is table c.index-table-i.result c.args.i here.0 c.requires.there here.1 in (
      begins edges c.args.classes.now c.args.flags.now c.args.self.now c.args.i here.0 c.begin-next.result here.1
          (subst (λ e. IsNextWith (lock_towards Leader) edges c.args.flags.now e.wanted 0 c.begin-next.result) (sym same)
          (c.begin-next.ensures edges c.args.flags.now Leader c.requires.holders)),
      (λ one other is. is),
    )

pub loop-next-smaller : goal.loop-next-smaller
loop-next-smaller c =
    let table = c.args.table.now in
    let edges = edges_of_table table in
    let next : IsNextLed edges c.args.classes.now c.args.flags.now c.loop-next.self c.args.i (Some c.in-Some.other) = rw c.in-Some.is at c.loop-next.invariant.0 in
    let there = element_at edges c.in-Some.other next.shares.0 in
    fewer_left (length edges) (length table) c.loop-next.next c.in-Some.other c.after-next.result (length-map table (λ pair. pair.0)) c.in-Some.is next.shares.0
    (c.after-next.ensures edges c.args.flags.now Leader there.0 c.requires.holders there.1).from

pub loop-next-preserved : goal.loop-next-preserved
loop-next-preserved c =
    let table = c.args.table.now in
    let edges = edges_of_table table in
    let classes = c.args.classes.now in
    let next : IsNextLed edges classes c.args.flags.now c.loop-next.self c.args.i (Some c.in-Some.other) = rw c.in-Some.is at c.loop-next.invariant.0 in
    let here = element_at edges c.args.i (omega (arith, c.requires.there, length-map table (λ pair. pair.0))) in
    let there = element_at edges c.in-Some.other next.shares.0 in
    let is_e = edge_is table c.index-table-i.result c.args.i here.0 c.requires.there here.1 in
    let is_f = edge_is table c.index-table-other.result c.in-Some.other there.0 (omega (arith, next.shares.0, length-map table (λ pair. pair.0))) there.1 in
    let leads : leads_to here.0 there.0 ≡ c.leads_on.result = (λ k. leads_to (is_e k) (is_f k)) ∙ sym c.leads_on.ensures in
    let still : stay c.loop-next.self c.if-leads_on.self =
    elim c.if-leads_on.branch [
      | then-leads_on+in_ok-note w ↦ subst (stay c.loop-next.self) (sym w.self-is) w.in_ok-note.ensures.stay
      | else-leads_on w ↦ subst (stay c.loop-next.self) (sym w.self-is) (λ one other is. is)
    ] in (
      goes_past edges classes c.args.flags.now c.loop-next.self c.if-leads_on.self c.args.i c.in-Some.other here.0 there.0 c.after-next.result still here.1 there.1 next
          (λ one other of_one of_other led.
          elim c.if-leads_on.branch [
            | then-leads_on+in_ok-note w ↦
                subst (λ p. may_pass p one other ≡ true) (sym w.self-is)
                (subst (λ d. may_pass w.note.new.self one d ≡ true) (get_or_from_slice_get classes c.in-Some.other other 0 of_other)
                (subst (λ d. may_pass w.note.new.self d (get_or classes c.in-Some.other 0) ≡ true) (get_or_from_slice_get classes c.args.i one 0 of_one) w.in_ok-note.ensures.noted))
            | else-leads_on w ↦ absurd (false≢true (sym w.if-leads_on.false ∙ sym leads ∙ led))
          ])
          (c.after-next.ensures edges c.args.flags.now Leader there.0 c.requires.holders there.1),
      (λ one other is. still one other (c.loop-next.invariant.1 one other is)),
    )
