use Rattle.std.proofs.Common.{◌≡◌, ℕ, ◌+◌, [], List, length, refl, ap, ◌∙◌, arith}
use Rattle.std.specs.Prelude.{slice_index}
use Rattle.gl_event.specs.declared.events.Segment.{Segment}
use Rattle.gl_segments.specs.bodies.Fronts.{first_of}
use Rattle.gl_segments.specs.bodies.Search.{IsClockOf, CountsSources}
use Rattle.gl_segments.specs.bodies.Tables.{Has}
use Rattle.gl_segments.proofs.Clocking.{own_count}
use Rattle.gl_segments.proofs.Starting.{may_start_front}
use Rattle.gl_segments.proofs.Sweeping.{part_whole, growing_more}
use Rattle.gl_segments.proofs.sweep.begun.Goals as goal

pub returns : goal.returns
returns c =
    let steps = c.args.steps.now in
    let sound = c.requires.sound in
    let clock : List ℕ = c.in_ok-clock.clock in
    let first : Segment = first_of c.args.thread in
    let width : length clock ≡ length steps = c.in_ok-clock.ensures.width ∙ c.threads.ensures in
    let start = may_start_front steps clock c.args.front.now first width c.in_ok-clock.ensures.counts c.requires.front in
    let all : CountsSources steps clock first = λ a leads. let counted = c.requires.all a leads in let same = c.in_ok-clock.ensures.counts a.thread in omega arith in
    let is : IsClockOf steps clock first = part_whole steps sound clock first (record { width = width; before = start.before; closed = start.closed }) all in
    let has : Has steps first = sound.some c.args.thread c.requires.within in
    let own = own_count steps sound clock c.args.thread 0 has is start.fresh in
    let thread = c.in_ok-growing.ensures.thread in
    let none = c.in_ok-growing.ensures.noted in
    let noted = c.in_ok-push.ensures.noted [] none (ap (slice_index clock) thread ∙ own) in
    let one : c.push.new.self.segments ≡ 1 = c.in_ok-push.ensures.segments ∙ ap (λ n. n + 1) none.size in (
      growing_more steps sound c.args.thread c.push.new.self [] 0 clock (c.push.ensures.thread ∙ thread) one c.in_ok-push.ensures.latest has noted
          (record { size = refl; each = λ i below. absurd (omega arith); apart = λ i below. absurd (omega arith) }) width is start.fresh,
      one,
    )
