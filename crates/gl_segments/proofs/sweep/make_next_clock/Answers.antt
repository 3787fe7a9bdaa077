use Rattle.std.proofs.Common.{◌≡◌, ◌+◌, ℕ, List, None, ap, subst, ◌∙◌, rules, arith}
use Rattle.std.specs.Prelude.{slice_index}
use Rattle.gl_event.specs.declared.events.Segment.{Segment}
use Rattle.gl_segments.specs.bodies.Search.{Counts, IsClockOf, CountsSources}
use Rattle.gl_segments.specs.bodies.Sweeps.{IsPart, CountsAll}
use Rattle.gl_segments.specs.bodies.Tables.{sources}
use Rattle.gl_segments.proofs.Chains.{thread_inside}
use Rattle.gl_segments.proofs.Clocking.{own_count}
use Rattle.gl_segments.proofs.Sweeping.{part_next, part_whole, growing_more}
use Rattle.gl_segments.proofs.sweep.make_next_clock.Goals as goal

pub note_count-requires : goal.note_count-requires
note_count-requires c =
    let at : Segment = record { thread = c.args.thread; index = c.args.growing.now.segments } in
    let inside = thread_inside c.args.steps.now at c.requires.has in
    let width = c.requires.growing.width in
    omega arith

pub merge_sources-requires-clause-part : goal.merge_sources-requires-clause-part
merge_sources-requires-clause-part c = rw c.in_ok-note_count.ensures.latest (part_next c.args.steps.now c.requires.sound c.args.thread c.args.growing.now c.requires.growing c.requires.has)

pub returns-clause-growing : goal.returns-clause-growing
returns-clause-growing c =
    let steps = c.args.steps.now in
    let sound = c.requires.sound in
    let old = c.args.growing.now in
    let known = c.requires.growing in
    let clocks = known.clocks.0 in
    let at : Segment = record { thread = c.args.thread; index = old.segments } in
    let clock : List ℕ = c.merge_sources.new.growing.latest in
    let part : IsPart steps clock at = c.in_ok-merge_sources.ensures.part in
    let none : c.uncounted.result ≡ None = search rules in
    let counted : CountsAll c.counts.result.now c.sources-sources.result.now = c.uncounted.ensures none in
    let all : CountsSources steps clock at = subst (λ xs. CountsAll xs (sources steps at)) c.counts.ensures (subst (CountsAll c.counts.result.now) c.sources-sources.ensures counted) in
    let is : IsClockOf steps clock at = part_whole steps sound clock at part all in
    let apart : Counts clock at → ⊥ = λ itself. let a = c.ahead.ensures in let f = c.if-index-ahead.false in omega arith in
    let own = own_count steps sound clock c.args.thread old.segments c.requires.has is apart in
    let thread = c.merge_sources.ensures.still.thread ∙ c.note_count.ensures.still.thread ∙ known.same_thread in
    let segments = c.merge_sources.ensures.still.segments ∙ c.note_count.ensures.still.segments in
    let some = known.begun in
    let size = known.clocks.1.size in
    let noted_count = c.in_ok-note_count.ensures.noted clocks (omega arith) known.clocks.1 in
    let merged = c.in_ok-merge_sources.ensures.noted clocks (omega arith) noted_count in
    let noted = c.push_latest.ensures.noted clocks merged (ap (slice_index clock) thread ∙ own ∙ size) in
    growing_more steps sound c.args.thread c.push_latest.new.self clocks old.segments clock (c.push_latest.ensures.thread ∙ thread) (c.push_latest.ensures.segments ∙ ap (λ n. n + 1) segments) c.push_latest.ensures.latest c.requires.has noted known.clocks.2
    part.width is apart
