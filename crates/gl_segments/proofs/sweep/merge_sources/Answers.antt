use Rattle.std.proofs.Common.{◌≡◌, true, length, refl, sym, subst, ◌∙◌, arith}
use Rattle.std.specs.Prelude.{Contains}
use Rattle.std.proofs.lemmas.Option.{slice_get_read}
use Rattle.gl_segments.specs.bodies.Search.{Counts}
use Rattle.gl_segments.specs.bodies.Sweeps.{is_ended}
use Rattle.gl_segments.proofs.Chains.{thread_inside}
use Rattle.gl_segments.proofs.Searching.{item_leads, item_small}
use Rattle.gl_segments.proofs.Sweeping.{so_far_more}
use Rattle.gl_segments.proofs.sweep.merge_sources.Goals as goal
use Rattle.gl_segments.proofs.sweep.merge_sources.Goals.{then-source-ahead+in_ok-merge_ended, else-source-ahead}

pub merge_ended-requires-clause-width : goal.merge_ended-requires-clause-width
merge_ended-requires-clause-width c =
    let width = c.loop-source.invariant.part.width in
    let few = c.requires.sound.few in
    omega arith

pub merge_ended-requires-clause-within : goal.merge_ended-requires-clause-within
merge_ended-requires-clause-within c =
    let inv = c.loop-source.invariant in
    let leads = item_leads c.args.steps.now c.requires.sound c.args.at _ c.args.at c.loop-source.source-index c.source-item.result inv.items c.loop-source-test.true c.source-item.is in
    omega (arith, thread_inside c.args.steps.now c.source-item.result (c.requires.sound.inside _ _ leads), inv.part.width)

pub merge_ended-requires-clause-small : goal.merge_ended-requires-clause-small
merge_ended-requires-clause-small c =
    let inv = c.loop-source.invariant in
    let leads = item_leads c.args.steps.now c.requires.sound c.args.at _ c.args.at c.loop-source.source-index c.source-item.result inv.items c.loop-source-test.true c.source-item.is in
    item_small c.args.steps.now c.requires.sound c.args.at c.args.at c.source-item.result leads

pub loop-source-preserved : goal.loop-source-preserved
loop-source-preserved c =
    let inv = c.loop-source.invariant in
    let leads = item_leads c.args.steps.now c.requires.sound c.args.at _ c.args.at c.loop-source.source-index c.source-item.result inv.items c.loop-source-test.true c.source-item.is in
    elim c.if-source-ahead.branch [
      | then-source-ahead+in_ok-merge_ended w ↦
          rw w.growing-is (record {
            same_thread = w.merge_ended.ensures.still.thread ∙ inv.same_thread;
            same_segments = w.merge_ended.ensures.still.segments ∙ inv.same_segments;
            items = inv.items;
            counted = so_far_more (λ s. is_ended c.args.rows.now s.thread ≡ true → Counts w.merge_ended.new.growing.latest s) c.sources-source-items.result.now c.loop-source.source-index c.source-item.result c.loop-source-test.true c.source-item.is
                (λ k s below at ended. w.in_ok-merge_ended.ensures.kept s (inv.counted k s below at ended)) w.in_ok-merge_ended.ensures.counted;
            part = w.in_ok-merge_ended.ensures.part c.args.steps.now c.args.at c.requires.sound c.requires.rows leads inv.part;
            noted = λ clocks some noted. w.in_ok-merge_ended.ensures.noted clocks some (inv.noted clocks some noted);
          })
      | else-source-ahead w ↦
          rw w.growing-is (record {
            same_thread = inv.same_thread;
            same_segments = inv.same_segments;
            items = inv.items;
            counted = so_far_more (λ s. is_ended c.args.rows.now s.thread ≡ true → Counts c.loop-source.growing.latest s) c.sources-source-items.result.now c.loop-source.source-index c.source-item.result c.loop-source-test.true c.source-item.is inv.counted (λ ended. omega arith);
            part = inv.part;
            noted = inv.noted;
          })
    ]

pub returns-clause-ended : goal.returns-clause-ended
returns-clause-ended c = λ s leads ended.
    let items = c.sources-source-items.result.now in
    let inv = c.loop-source.invariant in
    let (k, below, at) = subst (λ xs. Contains xs s) (sym inv.items) leads in
    inv.counted k s (omega arith) (slice_get_read items (length items) k s refl below (sym at)) ended
