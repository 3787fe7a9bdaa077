use Rattle.std.proofs.Common.{length, refl}
use Rattle.std.proofs.lemmas.Option.{slice_get_read}
use Rattle.gl_segments.proofs.Forking.{adds_fork, adds_other, adds_none, adds_all}
use Rattle.gl_segments.proofs.forked.add_forks.Goals as goal
use Rattle.gl_segments.proofs.forked.add_forks.Goals.{in-Fork+in_ok-push, in_default}

pub loop-index-init : goal.loop-index-init
loop-index-init c = adds_none _ _ _

pub loop-index-preserved : goal.loop-index-preserved
loop-index-preserved c =
    let e = c.index-cuts-index.result in
    let at = slice_get_read c.args.cuts.now (length c.args.cuts.now) c.loop-index.index e refl c.loop-index-test.true c.index-cuts-index.is in
    elim c.match-cut.branch [
      | in-Fork+in_ok-push w ↦
          rw (w.forks-is, w.in_ok-push.ensures.items) (adds_fork c.args.forks.now.items c.loop-index.forks.items c.args.from c.args.cuts.now c.loop-index.index w.in-Fork.thread w.in-Fork.loc (rw (← w.in-Fork.is) at) c.loop-index.invariant)
      | in_default w ↦ rw w.forks-is (adds_other c.args.forks.now.items c.loop-index.forks.items c.args.from c.args.cuts.now c.loop-index.index e at w.in_default.not-Fork c.loop-index.invariant)
    ]

pub returns : goal.returns
returns c = adds_all _ _ _ _ c.loop-index.index c.loop-index-test.false c.loop-index.invariant
