use Rattle.std.proofs.Common.{sym, arith}
use Rattle.gl_segments.proofs.Bisecting.{count_before_all, count_of_last, count_without}
use Rattle.gl_segments.proofs.history.count_in.Goals as goal

pub returns-then-until-eq0 : goal.returns-then-until-eq0
returns-then-until-eq0 c = sym (count_before_all c.args.first c.args.growths.now c.args.index c.args.thread c.up_to-until.result c.up_to-until.ensures.bound c.up_to-until.ensures.parted c.if-until-eq0.true)

pub returns-then-number : goal.returns-then-number
returns-then-number c =
    sym
    (count_of_last c.args.first c.args.growths.now c.args.index c.args.thread c.up_to-until.result c.up_to-until.ensures.bound c.up_to-until.ensures.parted c.get-last.result (let some = c.if-until-eq0.false in omega arith) c.get-last.ensures
    (let same = c.if-number.true in omega arith))

pub returns : goal.returns
returns c =
    sym
    (count_without c.args.first c.args.growths.now c.args.index c.args.thread c.up_to-until.result c.up_to-until.ensures.bound c.up_to-until.ensures.parted c.get-last.result (let some = c.if-until-eq0.false in omega arith) c.get-last.ensures c.requires
    (λ same. let other = c.if-number.false in omega arith))
