use Rattle.std.proofs.Common.{◌<◌, length, refl, arith}
use Rattle.gl_edges.proofs.Remembering.{both_ok}
use Rattle.gl_engine.proofs.Sparing.{added_one, both_err, none_one}
use Rattle.gl_engine.proofs.making.Making.add.Goals as goal

pub returns-clause-added : goal.returns-clause-added
returns-clause-added c = λ es stands.
    let here = rw c.number-number.ensures at c.index_mut-acquires.ensures.value in
    let within : c.args.thread < length c.args.self.now.acquires.items = omega (arith, c.if-number-len.false, c.len.ensures, c.number-number.ensures) in
    rw c.number-number.ensures
    (both_ok c.add_new_edges.result
    (λ added learned. added_one c.args.self.now _ c.args.thread c.index_mut-acquires.result.now c.add_new_edges.new.self here within refl _ refl c.if-not-self.false added learned)
    (c.add_new_edges.ensures.added es stands) (c.add_new_edges.ensures.learned es stands))

pub returns-clause-none : goal.returns-clause-none
returns-clause-none c =
    let here = rw c.number-number.ensures at c.index_mut-acquires.ensures.value in
    let within : c.args.thread < length c.args.self.now.acquires.items = omega (arith, c.if-number-len.false, c.len.ensures, c.number-number.ensures) in
    rw c.number-number.ensures
    (both_err c.add_new_edges.result
    (λ made none. none_one c.args.self.now _ c.args.thread c.index_mut-acquires.result.now c.add_new_edges.new.self here within refl refl made none)
    c.add_new_edges.ensures.unchanged c.add_new_edges.ensures.forgotten)
