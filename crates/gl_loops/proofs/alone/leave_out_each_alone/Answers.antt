use Rattle.std.proofs.Common.{sym, ◌∙◌, arith}
use Rattle.std.proofs.lemmas.List.{length-map}
use Rattle.std.proofs.lemmas.Option.{slice_get_within}
use Rattle.gl_filters.specs.Picked.{edges_of_table}
use Rattle.gl_loops.specs.bodies.Users.{KnowUsers}
use Rattle.gl_sought.proofs.Fewer.{goes_on_further, tells_further}
use Rattle.gl_loops.proofs.Lone.{alone_more}
use Rattle.gl_loops.proofs.alone.leave_out_each_alone.Goals as goal

-- one edge more was looked at
pub loop-x-preserved : goal.loop-x-preserved
loop-x-preserved c =
    let s = c.args.sought.now in
    let edges = edges_of_table s.table.now in
    let before = c.args.kept.now.items in
    let now = c.loop-x.kept.items in
    let after = c.leave_out_if_alone-has_changed.new.kept.items in
    let was = c.loop-x.invariant.goes_on in
    let is = c.leave_out_if_alone-has_changed.ensures.goes_on in
    let know : KnowUsers edges before c.in_ok-holders.holders c.in_ok-wanters.wanters =
    record { of_holders = rw c.deref.ensures.value at c.in_ok-holders.ensures.known; of_wanters = rw c.deref-2.ensures.value at c.in_ok-wanters.ensures.known } in
    record {
      goes_on = goes_on_further s before now after was is;
      any = tells_further c.loop-x.has_changed c.leave_out_if_alone-has_changed.result before now after (c.requires.long ∙ sym was.keeps.long) was.stay is.stay c.loop-x.invariant.any c.leave_out_if_alone-has_changed.ensures.any;
      alone = alone_more edges before now after c.loop-x.x c.loop-x.invariant.alone is.stay (λ e at alone. c.leave_out_if_alone-has_changed.ensures.alone before e know at alone);
    }

-- all were
pub returns-clause-alone : goal.returns-clause-alone
returns-clause-alone c = λ x e at alone.
    let table = c.args.sought.now.table.now in
    c.loop-x.invariant.alone x e (omega (arith, c.loop-x-test.false, slice_get_within (edges_of_table table) x e at, length-map table (λ pair. pair.0))) at alone
