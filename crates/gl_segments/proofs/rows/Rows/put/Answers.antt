use Rattle.std.proofs.Common.{◌<◌, length, sym, ap, subst, arith}
use Rattle.std.specs.Prelude.{slice_set}
use Rattle.gl_segments.specs.bodies.Sweeps.{HaveRows, IsRow}
use Rattle.gl_segments.proofs.Telling.{rows_set}
use Rattle.gl_segments.proofs.rows.Rows.put.Goals as goal

pub returns-clause-set : goal.returns-clause-set
returns-clause-set c = λ i. slice_set (c.self.view_is i) (c.number.ensures i) c.args.row

pub returns-clause-rows : goal.returns-clause-rows
returns-clause-rows c = λ steps is have.
    let rows = c.self.inside.rows.items in
    let known : HaveRows steps rows = subst (HaveRows steps) (sym c.self.view_is) have in
    let within : c.number.result < length rows = let w = c.requires in let n = c.number.ensures in let v = ap length c.self.view_is in omega arith in
    rows_set steps rows c.number.result c.args.row within (subst (λ t. IsRow steps t c.args.row) (sym c.number.ensures) is) known
