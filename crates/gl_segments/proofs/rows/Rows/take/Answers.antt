use Rattle.std.proofs.Common.{◌<◌, length, refl, sym, ap, subst, ◌∙◌, arith}
use Rattle.std.specs.Prelude.{slice_get}
use Rattle.std.proofs.lemmas.Option.{slice_get_read}
use Rattle.gl_segments.specs.bodies.Fronts.{first_of}
use Rattle.gl_segments.specs.bodies.Sweeps.{HaveRows}
use Rattle.gl_segments.proofs.Starting.{front_none}
use Rattle.gl_segments.proofs.Telling.{rows_set}
use Rattle.gl_segments.proofs.rows.Rows.take.Goals as goal

pub returns-clause-taken : goal.returns-clause-taken
returns-clause-taken c =
    let rows = c.self.inside.rows.items in
    let within : c.number.result < length rows = let w = c.requires in let n = c.number.ensures in let v = ap length c.self.view_is in omega arith in
    let here = slice_get_read rows (length rows) c.number.result c.index_mut.result.now refl within c.index_mut.ensures.value in
    let there = ap (λ rs. slice_get rs c.args.thread) (sym c.self.view_is) ∙ ap (slice_get rows) (sym c.number.ensures) ∙ here in
    rw c.replace.ensures.value there

pub returns-clause-rows : goal.returns-clause-rows
returns-clause-rows c = λ steps have.
    let rows = c.self.inside.rows.items in
    let known : HaveRows steps rows = subst (HaveRows steps) (sym c.self.view_is) have in
    let within : c.number.result < length rows = let w = c.requires in let n = c.number.ensures in let v = ap length c.self.view_is in omega arith in
    rw c.replace.ensures.after (rows_set steps rows c.number.result _ within (front_none steps c.new.result.items (first_of c.number.result) (ap length c.new.ensures.items)) known)
