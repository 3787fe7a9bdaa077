use Rattle.std.proofs.Common.{ℕ, ◌<◌, length, get_or, sym, subst, ◌∙◌}
use Rattle.gl_std.specs.bodies.Blocks.{IsNumbered}
use Rattle.gl_std.specs.declared.numbered_line.NumberedLine.{NumberedLine}
use Rattle.gl_std.proofs.NumberedLines.{all_later, all_push, right_on, shapes_push}
use Rattle.gl_std.proofs.block.Block.add.Goals as goal

pub returns-clause-numbered : goal.returns-clause-numbered
returns-clause-numbered c =
    let old = c.args.self.now in
    let names = c.number_shape.new.self in
    let line = c.in_ok-numbered.numbered in
    subst (λ all. (k : ℕ) (d : NumberedLine) → k < length all → IsNumbered names (get_or all k d)) (sym c.in_ok-push.ensures.items)
    (all_push names old.lines.items line (all_later old.names names old.lines.items c.in_ok-numbered.ensures.go_on c.requires.numbered) c.in_ok-numbered.ensures.numbered)

pub returns-clause-line : goal.returns-clause-line
returns-clause-line c =
    let old = c.args.self.now in
    shapes_push old.names c.number_shape.new.self old.lines.items c.push.new.self.items c.in_ok-numbered.numbered _ c.in_ok-numbered.ensures.go_on c.requires.numbered c.in_ok-push.ensures.items
    (c.in_ok-numbered.ensures.says ∙ c.shape_of.ensures)

pub returns-clause-right : goal.returns-clause-right
returns-clause-right c = λ names right. right_on c.args.self.now.names c.number_shape.new.self names c.args.self.now.known c.in_ok-numbered.ensures.go_on right
