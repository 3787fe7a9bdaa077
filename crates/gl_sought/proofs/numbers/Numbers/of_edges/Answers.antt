use Rattle.std.proofs.Common.{ap, ◌∙◌, map, arith}
use Rattle.std.proofs.lemmas.List.{take_all}
use Rattle.gl_sought.specs.Numbers.{number_in}
use Rattle.gl_sought.specs.Walks.{ends_in}
use Rattle.gl_sought.proofs.Back.{ends_of_pairs}
use Rattle.gl_sought.proofs.numbers.Numbers.of_edges.Goals as goal

pub returns : goal.returns
returns c =
    c.loop-i.invariant ∙ ap (map (λ pair. ends_in (number_in c.args.self.now) pair.0)) (take_all c.loop-i.i c.args.table.now (omega arith)) ∙ ends_of_pairs (number_in c.args.self.now) c.args.table.now
