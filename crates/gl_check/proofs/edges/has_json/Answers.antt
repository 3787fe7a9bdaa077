use Rattle.std.proofs.Common.{ap, sym, ◌∙◌}
use Rattle.std.specs.Prelude.{codes}
use Rattle.std.proofs.lemmas.Bool.{false≢true}
use Rattle.gl_check.specs.Shape.{number_under}
use Rattle.gl_check.proofs.Flat.{place_in}
use Rattle.gl_check.proofs.edges.has_json.Goals as goal

pub returns-then-from-place : goal.returns-then-from-place
returns-then-from-place c = (
  λ same. absurd (false≢true same),
  λ prints. absurd (c.if-from-place.true (c.from.ensures ∙ sym (place_in c.args.names.now c.args.pair.now) ∙ ap (number_under (codes "place")) (sym prints.1) ∙ sym c.requires.place)),
)
