use Rattle.std.proofs.Common.{Some, position, sym, ap, ◌∙◌}
use Rattle.std.specs.Str.{bytes_eq}
use Rattle.gl_std.proofs.FoundNames.{placed}
use Rattle.gl_renumbering.proofs.numbers.number_location.Goals as goal

pub returns-in-Ok-clause-number : goal.returns-in-Ok-clause-number
returns-in-Ok-clause-number c =
    ap (position (bytes_eq c.args.name.now)) c.in-Ok.ensures.numbered.names ∙ placed c.args.names.now.locs c.args.name.now ∙ ap Some (sym (c.number.ensures ∙ c.in-Ok.ensures.numbered.number))
