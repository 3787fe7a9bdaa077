use Rattle.std.proofs.Common.{None, false, Some, ap, ◌∙◌}
use Rattle.std.proofs.lemmas.Option.{slice_get-get_or}
use Rattle.gl_trims.proofs.Beside.{hinted_if_left, unhinted_if_none}
use Rattle.gl_trims.proofs.trims.has_hint.Goals as goal

pub returns-in_default : goal.returns-in_default
returns-in_default c =
    let at = slice_get-get_or c.args.found.now c.args.i None c.requires.here in
    unhinted_if_none c.args.gone.now c.args.found.now c.args.i (at ∙ ap Some c.in_default.is)

pub bounds-gone-hint : goal.bounds-gone-hint
bounds-gone-hint c =
    let at = slice_get-get_or c.args.found.now c.args.i None c.requires.here in
    c.requires.within c.in-Some.hint (at ∙ ap Some c.in-Some.is)

pub returns : goal.returns
returns c =
    let at = slice_get-get_or c.args.found.now c.args.i None c.requires.here in
    let is = at ∙ ap Some c.in-Some.is in
    hinted_if_left c.args.gone.now c.args.found.now c.args.i c.in-Some.hint _ is (slice_get-get_or c.args.gone.now c.in-Some.hint false (c.requires.within c.in-Some.hint is))
