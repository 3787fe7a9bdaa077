use Rattle.std.proofs.Common.{◌∙◌, ap, codes, option_and_then}
use Rattle.clap.specs.Words.{found_of}
use Rattle.clap.proofs.WalkLemmas.{first_value-rows}
use Rattle.gl_filters.specs.Asked.{mode_named}
use Rattle.gl_options.proofs.found.mode_in.Goals as goal

pub returns-in-Some : goal.returns-in-Some
returns-in-Some c =
    c.named.ensures.value ∙ ap (option_and_then mode_named) (c.in-Some.ensures ∙ first_value-rows (found_of c.args.matches.now) (codes "mode"))

pub returns-in-None : goal.returns-in-None
returns-in-None c = ap (option_and_then mode_named) (c.in-None.ensures ∙ first_value-rows (found_of c.args.matches.now) (codes "mode"))
