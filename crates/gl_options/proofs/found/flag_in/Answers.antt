use Rattle.std.proofs.Common.{◌∙◌}
use Rattle.clap.specs.Words.{found_of}
use Rattle.clap.proofs.WalkLemmas.{one_text-rows}
use Rattle.gl_options.proofs.found.flag_in.Goals as goal

pub returns : goal.returns
returns c =
    let same = one_text-rows (found_of c.args.matches.now) c.args.id.now in
    record { given = λ e. c.get_flag.ensures.value (same ∙ e); left_out = λ e. c.get_flag.ensures.other (same ∙ e) }
