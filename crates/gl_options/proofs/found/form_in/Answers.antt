use Rattle.std.proofs.Common.{codes, sym, ◌∙◌, refl}
use Rattle.std.proofs.lemmas.Bool.{false≢true}
use Rattle.clap.specs.Words.{found_of}
use Rattle.clap.proofs.WalkLemmas.{one_text-rows}
use Rattle.gl_options.proofs.found.form_in.Goals as goal

pub returns-then-get_flag : goal.returns-then-get_flag
returns-then-get_flag c =
    let same = one_text-rows (found_of c.args.matches.now) (codes "json") in
    record { given = λ _. refl; left_out = λ e. absurd (false≢true (sym (c.get_flag.ensures.other (same ∙ e)) ∙ c.if-get_flag.true)) }

pub returns : goal.returns
returns c =
    let same = one_text-rows (found_of c.args.matches.now) (codes "json") in
    record { given = λ e. absurd (false≢true (sym c.if-get_flag.false ∙ c.get_flag.ensures.value (same ∙ e))); left_out = λ _. refl }
