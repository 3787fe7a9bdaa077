use Rattle.std.proofs.Common.{◌∙◌}
use Rattle.std.specs.Str.Parse.{ParsesUnsigned, ExplainsUnsignedError, HasUnsignedDigitsIfOk}
use Rattle.clap.specs.Words.{found_of, rows_of}
use Rattle.clap.proofs.WalkLemmas.{one_text-rows}
use Rattle.gl_options.proofs.Reading.{number_read, number_missing}
use Rattle.gl_options.proofs.found.number_at.Goals as goal

pub returns-clause-some : goal.returns-clause-some
returns-clause-some c =
    let f = found_of c.args.matches.now in
    let same = one_text-rows f c.args.id.now in
    number_read _ (λ bs r. ParsesUnsigned 32 10 bs r × ExplainsUnsignedError 10 bs r × HasUnsignedDigitsIfOk bs r) (rows_of f) c.args.id.now c.get_one.result
    (λ e. c.get_one.ensures.none (same ∙ e)) (λ t e. c.get_one.ensures.value t (same ∙ e)) (λ u x g. g.0)

pub returns-clause-none : goal.returns-clause-none
returns-clause-none c =
    let f = found_of c.args.matches.now in
    let same = one_text-rows f c.args.id.now in
    number_missing _ (λ bs r. ParsesUnsigned 32 10 bs r × ExplainsUnsignedError 10 bs r × HasUnsignedDigitsIfOk bs r) (rows_of f) c.args.id.now c.get_one.result
    (λ t e. c.get_one.ensures.value t (same ∙ e)) (λ u x g. g.0)
