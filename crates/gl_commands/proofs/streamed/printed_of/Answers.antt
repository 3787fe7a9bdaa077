use Rattle.std.proofs.Common.{◌≡◌, subst}
use Rattle.std.specs.Prelude.{IfOk}
use Rattle.gl_commands.specs.Answer.Answer.{Prints}
use Rattle.gl_commands.specs.Sessions.{listing_asked}
use Rattle.gl_commands.proofs.AsItComes.{names_of_parts, printed_whole}
use Rattle.gl_commands.proofs.Answering.{print_of}
use Rattle.gl_commands.proofs.streamed.printed_of.Goals as goal

pub returns-clause-printed : goal.returns-clause-printed
returns-clause-printed c = λ limits turns input became.
    printed_whole (listing_asked c.args.options.now) c.args.options.now.query c.args.options.now.form limits turns input c.args.items c.args.report c.parts-names.result.0 c.printed_in-answer.result
    (names_of_parts c.args.items c.parts-names.result.0 _ _ c.parts-names.ensures.parts)
    (subst (λ listing. IfOk c.printed_in-answer.result (λ p. Prints p.text.items p.outcome ≡ print_of listing c.args.options.now.form c.parts-names.result.0 c.args.report)) c.listing_of.ensures c.printed_in-answer.ensures.printed)
    became

pub returns-clause-memory : goal.returns-clause-memory
returns-clause-memory c = c.printed_in-answer.ensures.memory
