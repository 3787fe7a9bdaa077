use Rattle.std.proofs.Common.{◌≡◌, ◌∙◌, ap, sym, subst, [], map, refl}
use Rattle.clap.specs.Kinds.{HasKind}
use Rattle.clap.specs.Words.{App, app_of, fault_of, is_simple, is_simple_and_free, kind_of, subcommand_of}
use Rattle.gl_options.specs.Options.{IsEntered, goodlock}
use Rattle.gl_options.proofs.Reading.{failed_parse, is_read, is_simple_line, refused_value}
use Rattle.gl_options.proofs.options.parse.Goals as goal

pub returns-in-Err-clause-usage : goal.returns-in-Err-clause-usage
returns-in-Err-clause-usage g c =
    let line : app_of c.in_ok-command_line.field-0 ≡ goodlock = c.in_ok-command_line.ensures in
    let words = map g.S.AsStr.text c.args.words.now in
    let had : HasKind (fault_of (app_of c.in_ok-command_line.field-0) words) c.in-Err.error = c.in-Err.ensures.kinds (ap is_simple_and_free line ∙ is_read) in
    failed_parse words (kind_of c.in-Err.error) c.usage_of.result c.usage_of.ensures (subst (λ (a : App). HasKind (fault_of a words) c.in-Err.error) line had)

pub returns-in-Some-clause-asks : goal.returns-in-Some-clause-asks
returns-in-Some-clause-asks g c =
    let line : app_of c.in_ok-command_line.field-0 ≡ goodlock = c.in_ok-command_line.ensures in
    let words = map g.S.AsStr.text c.args.words.now in
    let fits : fault_of (app_of c.in_ok-command_line.field-0) words ≡ [] = c.in-Ok.ensures.kinds (ap is_simple_and_free line ∙ is_read) in
    let entered = (c.in-Ok.ensures.matches (ap is_simple line ∙ is_simple_line)).1 ∙ ap (λ (a : App). subcommand_of a words) line in
    record {
      fits = ap (λ (a : App). fault_of a words) (sym line) ∙ fits;
      enters = subst (λ o. IsEntered o c.in-Some.command) entered c.in-Some.ensures;
    }

pub returns-clause-usage : goal.returns-clause-usage
returns-clause-usage g c =
    let line : app_of c.in_ok-command_line.field-0 ≡ goodlock = c.in_ok-command_line.ensures in
    let words = map g.S.AsStr.text c.args.words.now in
    let fits : fault_of (app_of c.in_ok-command_line.field-0) words ≡ [] = c.in-Ok.ensures.kinds (ap is_simple_and_free line ∙ is_read) in
    let entered = (c.in-Ok.ensures.matches (ap is_simple line ∙ is_simple_line)).1 ∙ ap (λ (a : App). subcommand_of a words) line in
    refused_value words c.refused.result c.refused.ensures.usage
    (λ command asks. c.in-None.ensures command (subst (λ o. IsEntered o command) (sym entered) asks.enters)) (ap (λ (a : App). fault_of a words) (sym line) ∙ fits)
