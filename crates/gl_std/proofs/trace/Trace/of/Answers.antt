use Rattle.std.proofs.Common.{ap, ◌∙◌}
use Rattle.gl_std.proofs.trace.Trace.of.Goals as goal

pub returns : goal.returns
returns c = λ told judged lists.
    let parts = c.into_parts-names.ensures in
    λ i. record {
      names = (ap (λ p. p.0) parts ∙ judged.names) i;
      lists = lists i;
      skipped = (ap (λ p. p.1) parts ∙ judged.skipped) i;
      stray = (ap (λ p. p.2) parts ∙ judged.stray) i;
    }
