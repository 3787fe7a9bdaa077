use Rattle.std.proofs.Common.{sym, ap, ◌+◌, ◌∙◌}
use Rattle.std.proofs.lemmas.List.{length_push}
use Rattle.gl_segments.proofs.Noting.{tells_next}
use Rattle.gl_segments.proofs.history.Growing.push_latest.Goals as goal

pub returns-clause-noted : goal.returns-clause-noted
returns-clause-noted c = λ clocks noted own.
    let old = c.args.self.now in
    record {
      size = ap (λ n. n + 1) noted.size ∙ sym (length_push clocks old.latest);
      tells = tells_next old.thread old.first.items old.growths.items old.latest clocks own noted.tells;
    }
