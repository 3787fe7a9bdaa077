use Rattle.std.proofs.Common.{sym, ap, ◌∙◌}
use Rattle.std.specs.Prelude.{slice_index}
use Rattle.gl_segments.proofs.Noting.{tells_first}
use Rattle.gl_segments.proofs.history.Growing.begin.Goals as goal

pub returns-clause-noted : goal.returns-clause-noted
returns-clause-noted c = λ clocks none noted. record {
  size = noted.size;
  tells = tells_first c.args.self.now.thread _ c.args.self.now.first.items c.args.self.now.growths.items _ c.args.self.now.latest clocks none (λ thread. c.in_ok-self.ensures.counts thread ∙ ap (λ xs. slice_index xs thread) (sym c.in_ok-self-2.ensures)) noted.tells;
}
