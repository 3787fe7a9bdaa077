use Rattle.std.proofs.Common.{[], sym, ap, ◌∙◌}
use Rattle.std.proofs.lemmas.List.{append-nil}
use Rattle.gl_engine.specs.Collecting.{Collecting, lanes_of}
use Rattle.gl_engine.proofs.Running.{lanes_shown}
use Rattle.gl_engine.proofs.collector.Collector.run_unkept.Goals as goal

pub returns-clause-left : goal.returns-clause-left
returns-clause-left g c = record {
  session = ap (λ (s : Collecting). s.session) c.self.view_is;
  limits = ap (λ (s : Collecting). s.limits) c.self.view_is;
  lanes = c.discard_all.ensures.lanes ∙ sym (lanes_shown c.self.inside.inputs.items) ∙ ap lanes_of c.self.view_is;
  grown = ([], append-nil c.args.self.stream ∙ sym (ap (λ (s : Collecting). s.stream) c.self.view_is));
}
