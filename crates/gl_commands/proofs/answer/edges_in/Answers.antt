use Rattle.std.proofs.Common.{◌≡◌, map, Vec, Global, ap, ◌∙◌}
use Rattle.std.proofs.lemmas.Result.{IfOk-weaker}
use Rattle.gl_event.specs.declared.events.Event.{Event}
use Rattle.gl_edges.specs.Edges.{edges}
use Rattle.gl_commands.proofs.answer.edges_in.Goals as goal

pub returns : goal.returns
returns g c =
    let lists = map (λ (v : Vec Event Global). v.items) c.as_slice.result.now in
    IfOk-weaker c.edges_of_parallel.result (λ es. es ≡ edges lists) (λ es. es ≡ edges c.args.trace.now.lists) (λ es is. is ∙ ap edges c.as_slice.ensures) c.edges_of_parallel.ensures
