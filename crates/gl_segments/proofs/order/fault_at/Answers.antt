use Rattle.std.proofs.Common.{◌≡◌, ◌∷◌, refl, ap, subst, ◌∙◌}
use Rattle.gl_event.specs.declared.events.Segment.{Segment}
use Rattle.gl_segments.specs.Segments.{Leads}
use Rattle.gl_segments.specs.bodies.Tables.{LeadsTo}
use Rattle.gl_segments.proofs.Clocking.{chain_of_links}
use Rattle.gl_segments.proofs.order.fault_at.Goals as goal

pub returns-in-Ok : goal.returns-in-Ok
returns-in-Ok c = λ first.
    let steps = c.args.steps.now in
    let at : Segment = c.args.at in
    let r = c.in-Ok.ensures in
    let target : r.1.segment ≡ at = r.4 ∙ c.requires.target in
    let chain = chain_of_links steps at _ c.requires.explored.links c.in-Ok.ring.items r.0 r.1 r.2 r.3 r.5 in
    record {
      same_thread = refl;
      via = chain.0;
      begins = chain.1 ∙ ap (λ s. s ∷ chain.0) target;
      rings = subst (λ x. Leads (LeadsTo steps) x chain.0 at) target chain.2;
      first = first;
    }
