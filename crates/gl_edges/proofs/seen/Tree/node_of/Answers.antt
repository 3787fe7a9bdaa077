use Rattle.std.proofs.Common.{map, take, refl, subst, ◌∙◌}
use Rattle.std.proofs.lemmas.List.{take_all}
use Rattle.gl_edges.specs.bodies.Seen.{opened_of, LeadsTo}
use Rattle.gl_edges.proofs.Ways.{held_more, root_leads}
use Rattle.gl_edges.proofs.seen.Tree.node_of.Goals as goal

pub loop-depth-init : goal.loop-depth-init
loop-depth-init c = record { leads = root_leads c.args.self.now; same = λ thread. refl }

pub loop-depth-preserved : goal.loop-depth-preserved
loop-depth-preserved c =
    let known = c.loop-depth.invariant in
    let i = c.loop-depth.depth in
    let leads = rw c.in-Some.is at c.in_ok-number.ensures.leads in
    record {
      leads =
          subst (LeadsTo c.step.new.self c.in-Some.number) (held_more c.args.entries.now i c.index-entries-depth.result c.loop-depth-test.true c.index-entries-depth.is)
          (leads (map opened_of (take i c.args.entries.now)) known.leads);
      same = λ thread. c.in_ok-number.ensures.noted thread ∙ known.same thread;
    }

pub returns-clause-leads : goal.returns-clause-leads
returns-clause-leads c =
    subst (λ entries. LeadsTo c.loop-depth.self c.loop-depth.parent (map opened_of entries)) (take_all c.loop-depth.depth c.args.entries.now c.loop-depth-test.false) c.loop-depth.invariant.leads
