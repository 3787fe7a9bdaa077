use Rattle.std.proofs.Common.{[], ◌∷◌, ◌++◌, map, sym, ap, ◌∙◌, subst, append_assoc}
use Rattle.std.specs.List.{All}
use Rattle.std.proofs.lemmas.List.{map-append}
use Rattle.std.proofs.lemmas.List.Elements.{All-nil}
use Rattle.gl_live.specs.bodies.Workloads.{AreDealt, IsWorkloadOf}
use Rattle.gl_live.specs.bodies.Rosters.{IsRecorderOf}
use Rattle.gl_live.proofs.Rostered.{first_all, rest_all, all_same, all_more}
use Rattle.gl_live.proofs.session.workloads.Goals as goal

pub loop-group-init : goal.loop-group-init
loop-group-init c = record {
  same = ap (map (λ w. w.recorders.items)) c.in_ok-workloads.ensures.items;
  dealt = subst (λ l. AreDealt c.args.count c.args.recorders.items (map (λ g. g.items) l)) (sym c.into_iter-group-iterator.ensures.into_iter_gives.0) c.in_ok-groups.ensures.dealt;
  left = λ s given. all_same c.into_iter-group-iterator.ensures.into_iter_gives.0 (λ group. All (IsRecorderOf s) group.items) (c.in_ok-groups.ensures.ours s given);
  ours = λ s given. all_same c.in_ok-workloads.ensures.items (IsWorkloadOf s) (All-nil (IsWorkloadOf s));
}

pub loop-group-preserved : goal.loop-group-preserved
loop-group-preserved c =
    let was = c.loop-group.invariant in
    let steps = c.in-Some.ensures.steps in
    let group = c.in-Some.group in
    let workload = c.in_ok-workload.field-0 in
    let yielded = c.loop-group.yielded in record {
      same =
          ap (map (λ w. w.recorders.items)) c.in_ok-push.ensures.items ∙ map-append (λ w. w.recorders.items) c.loop-group.workloads.items (workload ∷ []) ∙ ap (λ l. l ++ workload.recorders.items ∷ []) was.same
          ∙ ap (λ l. map (λ g. g.items) yielded ++ l ∷ []) c.in_ok-workload.ensures.all ∙ sym (map-append (λ g. g.items) yielded (group ∷ []));
      dealt = subst (λ l. AreDealt c.args.count c.args.recorders.items (map (λ g. g.items) l)) (ap (λ l. yielded ++ l) steps.0 ∙ sym (append_assoc yielded (group ∷ []) _)) was.dealt;
      left = λ s given. rest_all steps.0 (λ group. All (IsRecorderOf s) group.items) (was.left s given);
      ours = λ s given.
          all_more c.loop-group.workloads.items c.in_ok-workload.field-0 c.push.new.self.items (IsWorkloadOf s) c.in_ok-push.ensures.items
          (c.in_ok-workload.ensures.ours s (first_all steps.0 (λ group. All (IsRecorderOf s) group.items) (was.left s given))) (was.ours s given);
    }
