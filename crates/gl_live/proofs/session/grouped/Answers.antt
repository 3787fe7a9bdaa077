use Rattle.std.proofs.Common.{◌≡◌, ◌%◌, ◌<◌, [], ◌∷◌, ◌++◌, length, map, get_or, set, sym, ap, ◌∙◌, subst, append_assoc, arith}
use Rattle.std.specs.List.{All}
use Rattle.std.proofs.lemmas.List.{get_or-map, length-set, map-set}
use Rattle.std.proofs.lemmas.List.Elements.{All-nil, All-set}
use Rattle.std.proofs.lemmas.Nat.{mod_below}
use Rattle.gl_live.specs.bodies.Rosters.{IsRecorderOf}
use Rattle.gl_live.specs.bodies.Workloads.{AreDealt}
use Rattle.gl_live.proofs.Dealt.{none_dealt, one_dealt}
use Rattle.gl_live.proofs.Rostered.{first_all, rest_all, all_same, all_more, all_at}
use Rattle.gl_live.proofs.session.grouped.Goals as goal

pub loop-recorder-init : goal.loop-recorder-init
loop-recorder-init c = record {
  count = c.in_ok-groups.ensures.count;
  all = c.into_iter-recorder-iterator.ensures.into_iter_gives.0;
  dealt = none_dealt (λ g. g.items) c.args.count c.in_ok-groups.groups.items c.in_ok-groups.ensures.count c.in_ok-groups.ensures.empty;
  left = λ s given. all_same c.into_iter-recorder-iterator.ensures.into_iter_gives.0 (IsRecorderOf s) given;
  ours = λ s given k d within. all_same (c.in_ok-groups.ensures.empty k d within) (IsRecorderOf s) (All-nil (IsRecorderOf s));
}

pub loop-recorder-preserved : goal.loop-recorder-preserved
loop-recorder-preserved c =
    let was = c.loop-recorder.invariant in
    let steps = c.in-Some.ensures.steps in
    let groups = c.loop-recorder.groups.items in
    let at = c.number.result % c.args.count in
    let within : at < length groups = subst (λ n. at < n) (sym was.count) (mod_below c.number.result c.args.count (omega (arith, c.requires.some))) in
    let group = c.index_mut.result.now in record {
      count = length-set groups at c.push.new.self ∙ was.count;
      all = append_assoc c.loop-recorder.yielded (c.in-Some.recorder ∷ []) _ ∙ ap (λ l. c.loop-recorder.yielded ++ l) (sym steps.0) ∙ was.all;
      dealt =
          let recorder = c.in-Some.recorder in
          let lists = map (λ g. g.items) groups in
          let own : at ≡ recorder.thread % c.args.count = ap (λ n. n % c.args.count) (c.number.ensures ∙ c.thread.ensures) in
          let here : group.items ≡ get_or lists at [] = ap (λ g. g.items) c.index_mut.ensures.value ∙ sym (get_or-map (λ g. g.items) groups at group [] within) in
          let pushed : c.push.new.self.items ≡ get_or lists (recorder.thread % c.args.count) [] ++ recorder ∷ [] =
          c.in_ok-push.ensures.items ∙ ap (λ l. l ++ recorder ∷ []) here ∙ ap (λ k. get_or lists k [] ++ recorder ∷ []) own in
          let more = one_dealt c.args.count c.loop-recorder.yielded recorder lists c.push.new.self.items c.requires.some was.dealt pushed in
          subst (AreDealt c.args.count (c.loop-recorder.yielded ++ recorder ∷ [])) (ap (λ k. set lists k c.push.new.self.items) (sym own) ∙ sym (map-set (λ g. g.items) groups at c.push.new.self)) more;
      left = λ s given. rest_all steps.0 (IsRecorderOf s) (was.left s given);
      ours = λ s given.
          All-set (λ some. All (IsRecorderOf s) some.items) groups at c.push.new.self
          (all_more group.items c.in-Some.recorder c.push.new.self.items (IsRecorderOf s) c.in_ok-push.ensures.items (first_all steps.0 (IsRecorderOf s) (was.left s given))
          (all_at groups at group (λ some. All (IsRecorderOf s) some.items) c.index_mut.ensures.value within (was.ours s given)))
          (was.ours s given);
    }
