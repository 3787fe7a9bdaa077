-- Recorders that are dealt out to groups.
use Rattle.std.proofs.Common.{◌≡◌, ℕ, ◌%◌, ◌<◌, ◌≤◌, List, [], ◌∷◌, ◌++◌, length, map, filter, get_or, set, eqb, refl, sym, ap, ◌∙◌, subst, arith, inl, inr}
use Rattle.std.specs.List.{All}
use Rattle.std.proofs.lemmas.Bool.{cases_eq, eq-eqb, ne_eqb}
use Rattle.std.proofs.lemmas.List.{append-nil, get_or-map, get_or-set_same, get_or-set_other, length-map, length-set}
use Rattle.std.proofs.lemmas.List.Elements.{filter-append}
use Rattle.std.proofs.lemmas.Nat.{mod_below}
use Rattle.gl_intake.proofs.Streams.{some_item}
use Rattle.gl_engine.specs.Recording.{Recording}
use Rattle.gl_live.specs.bodies.Workloads.{AreDealt}

-- groups without recorders are none dealt out
pub none_dealt : {G : Type 0} (items_of : G → List Recording) (count : ℕ) (groups : List G) → length groups ≡ count → All (λ g. items_of g ≡ []) groups → AreDealt count [] (map items_of groups)
none_dealt items_of count groups long empty = record {
  as_many = length-map groups items_of ∙ long;
  each = λ group within.
      let inside : group < length groups = omega (arith, long, within) in
      let g = some_item groups group inside in
      get_or-map items_of groups group g [] inside ∙ empty group g inside;
}

-- one recorder more, in the group of its thread
pub one_dealt : (count : ℕ) (recorders : List Recording) (r : Recording) (groups : List (List Recording)) (new : List Recording) → 1 ≤ count → AreDealt count recorders groups
    → new ≡ get_or groups (r.thread % count) [] ++ r ∷ [] → AreDealt count (recorders ++ r ∷ []) (set groups (r.thread % count) new)
one_dealt count recorders r groups new some dealt is =
    let at = r.thread % count in
    let below : at < count = mod_below r.thread count (omega (arith, some)) in
    let within : at < length groups = omega (arith, below, dealt.as_many) in
    record {
      as_many = length-set groups at new ∙ dealt.as_many;
      each = λ group known.
          let own = λ (x : Recording). eqb (x.thread % count) group in
          let split : filter own (recorders ++ r ∷ []) ≡ filter own recorders ++ filter own (r ∷ []) = filter-append own recorders (r ∷ []) in
          elim (cases_eq at group) [
            | inl same ↦
                let here : get_or (set groups at new) at [] ≡ get_or groups at [] ++ r ∷ [] = get_or-set_same groups at new [] within ∙ is in
                let there : get_or (set groups at new) group [] ≡ get_or groups group [] ++ r ∷ [] = subst (λ k. get_or (set groups at new) k [] ≡ get_or groups k [] ++ r ∷ []) same here in
                there ∙ ap (λ l. l ++ r ∷ []) (dealt.each group known) ∙ sym (split ∙ rw (eq-eqb at group same) refl)
            | inr other ↦
                get_or-set_other groups at group new [] (λ e. other (sym e)) ∙ dealt.each group known ∙ sym (split ∙ rw (ne_eqb at group other) (append-nil (filter own recorders)))
          ];
    }
