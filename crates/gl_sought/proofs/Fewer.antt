-- Searches that go on among fewer and fewer edges.
use Rattle.std.proofs.Common.{◌≡◌, ℕ, ◌<◌, Bool, true, false, List, length, get_or, set, Some, refl, sym, ap, ◌∙◌, arith, inl, inr}
use Rattle.std.specs.Prelude.{slice_get, ◌||◌}
use Rattle.std.proofs.lemmas.Bool.{cases_eq}
use Rattle.std.proofs.lemmas.List.{length-set}
use Rattle.std.proofs.lemmas.Option.{slice_get-get_or, slice_get_within}
use Rattle.gl_index.proofs.Lists.{element_at, set_here, set_elsewhere}
use Rattle.gl_sought.specs.Sought.{KeepsSought, StayLeftOut, GoesOnSeeking}
use Rattle.gl_sought.specs.Flags.{LeavesOutSome, TellsIfAny}
use Rattle.gl_sought.specs.declared.sought.Sought.{Sought}

-- nothing was left out yet
pub goes_on_here : (s : Sought) (kept : List Bool) → KeepsSought s kept → GoesOnSeeking s kept kept
goes_on_here s kept keeps = record { keeps = keeps; stay = λ i out. out }

-- one time after the other
pub goes_on_further : (s : Sought) (before now after : List Bool) → GoesOnSeeking s before now → GoesOnSeeking s now after → GoesOnSeeking s before after
goes_on_further s before now after was is = record { keeps = is.keeps; stay = λ i out. is.stay i (was.stay i out) }

-- where one flag is gone none comes back
pub stay_out_at : (kept : List Bool) (x : ℕ) → x < length kept → StayLeftOut kept (set kept x false)
stay_out_at kept x within i out =
    elim (cases_eq i x) [
      | inl same ↦ ap (slice_get (set kept x false)) same ∙ set_here kept x false within
      | inr other ↦ set_elsewhere kept x i false other (slice_get_within kept i false out) ∙ out
    ]

-- a flag that stands was set before
pub was_set : (kept : List Bool) (x i : ℕ) → x < length kept → slice_get (set kept x false) i ≡ Some true → slice_get kept i ≡ Some true
was_set kept x i within there =
    elim (cases_eq i x) [
      | inl same ↦ absurd (cc (sym (ap (slice_get (set kept x false)) same) ∙ there, set_here kept x false within))
      | inr other ↦
          let below = slice_get_within (set kept x false) i true there in
          sym (set_elsewhere kept x i false other (omega (arith, below, length-set kept x false))) ∙ there
    ]

-- an edge that was kept is left out
pub tells_one : (kept : List Bool) (x : ℕ) → x < length kept → (flag : Bool) → flag ≡ get_or kept x flag → flag ≡ true → TellsIfAny true kept (set kept x false)
tells_one kept x within flag is set_there = record {
  some = λ _. record { place = x; was_kept = slice_get-get_or kept x flag within ∙ ap Some (sym is ∙ set_there); left_out = set_here kept x false within };
  none = λ no. cc;
}

-- none was left out
pub tells_none : (kept : List Bool) → TellsIfAny false kept kept
tells_none kept = record { some = λ told. cc; none = λ _. refl }

-- what was left out later was kept before
pub some_before : (before now after : List Bool) → length before ≡ length now → StayLeftOut before now → LeavesOutSome now after → LeavesOutSome before after
some_before before now after long stay some =
    let within = slice_get_within now some.place true some.was_kept in
    let here = element_at before some.place (omega (arith, within, long)) in
    by here.0 here.1
  where
    by : (b : Bool) → slice_get before some.place ≡ Some b → LeavesOutSome before after
    by true at = record { place = some.place; was_kept = at; left_out = some.left_out }
    by false at = absurd (cc (stay some.place at, some.was_kept))

-- what was told of one time after the other
pub tells_further : (any more : Bool) (before now after : List Bool) → length before ≡ length now → StayLeftOut before now → StayLeftOut now after
    → TellsIfAny any before now → TellsIfAny more now after → TellsIfAny (any || more) before after
tells_further true more before now after long was stay told tells = record {
  some = λ _. let one = told.some refl in record { place = one.place; was_kept = one.was_kept; left_out = stay one.place one.left_out };
  none = λ no. cc;
}
tells_further false true before now after long was stay told tells = record {
  some = λ _. some_before before now after long was (tells.some refl);
  none = λ no. cc;
}
tells_further false false before now after long was stay told tells = record {
  some = λ told. cc;
  none = λ _. tells.none refl ∙ told.none refl;
}
