-- An edge that is barred has none beside it.
use Rattle.std.proofs.Common.{◌≡◌, ℕ, Bool, true, false, not, ◌&&◌, eqb, List, Some, refl, sym, subst, ◌∙◌}
use Rattle.std.specs.Prelude.{slice_get, All}
use Rattle.std.proofs.lemmas.Bool.{and_parts, false≢true, false_from_ne_true}
use Rattle.std.proofs.lemmas.List.Elements.{All-contains}
use Rattle.std.proofs.lemmas.Option.{same_Some}
use Rattle.gl_event.specs.Modes.{conflict}
use Rattle.gl_event.specs.declared.events.LockMode.{LockMode}
use Rattle.gl_event.specs.declared.events.LockMode.TheVariants.{Exclusive, Shared}
use Rattle.gl_event.specs.declared.events.Segment.{Segment}
use Rattle.gl_edges.specs.Clashes.{guards_clash}
use Rattle.gl_edges.specs.declared.edge.Edge.{Edge}
use Rattle.gl_filters.specs.Cycle.{asks_guards}
use Rattle.gl_filters.specs.Test.{is_clear, is_compatible, leads_to}
use Rattle.gl_filters.specs.declared.query.Mode.{Mode}
use Rattle.gl_filters.proofs.Cycling.{apart_tells}
use Rattle.gl_index.specs.Sides.{is_beside, lock_towards, opposite}
use Rattle.gl_index.specs.declared.sides.Side.{Side}
use Rattle.gl_index.specs.declared.sides.Side.TheVariants.{Follower, Leader}
use Rattle.gl_sought.specs.Sought.{StayLeftOut}
use Rattle.gl_exclusions.specs.bodies.Gates.{gates_of, AreGated, IsBarredBy, IsMadeUnder}
use Rattle.gl_exclusions.specs.bodies.Partners.{NoneBeside}
use Rattle.gl_exclusions.specs.declared.gates.Gates.{Gates}
use Rattle.gl_sought.proofs.Places.{from_not_true}
use Rattle.gl_exclusions.proofs.Partnered.{shares_lock}

-- where more edges are left out, those that stay are gated as they were
pub gated_on : (side : Side) (edges : List Edge) (before after : List Bool) (gates : Gates) → StayLeftOut before after → AreGated side edges before gates → AreGated side edges after gates
gated_on side edges before after gates stay are i e at left = are i e at (λ out. left (stay i out))

-- who holds a lock alone keeps all others out
alone_first : (mode : LockMode) → conflict Exclusive mode ≡ true
alone_first mode = refl

alone_last : (mode : LockMode) → conflict mode Exclusive ≡ true
alone_last Exclusive = refl
alone_last Shared = refl

module _ (before : Segment → Segment → Bool) (mode : Mode) (asks : asks_guards mode ≡ true) where
  clear_guards : (e f : Edge) → is_compatible before mode e f ≡ true → guards_clash e.guards f.guards ≡ false
  unfolding is_compatible is_clear
  clear_guards e f fits =
      let clear = (and_parts (leads_to e f && not (eqb e.thread f.thread)) _ fits).1 in
      let free = (and_parts (not (asks_guards mode && guards_clash e.guards f.guards)) _ clear).0 in
      (λ k. sym asks k && guards_clash e.guards f.guards) ∙ from_not_true (asks_guards mode && guards_clash e.guards f.guards) free

  -- an edge that holds a lock alone stands beside none that is made under it
  apart_beside : (side : Side) (e f : Edge) (gates : List ℕ) (barred : IsBarredBy e gates) → IsMadeUnder f barred.gate → is_beside before mode side e f ≡ true → ⊥
  apart_beside Follower e f gates barred under fits =
      apart_tells e.guards f.guards (clear_guards e f fits) barred.gate
      (record { one = Exclusive; other = under.mode; in_one = barred.alone; in_other = under.held; in_conflict = alone_first under.mode })
  apart_beside Leader e f gates barred under fits =
      apart_tells f.guards e.guards (clear_guards f e fits) barred.gate
      (record { one = under.mode; other = Exclusive; in_one = under.held; in_other = barred.alone; in_conflict = alone_last under.mode })

  pub none_barred : (edges : List Edge) (kept : List Bool) (side : Side) (gates : Gates) → AreGated (opposite side) edges kept gates → (x m : ℕ) (e : Edge) → slice_get edges x ≡ Some e
      → IsBarredBy e (gates_of gates (lock_towards side e)) → NoneBeside before mode edges kept side x m
  none_barred edges kept side gates gated x m e at barred = λ i e2 f below at_e at_f flag.
      let same : e ≡ e2 = same_Some e e2 (sym at ∙ at_e) in
      false_from_ne_true _ (λ fits.
      let fits_e : is_beside before mode side e f ≡ true = subst (λ d. is_beside before mode side d f ≡ true) (sym same) fits in
      let all : All (IsMadeUnder f) (gates_of gates (lock_towards (opposite side) f)) = gated i f at_f (λ out. false≢true (same_Some false true (sym out ∙ flag))) in
      let shared : All (IsMadeUnder f) (gates_of gates (lock_towards side e)) = subst (λ lock. All (IsMadeUnder f) (gates_of gates lock)) (shares_lock before mode side e f fits_e) all in
      apart_beside side e f (gates_of gates (lock_towards side e)) barred (All-contains (IsMadeUnder f) (gates_of gates (lock_towards side e)) barred.gate shared barred.among) fits_e)
