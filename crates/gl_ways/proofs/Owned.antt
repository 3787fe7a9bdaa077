-- Two edges of one owner don't go with each other.
use Rattle.std.proofs.Common.{◌≡◌, Bool, true, false, not, ◌&&◌, eqb, refl, sym, ◌∙◌}
use Rattle.std.proofs.lemmas.Bool.{and_parts, false_from_ne_true}
use Rattle.gl_event.specs.declared.events.LockMode.TheVariants.{Exclusive}
use Rattle.gl_event.specs.declared.events.Segment.{Segment}
use Rattle.gl_edges.specs.Clashes.{guards_clash}
use Rattle.gl_edges.specs.declared.edge.Edge.{Edge}
use Rattle.gl_filters.specs.Cycle.{asks_guards}
use Rattle.gl_filters.specs.Test.{goes_with, is_clear}
use Rattle.gl_filters.specs.declared.query.Mode.{Mode}
use Rattle.gl_filters.proofs.Cycling.{apart_tells}
use Rattle.gl_ways.specs.bodies.Owners.{IsOwned}
use Rattle.gl_ways.specs.declared.owners.Owner.{Owner}
use Rattle.gl_ways.specs.declared.owners.Owner.TheVariants.{OfThread, OfLock}
use Rattle.gl_sought.proofs.Places.{from_not_true}
use Rattle.gl_sought.proofs.Apart.{apart_in_thread}

module _ (before : Segment → Segment → Bool) (mode : Mode) where
  -- their guards don't clash
  free_guards : (e f : Edge) → asks_guards mode ≡ true → goes_with before mode e f ≡ true → guards_clash e.guards f.guards ≡ false
  unfolding goes_with is_clear
  free_guards e f asks goes =
      let clear = (and_parts (not (eqb e.held f.held) && not (eqb e.thread f.thread)) _ goes).1 in
      let free = (and_parts (not (asks_guards mode && guards_clash e.guards f.guards)) _ clear).0 in
      (λ k. sym asks k && guards_clash e.guards f.guards) ∙ from_not_true (asks_guards mode && guards_clash e.guards f.guards) free

  pub owned_apart : (owner : Owner) (e f : Edge) → IsOwned mode owner e → IsOwned mode owner f → goes_with before mode e f ≡ false
  owned_apart (OfThread thread) e f has_e has_f = apart_in_thread before mode e f (has_e ∙ sym has_f)
  owned_apart (OfLock lock) e f has_e has_f =
      false_from_ne_true _ (λ goes.
      apart_tells e.guards f.guards (free_guards e f has_e.0 goes) lock
      (record { one = Exclusive; other = Exclusive; in_one = has_e.1; in_other = has_f.1; in_conflict = refl }))
