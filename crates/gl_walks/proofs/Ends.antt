-- What a path's first and last edge tell of it.
use Rattle.std.proofs.Common.{◌≡◌, ℕ, ◌+◌, ◌<◌, ◌≤◌, Bool, ◌&&◌, List, [], ◌∷◌, ◌++◌, refl, length, Option, Some, None, sym, ap, subst, ◌∙◌, arith}
use Rattle.std.specs.Prelude.{slice_get, unwrap_or}
use Rattle.std.specs.List.{list_all}
use Rattle.std.proofs.lemmas.Bool.{le-leb}
use Rattle.std.proofs.lemmas.List.{length-map}
use Rattle.gl_event.specs.declared.events.Segment.{Segment}
use Rattle.gl_edges.specs.declared.edge.Edge.{Edge}
use Rattle.gl_filters.specs.declared.query.Mode.{Mode}
use Rattle.gl_filters.specs.Picked.{picked}
use Rattle.gl_filters.specs.Test.{leads_to, leads_back, last_of}
use Rattle.gl_walks.specs.declared.chains.Chain.{Chain}
use Rattle.gl_walks.specs.declared.keys.Keyed.TheVariants.{ByClass, ByLock}
use Rattle.gl_walks.specs.declared.purpose.Purpose.{Purpose}
use Rattle.gl_walks.specs.declared.purpose.Purpose.TheVariants.{Cycle}
use Rattle.gl_walks.specs.declared.ground.Ground.{Ground}
use Rattle.gl_walks.specs.bodies.Listing.{Key, IsNext, key_at}
use Rattle.gl_walks.specs.bodies.Fronts.{goes_by, stays_above, may_follow, may_end, Sought, sought_by, IsEven, IsIndexed, lock_after, key_after, key_behind}
use Rattle.gl_walks.proofs.Places.{AreEnds, AreWithin, length-picked, picked-push}

module _ (edges : List Edge) (path : List ℕ) (first last : Edge) (ends : AreEnds edges path first last) where
  -- whether it is closed
  pub closed_by : leads_back (picked edges path) ≡ leads_to last first
  closed_by = ap leads_back ends.are ∙ ap (λ g. leads_to g first) ends.ends

  -- what may follow it
  pub follows_by : (purpose : Purpose) (before : Segment → Segment → Bool) (mode : Mode) (f : Edge)
      → may_follow purpose before mode (picked edges path) f ≡ (leads_to last f && (list_all (λ d. goes_by purpose before mode d f) (picked edges path) && stays_above purpose first f))
  follows_by purpose before mode f =
      ap (λ es. may_follow purpose before mode es f) ends.are
      ∙ ap (λ g. leads_to g f && (list_all (λ d. goes_by purpose before mode d f) (first ∷ ends.others) && stays_above purpose first f)) ends.ends
      ∙ ap (λ es. leads_to last f && (list_all (λ d. goes_by purpose before mode d f) es && stays_above purpose first f)) (sym ends.are)

  -- the lock that its last edge wants
  pub lock_by : lock_after (picked edges path) ≡ Some last.wanted
  lock_by = ap lock_after ends.are ∙ ap (λ g. Some g.wanted) ends.ends

-- a path of two edges or more ends where it is closed
pub end_by : (edges : List Edge) (path : List ℕ) → AreWithin edges path → 2 ≤ length path → may_end Cycle (picked edges path) ≡ leads_back (picked edges path)
end_by edges path within long =
    let same = length-picked edges path within in
    ap (λ b. b && leads_back (picked edges path)) (le-leb 2 (length (picked edges path)) (omega arith))

module _ (s : Sought) where
  -- the first edge is looked up by its class
  pub begins_by_class : (path : List ℕ) (class : ℕ) (next : Option ℕ) → length path ≡ 0 → unwrap_or (slice_get s.pattern (length path)) 0 ≡ class
      → IsNext (key_at ByClass s.edges s.classes s.flags) (length s.edges) (class, None) 0 next → IsNext (key_behind s path) (length s.edges) (key_after s path) 0 next
  begins_by_class [] class next none is begins = subst (λ c. IsNext (key_at ByClass s.edges s.classes s.flags) (length s.edges) (c, None) 0 next) (sym is) begins
  begins_by_class (i ∷ path) class next none is begins = absurd (omega arith)

  -- a later one by the lock that it holds too
  pub begins_by_lock : (path : List ℕ) (class lock : ℕ) (next : Option ℕ) → 0 < length path → unwrap_or (slice_get s.pattern (length path)) 0 ≡ class → lock_after (picked s.edges path) ≡ Some lock
      → IsNext (key_at ByLock s.edges s.classes s.flags) (length s.edges) (class, Some lock) 0 next → IsNext (key_behind s path) (length s.edges) (key_after s path) 0 next
  begins_by_lock [] class lock next some is is_lock begins = absurd (omega arith)
  begins_by_lock (i ∷ path) class lock next some is is_lock begins =
      subst (λ k. IsNext (key_at ByLock s.edges s.classes s.flags) (length s.edges) k 0 next) (sym (λ j. (is j, is_lock j))) begins

  -- and so on
  pub goes_on_by_class : (path : List ℕ) (k : Key) (i : ℕ) (next : Option ℕ) → length path ≡ 0 → key_behind s path i ≡ Some k
      → (key_at ByClass s.edges s.classes s.flags i ≡ Some k → IsNext (key_at ByClass s.edges s.classes s.flags) (length s.edges) k (i + 1) next) → IsNext (key_behind s path) (length s.edges) k (i + 1) next
  goes_on_by_class [] k i next none at later = later at
  goes_on_by_class (j ∷ path) k i next none at later = absurd (omega arith)

  pub goes_on_by_lock : (path : List ℕ) (k : Key) (i : ℕ) (next : Option ℕ) → 0 < length path → key_behind s path i ≡ Some k
      → (key_at ByLock s.edges s.classes s.flags i ≡ Some k → IsNext (key_at ByLock s.edges s.classes s.flags) (length s.edges) k (i + 1) next) → IsNext (key_behind s path) (length s.edges) k (i + 1) next
  goes_on_by_lock [] k i next some at later = absurd (omega arith)
  goes_on_by_lock (j ∷ path) k i next some at later = later at

-- there is a class and a flag for each edge
pub even_by : (area : Ground) (purpose : Purpose) (pattern : List ℕ) (by_class by_lock : Chain) → IsIndexed area by_class by_lock → IsEven (sought_by area purpose pattern)
even_by area purpose pattern by_class by_lock indexed = record {
  classes = indexed.classes ∙ sym (length-map area.table.now (λ pair. pair.0));
  flags = indexed.flags ∙ sym (length-map area.table.now (λ pair. pair.0));
}

-- the edge that comes last
last_push : (e : Edge) (es : List Edge) (f : Edge) → last_of e (es ++ f ∷ []) ≡ f
last_push e [] f = refl
last_push e (d ∷ es) f = last_push d es f

-- a path with an edge more leads back where this edge leads to its first
pub round_by : (edges : List Edge) (path : List ℕ) (i : ℕ) (e g f : Edge) → AreEnds edges path e g → slice_get edges i ≡ Some f → leads_back (picked edges (path ++ i ∷ [])) ≡ leads_to f e
round_by edges path i e g f ends at =
    ap leads_back (picked-push edges path i f at ∙ ap (λ es. es ++ f ∷ []) ends.are) ∙ ap (λ d. leads_to d e) (last_push e ends.others f)
