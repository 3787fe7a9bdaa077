-- Trim orders: edges that go one after the other, each of which nothing that is left may follow in a cycle, or that may follow nothing.
use Rattle.std.specs.Prelude.{◌≡◌, ℕ, zero, suc, ◌<◌, Bool, true, not, ◌&&◌, List, [], ◌∷◌, ◌++◌, length, filter, slice_get, Option, Some, None, take, Contains, ◌==◌, if◌then◌else◌}
use Rattle.std.specs.List.{list_any, range_with_len}
use Rattle.gl_event.specs.declared.events.Segment.{Segment}
use Rattle.gl_edges.specs.declared.edge.Edge.{Edge}
use Rattle.gl_filters.specs.declared.query.Mode.{Mode}
use Rattle.gl_filters.specs.Picked.{picked}
use Rattle.gl_index.specs.Sides.{is_beside}
use Rattle.gl_index.specs.declared.sides.Side.{Side}
use Rattle.gl_index.specs.declared.sides.Side.TheVariants.{Follower, Leader}

-- the positions of edges that aren't among these, ascending
abbrev pub others : List Edge → List ℕ → List ℕ
others edges removed =
    filter (λ i. not (list_any (λ k. k == i) removed)) (range_with_len 0 (length edges))

module _ (before : Segment → Segment → Bool) (mode : Mode) (edges : List Edge) where
  -- an edge that isn't gone may come beside this one
  pub record HasBeside (IsGone : ℕ → Type 0) (side : Side) (e : Edge) : Type 0 where
    pub place : ℕ
    pub other : Edge
    pub stands : slice_get edges place ≡ Some other
    pub is_left : ¬ IsGone place
    pub fits : is_beside before mode side e other ≡ true

  -- the edge at this position isn't gone, but no follower is left for it, or no leader
  pub record IsStuck (IsGone : ℕ → Type 0) (i : ℕ) : Type 0 where
    pub edge : Edge
    pub stands : slice_get edges i ≡ Some edge
    pub is_left : ¬ IsGone i
    pub side : Side
    pub alone : ¬ HasBeside IsGone side edge

  -- and it is the first such position
  abbrev pub IsFirstStuck : (ℕ → Type 0) → ℕ → Type 0
  IsFirstStuck IsGone i = IsStuck IsGone i × ((j : ℕ) → j < i → ¬ IsStuck IsGone j)

  -- a trim order: each of these was the first that was stuck as those before it were gone
  abbrev pub IsTrimOrder : List ℕ → Type 0
  IsTrimOrder removed =
      (n i : ℕ) → slice_get removed n ≡ Some i → IsFirstStuck (Contains (take n removed)) i

  -- an order of removal: each of these was stuck as those before it were gone, though others may have been too
  abbrev pub IsRemovalOrder : List ℕ → Type 0
  IsRemovalOrder removed =
      (n i : ℕ) → slice_get removed n ≡ Some i → IsStuck (Contains (take n removed)) i

  -- and in the end each edge is gone
  pub record IsWholeRemoval (removed : List ℕ) : Type 0 where
    pub in_order : IsRemovalOrder removed
    pub whole : (i : ℕ) → i < length edges → Contains removed i

  -- the first place at which a list isn't such an order
  pub record IsRemovalFault (removed : List ℕ) (place : ℕ) : Type 0 where
    pub before_it : IsRemovalOrder (take place removed)
    -- what stands there isn't stuck as those before it are gone: it is no edge, or is gone, or has a follower and a leader left
    pub wrong : (i : ℕ) → slice_get removed place ≡ Some i
        → ¬ IsStuck (Contains (take place removed)) i
    -- or the list ends there, and an edge is left
    pub ended : slice_get removed place ≡ None → (place ≡ length removed)
        × ((i : ℕ) × (i < length edges) × (¬ Contains removed i))

  -- what trimming leaves, and what it takes away
  pub record IsTrimmed (kept removed : List ℕ) : Type 0 where
    -- it takes away as long as an edge is stuck, always the first one
    pub in_order : IsTrimOrder removed
    pub done : (i : ℕ) → ¬ IsStuck (Contains removed) i
    -- each edge that is left has a follower and a leader that are left
    pub stays : (i : ℕ) (e : Edge) (side : Side) → slice_get edges i ≡ Some e → ¬ Contains removed i
        → HasBeside (Contains removed) side e
    -- the others are kept
    pub rest : kept ≡ others edges removed

  -- none of these edges may come beside this one on one of the sides
  abbrev pub is_alone : List Edge → Edge → Bool
  is_alone es e =
      not (list_any (is_beside before mode Follower e) es
      && list_any (is_beside before mode Leader e) es)

  -- the edge at this position isn't gone, and is alone among those that aren't
  abbrev pub is_stuck : List ℕ → ℕ → Bool
  is_stuck removed i =
      not (list_any (λ k. k == i) removed)
      && list_any (is_alone (picked edges (others edges removed))) (picked edges (i ∷ []))

  -- the first n edges that go: always the first one that is stuck, as long as one is
  abbrev pub removals : ℕ → List ℕ
  removals zero = []
  removals (suc n) =
      removals n ++ take 1 (filter (is_stuck (removals n)) (range_with_len 0 (length edges)))

  -- the trim order that takes away each edge, where there is one
  unfoldable pub whole_trim : Option (List ℕ)
  whole_trim =
      let removed = removals (length edges) in
      if length (others edges removed) == 0 then Some removed else None
