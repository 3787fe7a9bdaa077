-- How a search grows a path: what is found below it, follower by follower.
use Rattle.std.proofs.Common.{◌≡◌, ◌≢◌, ℕ, zero, suc, ◌+◌, ◌<◌, ◌≤◌, Bool, true, false, ◌&&◌, cond, List, [], ◌∷◌, ◌++◌, length, take, Option, Some, None, refl, sym, ap, ◌∙◌, arith, inl, inr}
use Rattle.std.specs.Prelude.{slice_get, IfSome, unwrap_or, nat_le}
use Rattle.std.specs.List.{cons_option}
use Rattle.std.proofs.lemmas.Bool.{cases_eq, and_right, and_from, false≢true}
use Rattle.std.proofs.lemmas.List.{append_assoc, append-nil, take_all, length-take, length-append}
use Rattle.gl_event.specs.declared.events.Segment.{Segment}
use Rattle.gl_edges.specs.declared.edge.Edge.{Edge}
use Rattle.gl_filters.specs.declared.query.Mode.{Mode}
use Rattle.gl_filters.specs.Test.{is_path, is_cycle, can_follow, leads_back}
use Rattle.gl_filters.specs.Picked.{picked}
use Rattle.gl_cycles.specs.AllCycles.{all_cycles}
use Rattle.gl_cycles.specs.bodies.Blocks.{block, upto, blocks_below}
use Rattle.gl_index.specs.Listed.{IsNextWith}
use Rattle.gl_index.specs.Indexes.{held_lock, both_locks}
use Rattle.gl_sought.specs.OffCycles.{IsOffCycles}
use Rattle.gl_cycles.proofs.ListsOfPositions.{upto-more, upto-until, take-take_append, take-full}
use Rattle.gl_cycles.proofs.BelowFronts.{all_cycles-block, block-zero, block-suc, block-stray, not_led_on, none_after_closed, picked-push}
use Rattle.gl_filters.proofs.Paths.{is_path_push}
use Rattle.gl_cycles.proofs.EdgesOffCycles.{block-off}
use Rattle.gl_index.proofs.Tables.{AreWithin}
use Rattle.gl_cycles.proofs.EdgesOfPaths.{held_first, unclosed-push, wanted_after, length-picked}
use Rattle.gl_index.proofs.Lists.{element_at}

pub length-first : {X : Type 0} (n : ℕ) (xs : List X) → length (take n xs) ≤ n
length-first n xs = let l = length-take n xs in omega arith

module _ (before : Segment → Segment → Bool) (mode : Mode) (edges : List Edge) (n : ℕ) (front : List ℕ) (cap : ℕ) where
  -- what was found before the next edge with this key
  pub record HasGrownTo {K : Type 0} (key : Edge → K) (k : K) (old now : List (List ℕ)) (next : Option ℕ) : Type 0 where
    pub reaches : unwrap_or next (length edges) ≤ length edges
    pub holds : IfSome next (λ i. (i < length edges) × ((e : Edge) → slice_get edges i ≡ Some e → key e ≡ k))
    pub grown : now ≡ take cap (old ++ blocks_below before mode edges n front (unwrap_or next (length edges)))

  -- with another key an edge leads to no cycle
  abbrev pub OthersAreStray : {K : Type 0} → (Edge → K) → K → Type 0
  OthersAreStray key k = (i : ℕ) (f : Edge) → slice_get edges i ≡ Some f → key f ≢ k → block before mode edges n (front ++ i ∷ []) ≡ []

  -- nor does one that is left out
  abbrev pub LeftOutAreStray : List Bool → Type 0
  LeftOutAreStray kept = (i : ℕ) (f : Edge) → slice_get edges i ≡ Some f → slice_get kept i ≡ Some false → block before mode edges n (front ++ i ∷ []) ≡ []

  module _ {K : Type 0} (key : Edge → K) (kept : List Bool) (k : K) (stray : OthersAreStray key k) (out : LeftOutAreStray kept) where
    -- what is passed over leads to no cycle
    skipped_blocks : (m : ℕ) (next : Option ℕ) → IsNextWith key edges kept k m next
        → blocks_below before mode edges n front (unwrap_or next (length edges)) ≡ blocks_below before mode edges n front m
    skipped_blocks m next is =
        upto-until (λ i. block before mode edges n (front ++ i ∷ [])) m (unwrap_or next (length edges)) is.from
        (λ i from below.
        let w = is.within in
        let here = element_at edges i (omega arith) in
        elim (is.skipped i here.0 from below here.1) [
          | inl other ↦ stray i here.0 here.1 other
          | inr left_out ↦ out i here.0 here.1 left_out
        ])

    pub grow_begin : (old : List (List ℕ)) (next : Option ℕ) → length old ≤ cap → IsNextWith key edges kept k 0 next → HasGrownTo key k old old next
    grow_begin old next room is =
        record {
          reaches = is.within;
          holds = is.holds;
          grown = sym (ap (λ l. take cap (old ++ l)) (skipped_blocks 0 next is) ∙ ap (take cap) (append-nil old) ∙ take_all cap old room);
        }

    pub grow_step : (old now more : List (List ℕ)) (i : ℕ) (next : Option ℕ) → HasGrownTo key k old now (Some i) → more ≡ take cap (now ++ block before mode edges n (front ++ i ∷ []))
        → IsNextWith key edges kept k (i + 1) next → HasGrownTo key k old more next
    grow_step old now more i next had grown is =
        let f = λ (j : ℕ). block before mode edges n (front ++ j ∷ []) in
        record {
          reaches = is.within;
          holds = is.holds;
          grown =
              grown ∙ ap (λ l. take cap (l ++ f i)) had.grown ∙ take-take_append cap (old ++ upto f i) (f i) ∙ ap (take cap) (append_assoc old (upto f i) (f i))
              ∙ ap (λ l. take cap (old ++ l)) (sym (skipped_blocks (i + 1) next is ∙ upto-more f i));
        }

  -- an edge that doesn't hold the lock which the last one wants
  pub other_lock : 0 < length (picked edges front) → OthersAreStray held_lock (wanted_after (picked edges front))
  other_lock some = λ i f at other. block-stray before mode edges n front i f at (led (picked edges front) some f other)
    where
      led : (es : List Edge) → 0 < length es → (f : Edge) → f.held ≢ wanted_after es → can_follow before mode es f ≡ false
      led [] none f other = absurd (omega arith)
      led (e ∷ es) some f other = not_led_on before mode edges e es f (λ same. other (sym same))

  -- a path that isn't closed is no cycle
  not_cycle : leads_back (picked edges front) ≡ false → is_cycle before mode (picked edges front) ≡ false
  unfolding is_cycle
  not_cycle unclosed = and_right _ _ (and_right _ _ unclosed)

  pub grow_end : {K : Type 0} (key : Edge → K) (k : K) (old now : List (List ℕ)) → HasGrownTo key k old now None → leads_back (picked edges front) ≡ false → now ≡ take cap (old ++ block before mode edges (suc n) front)
  grow_end key k old now had unclosed =
      had.grown ∙ ap (λ l. take cap (old ++ l)) (sym (block-suc before mode edges n front ∙ ap (λ b. cond b (front ∷ []) [] ++ blocks_below before mode edges n front (length edges)) (not_cycle unclosed)))

-- with one edge left to add, also one that doesn't want the lock which the first one holds
pub other_locks : (before : Segment → Segment → Bool) (mode : Mode) (edges : List Edge) (front : List ℕ) (cap : ℕ) → 0 < length (picked edges front)
    → OthersAreStray before mode edges 0 front cap both_locks (wanted_after (picked edges front), held_first (picked edges front))
other_locks before mode edges front cap some = λ i f at other.
    elim (cases_eq f.held (wanted_after (picked edges front))) [
      | inl same ↦
          elim (cases_eq f.wanted (held_first (picked edges front))) [
            | inl closed ↦ absurd (other (λ j. (same j, closed j)))
            | inr unclosed ↦
                block-zero before mode edges (front ++ i ∷ [])
                ∙ ap (λ b. cond b ((front ++ i ∷ []) ∷ []) [])
                (not_cycle before mode edges 0 (front ++ i ∷ []) cap (ap leads_back (picked-push edges front i f at) ∙ unclosed-push (picked edges front) f some unclosed))
          ]
      | inr apart ↦ other_lock before mode edges 0 front cap some i f at apart
    ]

and_true : (b : Bool) → (b && true) ≡ b
and_true true = refl
and_true false = refl

module _ (before : Segment → Segment → Bool) (mode : Mode) (edges : List Edge) (front : List ℕ) (cap : ℕ) (old : List (List ℕ)) where
  -- there is no room for more
  pub grow_full : (n : ℕ) → length old ≤ cap → cap ≤ length old → old ≡ take cap (old ++ block before mode edges n front)
  grow_full n room full = sym (take-full cap old (block before mode edges n front) (omega arith))

  -- a path that may not be longer, and isn't closed
  pub grow_short : length old ≤ cap → leads_back (picked edges front) ≡ false → old ≡ take cap (old ++ block before mode edges 0 front)
  grow_short room unclosed =
      sym (ap (λ l. take cap (old ++ l)) (block-zero before mode edges front ∙ ap (λ b. cond b (front ∷ []) []) (not_cycle before mode edges 0 front cap unclosed)) ∙ ap (take cap) (append-nil old) ∙ take_all cap old room)

  -- a path behind which no edge may come, and which isn't closed
  pub grow_none : (n : ℕ) → length old ≤ cap → leads_back (picked edges front) ≡ false → ((f : Edge) → can_follow before mode (picked edges front) f ≡ false)
      → old ≡ take cap (old ++ block before mode edges n front)
  grow_none zero room unclosed none = grow_short room unclosed
  grow_none (suc n) room unclosed none =
      let alone : block before mode edges (suc n) front ≡ [] =
      block-suc before mode edges n front
      ∙ ap (λ l. cond (is_cycle before mode (picked edges front)) (front ∷ []) [] ++ l)
      (upto-until (λ i. block before mode edges n (front ++ i ∷ [])) 0 (length edges) (omega arith)
      (λ i from below. let here = element_at edges i below in block-stray before mode edges n front i here.0 here.1 (none here.0)))
      ∙ ap (λ b. cond b (front ∷ []) [] ++ []) (not_cycle before mode edges (suc n) front cap unclosed) in
      sym (ap (λ l. take cap (old ++ l)) alone ∙ ap (take cap) (append-nil old) ∙ take_all cap old room)

  none_after : (es : List Edge) (f : Edge) → leads_back es ≡ true → can_follow before mode es f ≡ false
  none_after [] f closed = absurd (false≢true closed)
  none_after (e ∷ es) f closed = none_after_closed before mode edges e es f closed

  -- below a closed path there is nothing but the path itself
  closed_block : (n : ℕ) → leads_back (picked edges front) ≡ true → block before mode edges n front ≡ cond (is_cycle before mode (picked edges front)) (front ∷ []) []
  closed_block zero closed = block-zero before mode edges front
  closed_block (suc n) closed =
      block-suc before mode edges n front
      ∙ ap (λ l. cond (is_cycle before mode (picked edges front)) (front ∷ []) [] ++ l)
      (upto-until (λ i. block before mode edges n (front ++ i ∷ [])) 0 (length edges) (omega arith)
      (λ i from below. let here = element_at edges i below in block-stray before mode edges n front i here.0 here.1 (none_after (picked edges front) here.0 closed)))
      ∙ append-nil _

  is_closed_cycle : is_path before mode (picked edges front) ≡ true → leads_back (picked edges front) ≡ true → is_cycle before mode (picked edges front) ≡ nat_le 2 (length (picked edges front))
  unfolding is_cycle
  is_closed_cycle path closed = (λ i. nat_le 2 (length (picked edges front)) && (path i && closed i)) ∙ and_true _

  at_most_one : length old < cap → (b : Bool) → length (old ++ cond b (front ∷ []) []) ≤ cap
  at_most_one room true = omega (arith, length-append old (front ∷ []))
  at_most_one room false = omega (arith, length-append old [])

  pub grow_closed : (n : ℕ) (now : List (List ℕ)) → length old < cap → AreWithin edges front → is_path before mode (picked edges front) ≡ true → leads_back (picked edges front) ≡ true
      → now ≡ old ++ cond (nat_le 2 (length front)) (front ∷ []) [] → now ≡ take cap (old ++ block before mode edges n front)
  grow_closed n now room within path closed is_now =
      let block_is : block before mode edges n front ≡ cond (nat_le 2 (length front)) (front ∷ []) [] =
      closed_block n closed ∙ ap (λ b. cond b (front ∷ []) []) (is_closed_cycle path closed ∙ ap (nat_le 2) (length-picked edges front within)) in
      is_now ∙ sym (ap (λ l. take cap (old ++ l)) block_is ∙ take_all cap (old ++ cond (nat_le 2 (length front)) (front ∷ []) []) (at_most_one room (nat_le 2 (length front))))

-- no more than the cap was found
pub grown_room : {K : Type 0} (before : Segment → Segment → Bool) (mode : Mode) (edges : List Edge) (n : ℕ) (front : List ℕ) (cap : ℕ) (key : Edge → K) (k : K) (old now : List (List ℕ)) (next : Option ℕ)
    → HasGrownTo before mode edges n front cap key k old now next → length now ≤ cap
grown_room before mode edges n front cap key k old now next had =
    let first = length-first cap (old ++ blocks_below before mode edges n front (unwrap_or next (length edges))) in
    omega (arith, ap length had.grown)

-- the next follower lies behind
pub goes_on : {K : Type 0} (key : Edge → K) (edges : List Edge) (kept : List Bool) (i : ℕ) (k : K) (next : Option ℕ) → IsNextWith key edges kept k (i + 1) next → (i < unwrap_or next (length edges)) × (unwrap_or next (length edges) ≤ length edges)
goes_on key edges kept i k next is =
    let from = is.from in
    (omega arith, is.within)

-- an edge that is in no cycle adds nothing
pub grow_off : (before : Segment → Segment → Bool) (mode : Mode) (edges : List Edge) (len n : ℕ) (front : List ℕ) (cap : ℕ) (old : List (List ℕ)) (i : ℕ) (f : Edge) → length front + suc n ≤ len
    → length old ≤ cap → slice_get edges i ≡ Some f → IsOffCycles before mode len edges f → old ≡ take cap (old ++ block before mode edges n (front ++ i ∷ []))
grow_off before mode edges len n front cap old i f short room at off =
    sym (ap (λ l. take cap (old ++ l)) (block-off before mode edges len n front i f short at off) ∙ ap (take cap) (append-nil old) ∙ take_all cap old room)

-- an edge that can't follow adds nothing
pub grow_stray : (before : Segment → Segment → Bool) (mode : Mode) (edges : List Edge) (n : ℕ) (front : List ℕ) (cap : ℕ) (old : List (List ℕ)) (i : ℕ) (f : Edge)
    → length old ≤ cap → slice_get edges i ≡ Some f → can_follow before mode (picked edges front) f ≡ false → old ≡ take cap (old ++ block before mode edges n (front ++ i ∷ []))
grow_stray before mode edges n front cap old i f room at stray =
    sym (ap (λ l. take cap (old ++ l)) (block-stray before mode edges n front i f at stray) ∙ ap (take cap) (append-nil old) ∙ take_all cap old room)

-- an edge that can follow makes a longer path
pub joined_path : (before : Segment → Segment → Bool) (mode : Mode) (edges : List Edge) (front : List ℕ) (i : ℕ) (f : Edge)
    → slice_get edges i ≡ Some f → is_path before mode (picked edges front) ≡ true → can_follow before mode (picked edges front) f ≡ true → is_path before mode (picked edges (front ++ i ∷ [])) ≡ true
joined_path before mode edges front i f at path follows =
    ap (is_path before mode) (picked-push edges front i f at) ∙ is_path_push before mode (picked edges front) f ∙ and_from _ _ path follows

-- an edge alone is a path
pub path_of_one : (before : Segment → Segment → Bool) (mode : Mode) (edges : List Edge) (i : ℕ) (e : Edge) → slice_get edges i ≡ Some e → is_path before mode (picked edges (i ∷ [])) ≡ true
unfolding is_path
path_of_one before mode edges i e at = ap (λ o. is_path before mode (cons_option o [])) at

-- no cycle is empty
no_cycle : (before : Segment → Segment → Bool) (mode : Mode) (edges : List Edge) → is_cycle before mode (picked edges []) ≡ false
unfolding is_cycle
no_cycle before mode edges = refl

-- all cycles are those that begin with each edge in turn
pub all_from_roots : (before : Segment → Segment → Bool) (mode : Mode) (edges : List Edge) (n : ℕ) → all_cycles before mode (suc n) edges ≡ blocks_below before mode edges n [] (length edges)
all_from_roots before mode edges n =
    all_cycles-block before mode edges (suc n) ∙ block-suc before mode edges n [] ∙ ap (λ b. cond b ([] ∷ []) [] ++ blocks_below before mode edges n [] (length edges)) (no_cycle before mode edges)

-- one root more
pub roots_more : (before : Segment → Segment → Bool) (mode : Mode) (edges : List Edge) (n cap root : ℕ) (now more : List (List ℕ))
    → now ≡ take cap (blocks_below before mode edges n [] root) → more ≡ take cap (now ++ block before mode edges n (root ∷ [])) → more ≡ take cap (blocks_below before mode edges n [] (root + 1))
roots_more before mode edges n cap root now more before_it grown =
    grown ∙ ap (λ l. take cap (l ++ block before mode edges n (root ∷ []))) before_it ∙ take-take_append cap (blocks_below before mode edges n [] root) (block before mode edges n (root ∷ []))
    ∙ ap (take cap) (sym (upto-more (λ i. block before mode edges n ([] ++ i ∷ [])) root))
