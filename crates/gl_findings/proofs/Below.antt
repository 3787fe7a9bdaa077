-- The findings below a front, by what the front is.
use Rattle.std.proofs.Common.{◌≡◌, ℕ, suc, ◌+◌, ◌<◌, ◌≤◌, Bool, true, false, cond, List, [], ◌∷◌, ◌++◌, length, map, filter, take, refl, sym, ap, ◌∙◌, arith, inl, inr}
use Rattle.std.specs.Prelude.{Contains}
use Rattle.std.specs.List.{flat_map, range_with_len, list_all}
use Rattle.std.specs.Cmp.{nat_cmp_is}
use Rattle.std.specs.Cmp.Lexicographic.{slice_cmp}
use Rattle.std.specs.Ordering.{nat_cmp, is_le, ordering_then}
use Rattle.std.specs.declared.cmp.Ordering.TheVariants.{Greater}
use Rattle.std.proofs.lemmas.Bool.{and_left, and_right}
use Rattle.std.proofs.lemmas.List.{append-nil, append_assoc, length-append, take_all}
use Rattle.std.proofs.Math.Seq.{drop-append_seam}
use Rattle.std.proofs.lemmas.Grind.{flat_map-append}
use Rattle.gl_event.specs.declared.events.Segment.{Segment}
use Rattle.gl_edges.specs.declared.edge.Edge.{Edge}
use Rattle.gl_edges.specs.declared.edge.Sample.{Sample}
use Rattle.gl_edges.proofs.Membership.{contains_range, contains_cases, contains_none}
use Rattle.gl_filters.specs.declared.query.Mode.{Mode}
use Rattle.gl_filters.specs.Picked.{edges_of_table}
use Rattle.gl_cycles.specs.AllCycles.{lists_below, all_cycles}
use Rattle.gl_cycles.proofs.ListsOfPositions.{map-flat_map, same_flat_map, map-one_more, map-nothing, upto-more, upto-until, take-take_append, take-full}
use Rattle.gl_cycles.proofs.PathsGrow.{length-first}
use Rattle.gl_findings.specs.Findings.{begins_least, turned, first_with, findings, is_turn, signature_of}
use Rattle.gl_findings.specs.bodies.Growing.{finding, block, blocks_below}

flat_map-flat_map : {X Y Z : Type 0} (f : Y → List Z) (g : X → List Y) (xs : List X) → flat_map f (flat_map g xs) ≡ flat_map (λ x. flat_map f (g x)) xs
flat_map-flat_map f g [] = refl
flat_map-flat_map f g (x ∷ xs) = flat_map-append f (g x) (flat_map g xs) ∙ ap (λ l. flat_map f (g x) ++ l) (flat_map-flat_map f g xs)

-- what does not pass gives nothing
flat_map-filter : {X Y : Type 0} (f : X → List Y) (p : X → Bool) (xs : List X) → flat_map f (filter p xs) ≡ flat_map (λ x. cond (p x) (f x) []) xs
flat_map-filter f p [] = refl
flat_map-filter f p (x ∷ xs) =
    elim (p x) as (λ b. flat_map f (cond b (x ∷ filter p xs) (filter p xs)) ≡ cond b (f x) [] ++ flat_map (λ x. cond (p x) (f x) []) xs) [
      | true ↦ ap (λ l. f x ++ l) (flat_map-filter f p xs)
      | false ↦ flat_map-filter f p xs
    ]

-- nothing is found where no list that begins so gives something
none_of_each : (f : List ℕ → List (List ℕ)) (front : List ℕ) (ls : List (List ℕ)) → ((rest : List ℕ) → f (front ++ rest) ≡ []) → flat_map f (map (λ rest. front ++ rest) ls) ≡ []
none_of_each f front [] none = refl
none_of_each f front (l ∷ ls) none = rw (none l) (none_of_each f front ls none)

none_passes : {X : Type 0} (xs : List X) → take 1 (filter (λ x. false) xs) ≡ []
none_passes [] = refl
none_passes (x ∷ xs) = none_passes xs

-- one that does not pass
pub not_all : {X : Type 0} (p : X → Bool) (x : X) (xs : List X) → Contains xs x → p x ≡ false → list_all p xs ≡ false
not_all p x [] at fails = absurd (contains_none x at)
not_all p x (y ∷ ys) at fails = elim (contains_cases y x ys at) [ inl is ↦ and_left _ _ (ap p is ∙ fails) | inr later ↦ and_right _ _ (not_all p x ys later fails) ]

module _ (before : Segment → Segment → Bool) (mode : Mode) (len : ℕ) (table : List (Edge × Sample)) where
  abbrev found : List ℕ → List (List ℕ)
  found signature = finding before mode len table signature

  pub block-zero : (front : List ℕ) → block before mode len table 0 front ≡ finding before mode len table front
  unfolding block
  block-zero front = append-nil (found (front ++ [])) ∙ ap found (append-nil front)

  -- what lies below a front is its own finding, and then what goes on from it
  pub block-suc : (n : ℕ) (front : List ℕ) → block before mode len table (suc n) front ≡ finding before mode len table front ++ blocks_below before mode len table n front (length table)
  unfolding block
  block-suc n front =
      let size = length table in
      let starting = λ (i : ℕ). map (λ rest. i ∷ rest) (lists_below size n) in
      let below : flat_map found (map (λ rest. front ++ rest) (flat_map starting (range_with_len 0 size))) ≡ flat_map (λ i. flat_map found (map (λ rest. (front ++ i ∷ []) ++ rest) (lists_below size n))) (range_with_len 0 size) =
      ap (flat_map found) (map-flat_map (λ rest. front ++ rest) starting (range_with_len 0 size))
      ∙ flat_map-flat_map found (λ i. map (λ rest. front ++ rest) (starting i)) (range_with_len 0 size)
      ∙ same_flat_map _ _ (range_with_len 0 size) (λ i. ap (flat_map found) (map-one_more front i (lists_below size n))) in
      λ i. found (append-nil front i) ++ below i

  -- a front whose every signature has no finding
  pub block-none : (n : ℕ) (front : List ℕ) → ((rest : List ℕ) → finding before mode len table (front ++ rest) ≡ []) → block before mode len table n front ≡ []
  unfolding block
  block-none n front none = none_of_each found front (lists_below (length table) n) none

  -- no signature is empty
  nothing_found : finding before mode len table [] ≡ []
  nothing_found = none_passes (all_cycles before mode len (edges_of_table table))

  -- the findings are those of each signature
  pub findings-block : findings before mode len table ≡ block before mode len table len []
  unfolding findings block
  findings-block =
      flat_map-filter (first_with before mode len table) begins_least (lists_below (length table) len) ∙ ap (flat_map found) (sym (map-nothing (lists_below (length table) len)))

  -- and so those that begin with each class in turn
  pub findings-from : (n : ℕ) → len ≡ suc n → findings before mode len table ≡ blocks_below before mode len table n [] (length table)
  findings-from n is =
      findings-block
      ∙ ap (λ l. block before mode len table l []) is
      ∙ block-suc n [] ∙ ap (λ l. l ++ blocks_below before mode len table n [] (length table)) nothing_found

  -- a signature that has a class below its first one is told from there
  not_least : (first class : ℕ) (front rest : List ℕ) → class < first → begins_least ((first ∷ front) ++ class ∷ rest) ≡ false
  not_least first class front rest lower =
      let signature = (first ∷ front) ++ class ∷ rest in
      let k = length (first ∷ front) in
      let there : turned k signature ≡ (class ∷ rest) ++ take k signature = ap (λ l. l ++ take k signature) (drop-append_seam (first ∷ front) (class ∷ rest)) in
      not_all (λ k. is_le (slice_cmp nat_cmp signature (turned k signature))) k (range_with_len 0 (length signature))
      (contains_range 0 (length signature) k (omega arith) (omega (arith, length-append (first ∷ front) (class ∷ rest))))
      (ap (λ l. is_le (slice_cmp nat_cmp signature l)) there ∙ ap (λ o. is_le (ordering_then o (slice_cmp nat_cmp (front ++ class ∷ rest) (rest ++ take k signature)))) (sym (nat_cmp_is first class Greater lower)))

  pub block-lower : (n first class : ℕ) (front : List ℕ) → class < first → block before mode len table n ((first ∷ front) ++ class ∷ []) ≡ []
  block-lower n first class front lower =
      block-none n ((first ∷ front) ++ class ∷ [])
      (λ rest. ap found (append_assoc (first ∷ front) (class ∷ []) rest) ∙ ap (λ b. cond b (first_with before mode len table ((first ∷ front) ++ class ∷ rest)) []) (not_least first class front rest lower))

  -- a front that no cycle begins with
  pub block-without : (n : ℕ) (front : List ℕ) → ((rest : List ℕ) → first_with before mode len table (front ++ rest) ≡ []) → block before mode len table n front ≡ []
  block-without n front none = block-none n front (λ rest. by (begins_least (front ++ rest)) (first_with before mode len table (front ++ rest)) (none rest))
    where
      by : (b : Bool) (l : List (List ℕ)) → l ≡ [] → cond b l [] ≡ []
      by true l is = is
      by false l is = refl

  module _ (n : ℕ) (front : List ℕ) (cap : ℕ) where
    -- what was found before the next class
    pub record HasGrown (old now : List (List ℕ)) (next : ℕ) : Type 0 where
      pub reached : next ≤ length table
      pub grown : now ≡ take cap (old ++ blocks_below before mode len table n front next)

    -- these classes lead to nothing
    abbrev pub AreSkipped : ℕ → ℕ → Type 0
    AreSkipped m k = (i : ℕ) → m ≤ i → i < k → block before mode len table n (front ++ i ∷ []) ≡ []

    abbrev below : ℕ → List (List ℕ)
    below k = blocks_below before mode len table n front k

    pub grow_begin : (old : List (List ℕ)) (next : ℕ) → length old ≤ cap → next ≤ length table → AreSkipped 0 next → HasGrown old old next
    grow_begin old next room reached none =
        record {
          reached = reached;
          grown = sym (ap (λ l. take cap (old ++ l)) (upto-until (λ i. block before mode len table n (front ++ i ∷ [])) 0 next (omega arith) none) ∙ ap (take cap) (append-nil old) ∙ take_all cap old room);
        }

    pub grow_step : (old now more : List (List ℕ)) (i next : ℕ) → HasGrown old now i → more ≡ take cap (now ++ block before mode len table n (front ++ i ∷ []))
        → i + 1 ≤ next → next ≤ length table → AreSkipped (i + 1) next → HasGrown old more next
    grow_step old now more i next had grown later reached none =
        let f = λ (j : ℕ). block before mode len table n (front ++ j ∷ []) in
        record {
          reached = reached;
          grown =
              grown ∙ ap (λ l. take cap (l ++ f i)) had.grown ∙ take-take_append cap (old ++ below i) (f i) ∙ ap (take cap) (append_assoc old (below i) (f i))
              ∙ ap (λ l. take cap (old ++ l)) (sym (upto-until f (i + 1) next later none ∙ upto-more f i));
        }

    pub grow_end : (old now : List (List ℕ)) (next : ℕ) → HasGrown old now next → length table ≤ next → now ≡ take cap (old ++ blocks_below before mode len table n front (length table))
    grow_end old now next had end = let reached = had.reached in let is : next ≡ length table = omega arith in had.grown ∙ ap (λ k. take cap (old ++ below k)) is

    -- no more than the cap was found
    pub grown_room : (old now : List (List ℕ)) (next : ℕ) → HasGrown old now next → length now ≤ cap
    grown_room old now next had = omega (arith, length-first cap (old ++ below next), ap length had.grown)

  at_most_one : (b : Bool) (l : List (List ℕ)) → length (cond b (take 1 l) []) ≤ 1
  at_most_one true l = length-first 1 l
  at_most_one false l = omega arith

  -- with a signature's own finding there are no more than the cap
  pub finding_room : (signature : List ℕ) (cap : ℕ) (old : List (List ℕ)) → length old < cap → length (old ++ finding before mode len table signature) ≤ cap
  finding_room signature cap old room =
      omega (arith, length-append old (found signature), at_most_one (begins_least signature) (filter (λ positions. is_turn signature (signature_of table positions)) (all_cycles before mode len (edges_of_table table))))

  -- there is no room for more
  pub grow_full : (n : ℕ) (front : List ℕ) (cap : ℕ) (old : List (List ℕ)) → length old ≤ cap → cap ≤ length old → old ≡ take cap (old ++ block before mode len table n front)
  grow_full n front cap old room full = sym (take-full cap old (block before mode len table n front) (omega arith))

  -- a front that leads to nothing adds nothing
  pub grow_none : (n : ℕ) (front : List ℕ) (cap : ℕ) (old : List (List ℕ)) → length old ≤ cap → block before mode len table n front ≡ [] → old ≡ take cap (old ++ block before mode len table n front)
  grow_none n front cap old room none = sym (ap (λ l. take cap (old ++ l)) none ∙ ap (take cap) (append-nil old) ∙ take_all cap old room)

  -- a signature that may not be longer
  pub grow_alone : (front : List ℕ) (cap : ℕ) (old now : List (List ℕ)) → length old < cap → now ≡ old ++ finding before mode len table front → now ≡ take cap (old ++ block before mode len table 0 front)
  grow_alone front cap old now room is =
      is ∙ sym (take_all cap (old ++ found front) (finding_room front cap old room)) ∙ ap (λ l. take cap (old ++ l)) (sym (block-zero front))

  -- its own finding, and then what goes on from it
  pub grow_whole : (n : ℕ) (front : List ℕ) (cap : ℕ) (old own now : List (List ℕ)) → own ≡ old ++ finding before mode len table front → now ≡ take cap (own ++ blocks_below before mode len table n front (length table))
      → now ≡ take cap (old ++ block before mode len table (suc n) front)
  grow_whole n front cap old own now is grown =
      let rest = blocks_below before mode len table n front (length table) in
      grown ∙ ap (λ l. take cap (l ++ rest)) is ∙ ap (take cap) (append_assoc old (found front) rest) ∙ ap (λ l. take cap (old ++ l)) (sym (block-suc n front))
