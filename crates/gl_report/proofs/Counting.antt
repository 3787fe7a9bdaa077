-- Sums over lists that vectors hold.
use Rattle.std.proofs.Common.{◌≡◌, ℕ, zero, suc, ◌+◌, ◌*◌, ◌<◌, ◌≤◌, List, [], ◌∷◌, length, take, get_or, map, Some, slice_get, Bool, true, false, cond, refl, sym, ap, ◌∙◌, arith}
use Rattle.std.specs.Int.{from_bool}
use Rattle.std.specs.List.{sum_by}
use Rattle.std.proofs.lemmas.List.{map_more}
use Rattle.std.proofs.lemmas.List.Sums.{sum_by_more, sum_by_push, sum_by-cons, count_by-le-length}
use Rattle.gl_event.specs.Bounds.{greatest}
use Rattle.gl_event.specs.Events.{closes, segment}
use Rattle.gl_event.specs.Lawful.{AreLawful}
use Rattle.gl_event.specs.declared.events.Event.{Event}
use Rattle.gl_report.specs.Counts.{event_count, segment_count}
use Rattle.gl_segments.proofs.Cutting.{lawful_length, segment_take}

-- the sum so far, and with one term more
pub summed_more : {V X : Type 0} (f : X → ℕ) (g : V → X) (vs : List V) (i : ℕ) (d : V) (now more : ℕ) → i < length vs
    → now ≡ sum_by f (map g (take i vs)) → more ≡ now + f (g (get_or vs i d)) → more ≡ sum_by f (map g (take (i + 1) vs))
summed_more f g vs i d now more within before put =
    put ∙ ap (λ n. n + f (g (get_or vs i d))) before ∙ sym (sum_by_push f (map g (take i vs)) (g (get_or vs i d))) ∙ ap (sum_by f) (sym (map_more g vs i d within))

-- is within the whole sum
pub summed_within : {V X : Type 0} (f : X → ℕ) (g : V → X) (vs : List V) (i : ℕ) (d : V) → i < length vs
    → sum_by f (map g (take i vs)) + f (g (get_or vs i d)) ≤ sum_by f (map g vs)
summed_within f g [] i d within = absurd (omega arith)
summed_within f g (v ∷ vs) zero d within =
    let whole = sum_by-cons f (g v) (map g vs) in
    omega arith
summed_within f g (v ∷ vs) (suc i) d within =
    let rest = summed_within f g vs i d (omega arith) in
    let whole = sum_by-cons f (g v) (map g vs) in
    let front = sum_by-cons f (g v) (map g (take i vs)) in
    omega arith

-- a term of a small sum is small
pub term_within : {V X : Type 0} (f : X → ℕ) (g : V → X) (vs : List V) (i : ℕ) (v : V) (term most : ℕ) → i < length vs → v ≡ get_or vs i v
    → term ≡ f (g v) → sum_by f (map g vs) < most → term < most
term_within f g vs i v term most within is that small =
    let sum = summed_within f g vs i v within in
    let same = that ∙ ap (λ w. f (g w)) is in
    omega arith

-- and so is the sum up to it
pub within_sum : {V X : Type 0} (f : X → ℕ) (g : V → X) (vs : List V) (i : ℕ) (v : V) (now term most : ℕ) → i < length vs → v ≡ get_or vs i v
    → now ≡ sum_by f (map g (take i vs)) → term ≡ f (g v) → sum_by f (map g vs) < most → now + term < most
within_sum f g vs i v now term most within is before that small =
    let sum = summed_within f g vs i v within in
    let same = that ∙ ap (λ w. f (g w)) is in
    omega arith

abbrev one_or_none : Bool → ℕ
one_or_none b = cond b 1 0

one_if : (b : Bool) → from_bool b ≡ one_or_none b
one_if true = refl
one_if false = refl

-- no events close no segment
pub none_closed : 1 ≡ segment [] + 1
unfolding segment
none_closed = refl

closed_more : (es : List Event) (i : ℕ) (e : Event) → i < length es → segment (take (i + 1) es) ≡ segment (take i es) + one_or_none (closes (get_or es i e))
unfolding segment
closed_more es i e within = sum_by_more (λ e. cond (closes e) 1 0) es i e within

-- the segments so far, and one more where the event closes one
pub segments_more : (es : List Event) (i : ℕ) (e : Event) (now more : ℕ) → i < length es → e ≡ get_or es i e
    → now ≡ segment (take i es) + 1 → (b : Bool) → more ≡ from_bool b → b ≡ closes e → now + more ≡ segment (take (i + 1) es) + 1
segments_more es i e now more within is before b that closing =
    let step = closed_more es i e within in
    let same = that ∙ one_if b ∙ ap one_or_none (closing ∙ ap closes is) in
    omega arith

-- is within the whole
pub segments_within : (es : List Event) (i : ℕ) (e : Event) (now more most : ℕ) → i < length es → e ≡ get_or es i e
    → now ≡ segment (take i es) + 1 → (b : Bool) → more ≡ from_bool b → b ≡ closes e → segment es + 1 < most → now + more < most
segments_within es i e now more most within is before b that closing small =
    let step = segments_more es i e now more within is before b that closing in
    let front = segment_take es (i + 1) in
    omega arith

-- terms that are small have a sum that is
small_sum : {X : Type 0} (f : X → ℕ) (m : ℕ) (xs : List X) → ((i : ℕ) (x : X) → slice_get xs i ≡ Some x → f x ≤ m) → sum_by f xs ≤ length xs * m
small_sum f m [] small = omega arith
small_sum f m (x ∷ xs) small =
    let first = small 0 x refl in
    let rest = small_sum f m xs (λ i y is. small (suc i) y is) in
    let whole = sum_by-cons f x xs in
    omega arith

-- lawful lists have few events and few segments
pub few_events : (lists : List (List Event)) → AreLawful greatest lists → event_count lists < 18446744073709551616
few_events lists lawful =
    let small = small_sum length 4000000000 lists (λ t es is. lawful_length t es (lawful.each t es is)) in
    omega arith

pub few_segments : (lists : List (List Event)) → AreLawful greatest lists → segment_count lists < 18446744073709551616
unfolding segment
few_segments lists lawful =
    let small = small_sum (λ es. segment es + 1) 4000000001 lists (λ t es is. let short = lawful_length t es (lawful.each t es is) in let closed = count_by-le-length closes es in omega arith) in
    omega arith
