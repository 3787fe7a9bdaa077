-- The names of threads are apart, so that each is new when it is told.
use Rattle.std.proofs.Common.{◌≡◌, ◌≢◌, ℕ, zero, suc, ◌+◌, ◌<◌, ◌≤◌, ◌^◌, List, [], ◌∷◌, ◌++◌, length, drop, position, None, refl, sym, ap, ◌∙◌, add-one, arith}
use Rattle.std.specs.Option.{option_map_or}
use Rattle.std.specs.Str.{bytes_eq}
use Rattle.std.proofs.lemmas.Fmt.{decimal_injective}
use Rattle.std.proofs.lemmas.List.FromFn.{map-range_with_len_more}
use Rattle.gl_std.specs.Names.{with_new}
use Rattle.gl_std.proofs.Places.{position-push, place_after, other_name}
use Rattle.gl_c.specs.Opening.{thread_name, thread_names}

apart : (n k : ℕ) → k < n → n < 2 ^ 64 → thread_name n ≢ thread_name k
apart n k less fits same = let equal = decimal_injective n k fits (omega arith) (ap (drop 1) same) in omega arith

thread_names_more : (k : ℕ) → thread_names (k + 1) ≡ thread_names k ++ thread_name k ∷ []
thread_names_more k = map-range_with_len_more thread_name 0 k k (omega arith)

-- a thread's name is none of those before it
new_name : (n k : ℕ) → k ≤ n → n < 2 ^ 64 → position (bytes_eq (thread_name n)) (thread_names k) ≡ None
new_name n zero less fits = refl
new_name n (suc k) less fits =
    let test = bytes_eq (thread_name n) in
    let names = thread_names k in
    let before = new_name n k (omega arith) fits in
    let other = other_name (thread_name n) (thread_name k) (apart n k (omega arith) fits) in
    let more : thread_names (suc k) ≡ names ++ thread_name k ∷ [] = ap thread_names (sym (add-one k)) ∙ thread_names_more k in
    ap (position test) more ∙ position-push test names (thread_name k)
    ∙ ap (λ r. place_after r (test (thread_name k)) (length names)) before ∙ ap (λ b. place_after None b (length names)) other

-- the next thread's name joins those before it
pub next_named : (names : List (List ℕ)) (k : ℕ) → k < 2 ^ 64 → names ≡ thread_names k
    → with_new names (thread_name k) ≡ thread_names (k + 1)
next_named names k fits are =
    let before = thread_names k in
    ap (λ them. with_new them (thread_name k)) are
    ∙ ap (λ r. option_map_or (λ _. before) r (before ++ thread_name k ∷ [])) (new_name k k (omega arith) fits)
    ∙ sym (thread_names_more k)
