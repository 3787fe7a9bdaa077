-- Two texts that are the same where they were looked at.
use Rattle.std.proofs.Common.{◌≡◌, ℕ, zero, suc, ◌+◌, ◌-◌, ◌*◌, ◌%◌, ◌^◌, ◌<◌, ◌≤◌, Bool, true, false, not, cond, eqb, ◌&&◌, List, [], ◌∷◌, length, take, drop, get_or, map, refl, sym, ap, ◌∙◌, ⊎_elim, arith, w8}
use lib.Lanes.{mask_l, top, zip2}
use Rattle.std.specs.Str.{bytes_eq}
use Rattle.std.proofs.lemmas.Simd.{tops_compared, mask_l-mod, length-zip2, get_or-chunk}
use Rattle.std.proofs.lemmas.Slice.Eq.{bytes_eq-Decides}
use Rattle.std.proofs.lemmas.List.{ext_get_or}
use Rattle.std.proofs.lemmas.Bool.{cases_lt, ne_eqb, false≢true}

-- two bytes are different ones
abbrev pub differs : ℕ → ℕ → Bool
differs a b = not (eqb a b)

-- twice a mask is empty where the mask is, and one more than that never is
doubled : (mask : ℕ) → eqb (2 * mask) 0 ≡ eqb mask 0
doubled zero = refl
doubled (suc m) = ne_eqb (2 * suc m) 0 (λ e. omega arith) ∙ sym (ne_eqb (suc m) 0 (λ e. omega arith))

-- no bit is set in the mask of the places where two lists differ, just where they don't
mask_of_same : (xs ys : List ℕ) → length xs ≡ length ys → eqb (mask_l (zip2 differs xs ys)) 0 ≡ bytes_eq xs ys
mask_of_same [] [] e = refl
mask_of_same [] (y ∷ ys) e = absurd (omega arith)
mask_of_same (x ∷ xs) [] e = absurd (omega arith)
mask_of_same (x ∷ xs) (y ∷ ys) e = by (eqb x y) (mask_of_same xs ys (omega arith))
  where
    by : (v : Bool) → eqb (mask_l (zip2 differs xs ys)) 0 ≡ bytes_eq xs ys → eqb (cond (not v) 1 0 + 2 * mask_l (zip2 differs xs ys)) 0 ≡ (v && bytes_eq xs ys)
    by true same =
        let none : 0 + 2 * mask_l (zip2 differs xs ys) ≡ 2 * mask_l (zip2 differs xs ys) = omega arith in
        ap (λ m. eqb m 0) none ∙ doubled (mask_l (zip2 differs xs ys)) ∙ same
    by false same = ne_eqb (1 + 2 * mask_l (zip2 differs xs ys)) 0 (λ e. omega arith)

-- the same as the processor tells it
pub no_lane_differs : (xs ys : List ℕ) (n : ℕ) → length xs ≡ n → length ys ≡ n → n ≤ 64
    → eqb (mask_l (map (top 7) (zip2 (λ a b. cond (differs a b) 255 0) xs ys)) % 2 ^ 64) 0 ≡ bytes_eq xs ys
no_lane_differs xs ys n one other few =
    let long : length (zip2 differs xs ys) ≤ 64 = omega (arith, length-zip2 differs xs ys (one ∙ sym other)) in
    ap (λ ms. eqb (mask_l ms % 2 ^ 64) 0) (tops_compared w8 differs xs ys)
    ∙ ap (λ m. eqb m 0) (mask_l-mod (zip2 differs xs ys) 64 long)
    ∙ mask_of_same xs ys (one ∙ sym other)

-- the texts have the same bytes from i up to j
abbrev pub AreSame : List ℕ → List ℕ → ℕ → ℕ → Type 0
AreSame xs ys i j = (k : ℕ) → i ≤ k → k < j → get_or xs k 0 ≡ get_or ys k 0

-- pieces that are the same
pub same_pieces : (xs ys : List ℕ) (i n : ℕ) → bytes_eq (take n (drop i xs)) (take n (drop i ys)) ≡ true → AreSame xs ys i (i + n)
same_pieces xs ys i n same k low high =
    let back : i + (k - i) ≡ k = omega arith in
    ap (λ m. get_or xs m 0) (sym back)
    ∙ sym (get_or-chunk i n xs (k - i) 0 (omega arith))
    ∙ ap (λ piece. get_or piece (k - i) 0) ((bytes_eq-Decides (take n (drop i xs)) (take n (drop i ys))).0 same)
    ∙ get_or-chunk i n ys (k - i) 0 (omega arith)
    ∙ ap (λ m. get_or ys m 0) back

-- pieces that aren't
pub other_pieces : (xs ys : List ℕ) (i n : ℕ) → bytes_eq (take n (drop i xs)) (take n (drop i ys)) ≡ false → false ≡ bytes_eq xs ys
other_pieces xs ys i n apart = by (bytes_eq xs ys) refl
  where
    by : (v : Bool) → bytes_eq xs ys ≡ v → false ≡ v
    by false e = refl
    by true e = absurd (false≢true (sym apart ∙ (bytes_eq-Decides (take n (drop i xs)) (take n (drop i ys))).1 (ap (λ zs. take n (drop i zs)) ((bytes_eq-Decides xs ys).0 e))))

-- texts of one length that are the same up to a place and from a place before it on
pub same_whole : (xs ys : List ℕ) (i j : ℕ) → length xs ≡ length ys → i ≤ j → AreSame xs ys 0 j → AreSame xs ys i (length xs) → true ≡ bytes_eq xs ys
same_whole xs ys i j long near front back =
    sym ((bytes_eq-Decides xs ys).1 (ext_get_or 0 xs ys long (λ k within. ⊎_elim (λ below. front k (omega arith) below) (λ from. back k (omega arith) within) (cases_lt k j))))

-- two pieces of one size that cover the texts
pub by_two : (xs ys : List ℕ) (n : ℕ) → length xs ≡ length ys → n ≤ length xs → length xs ≤ n + n
    → (bytes_eq (take n (drop 0 xs)) (take n (drop 0 ys)) && bytes_eq (take n (drop (length xs - n) xs)) (take n (drop (length xs - n) ys))) ≡ bytes_eq xs ys
by_two xs ys n long one two = by (bytes_eq (take n (drop 0 xs)) (take n (drop 0 ys))) refl (bytes_eq (take n (drop (length xs - n) xs)) (take n (drop (length xs - n) ys))) refl
  where
    by : (v : Bool) → bytes_eq (take n (drop 0 xs)) (take n (drop 0 ys)) ≡ v → (w : Bool) → bytes_eq (take n (drop (length xs - n) xs)) (take n (drop (length xs - n) ys)) ≡ w → (v && w) ≡ bytes_eq xs ys
    by false e w f = other_pieces xs ys 0 n e
    by true e false f = other_pieces xs ys (length xs - n) n f
    by true e true f = same_whole xs ys (length xs - n) n long (omega arith) (λ k low high. same_pieces xs ys 0 n e k low (omega arith)) (λ k low high. same_pieces xs ys (length xs - n) n f k low (omega arith))

-- one more piece that is the same
pub more_same : (xs ys : List ℕ) (at n : ℕ) → AreSame xs ys 0 at → bytes_eq (take n (drop at xs)) (take n (drop at ys)) ≡ true → AreSame xs ys 0 (at + n)
more_same xs ys at n near same k low high = ⊎_elim (λ below. near k low below) (λ from. same_pieces xs ys at n same k from high) (cases_lt k at)

-- the last piece, which begins no later than where the bytes before are the same
pub last_piece : (xs ys : List ℕ) (at n : ℕ) → length xs ≡ length ys → n ≤ length xs → length xs ≤ at + n → AreSame xs ys 0 at
    → bytes_eq (take n (drop (length xs - n) xs)) (take n (drop (length xs - n) ys)) ≡ bytes_eq xs ys
last_piece xs ys at n long one near same = by (bytes_eq (take n (drop (length xs - n) xs)) (take n (drop (length xs - n) ys))) refl
  where
    by : (v : Bool) → bytes_eq (take n (drop (length xs - n) xs)) (take n (drop (length xs - n) ys)) ≡ v → v ≡ bytes_eq xs ys
    by false e = other_pieces xs ys (length xs - n) n e
    by true e = same_whole xs ys (length xs - n) at long (omega arith) same (λ k low high. same_pieces xs ys (length xs - n) n e k low (omega arith))
