-- Cutting a text at a byte.
use Rattle.std.proofs.Common.{◌≡◌, ℕ, zero, suc, ◌+◌, ◌-◌, ◌<◌, Bool, true, false, cond, eqb, ◌||◌, List, [], ◌∷◌, ◌++◌, length, take, drop, Option, Some, None, refl, sym, ap, ◌∙◌, arith, add-one}
use Rattle.std.specs.List.{list_any}
use Rattle.std.specs.Option.{option_map}
use Rattle.std.proofs.lemmas.Bool.{eqb-true}
use Rattle.std.proofs.lemmas.List.{take_all, length-drop}
use Rattle.bstr.specs.Find.{Nowhere, NoneBefore, Passes, is_byte}
use Rattle.gl_std.specs.Line.{cut_at}

abbrev none_before : List ℕ → Option (List ℕ × List ℕ)
none_before rest = Some ([], rest)

abbrev onto : ℕ → Option (List ℕ × List ℕ) → Option (List ℕ × List ℕ)
onto b = option_map (λ parts. (b ∷ parts.0, parts.1))

-- the text is cut into these two parts
abbrev pub IsCut : ℕ → List ℕ → List ℕ → List ℕ → Type 0
IsCut byte text front rest = let parts : List ℕ × List ℕ = (front, rest) in cut_at byte text ≡ Some parts

-- a text without the byte isn't cut
pub cut_at-none : (byte : ℕ) (text : List ℕ) → Nowhere (Passes (is_byte byte) text) 0 (length text) → cut_at byte text ≡ None
cut_at-none byte [] h = refl
cut_at-none byte (b ∷ rest) h = by (eqb b byte) refl (cut_at-none byte rest (λ k low high here. h (suc k) (omega arith) (omega arith) here))
  where
    by : (v : Bool) → eqb b byte ≡ v → cut_at byte rest ≡ None → cond v (none_before rest) (onto b (cut_at byte rest)) ≡ None
    by true e later = absurd (h 0 (omega arith) (omega arith) e)
    by false e later = ap (onto b) later

-- a text is cut at the first such byte
cut_at-place : (byte : ℕ) (text : List ℕ) (k : ℕ) → k < length text → Nowhere (Passes (is_byte byte) text) 0 k → Passes (is_byte byte) text k → cut_at byte text ≡ Some (take k text, drop (suc k) text)
cut_at-place byte [] k within before here = absurd (omega arith)
cut_at-place byte (b ∷ rest) zero within before here = ap (λ v. cond v (none_before rest) (onto b (cut_at byte rest))) here
cut_at-place byte (b ∷ rest) (suc k) within before here = by (eqb b byte) refl (cut_at-place byte rest k (omega arith) (λ j low high there. before (suc j) (omega arith) (omega arith) there) here)
  where
    by : (v : Bool) → eqb b byte ≡ v → cut_at byte rest ≡ Some (take k rest, drop (suc k) rest) → cond v (none_before rest) (onto b (cut_at byte rest)) ≡ Some (b ∷ take k rest, drop (suc k) rest)
    by true e later = absurd (before 0 (omega arith) (omega arith) e)
    by false e later = ap (onto b) later

-- the two parts, as slices of the text
pub cut_at-first : (byte : ℕ) (text : List ℕ) (k : ℕ) → NoneBefore (Passes (is_byte byte) text) 0 (length text) k → Passes (is_byte byte) text k → Some (take k text, take (length text - (k + 1)) (drop (k + 1) text)) ≡ cut_at byte text
cut_at-first byte text k first here =
    let rest : take (length text - (k + 1)) (drop (k + 1) text) ≡ drop (k + 1) text = take_all (length text - (k + 1)) (drop (k + 1) text) (omega (arith, length-drop (k + 1) text)) in
    rw rest (ap (λ n. Some (take k text, drop n text)) (add-one k) ∙ sym (cut_at-place byte text k first.high first.before here))

-- whether the text holds the byte
abbrev pub holds : ℕ → List ℕ → Bool
holds byte = list_any (λ b. eqb b byte)

abbrev first_part : Option (List ℕ × List ℕ) → List ℕ
first_part None = []
first_part (Some parts) = parts.0

abbrev second_part : Option (List ℕ × List ℕ) → List ℕ
second_part None = []
second_part (Some parts) = parts.1

-- the text is the parts with the byte between them, and the first one doesn't hold the byte
abbrev pub AreParts : ℕ → List ℕ → List ℕ → List ℕ → Type 0
AreParts byte text front rest = (text ≡ front ++ byte ∷ rest) × (holds byte front ≡ false)

-- what a cut tells
pub cut_at-Some : (byte : ℕ) (text : List ℕ) (parts : List ℕ × List ℕ) → cut_at byte text ≡ Some parts → AreParts byte text parts.0 parts.1
cut_at-Some byte [] parts h = absurd (some_none h)
  where
    some_none : None ≡ Some parts → ⊥
    some_none e = cc
cut_at-Some byte (b ∷ text) parts h = by (eqb b byte) refl (cut_at byte text) refl (cut_at-Some byte text) h
  where
    by : (v : Bool) → eqb b byte ≡ v → (r : Option (List ℕ × List ℕ)) → cut_at byte text ≡ r → ((p : List ℕ × List ℕ) → cut_at byte text ≡ Some p → AreParts byte text p.0 p.1) → cond v (none_before text) (onto b r) ≡ Some parts → AreParts byte (b ∷ text) parts.0 parts.1
    by true e r is later h =
        let front : [] ≡ parts.0 = ap first_part h in
        let rest : text ≡ parts.1 = ap second_part h in
        (ap (λ x. x ∷ text) (eqb-true b byte e) ∙ ap (λ f. f ++ byte ∷ text) front ∙ ap (λ s. parts.0 ++ byte ∷ s) rest, ap (holds byte) (sym front))
    by false e None is later h = absurd cc
    by false e (Some p) is later h =
        let front : b ∷ p.0 ≡ parts.0 = ap first_part h in
        let rest : p.1 ≡ parts.1 = ap second_part h in
        let below = later p is in
        let none : holds byte (b ∷ p.0) ≡ false = cc (e, below.1) in
        (ap (λ xs. b ∷ xs) below.0 ∙ ap (λ f. f ++ byte ∷ p.1) front ∙ ap (λ s. parts.0 ++ byte ∷ s) rest, sym (ap (holds byte) front) ∙ none)

-- a text that isn't cut doesn't hold the byte
pub cut_at-None : (byte : ℕ) (text : List ℕ) → cut_at byte text ≡ None → holds byte text ≡ false
cut_at-None byte [] h = refl
cut_at-None byte (b ∷ text) h = by (eqb b byte) refl (cut_at byte text) refl (cut_at-None byte text) h
  where
    by : (v : Bool) → eqb b byte ≡ v → (r : Option (List ℕ × List ℕ)) → cut_at byte text ≡ r → (cut_at byte text ≡ None → holds byte text ≡ false) → cond v (none_before text) (onto b r) ≡ None → (v || holds byte text) ≡ false
    by true e r is later h = cc
    by false e None is later h = later is
    by false e (Some parts) is later h = cc
