-- The first place of a byte, found sixteen bytes at a time.
use Rattle.std.proofs.Common.{⊎_elim, ◌≡◌, ℕ, ◌+◌, ◌-◌, ◌<◌, ◌≤◌, not, eqb, List, length, take, drop, get_or, sym, ap, ◌∙◌, arith}
use Rattle.std.specs.List.{prefix_len}
use Rattle.std.proofs.lemmas.Simd.{run_in_chunk_fails, run_in_chunk_stops, length-chunk}
use Rattle.std.proofs.lemmas.List.{get_or-drop, get_or-take}
use Rattle.std.proofs.lemmas.Bool.{cases_lt, false≢true}
use Rattle.bstr.specs.Find.{NoneBefore, Nowhere, Passes, is_byte}

-- how many of the sixteen bytes from a place on come before the first one that is this byte
abbrev pub run_of : ℕ → List ℕ → ℕ → ℕ
run_of byte text at = prefix_len (λ b. not (eqb b byte)) (take 16 (drop at text))

-- none of the bytes of a run is the one that is looked for
pub run_passes : (byte : ℕ) (text : List ℕ) (at run : ℕ) → at + 16 ≤ length text → run ≡ run_of byte text at → Nowhere (Passes (is_byte byte) text) at (at + run)
run_passes byte text at run room is k low high here =
    false≢true (sym (run_in_chunk_fails (λ b. eqb b byte) text at 16 run 0 room is k low high) ∙ here)

-- a run that isn't whole ends before that byte
pub run_stops : (byte : ℕ) (text : List ℕ) (at run : ℕ) → at + 16 ≤ length text → run ≡ run_of byte text at → run < 16 → Passes (is_byte byte) text (at + run)
run_stops byte text at run room is short = run_in_chunk_stops (λ b. eqb b byte) text at 16 run 0 room is short

-- a byte of the rest of a text, from a place on
tail_byte : (text : List ℕ) (from k : ℕ) → from ≤ k → k < length text → get_or (take (length text - from) (drop from text)) (k - from) 0 ≡ get_or text k 0
tail_byte text from k low high =
    let back : from + (k - from) ≡ k = omega arith in
    get_or-take (length text - from) (drop from text) (k - from) 0 (omega arith) ∙ get_or-drop from text (k - from) 0 ∙ ap (λ n. get_or text n 0) back

-- what is found in the rest of a text is found in the text
pub found_in_rest : (byte : ℕ) (text : List ℕ) (from place : ℕ) → from ≤ length text
    → NoneBefore (Passes (is_byte byte) (take (length text - from) (drop from text))) 0 (length (take (length text - from) (drop from text))) place × Passes (is_byte byte) (take (length text - from) (drop from text)) place
    → NoneBefore (Passes (is_byte byte) text) from (length text) (from + place) × Passes (is_byte byte) text (from + place)
found_in_rest byte text from place within found =
    let long : length (take (length text - from) (drop from text)) ≡ length text - from = length-chunk from (length text - from) text (omega arith) in
    let high : from + place < length text = omega (arith, long, found.0.high) in
    let here = tail_byte text from (from + place) (omega arith) high in
    let back : from + place - from ≡ place = omega arith in (
      record {
        low = omega arith;
        high = high;
        before = λ k low below passes. found.0.before (k - from) (omega arith) (omega arith) (ap (λ b. eqb b byte) (tail_byte text from k low (omega arith)) ∙ passes);
      },
      ap (λ b. eqb b byte) (sym here ∙ ap (λ n. get_or (take (length text - from) (drop from text)) n 0) back) ∙ found.1,
    )

-- what isn't in the rest of a text isn't found from there on
pub absent_in_rest : (byte : ℕ) (text : List ℕ) (from : ℕ) → from ≤ length text
    → Nowhere (Passes (is_byte byte) (take (length text - from) (drop from text))) 0 (length (take (length text - from) (drop from text)))
    → Nowhere (Passes (is_byte byte) text) from (length text)
absent_in_rest byte text from within none k low high passes =
    let long : length (take (length text - from) (drop from text)) ≡ length text - from = length-chunk from (length text - from) text (omega arith) in
    none (k - from) (omega arith) (omega (arith, long)) (ap (λ b. eqb b byte) (tail_byte text from k low high) ∙ passes)

-- what holds nowhere before a place and nowhere from there on
pub joined : {P : ℕ → Type 0} {i j l : ℕ} → Nowhere P i j → Nowhere P j l → Nowhere P i l
joined {P} {i} {j} front back k low high = ⊎_elim (λ below. front k low below) (λ from. back k from high) (cases_lt k j)
