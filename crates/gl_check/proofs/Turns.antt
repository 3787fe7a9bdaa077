-- Signatures class by class, and the least of their turns, turn by turn.
use Rattle.std.proofs.Common.{◌≡◌, ℕ, ◌+◌, ◌<◌, List, [], ◌∷◌, ◌++◌, length, take, get_or, ap, ◌∙◌, arith}
use Rattle.std.specs.Prelude.{slice_get}
use Rattle.std.specs.List.{cons_option, filter_map, fold, range_with_len}
use Rattle.std.proofs.lemmas.List.{take_more}
use Rattle.std.proofs.lemmas.List.Elements.{filter_map-append}
use Rattle.std.proofs.lemmas.List.Sums.{fold_push}
use Rattle.std.proofs.lemmas.Option.{slice_get-get_or}
use Rattle.gl_index.proofs.Lists.{range-more}
use Rattle.gl_findings.specs.Findings.{turned}
use Rattle.gl_check.specs.Signatures.{lesser_list}

-- one class more
pub class_more : (classes positions : List ℕ) (i : ℕ) → i < length positions → get_or positions i 0 < length classes
    → filter_map (slice_get classes) (take (i + 1) positions) ≡ filter_map (slice_get classes) (take i positions) ++ get_or classes (get_or positions i 0) 0 ∷ []
class_more classes positions i within below =
    ap (filter_map (slice_get classes)) (take_more positions i 0 within) ∙ filter_map-append (slice_get classes) (take i positions) (get_or positions i 0 ∷ [])
    ∙ ap (λ o. filter_map (slice_get classes) (take i positions) ++ cons_option o []) (slice_get-get_or classes (get_or positions i 0) 0 below)

-- one turn more
pub turn_more : (signature : List ℕ) (k : ℕ)
    → fold (λ least j. lesser_list least (turned j signature)) signature (range_with_len 0 (k + 1)) ≡ lesser_list (fold (λ least j. lesser_list least (turned j signature)) signature (range_with_len 0 k)) (turned k signature)
turn_more signature k =
    let e : 0 + k ≡ k = omega arith in
    ap (fold (λ least j. lesser_list least (turned j signature)) signature) (range-more 0 k ∙ ap (λ n. range_with_len 0 k ++ n ∷ []) e)
    ∙ fold_push (λ least j. lesser_list least (turned j signature)) signature (range_with_len 0 k) k
