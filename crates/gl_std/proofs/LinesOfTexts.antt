-- What the lines of a text are: one by one, and after any front of the text.
use Rattle.std.proofs.Common.{length-append, ◌≡◌, ◌≢◌, ℕ, zero, suc, ◌-◌, ◌<◌, Bool, true, false, cond, eqb, ◌||◌, ◌&&◌, List, [], ◌∷◌, ◌++◌, length, take, drop, Some, None, Contains, refl, sym, ap, subst, ◌∙◌, arith, append_assoc, get_or}
use Rattle.std.specs.List.{list_any, onto_first}
use Rattle.std.proofs.lemmas.Bool.{false≢true, eqb-true, eq-eqb}
use Rattle.std.proofs.lemmas.List.Folds.{Any-from_list_any, list_any_at}
use Rattle.std.proofs.lemmas.List.{get_or_default}
use Rattle.gl_std.specs.Line.{cut_at}
use Rattle.gl_std.proofs.Cutting.{cut_at-Some, cut_at-None}
use Rattle.gl_std.specs.Lines.{LF, CR, begins_with, lines, without_cr, EndsWithCR, HasLines}
use Rattle.gl_std.specs.Lines.HasLines.{no_line, last_line, ended_by_lf, ended_by_cr_lf}

-- ---- what follows an LF

begins_with-append : (byte : ℕ) (front xs ys : List ℕ) → begins_with byte (front ++ byte ∷ xs) ≡ begins_with byte (front ++ byte ∷ ys)
begins_with-append byte [] xs ys = refl
begins_with-append byte (b ∷ front) xs ys = refl

some_onto_first : (b : ℕ) (ls : List (List ℕ)) → 0 < length (onto_first b ls)
some_onto_first b [] = omega arith
some_onto_first b (l ∷ ls) = omega arith

some_line : (front rest : List ℕ) → 0 < length (lines (front ++ LF ∷ rest))
some_line [] rest = omega arith
some_line (b ∷ front) rest =
    let later = some_line front rest in
    let here = some_onto_first b (lines (front ++ LF ∷ rest)) in
    elim (eqb b LF) as (λ v. 0 < length (cond v ([] ∷ lines (front ++ LF ∷ rest)) (cond (eqb b CR && begins_with LF (front ++ LF ∷ rest)) (lines (front ++ LF ∷ rest)) (onto_first b (lines (front ++ LF ∷ rest)))))) [
      | true ↦ omega arith
      | false ↦ elim (eqb b CR && begins_with LF (front ++ LF ∷ rest)) as (λ v. 0 < length (cond v (lines (front ++ LF ∷ rest)) (onto_first b (lines (front ++ LF ∷ rest))))) [ true ↦ later | false ↦ here ]
    ]

onto_first-append : (b : ℕ) (xs ys : List (List ℕ)) → 0 < length xs → onto_first b (xs ++ ys) ≡ onto_first b xs ++ ys
onto_first-append b [] ys h = absurd (omega arith)
onto_first-append b (x ∷ xs) ys h = refl

pub lines-after_line : (front rest : List ℕ) → lines (front ++ LF ∷ rest) ≡ lines (front ++ LF ∷ []) ++ lines rest
lines-after_line [] rest = refl
lines-after_line (b ∷ front) rest =
    let later = lines-after_line front rest in
    let same = begins_with-append LF front rest [] in
    let some = some_line front [] in
    let onto : onto_first b (lines (front ++ LF ∷ rest)) ≡ onto_first b (lines (front ++ LF ∷ [])) ++ lines rest = ap (onto_first b) later ∙ onto_first-append b (lines (front ++ LF ∷ [])) (lines rest) some in
    let inner : cond (eqb b CR && begins_with LF (front ++ LF ∷ rest)) (lines (front ++ LF ∷ rest)) (onto_first b (lines (front ++ LF ∷ rest))) ≡ cond (eqb b CR && begins_with LF (front ++ LF ∷ [])) (lines (front ++ LF ∷ [])) (onto_first b (lines (front ++ LF ∷ []))) ++ lines rest =
    ap (λ v. cond (eqb b CR && v) (lines (front ++ LF ∷ rest)) (onto_first b (lines (front ++ LF ∷ rest)))) same
    ∙ elim (eqb b CR && begins_with LF (front ++ LF ∷ [])) as (λ v. cond v (lines (front ++ LF ∷ rest)) (onto_first b (lines (front ++ LF ∷ rest))) ≡ cond v (lines (front ++ LF ∷ [])) (onto_first b (lines (front ++ LF ∷ []))) ++ lines rest) [ true ↦ later | false ↦ onto ] in
    elim (eqb b LF) as (λ v. cond v ([] ∷ lines (front ++ LF ∷ rest)) (cond (eqb b CR && begins_with LF (front ++ LF ∷ rest)) (lines (front ++ LF ∷ rest)) (onto_first b (lines (front ++ LF ∷ rest)))) ≡ cond v ([] ∷ lines (front ++ LF ∷ [])) (cond (eqb b CR && begins_with LF (front ++ LF ∷ [])) (lines (front ++ LF ∷ [])) (onto_first b (lines (front ++ LF ∷ [])))) ++ lines rest) [
      | true ↦ ap (λ ls. [] ∷ ls) later
      | false ↦ inner
    ]

-- ---- the first line

-- whether the text holds LF
abbrev pub holds_lf : List ℕ → Bool
holds_lf = list_any (λ b. eqb b LF)

or_left : (a b : Bool) → (a || b) ≡ false → a ≡ false
or_left true b h = h
or_left false b h = refl

or_right : (a b : Bool) → (a || b) ≡ false → b ≡ false
or_right true b h = absurd (false≢true (sym h))
or_right false b h = h

begins_with-line : (b : ℕ) (line rest : List ℕ) → (eqb b LF || holds_lf line) ≡ false → begins_with LF (b ∷ (line ++ LF ∷ rest)) ≡ false
begins_with-line b line rest h = or_left (eqb b LF) (holds_lf line) h

-- the first line of a text, where LF ends it
pub lines-first : (line rest : List ℕ) → holds_lf line ≡ false → lines (line ++ LF ∷ rest) ≡ without_cr line ∷ lines rest
lines-first [] rest h = refl
lines-first (b ∷ []) rest h =
    let here = or_left (eqb b LF) false h in
    ap (λ v. cond v ([] ∷ ([] ∷ lines rest)) (cond (eqb b CR && true) ([] ∷ lines rest) ((b ∷ []) ∷ lines rest))) here
    ∙ elim (eqb b CR) as (λ v. cond (v && true) ([] ∷ lines rest) ((b ∷ []) ∷ lines rest) ≡ cond (v && true) [] (b ∷ []) ∷ lines rest) [ true ↦ refl | false ↦ refl ]
lines-first (b ∷ c ∷ line) rest h =
    let here = or_left (eqb b LF) (holds_lf (c ∷ line)) h in
    let after = or_right (eqb b LF) (holds_lf (c ∷ line)) h in
    let next = or_left (eqb c LF) (holds_lf line) after in
    let later = lines-first (c ∷ line) rest after in
    ap (λ v. cond v ([] ∷ lines (c ∷ (line ++ LF ∷ rest))) (cond (eqb b CR && begins_with LF (c ∷ (line ++ LF ∷ rest))) (lines (c ∷ (line ++ LF ∷ rest))) (onto_first b (lines (c ∷ (line ++ LF ∷ rest)))))) here
    ∙ ap (λ v. cond (eqb b CR && v) (lines (c ∷ (line ++ LF ∷ rest))) (onto_first b (lines (c ∷ (line ++ LF ∷ rest))))) next
    ∙ elim (eqb b CR) as (λ v. cond (v && false) (lines (c ∷ (line ++ LF ∷ rest))) (onto_first b (lines (c ∷ (line ++ LF ∷ rest)))) ≡ cond (v && false) [] (b ∷ without_cr (c ∷ line)) ∷ lines rest) [ true ↦ ap (onto_first b) later | false ↦ ap (onto_first b) later ]

-- a text without LF is one line, if it isn't empty
pub lines-last : (b : ℕ) (line : List ℕ) → holds_lf (b ∷ line) ≡ false → lines (b ∷ line) ≡ (b ∷ line) ∷ []
lines-last b [] h =
    let here = or_left (eqb b LF) false h in
    ap (λ v. cond v ([] ∷ []) (cond (eqb b CR && false) [] ((b ∷ []) ∷ []))) here
    ∙ elim (eqb b CR) as (λ v. cond (v && false) [] ((b ∷ []) ∷ []) ≡ (b ∷ []) ∷ []) [ true ↦ refl | false ↦ refl ]
lines-last b (c ∷ line) h =
    let here = or_left (eqb b LF) (holds_lf (c ∷ line)) h in
    let after = or_right (eqb b LF) (holds_lf (c ∷ line)) h in
    let next = or_left (eqb c LF) (holds_lf line) after in
    let later = lines-last c line after in
    ap (λ v. cond v ([] ∷ lines (c ∷ line)) (cond (eqb b CR && begins_with LF (c ∷ line)) (lines (c ∷ line)) (onto_first b (lines (c ∷ line))))) here
    ∙ ap (λ v. cond (eqb b CR && v) (lines (c ∷ line)) (onto_first b (lines (c ∷ line)))) next
    ∙ elim (eqb b CR) as (λ v. cond (v && false) (lines (c ∷ line)) (onto_first b (lines (c ∷ line))) ≡ (b ∷ c ∷ line) ∷ []) [ true ↦ ap (onto_first b) later | false ↦ ap (onto_first b) later ]

-- ---- the lines are those of the text, and no others

pub no_lf : (line : List ℕ) → ¬ Contains line LF → holds_lf line ≡ false
no_lf line none = by (holds_lf line) refl
  where
    by : (v : Bool) → holds_lf line ≡ v → v ≡ false
    by true e =
        let at = Any-from_list_any (λ b. eqb b LF) line e in
        let is : at.1 ≡ LF = eqb-true at.1 LF at.4 in
        absurd (none (at.0, at.2, get_or_default line at.0 LF at.1 at.2 ∙ at.3 ∙ is))
    by false e = refl

pub lf_free : (line : List ℕ) → holds_lf line ≡ false → ¬ Contains line LF
lf_free line h has = false≢true (sym h ∙ list_any_at (λ b. eqb b LF) line has.0 LF has.1 (eq-eqb (get_or line has.0 LF) LF has.2))

both_false : (a b : Bool) → a ≡ false → b ≡ false → (a || b) ≡ false
both_false a b p q = cc

lf_free_cons : (b : ℕ) (line : List ℕ) → eqb b LF ≡ false → ¬ Contains line LF → ¬ Contains (b ∷ line) LF
lf_free_cons b line h none = lf_free (b ∷ line) (both_false (eqb b LF) (holds_lf line) h (no_lf line none))

lf_free_nil : ¬ Contains [] LF
lf_free_nil = lf_free [] refl

-- a line that holds no LF doesn't begin with it
not_first : (c : ℕ) (line : List ℕ) → ¬ Contains (c ∷ line) LF → eqb c LF ≡ false
not_first c line none = or_left (eqb c LF) (holds_lf line) (no_lf (c ∷ line) none)

no_cr_nil : ¬ EndsWithCR []
no_cr_nil ([], e) = cc
no_cr_nil (f ∷ fs, e) = cc

no_cr_cons : (b c : ℕ) (line : List ℕ) → ¬ EndsWithCR (c ∷ line) → ¬ EndsWithCR (b ∷ c ∷ line)
no_cr_cons b c line none ([], e) = cc
no_cr_cons b c line none (f ∷ fs, e) = let rest : c ∷ line ≡ fs ++ CR ∷ [] = cc in none (fs, rest)

without_cr-none : (line : List ℕ) → ¬ EndsWithCR line → without_cr line ≡ line
without_cr-none [] none = refl
without_cr-none (b ∷ []) none = by (eqb b CR) refl
  where
    by : (v : Bool) → eqb b CR ≡ v → cond (v && true) [] (b ∷ []) ≡ b ∷ []
    by true e = absurd (none ([], ap (λ x. x ∷ []) (eqb-true b CR e)))
    by false e = refl
without_cr-none (b ∷ c ∷ line) none =
    let later : without_cr (c ∷ line) ≡ c ∷ line = without_cr-none (c ∷ line) (λ ends. none (b ∷ ends.0, ap (λ xs. b ∷ xs) ends.1)) in
    elim (eqb b CR) as (λ v. cond (v && false) [] (b ∷ without_cr (c ∷ line)) ≡ b ∷ c ∷ line) [ true ↦ ap (λ xs. b ∷ xs) later | false ↦ ap (λ xs. b ∷ xs) later ]

pub without_cr-append : (line : List ℕ) → without_cr (line ++ CR ∷ []) ≡ line
without_cr-append [] = refl
without_cr-append (b ∷ []) = elim (eqb b CR) as (λ v. cond (v && false) [] (b ∷ []) ≡ b ∷ []) [ true ↦ refl | false ↦ refl ]
without_cr-append (b ∷ c ∷ line) =
    let later : without_cr (c ∷ (line ++ CR ∷ [])) ≡ c ∷ line = without_cr-append (c ∷ line) in
    elim (eqb b CR) as (λ v. cond (v && false) [] (b ∷ without_cr (c ∷ (line ++ CR ∷ []))) ≡ b ∷ c ∷ line) [ true ↦ ap (λ xs. b ∷ xs) later | false ↦ ap (λ xs. b ∷ xs) later ]

pub holds_lf-cr : (line : List ℕ) → holds_lf line ≡ false → holds_lf (line ++ CR ∷ []) ≡ false
holds_lf-cr [] h = refl
holds_lf-cr (b ∷ line) h = both_false (eqb b LF) (holds_lf (line ++ CR ∷ [])) (or_left (eqb b LF) (holds_lf line) h) (holds_lf-cr line (or_right (eqb b LF) (holds_lf line) h))

pub lines-last_line : (line : List ℕ) → line ≢ [] → holds_lf line ≡ false → lines line ≡ line ∷ []
lines-last_line [] some h = absurd (some refl)
lines-last_line (b ∷ line) some h = lines-last b line h

pub lines_are_those : (text : List ℕ) (ls : List (List ℕ)) → HasLines text ls → ls ≡ lines text
lines_are_those _ _ no_line = refl
lines_are_those _ _ (last_line line some none) = sym (lines-last_line line some (no_lf line none))
lines_are_those _ _ (ended_by_lf line rest ls none no_cr has) =
    let later = lines_are_those rest ls has in
    sym (lines-first line rest (no_lf line none) ∙ ap (λ l. l ∷ lines rest) (without_cr-none line no_cr) ∙ ap (λ xs. line ∷ xs) (sym later))
lines_are_those _ _ (ended_by_cr_lf line rest ls none has) =
    let later = lines_are_those rest ls has in
    let parts : line ++ CR ∷ LF ∷ rest ≡ (line ++ CR ∷ []) ++ LF ∷ rest = sym (append_assoc line (CR ∷ []) (LF ∷ rest)) in
    sym (ap lines parts ∙ lines-first (line ++ CR ∷ []) rest (holds_lf-cr line (no_lf line none)) ∙ ap (λ l. l ∷ lines rest) (without_cr-append line) ∙ ap (λ xs. line ∷ xs) (sym later))

-- a byte that ends no line goes before the first line
HasLines-onto : (b : ℕ) (text : List ℕ) (ls : List (List ℕ)) → eqb b LF ≡ false → (eqb b CR && begins_with LF text) ≡ false → HasLines text ls → HasLines (b ∷ text) (onto_first b ls)
HasLines-onto b _ _ here next no_line = last_line (b ∷ []) (λ e. cc) (lf_free_cons b [] here lf_free_nil)
HasLines-onto b _ _ here next (last_line line some none) = last_line (b ∷ line) (λ e. cc) (lf_free_cons b line here none)
HasLines-onto b _ _ here next (ended_by_lf [] rest ls none no_cr has) = ended_by_lf (b ∷ []) rest ls (lf_free_cons b [] here none) (not_cr b next) has
  where
    not_cr : (b : ℕ) → (eqb b CR && true) ≡ false → ¬ EndsWithCR (b ∷ [])
    not_cr b h ([], e) = let is : b ≡ CR = cc in false≢true (sym h ∙ ap (λ x. eqb x CR && true) is)
    not_cr b h (f ∷ [], e) = cc
    not_cr b h (f ∷ g ∷ fs, e) = cc
HasLines-onto b _ _ here next (ended_by_lf (c ∷ line) rest ls none no_cr has) = ended_by_lf (b ∷ c ∷ line) rest ls (lf_free_cons b (c ∷ line) here none) (no_cr_cons b c line no_cr) has
HasLines-onto b _ _ here next (ended_by_cr_lf line rest ls none has) = ended_by_cr_lf (b ∷ line) rest ls (lf_free_cons b line here none) has

-- a CR just before LF is dropped
HasLines-cr : (text : List ℕ) (ls : List (List ℕ)) → begins_with LF text ≡ true → HasLines text ls → HasLines (CR ∷ text) ls
HasLines-cr _ _ begins no_line = absurd (false≢true begins)
HasLines-cr _ _ begins (last_line [] some none) = absurd (some refl)
HasLines-cr _ _ begins (last_line (c ∷ line) some none) = absurd (false≢true (sym (not_first c line none) ∙ begins))
HasLines-cr _ _ begins (ended_by_lf [] rest ls none no_cr has) = ended_by_cr_lf [] rest ls none has
HasLines-cr _ _ begins (ended_by_lf (c ∷ line) rest ls none no_cr has) = absurd (false≢true (sym (not_first c line none) ∙ begins))
HasLines-cr _ _ begins (ended_by_cr_lf [] rest ls none has) = absurd (false≢true begins)
HasLines-cr _ _ begins (ended_by_cr_lf (c ∷ line) rest ls none has) = absurd (false≢true (sym (not_first c line none) ∙ begins))

and_left : (a b : Bool) → (a && b) ≡ true → a ≡ true
and_left true b h = refl
and_left false b h = h

and_right : (a b : Bool) → (a && b) ≡ true → b ≡ true
and_right true b h = h
and_right false b h = absurd (false≢true h)

pub text_has_lines : (text : List ℕ) → HasLines text (lines text)
text_has_lines [] = no_line
text_has_lines (b ∷ rest) = by (eqb b LF) refl (text_has_lines rest)
  where
    inner : (v : Bool) → (eqb b CR && begins_with LF rest) ≡ v → eqb b LF ≡ false → HasLines rest (lines rest) → HasLines (b ∷ rest) (cond v (lines rest) (onto_first b (lines rest)))
    inner true e here has = subst (λ x. HasLines (x ∷ rest) (lines rest)) (sym (eqb-true b CR (and_left (eqb b CR) (begins_with LF rest) e))) (HasLines-cr rest (lines rest) (and_right (eqb b CR) (begins_with LF rest) e) has)
    inner false e here has = HasLines-onto b rest (lines rest) here e has

    by : (v : Bool) → eqb b LF ≡ v → HasLines rest (lines rest) → HasLines (b ∷ rest) (cond v ([] ∷ lines rest) (cond (eqb b CR && begins_with LF rest) (lines rest) (onto_first b (lines rest))))
    by true e has = subst (λ x. HasLines (x ∷ rest) ([] ∷ lines rest)) (sym (eqb-true b LF e)) (ended_by_lf [] rest (lines rest) lf_free_nil no_cr_nil has)
    by false e has = inner (eqb b CR && begins_with LF rest) refl e has

-- ---- reading line by line

-- a cut at LF ends the first line
pub lines-cut : (text : List ℕ) (parts : List ℕ × List ℕ) → cut_at LF text ≡ Some parts → (lines text ≡ without_cr parts.0 ∷ lines parts.1) × (length parts.1 < length text)
lines-cut text parts h =
    let are = cut_at-Some LF text parts h in
    (ap lines are.0 ∙ lines-first parts.0 parts.1 are.1, omega (arith, ap length are.0, length-append parts.0 (LF ∷ parts.1)))

-- without LF the text is one line
pub lines-uncut : (text : List ℕ) → 0 < length text → cut_at LF text ≡ None → lines text ≡ text ∷ []
lines-uncut [] some h = absurd (omega arith)
lines-uncut (b ∷ text) some h = lines-last b text (cut_at-None LF (b ∷ text) h)

-- the CR at the end of a line is its last byte
pub without_cr-last : (line : List ℕ) (n : ℕ) → length line ≡ suc n → get_or line n 0 ≡ CR → without_cr line ≡ take n line
without_cr-last [] n e h = absurd (omega arith)
without_cr-last (b ∷ []) zero e h = ap (λ x. cond (eqb x CR && true) [] (x ∷ [])) h
without_cr-last (b ∷ []) (suc n) e h = absurd (omega arith)
without_cr-last (b ∷ c ∷ line) zero e h = absurd (omega arith)
without_cr-last (b ∷ c ∷ line) (suc n) e h =
    let later = without_cr-last (c ∷ line) n (omega arith) h in
    elim (eqb b CR) as (λ v. cond (v && false) [] (b ∷ without_cr (c ∷ line)) ≡ b ∷ take n (c ∷ line)) [ true ↦ ap (λ xs. b ∷ xs) later | false ↦ ap (λ xs. b ∷ xs) later ]

-- a line whose last byte is another one stays
pub without_cr-other : (line : List ℕ) (n : ℕ) → length line ≡ suc n → get_or line n 0 ≢ CR → without_cr line ≡ line
without_cr-other [] n e h = absurd (omega arith)
without_cr-other (b ∷ []) zero e h = by (eqb b CR) refl
  where
    by : (v : Bool) → eqb b CR ≡ v → cond (v && true) [] (b ∷ []) ≡ b ∷ []
    by true e = absurd (h (eqb-true b CR e))
    by false e = refl
without_cr-other (b ∷ []) (suc n) e h = absurd (omega arith)
without_cr-other (b ∷ c ∷ line) zero e h = absurd (omega arith)
without_cr-other (b ∷ c ∷ line) (suc n) e h =
    let later = without_cr-other (c ∷ line) n (omega arith) h in
    elim (eqb b CR) as (λ v. cond (v && false) [] (b ∷ without_cr (c ∷ line)) ≡ b ∷ c ∷ line) [ true ↦ ap (λ xs. b ∷ xs) later | false ↦ ap (λ xs. b ∷ xs) later ]

-- nothing is left after the end of a text
pub rest_at_end : (text : List ℕ) → take (length text - length text) (drop (length text) text) ≡ []
rest_at_end text =
    let none : length text - length text ≡ 0 = omega arith in
    ap (λ n. take n (drop (length text) text)) none

-- an empty line stays
pub without_cr-nil : (line : List ℕ) → length line ≡ 0 → line ≡ without_cr line
without_cr-nil [] h = refl
without_cr-nil (b ∷ line) h = absurd (omega arith)
