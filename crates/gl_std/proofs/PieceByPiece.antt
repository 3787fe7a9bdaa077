-- A text that comes in pieces.
use Rattle.std.proofs.Common.{◌≡◌, ◌≢◌, ℕ, zero, suc, ◌+◌, ◌<◌, take, Bool, true, false, ◌||◌, cond, eqb, List, [], ◌∷◌, ◌++◌, length, Contains, Some, None, Result, Ok, Err, refl, sym, ap, subst, ◌∙◌, append_assoc, arith, add-one}
use Rattle.std.proofs.lemmas.List.Folds.{list_any-append}
use Rattle.bstr.specs.Find.{Nowhere, Passes, is_byte}
use Rattle.gl_event.specs.Bounds.{Bounds}
use Rattle.gl_std.specs.Line.{cut_at}
use Rattle.gl_std.specs.Lines.{LF, lines, ended_lines, without_cr}
use Rattle.gl_std.specs.Pieces.{judged, IsTold, IsFaulty}
use Rattle.gl_std.specs.Trace.{after_line, and_then, nothing, read_from, trace_of}
use Rattle.gl_std.specs.declared.faults.StdKind.{StdKind}
use Rattle.gl_std.specs.declared.faults.ReadFault.{ReadFault}
use Rattle.gl_std.specs.declared.faults.ReadFault.TheVariants.{Line}
use Rattle.gl_std.specs.declared.trace.Trace.{Trace}
use Rattle.gl_std.proofs.Cutting.{cut_at-Some, cut_at-None, cut_at-none}
use Rattle.gl_std.proofs.LinesOfTexts.{holds_lf, lines-first, lines-last_line, no_lf, lf_free}
use Rattle.gl_std.proofs.WithinLimits.{trace_of-lines}

-- ---- the lines that were ended

or_true : (a b : Bool) → b ≡ true → (a || b) ≡ true
or_true true b h = refl
or_true false b h = h

or_false : (b : Bool) → (b || false) ≡ b
or_false true = refl
or_false false = refl

append_nil : {X : Type 0} (xs : List X) → xs ++ [] ≡ xs
append_nil [] = refl
append_nil (x ∷ xs) = ap (λ ys. x ∷ ys) (append_nil xs)

-- an LF at the end ends all lines
pub ended-lf : (text : List ℕ) → ended_lines (text ++ LF ∷ []) ≡ text ++ LF ∷ []
ended-lf [] = refl
ended-lf (b ∷ text) =
    let has : holds_lf (b ∷ (text ++ LF ∷ [])) ≡ true = list_any-append (λ x. eqb x LF) (b ∷ text) (LF ∷ []) ∙ or_true (holds_lf (b ∷ text)) true refl in
    (λ i. cond (has i) (b ∷ ended-lf text i) [])

-- nothing ended where there is no LF
ended-none : (text : List ℕ) → holds_lf text ≡ false → ended_lines text ≡ []
ended-none [] h = refl
ended-none (b ∷ text) h = ap (λ v. cond v (b ∷ ended_lines text) []) h

-- what holds no LF ends no line
pub ended-other : (text more : List ℕ) → holds_lf more ≡ false → ended_lines (text ++ more) ≡ ended_lines text
ended-other [] more h = ended-none more h
ended-other (b ∷ text) more h =
    let same : holds_lf (b ∷ (text ++ more)) ≡ holds_lf (b ∷ text) = list_any-append (λ x. eqb x LF) (b ∷ text) more ∙ ap (λ v. holds_lf (b ∷ text) || v) h ∙ or_false (holds_lf (b ∷ text)) in
    (λ i. cond (same i) (b ∷ ended-other text more h i) [])

-- what follows keeps the lines that were ended
pub ended-front : (text more : List ℕ) → (later : List ℕ) × (ended_lines (text ++ more) ≡ ended_lines text ++ later)
ended-front [] more = (ended_lines more, refl)
ended-front (b ∷ text) more = by (holds_lf (b ∷ text)) refl (ended-front text more)
  where
    by : (v : Bool) → holds_lf (b ∷ text) ≡ v → (later : List ℕ) × (ended_lines (text ++ more) ≡ ended_lines text ++ later) → (later : List ℕ) × (cond (holds_lf (b ∷ (text ++ more))) (b ∷ ended_lines (text ++ more)) [] ≡ cond v (b ∷ ended_lines text) [] ++ later)
    by true e later =
        let has : holds_lf (b ∷ (text ++ more)) ≡ true = list_any-append (λ x. eqb x LF) (b ∷ text) more ∙ ap (λ v. v || holds_lf more) e in
        (later.0, ap (λ v. cond v (b ∷ ended_lines (text ++ more)) []) has ∙ ap (λ xs. b ∷ xs) later.1)
    by false e later = (cond (holds_lf (b ∷ (text ++ more))) (b ∷ ended_lines (text ++ more)) [], refl)

-- the lines that were ended are a front of the text
pub ended-part : (text : List ℕ) → (rest : List ℕ) × (text ≡ ended_lines text ++ rest)
ended-part [] = ([], refl)
ended-part (b ∷ text) = by (holds_lf (b ∷ text)) (ended-part text)
  where
    by : (v : Bool) → (rest : List ℕ) × (text ≡ ended_lines text ++ rest) → (rest : List ℕ) × (b ∷ text ≡ cond v (b ∷ ended_lines text) [] ++ rest)
    by true rest = (rest.0, ap (λ xs. b ∷ xs) rest.1)
    by false rest = (b ∷ text, refl)

-- a text without LF
lf_nowhere : (text : List ℕ) → Nowhere (Passes (is_byte LF) text) 0 (length text) → holds_lf text ≡ false
lf_nowhere text h = cut_at-None LF text (cut_at-none LF text h)

-- a text with an LF
lf_there : (text : List ℕ) (k : ℕ) → k < length text → Passes (is_byte LF) text k → holds_lf text ≡ true
lf_there [] k within here = absurd (omega arith)
lf_there (b ∷ text) zero within here = ap (λ v. v || holds_lf text) here
lf_there (b ∷ text) (suc k) within here = or_true (eqb b LF) (holds_lf text) (lf_there text k (omega arith) here)

-- where nothing ended, there is no LF
pub ended-nowhere : (text : List ℕ) → Nowhere (Passes (is_byte LF) text) 0 (length text) → ended_lines text ≡ []
ended-nowhere text h = ended-none text (lf_nowhere text h)

-- the last LF ends what was ended
ended-place : (text : List ℕ) (k : ℕ) → k < length text → Nowhere (Passes (is_byte LF) text) (k + 1) (length text) → Passes (is_byte LF) text k → ended_lines text ≡ take (suc k) text
ended-place [] k within after here = absurd (omega arith)
ended-place (b ∷ text) zero within after here =
    let none : ended_lines text ≡ [] = ended-nowhere text (λ j low high there. after (suc j) (omega arith) (omega arith) there) in
    (λ i. cond (lf_there (b ∷ text) zero within here i) (b ∷ none i) [])
ended-place (b ∷ text) (suc k) within after here =
    let later : ended_lines text ≡ take (suc k) text = ended-place text k (omega arith) (λ j low high there. after (suc j) (omega arith) (omega arith) there) here in
    (λ i. cond (lf_there (b ∷ text) (suc k) within here i) (b ∷ later i) [])

pub ended-last : (text : List ℕ) (k : ℕ) → k < length text → Nowhere (Passes (is_byte LF) text) (k + 1) (length text) → Passes (is_byte LF) text k → take (k + 1) text ≡ ended_lines text
ended-last text k within after here = ap (λ n. take n text) (add-one k) ∙ sym (ended-place text k within after here)

-- ---- the trace so far

or_both : (a b : Bool) → a ≡ false → b ≡ false → (a || b) ≡ false
or_both a b p q = cc

no_lf_in : (xs ys : List ℕ) → ¬ Contains xs LF → ¬ Contains ys LF → holds_lf (xs ++ ys) ≡ false
no_lf_in xs ys p q = list_any-append (λ b. eqb b LF) xs ys ∙ or_both (holds_lf xs) (holds_lf ys) (no_lf xs p) (no_lf ys q)

-- before the first piece
pub told_nothing : (limits : Bounds) (number : ℕ) (told : Trace) (unfinished : List ℕ) → number ≡ 1 → told ≡ nothing → unfinished ≡ [] → IsTold limits number told unfinished []
told_nothing limits number told unfinished first none empty =
    record {
      parts = sym empty;
      one_line = lf_free unfinished (ap holds_lf empty);
      goes_on = λ rest. sym (ap (λ n. read_from limits n told (lines rest)) first ∙ ap (λ t. read_from limits 1 t (lines rest)) none ∙ trace_of-lines limits rest);
    }

-- the text with the end of a line
abbrev pub with_end : List ℕ → List ℕ → List ℕ
with_end text end = text ++ end ++ LF ∷ []

-- the line goes on from the trace so far
next_line : (limits : Bounds) (number : ℕ) (told : Trace) (unfinished end text rest : List ℕ) → IsTold limits number told unfinished text → ¬ Contains end LF → trace_of limits (ended_lines (with_end text end) ++ rest) ≡ and_then (after_line limits number told (without_cr (unfinished ++ end))) (λ more. read_from limits (number + 1) more (lines rest))
next_line limits number told unfinished end text rest is one =
    let line : unfinished ++ (end ++ LF ∷ rest) ≡ (unfinished ++ end) ++ LF ∷ rest = sym (append_assoc unfinished end (LF ∷ rest)) in
    let whole : ended_lines (with_end text end) ++ rest ≡ ended_lines text ++ ((unfinished ++ end) ++ LF ∷ rest) =
    ap (λ t. t ++ rest) (ended-lf (text ++ end))
    ∙ append_assoc (text ++ end) (LF ∷ []) rest
    ∙ append_assoc text end (LF ∷ rest)
    ∙ ap (λ t. t ++ (end ++ LF ∷ rest)) is.parts
    ∙ append_assoc (ended_lines text) unfinished (end ++ LF ∷ rest)
    ∙ ap (λ t. ended_lines text ++ t) line in
    ap (trace_of limits) whole
    ∙ is.goes_on ((unfinished ++ end) ++ LF ∷ rest)
    ∙ ap (read_from limits number told) (lines-first (unfinished ++ end) rest (no_lf_in unfinished end is.one_line one))

-- the same is told where the parts are the same
told_alike : (limits : Bounds) (number number2 : ℕ) (told : Trace) (unfinished unfinished2 text : List ℕ) (limits2 : Bounds) → limits2 ≡ limits → number2 ≡ number → unfinished2 ≡ unfinished → IsTold limits number told unfinished text → IsTold limits2 number2 told unfinished2 text
told_alike limits number number2 told unfinished unfinished2 text limits2 p q r is =
    subst (λ l. IsTold l number2 told unfinished2 text) (sym p) (subst (λ n. IsTold limits n told unfinished2 text) (sym q) (subst (λ u. IsTold limits number told u text) (sym r) is))

-- a line that is read
pub told_line : (limits limits2 : Bounds) (number number2 : ℕ) (told more : Trace) (unfinished unfinished2 end text line : List ℕ) → IsTold limits number told unfinished text → ¬ Contains end LF → line ≡ without_cr (unfinished ++ end) → after_line limits number told line ≡ Ok more → limits2 ≡ limits → number2 ≡ number + 1 → unfinished2 ≡ [] → IsTold limits2 number2 more unfinished2 (with_end text end)
told_line limits limits2 number number2 told more unfinished unfinished2 end text line is one same after p q r =
    told_alike limits (number + 1) number2 more [] unfinished2 (with_end text end) limits2 p q r (record {
      parts = sym (append_nil (ended_lines (with_end text end)) ∙ ended-lf (text ++ end));
      one_line = lf_free [] refl;
      goes_on = λ rest. next_line limits number told unfinished end text rest is one ∙ ap (λ r. and_then r (λ m. read_from limits (number + 1) m (lines rest))) (ap (after_line limits number told) (sym same) ∙ after);
    })

-- a line at fault
pub faulty_line : (limits : Bounds) (number : ℕ) (told : Trace) (unfinished end text line : List ℕ) (at : ℕ) (kind : StdKind) → IsTold limits number told unfinished text → ¬ Contains end LF → line ≡ without_cr (unfinished ++ end) → after_line limits number told line ≡ Err (Line at kind) → IsFaulty limits (with_end text end) at kind
faulty_line limits number told unfinished end text line at kind is one same after =
    λ rest. next_line limits number told unfinished end text rest is one ∙ ap (λ r. and_then r (λ m. read_from limits (number + 1) m (lines rest))) (ap (after_line limits number told) (sym same) ∙ after)

-- a piece that ends no line
pub told_more : (limits : Bounds) (number : ℕ) (told : Trace) (unfinished more text : List ℕ) → IsTold limits number told unfinished text → ¬ Contains more LF → IsTold limits number told (unfinished ++ more) (text ++ more)
told_more limits number told unfinished more text is one =
    let ended = ended-other text more (no_lf more one) in
    record {
      parts = ap (λ t. t ++ more) is.parts ∙ append_assoc (ended_lines text) unfinished more ∙ ap (λ t. t ++ (unfinished ++ more)) (sym ended);
      one_line = lf_free (unfinished ++ more) (no_lf_in unfinished more is.one_line one);
      goes_on = λ rest. ap (λ t. trace_of limits (t ++ rest)) ended ∙ is.goes_on rest;
    }

-- a fault stays the first
pub faulty_more : (limits : Bounds) (text more : List ℕ) (at : ℕ) (kind : StdKind) → IsFaulty limits text at kind → IsFaulty limits (text ++ more) at kind
faulty_more limits text more at kind faulty =
    λ rest. let later = ended-front text more in
    ap (λ t. trace_of limits (t ++ rest)) later.1 ∙ ap (trace_of limits) (append_assoc (ended_lines text) later.0 rest) ∙ faulty (later.0 ++ rest)

pub nil_of : (xs : List ℕ) → length xs ≡ 0 → xs ≡ []
nil_of [] h = refl
nil_of (x ∷ xs) h = absurd (omega arith)

-- ---- a piece, line by line

-- the first line's end in what is left of a piece
pub first_end : (rest end after : List ℕ) → Some (end, after) ≡ cut_at LF rest → (rest ≡ end ++ LF ∷ after) × (¬ Contains end LF)
first_end rest end after cut =
    let are = cut_at-Some LF rest (end, after) (sym cut) in
    (are.0, lf_free end are.1)

-- no line ends in what is left
pub no_end : (rest : List ℕ) → None ≡ cut_at LF rest → ¬ Contains rest LF
no_end rest cut = lf_free rest (cut_at-None LF rest (sym cut))

pub more_read : (piece read rest end after : List ℕ) → piece ≡ read ++ rest → rest ≡ end ++ LF ∷ after → piece ≡ with_end read end ++ after
more_read piece read rest end after is cut =
    is ∙ ap (λ t. read ++ t) cut ∙ sym (append_assoc read end (LF ∷ after)) ∙ sym (append_assoc (read ++ end) (LF ∷ []) after)

-- ---- the end of the text

-- the trace of the lines that were ended
pub told_front : (limits : Bounds) (number : ℕ) (told : Trace) (unfinished text : List ℕ) → IsTold limits number told unfinished text → trace_of limits (ended_lines text) ≡ Ok told
told_front limits number told unfinished text is = ap (trace_of limits) (sym (append_nil (ended_lines text))) ∙ is.goes_on []

-- the trace of a text that ends with a line's end
pub told_whole : (limits : Bounds) (number : ℕ) (told : Trace) (unfinished text : List ℕ) → IsTold limits number told unfinished text → unfinished ≡ [] → trace_of limits text ≡ Ok told
told_whole limits number told unfinished text is none =
    ap (trace_of limits) is.parts ∙ is.goes_on unfinished ∙ ap (λ u. read_from limits number told (lines u)) none

-- the last line goes on from the trace so far
pub last_line : (limits : Bounds) (number : ℕ) (told : Trace) (unfinished text : List ℕ) → IsTold limits number told unfinished text → unfinished ≢ [] → trace_of limits text ≡ and_then (after_line limits number told unfinished) (λ more. Ok more)
last_line limits number told unfinished text is some =
    ap (trace_of limits) is.parts ∙ is.goes_on unfinished ∙ ap (read_from limits number told) (lines-last_line unfinished some (no_lf unfinished is.one_line))

pub told_last : (limits : Bounds) (number : ℕ) (told : Trace) (unfinished text : List ℕ) (r : Result Trace ReadFault) → IsTold limits number told unfinished text → unfinished ≢ [] → after_line limits number told unfinished ≡ r → trace_of limits text ≡ and_then r (λ more. Ok more)
told_last limits number told unfinished text r is some after = last_line limits number told unfinished text is some ∙ ap (λ r. and_then r (λ more. Ok more)) after

pub some_of : (xs : List ℕ) → length xs ≢ 0 → xs ≢ []
some_of xs some e = some (ap length e)

-- ---- also after a fault

-- a fault in the lines that LF has ended is that of the text, whole or not
pub faulty_judged : (limits : Bounds) (text : List ℕ) (at : ℕ) (kind : StdKind) (whole : Bool) → IsFaulty limits text at kind → trace_of limits (judged whole text) ≡ Err (Line at kind)
faulty_judged limits text at kind true faulty = let rest = ended-part text in ap (trace_of limits) rest.1 ∙ faulty rest.0
faulty_judged limits text at kind false faulty = ap (trace_of limits) (sym (append_nil (ended_lines text))) ∙ faulty []
