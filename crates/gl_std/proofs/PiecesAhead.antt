-- Pieces that are read and cut before they are judged.
use Rattle.std.proofs.Common.{◌≡◌, ℕ, zero, suc, ◌+◌, ◌<◌, ◌≤◌, ◌⊎◌, inl, inr, ◌||◌, ◌&&◌, Bool, true, false, cond, eqb, List, [], ◌∷◌, ◌++◌, length, map, take, drop, Contains, Option, Some, None, All, Result, Ok, Err, get_or, refl, sym, ap, subst, ◌∙◌, append_assoc, length-append, add-zero, add-one, arith}
use Rattle.std.specs.List.{onto_first}
use Rattle.std.specs.Option.{option_map_or, IfSome}
use Rattle.std.proofs.lemmas.Bool.{false≢true}
use Rattle.std.proofs.lemmas.List.{length-drop}
use Rattle.std.proofs.Math.Nat.{mul-le-mul_right}
use Rattle.std.proofs.lemmas.Bool.Decides.{Decides-eqb}
use Rattle.gl_event.specs.Bounds.{Bounds}
use Rattle.gl_event.specs.declared.events.Event.{Event}
use Rattle.gl_io.specs.Positions.{Position}
use Rattle.gl_io.specs.Reads.{HasRead}
use Rattle.gl_io.specs.declared.source.TheConstants.{CHUNK}
use Rattle.gl_std.specs.Line.{Shape, cut_at, shape_of}
use Rattle.gl_std.specs.LineReading.{TELLING, HasGiven}
use Rattle.gl_std.specs.Lines.{LF, CR, begins_with, ended_lines, lines}
use Rattle.gl_std.specs.Pieces.{IsFaulty, IsTold}
use Rattle.gl_std.specs.Trace.{and_then, read_from, trace_of}
use Rattle.gl_std.specs.bodies.Ahead.{bytes_of, text_of, AreRight, FailsPiece, GivesOn, HasCut, HasCutPiece, HasReadOn, IsCut, IsRightPiece, IsShort, JudgesText, OnlyJudges, TakesPiece}
use Rattle.gl_std.specs.bodies.Blocks.{after_shapes, between, FailsShapes, GoOn, IsRight, TakesShapes}
use Rattle.gl_std.specs.bodies.Taking.{HasEndedLine}
use Rattle.gl_std.specs.bodies.Telling.{with_judged}
use Rattle.gl_std.specs.bodies.States.{left_of, HasJudged, Reaches}
use Rattle.gl_std.specs.bodies.Stepping.{HasFilledBuffer, OnlyReads}
use Rattle.gl_std.specs.Names.{NameLists}
use Rattle.gl_std.specs.declared.block.Block.{Block}
use Rattle.gl_std.specs.declared.faults.ReadFault.{ReadFault}
use Rattle.gl_std.specs.declared.faults.ReadFault.TheVariants.{Line}
use Rattle.gl_std.specs.declared.faults.StdKind.{StdKind}
use Rattle.gl_std.specs.declared.judge.Judge.{Judge}
use Rattle.gl_std.specs.declared.judge.Judged.{Judged}
use Rattle.gl_std.specs.declared.line_reader.LineReader.{LineReader}
use Rattle.gl_std.specs.declared.line_reader.TheConstants.{KEPT}
use Rattle.gl_std.specs.declared.line_reader.pieces.Ending.{Ending}
use Rattle.gl_std.specs.declared.line_reader.pieces.Ending.TheVariants.{More, End, Broke}
use Rattle.gl_std.specs.declared.line_reader.pieces.Piece.{Piece}
use Rattle.gl_std.specs.declared.trace.Trace.{Trace}
use Rattle.gl_std.proofs.LinesOfTexts.{holds_lf, lf_free, lines-after_line}
use Rattle.gl_std.proofs.NumberedLines.{after_shapes-lines, go_on_then, right_among}
use Rattle.gl_std.proofs.PieceByPiece.{ended-lf, faulty_more, first_end, with_end}
use Rattle.gl_std.proofs.LineByLine.{append_nil, drop_none, few_kept, reached_more}
use Rattle.gl_std.proofs.WithinLimits.{read_from-append}

-- ---- the lines that LF has ended, and what follows them

pub ended_rest : (text : List ℕ) → text ≡ ended_lines text ++ drop (length (ended_lines text)) text
ended_rest [] = refl
ended_rest (b ∷ text) = by (holds_lf (b ∷ text)) (ended_rest text)
  where
    by : (v : Bool) → text ≡ ended_lines text ++ drop (length (ended_lines text)) text → b ∷ text ≡ cond v (b ∷ ended_lines text) [] ++ drop (length (cond v (b ∷ ended_lines text) [])) (b ∷ text)
    by true rest = ap (λ xs. b ∷ xs) rest
    by false rest = refl

rest_free : (text : List ℕ) → holds_lf (drop (length (ended_lines text)) text) ≡ false
rest_free [] = refl
rest_free (b ∷ text) = by (holds_lf (b ∷ text)) refl (rest_free text)
  where
    by : (v : Bool) → holds_lf (b ∷ text) ≡ v → holds_lf (drop (length (ended_lines text)) text) ≡ false → holds_lf (drop (length (cond v (b ∷ ended_lines text) [])) (b ∷ text)) ≡ false
    by true e rest = rest
    by false e rest = e

pub rest_without : (text : List ℕ) → ¬ Contains (drop (length (ended_lines text)) text) LF
rest_without text = lf_free (drop (length (ended_lines text)) text) (rest_free text)

-- the lines that LF has ended are none, or end with LF
abbrev pub IsEnded : List ℕ → Type 0
IsEnded text = (text ≡ []) ⊎ ((front : List ℕ) × (text ≡ front ++ LF ∷ []))

or_other : (a b : Bool) → (a || b) ≡ true → a ≡ false → b ≡ true
or_other a b p q = cc

none_ended : (text : List ℕ) → ended_lines text ≡ [] → holds_lf text ≡ false
none_ended text e = ap holds_lf (ended_rest text ∙ ap (λ l. l ++ drop (length (ended_lines text)) text) e) ∙ rest_free text

first_ended : (b : ℕ) (text : List ℕ) (v : Bool) → eqb b LF ≡ v → holds_lf (b ∷ text) ≡ true → IsEnded (ended_lines text) → (front : List ℕ) × (b ∷ ended_lines text ≡ front ++ LF ∷ [])
first_ended b text v e has (inr later) = (b ∷ later.0, ap (λ l. b ∷ l) later.1)
first_ended b text true e has (inl empty) = ([], (λ i. (Decides-eqb b LF).0 e i ∷ empty i))
first_ended b text false e has (inl empty) = absurd (false≢true (sym (none_ended text empty) ∙ or_other (eqb b LF) (holds_lf text) has e))

pub ended_is : (text : List ℕ) → IsEnded (ended_lines text)
ended_is [] = inl refl
ended_is (b ∷ text) = by (holds_lf (b ∷ text)) refl (ended_is text)
  where
    by : (v : Bool) → holds_lf (b ∷ text) ≡ v → IsEnded (ended_lines text) → IsEnded (cond v (b ∷ ended_lines text) [])
    by true e later = inr (first_ended b text (eqb b LF) refl e later)
    by false e later = inl refl

-- there are no more lines than bytes
onto_few : (b : ℕ) (ls : List (List ℕ)) → length (onto_first b ls) ≤ length ls + 1
onto_few b [] = omega arith
onto_few b (l ∷ ls) = omega arith

lines_few : (text : List ℕ) → length (lines text) ≤ length text
lines_few [] = omega arith
lines_few (b ∷ text) = by (eqb b LF) (eqb b CR && begins_with LF text) (lines_few text)
  where
    by : (v w : Bool) → length (lines text) ≤ length text → length (cond v ([] ∷ lines text) (cond w (lines text) (onto_first b (lines text)))) ≤ suc (length text)
    by true w few = omega (arith, few)
    by false true few = omega (arith, few)
    by false false few = omega (arith, few, onto_few b (lines text))

-- between the first LF of a piece and its last one
pub between_few : (piece end after : List ℕ) → Some (end, after) ≡ cut_at LF piece → length (lines (between piece)) + length end + 1 ≤ length piece
between_few piece end after cut =
    let parts = ap length (first_end piece end after cut).0 in
    let ended = ap length (ended_rest after) in
    let is = ap (λ c. length (lines (option_map_or (λ (p : List ℕ × List ℕ). ended_lines p.1) c []))) (sym cut) in
    omega (arith, parts, length-append end (LF ∷ after), ended, length-append (ended_lines after) (drop (length (ended_lines after)) after), is, lines_few (ended_lines after))

pub between_is : (piece end after : List ℕ) → Some (end, after) ≡ cut_at LF piece → between piece ≡ ended_lines after
between_is piece end after cut = ap (λ c. option_map_or (λ (p : List ℕ × List ℕ). ended_lines p.1) c []) (sym cut)

-- ---- lines of a block

nothing_kept : (n : ℕ) (unfinished kept : List ℕ) → kept ≡ take n unfinished → 0 < n → kept ≡ [] → unfinished ≡ []
nothing_kept zero unfinished kept is some empty = absurd (omega (arith, some))
nothing_kept (suc n) [] kept is some empty = refl
nothing_kept (suc n) (b ∷ unfinished) kept is some empty = absurd (cons_nil (sym is ∙ empty))
  where
    cons_nil : b ∷ take n unfinished ≡ [] → ⊥
    cons_nil e = cc

-- what is told goes on with the lines of a text
lines_on : (j : Judge) (kept seen front rest : List ℕ) (told : Trace) → Reaches j kept seen told → kept ≡ [] → trace_of j.limits (ended_lines (seen ++ (front ++ LF ∷ [])) ++ rest)
    ≡ and_then (read_from j.limits j.line told (lines (front ++ LF ∷ []))) (λ more. read_from j.limits (j.line + length (lines (front ++ LF ∷ []))) more (lines rest))
lines_on j kept seen front rest told reaches empty =
    let none = nothing_kept TELLING reaches.unfinished kept reaches.kept (omega arith) empty in
    let all : seen ≡ ended_lines seen = reaches.is.parts ∙ ap (λ u. ended_lines seen ++ u) none ∙ append_nil (ended_lines seen) in
    let whole : ended_lines (seen ++ (front ++ LF ∷ [])) ++ rest ≡ ended_lines seen ++ (front ++ LF ∷ rest) =
    ap (λ t. ended_lines t ++ rest) (sym (append_assoc seen front (LF ∷ []))) ∙ ap (λ t. t ++ rest) (ended-lf (seen ++ front)) ∙ ap (λ t. t ++ rest) (append_assoc seen front (LF ∷ []))
    ∙ append_assoc seen (front ++ LF ∷ []) rest ∙ ap (λ t. seen ++ t) (append_assoc front (LF ∷ []) rest) ∙ ap (λ t. t ++ (front ++ LF ∷ rest)) all in
    ap (trace_of j.limits) whole ∙ reaches.is.goes_on (front ++ LF ∷ rest) ∙ ap (read_from j.limits j.line told) (lines-after_line front rest)
    ∙ read_from-append j.limits (lines (front ++ LF ∷ [])) (lines rest) j.line told

-- lines that were judged
pub reached_block : (j j2 : Judge) (kept seen text : List ℕ) (told later : Trace) → Reaches j kept seen told → kept ≡ [] → IsEnded text → after_shapes j.limits j.line told (map shape_of (lines text)) ≡ Ok later → HasJudged j2 later → j2.limits ≡ j.limits → j2.line ≡ j.line + length (lines text) → Reaches j2 kept (seen ++ text) later
reached_block j j2 kept seen text told later reaches empty (inr ends) after judged same line =
    let front = ends.0 in
    let is = sym (after_shapes-lines j.limits (lines text) j.line told) ∙ after in
    let here = ap (λ t. read_from j.limits j.line told (lines t)) (sym ends.1) ∙ is in
    record {
      unfinished = [];
      is = record {
        parts = sym (append_nil (ended_lines (seen ++ text)) ∙ ap (λ t. ended_lines (seen ++ t)) ends.1 ∙ ap ended_lines (sym (append_assoc seen front (LF ∷ []))) ∙ ended-lf (seen ++ front) ∙ append_assoc seen front (LF ∷ []) ∙ ap (λ t. seen ++ t) (sym ends.1));
        one_line = lf_free [] refl;
        goes_on = λ rest.
            ap (λ l. trace_of l (ended_lines (seen ++ text) ++ rest)) same ∙ ap (λ t. trace_of j.limits (ended_lines (seen ++ t) ++ rest)) ends.1
            ∙ lines_on j kept seen front rest told reaches empty
            ∙ ap (λ r. and_then r (λ more. read_from j.limits (j.line + length (lines (front ++ LF ∷ []))) more (lines rest))) here
            ∙ (λ i. read_from (sym same i) ((ap (λ t. j.line + length (lines t)) (sym ends.1) ∙ sym line) i) later (lines rest));
      };
      kept = empty;
      judged = judged;
    }
reached_block j j2 kept seen text told later reaches empty (inl none) after judged same line =
    let nothing = nothing_kept TELLING reaches.unfinished kept reaches.kept (omega arith) empty in
    let is : told ≡ later = ok_is (sym (ap (λ t. after_shapes j.limits j.line told (map shape_of (lines t))) none) ∙ after) in
    let number : j2.line ≡ j.line = line ∙ ap (λ t. j.line + length (lines t)) none ∙ add-zero j.line in
    record {
      unfinished = [];
      is = subst (λ t. IsTold j2.limits j2.line later [] t) (sym (append_nil seen) ∙ ap (λ t. seen ++ t) (sym none))
          (subst (λ t. IsTold j2.limits j2.line t [] seen) is (subst (λ n. IsTold j2.limits n told [] seen) (sym number) (subst (λ l. IsTold l j.line told [] seen) (sym same) (subst (λ u. IsTold j.limits j.line told u seen) nothing reaches.is))));
      kept = empty;
      judged = judged;
    }
  where
    ok_is : ◌≡◌ {A = Result Trace ReadFault} (Ok told) (Ok later) → told ≡ later
    ok_is e = cc

-- a line of them is at fault
pub block_faulty : (j : Judge) (kept seen text : List ℕ) (told : Trace) (number : ℕ) (kind : StdKind) → Reaches j kept seen told → kept ≡ [] → IsEnded text → after_shapes j.limits j.line told (map shape_of (lines text)) ≡ Err (Line number kind) → IsFaulty j.limits (seen ++ text) number kind
block_faulty j kept seen text told number kind reaches empty (inr ends) after = λ rest.
    let front = ends.0 in
    let is = sym (after_shapes-lines j.limits (lines text) j.line told) ∙ after in
    let here = ap (λ t. read_from j.limits j.line told (lines t)) (sym ends.1) ∙ is in
    ap (λ t. trace_of j.limits (ended_lines (seen ++ t) ++ rest)) ends.1 ∙ lines_on j kept seen front rest told reaches empty
    ∙ ap (λ r. and_then r (λ more. read_from j.limits (j.line + length (lines (front ++ LF ∷ []))) more (lines rest))) here
block_faulty j kept seen text told number kind reaches empty (inl none) after = absurd (ok_err (sym (ap (λ t. after_shapes j.limits j.line told (map shape_of (lines t))) none) ∙ after))
  where
    ok_err : ◌≡◌ {A = Result Trace ReadFault} (Ok told) (Err (Line number kind)) → ⊥
    ok_err e = cc

-- ---- a piece

-- its parts: the end of a line, the lines of the block, and the beginning of a line
pub piece_parts : (seen piece end after rest : List ℕ) → piece ≡ end ++ LF ∷ after → after ≡ ended_lines after ++ rest → (with_end seen end ++ ended_lines after) ++ rest ≡ seen ++ piece
piece_parts seen piece end after rest cut parts =
    append_assoc (with_end seen end) (ended_lines after) rest ∙ ap (λ t. with_end seen end ++ t) (sym parts)
    ∙ append_assoc (seen ++ end) (LF ∷ []) after ∙ append_assoc seen end (LF ∷ after) ∙ ap (λ t. seen ++ t) (sym cut)

-- a fault in a front of it is one of it
pub fault_front : (limits : Bounds) (front text more : List ℕ) (number : ℕ) (kind : StdKind) → front ++ more ≡ text → IsFaulty limits front number kind → IsFaulty limits text number kind
fault_front limits front text more number kind is faulty = subst (λ t. IsFaulty limits t number kind) is (faulty_more limits front more number kind faulty)

-- ---- pieces, one after another

pub text_push : (pieces : List Piece) (piece : Piece) → text_of (pieces ++ piece ∷ []) ≡ text_of pieces ++ bytes_of piece
text_push [] piece = append_nil (bytes_of piece)
text_push (p ∷ pieces) piece = ap (λ t. bytes_of p ++ t) (text_push pieces piece) ∙ sym (append_assoc (bytes_of p) (text_of pieces) (bytes_of piece))

text_take_suc : (pieces : List Piece) (i : ℕ) (piece : Piece) → i < length pieces → piece ≡ get_or pieces i piece → text_of (take (suc i) pieces) ≡ text_of (take i pieces) ++ bytes_of piece
text_take_suc [] i piece within is = absurd (omega (arith, within))
text_take_suc (p ∷ pieces) zero piece within is = append_nil (bytes_of p) ∙ ap bytes_of (sym is)
text_take_suc (p ∷ pieces) (suc i) piece within is =
    ap (λ t. bytes_of p ++ t) (text_take_suc pieces i piece (omega (arith, within)) is) ∙ sym (append_assoc (bytes_of p) (text_of (take i pieces)) (bytes_of piece))

pub text_take_next : (pieces : List Piece) (i : ℕ) (piece : Piece) → i < length pieces → piece ≡ get_or pieces i piece → text_of (take (i + 1) pieces) ≡ text_of (take i pieces) ++ bytes_of piece
text_take_next pieces i piece within is = ap (λ n. text_of (take n pieces)) (add-one i) ∙ text_take_suc pieces i piece within is

pub text_take_rest : (pieces : List Piece) (i : ℕ) (piece : Piece) → i < length pieces → piece ≡ get_or pieces i piece → (rest : List ℕ) × ((text_of (take i pieces) ++ bytes_of piece) ++ rest ≡ text_of pieces)
text_take_rest [] i piece within is = absurd (omega (arith, within))
text_take_rest (p ∷ pieces) zero piece within is = (text_of pieces, ap (λ q. bytes_of q ++ text_of pieces) is)
text_take_rest (p ∷ pieces) (suc i) piece within is =
    let later = text_take_rest pieces i piece (omega (arith, within)) is in
    (later.0, ap (λ t. t ++ later.0) (append_assoc (bytes_of p) (text_of (take i pieces)) (bytes_of piece)) ∙ append_assoc (bytes_of p) (text_of (take i pieces) ++ bytes_of piece) later.0 ∙ ap (λ t. bytes_of p ++ t) later.1)

pub all_short_push : (pieces : List Piece) (piece : Piece) → All IsShort pieces → IsShort piece → All IsShort (pieces ++ piece ∷ [])
all_short_push [] piece are is zero d within = is
all_short_push [] piece are is (suc k) d within = absurd (omega (arith, within))
all_short_push (p ∷ pieces) piece are is zero d within = are 0 d (omega arith)
all_short_push (p ∷ pieces) piece are is (suc k) d within = all_short_push pieces piece (λ j e low. are (suc j) e (omega (arith, low))) is k d (omega (arith, within))

-- the end of a line and what follows it
pub end_parts : (seen piece end after : List ℕ) → piece ≡ end ++ LF ∷ after → with_end seen end ++ after ≡ seen ++ piece
end_parts seen piece end after cut = append_assoc (seen ++ end) (LF ∷ []) after ∙ append_assoc seen end (LF ∷ after) ∙ ap (λ t. seen ++ t) (sym cut)

-- a piece that was judged, in its three parts
pub taken_lines : (old mid new : LineReader) (lists lists2 lists3 : List (List Event)) (piece end after rest : List ℕ) (judged : Judged) (shapes : List Shape) → piece ≡ end ++ LF ∷ after → after ≡ ended_lines after ++ rest → ¬ Contains rest LF → shapes ≡ map shape_of (lines (ended_lines after))
    → HasEndedLine old.judge old.unfinished.items end mid.judge mid.unfinished.items judged → ((told : Trace) → told.lists ≡ lists → lists2 ≡ (with_judged judged mid.judge.names told).lists) → TakesShapes mid.judge lists2 shapes new.judge lists3
    → new.judge.limits ≡ mid.judge.limits → new.judge.line ≡ mid.judge.line + length (lines (ended_lines after)) → new.unfinished.items ≡ take KEPT (mid.unfinished.items ++ rest) → TakesPiece old lists piece new lists3
taken_lines old mid new lists lists2 lists3 piece end after rest judged shapes cut parts free says ended listed takes limits line kept seen told reaches same =
    let at = ended.reaches seen told reaches in
    let more = takes (with_judged judged mid.judge.names told) at.judged (listed told (sym same)) in
    let whole = reached_block mid.judge new.judge mid.unfinished.items (with_end seen end) (ended_lines after) (with_judged judged mid.judge.names told) more.later at ended.empty (ended_is after)
    (ap (after_shapes mid.judge.limits mid.judge.line (with_judged judged mid.judge.names told)) (sym says) ∙ more.after) more.judged limits line in
    let last = reached_more new.judge mid.unfinished.items new.unfinished.items rest (with_end seen end ++ ended_lines after) more.later whole free kept in
    record { later = more.later; reaches = subst (λ t. Reaches new.judge new.unfinished.items t more.later) (piece_parts seen piece end after rest cut parts) last; listed = more.listed }

-- and one of whose lines is at fault
pub failed_lines : (old mid : LineReader) (lists lists2 : List (List Event)) (piece end after : List ℕ) (judged : Judged) (shapes : List Shape) (seen : List ℕ) (told : Trace) (number : ℕ) (kind : StdKind) (r : Result (Unit {0}) ReadFault) → piece ≡ end ++ LF ∷ after → shapes ≡ map shape_of (lines (ended_lines after))
    → HasEndedLine old.judge old.unfinished.items end mid.judge mid.unfinished.items judged → ((told : Trace) → told.lists ≡ lists → lists2 ≡ (with_judged judged mid.judge.names told).lists) → FailsShapes mid.judge lists2 shapes r → mid.judge.limits ≡ old.judge.limits
    → r ≡ Err (Line number kind) → Reaches old.judge old.unfinished.items seen told → lists ≡ told.lists → IsFaulty old.judge.limits (seen ++ piece) number kind
failed_lines old mid lists lists2 piece end after judged shapes seen told number kind r cut says ended listed fails limits is reaches same =
    let at = ended.reaches seen told reaches in
    let fault = fails number kind is (with_judged judged mid.judge.names told) at.judged (listed told (sym same)) in
    let faulty = block_faulty mid.judge mid.unfinished.items (with_end seen end) (ended_lines after) (with_judged judged mid.judge.names told) number kind at ended.empty (ended_is after)
    (ap (after_shapes mid.judge.limits mid.judge.line (with_judged judged mid.judge.names told)) (sym says) ∙ fault) in
    fault_front old.judge.limits (with_end seen end ++ ended_lines after) (seen ++ piece) (drop (length (ended_lines after)) after) number kind (piece_parts seen piece end after (drop (length (ended_lines after)) after) cut (ended_rest after))
    (subst (λ l. IsFaulty l (with_end seen end ++ ended_lines after) number kind) limits faulty)

-- ---- a piece that is judged line by line

-- a line that LF ends
pub taken_line : (old mid : LineReader) (lists lists2 : List (List Event)) (end : List ℕ) (judged : Judged)
    → HasEndedLine old.judge old.unfinished.items end mid.judge mid.unfinished.items judged → ((told : Trace) → told.lists ≡ lists → lists2 ≡ (with_judged judged mid.judge.names told).lists) → TakesPiece old lists (end ++ LF ∷ []) mid lists2
taken_line old mid lists lists2 end judged ended listed seen told reaches same = record {
  later = with_judged judged mid.judge.names told;
  reaches = subst (λ t. Reaches mid.judge mid.unfinished.items t (with_judged judged mid.judge.names told)) (append_assoc seen end (LF ∷ [])) (ended.reaches seen told reaches);
  listed = listed told (sym same);
}

-- bytes after its lines
pub taken_rest : (old new : LineReader) (lists : List (List Event)) (more : List ℕ) → ¬ Contains more LF → new.judge ≡ old.judge → new.unfinished.items ≡ take KEPT (old.unfinished.items ++ more) → TakesPiece old lists more new lists
taken_rest old new lists more free judge kept seen told reaches same = record {
  later = told;
  reaches = subst (λ j. Reaches j new.unfinished.items (seen ++ more) told) (sym judge) (reached_more old.judge old.unfinished.items new.unfinished.items more seen told reaches free kept);
  listed = same;
}

-- lines, the next of which was cut off what is left
pub parts_next : (front rest end after text : List ℕ) → front ++ rest ≡ text → rest ≡ end ++ LF ∷ after → (front ++ (end ++ LF ∷ [])) ++ after ≡ text
parts_next front rest end after text is cut =
    append_assoc front (end ++ LF ∷ []) after ∙ ap (λ t. front ++ t) (append_assoc end (LF ∷ []) after) ∙ ap (λ t. front ++ t) (sym cut) ∙ is

-- ---- reads, one after another

-- some reads and then more
pub read_on_then : (now mid later : Position) (a b c : LineReader) (before text after : List ℕ) (failed failed2 : Bool) (ending : Ending) → HasReadOn now a before mid failed b text More → HasReadOn mid b text later failed2 c after ending → HasReadOn now a before later failed2 c after ending
read_on_then now mid later a b c before text after failed failed2 ending one two = record {
  gave = one.gave ++ two.gave;
  text = two.text ∙ ap (λ t. t ++ two.gave) one.text ∙ append_assoc before one.gave two.gave;
  gives = by ending two.gives;
  within = omega (arith, one.within, two.within, length-append one.gave two.gave);
}
  where
    by : (e : Ending) → GivesOn mid b later failed2 c two.gave e → GivesOn now a later failed2 c (one.gave ++ two.gave) e
    by More gives = (gives.0, λ turns start text given. subst (HasGiven turns start later c.turns) (append_assoc text one.gave two.gave) (gives.1 turns start (text ++ one.gave) (one.gives.1 turns start text given)))
    by End gives = λ turns start text given. subst (λ t. HasRead turns start later failed2 t true) (append_assoc text one.gave two.gave) (gives turns start (text ++ one.gave) (one.gives.1 turns start text given))
    by Broke gives = λ turns start text given. subst (λ t. HasRead turns start later failed2 t false) (append_assoc text one.gave two.gave) (gives turns start (text ++ one.gave) (one.gives.1 turns start text given))

-- and nothing was judged
pub only_reads_then : (a b c : LineReader) → OnlyReads a b → OnlyReads b c → OnlyReads a c
only_reads_then a b c one two = record {
  same_judge = two.same_judge ∙ one.same_judge;
  same_beginning = two.same_beginning ∙ one.same_beginning;
  same_size = two.same_size ∙ one.same_size;
}

-- before the first one
pub read_on_none : (now : Position) (a : LineReader) (text : List ℕ) (failed : Bool) → failed ≡ false → HasReadOn now a text now failed a text More
read_on_none now a text failed sound = record {
  gave = [];
  text = sym (append_nil text);
  gives = (sound, λ turns start text given. subst (HasGiven turns start now a.turns) (sym (append_nil text)) given);
  within = omega arith;
}

-- the text that was read ends, or can't be read on
pub read_on_end : (now later : Position) (old new : LineReader) (before : List ℕ) (failed : Bool) → ((turns : ℕ) (start : Position) (text : List ℕ) → HasGiven turns start now old.turns text → HasRead turns start later failed text true) → new.turns ≤ old.turns → HasReadOn now old before later failed new before End
read_on_end now later old new before failed read few = record {
  gave = [];
  text = sym (append_nil before);
  gives = λ turns start text given. subst (λ t. HasRead turns start later failed t true) (sym (append_nil text)) (read turns start text given);
  within = omega (arith, mul-le-mul_right CHUNK few);
}

pub read_on_broke : (now later : Position) (old new : LineReader) (before : List ℕ) (failed : Bool) → ((turns : ℕ) (start : Position) (text : List ℕ) → HasGiven turns start now old.turns text → HasRead turns start later failed text false) → HasReadOn now old before later failed new before Broke
read_on_broke now later old new before failed read = record {
  gave = [];
  text = sym (append_nil before);
  gives = λ turns start text given. subst (λ t. HasRead turns start later failed t false) (sym (append_nil text)) (read turns start text given);
  within = omega arith;
}

-- a read more
pub read_on_more : (now later : Position) (old filled : LineReader) (before after : List ℕ) (failed : Bool) → HasFilledBuffer now old later failed filled true → after ≡ before ++ take filled.end filled.buffer.items → HasReadOn now old before later failed filled after More
read_on_more now later old filled before after failed read is = record {
  gave = left_of filled;
  text = is ∙ ap (λ t. before ++ t) (sym (ap (λ n. drop n (take filled.end filled.buffer.items)) read.begin ∙ drop_none (take filled.end filled.buffer.items)));
  gives = (read.sound, λ turns start text given. read.filled turns start text given);
  within = omega (arith, length-drop filled.start (take filled.end filled.buffer.items), few_kept filled.end (take filled.end filled.buffer.items) filled.buffer.items refl, read.within, read.turn);
}

-- a piece that was read is added to others
pub read_on_piece : (now later : Position) (old new : LineReader) (ps rs : List Piece) (empty piece : Piece) (failed : Bool) (ending : Ending) → bytes_of empty ≡ [] → HasReadOn now old (bytes_of empty) later failed new (bytes_of piece) ending → rs ≡ ps ++ piece ∷ [] → HasReadOn now old (text_of ps) later failed new (text_of rs) ending
read_on_piece now later old new ps rs empty piece failed ending none on is = record {
  gave = on.gave;
  text = ap text_of is ∙ text_push ps piece ∙ ap (λ b. text_of ps ++ b) (on.text ∙ ap (λ t. t ++ on.gave) none);
  gives = on.gives;
  within = on.within;
}

-- ---- pieces that are judged, one after another

-- some of them and one more
pub taken_next : (old mid new : LineReader) (lists lists2 lists3 : List (List Event)) (front piece text : List ℕ) → front ++ piece ≡ text → TakesPiece old lists front mid lists2 → TakesPiece mid lists2 piece new lists3 → TakesPiece old lists text new lists3
taken_next old mid new lists lists2 lists3 front piece text is one two seen told reaches listed =
    let first = one seen told reaches listed in
    let next = two (seen ++ front) first.later first.reaches first.listed in
    record { later = next.later; reaches = subst (λ t. Reaches new.judge new.unfinished.items t next.later) (append_assoc seen front piece ∙ ap (λ t. seen ++ t) is) next.reaches; listed = next.listed }

-- or one is at fault
pub failed_next : (old mid : LineReader) (lists lists2 : List (List Event)) (front piece rest text : List ℕ) (r r2 : Result (Unit {0}) ReadFault) → (front ++ piece) ++ rest ≡ text → TakesPiece old lists front mid lists2 → mid.judge.limits ≡ old.judge.limits → FailsPiece mid lists2 piece r → ((number : ℕ) (kind : StdKind) → r2 ≡ Err (Line number kind) → r ≡ Err (Line number kind)) → FailsPiece old lists text r2
failed_next old mid lists lists2 front piece rest text r r2 is one limits fails failed number kind at seen told reaches listed =
    let first = one seen told reaches listed in
    let faulty = fails number kind (failed number kind at) (seen ++ front) first.later first.reaches first.listed in
    fault_front old.judge.limits ((seen ++ front) ++ piece) (seen ++ text) rest number kind
    (ap (λ t. t ++ rest) (append_assoc seen front piece) ∙ append_assoc seen (front ++ piece) rest ∙ ap (λ t. seen ++ t) is)
    (subst (λ l. IsFaulty l ((seen ++ front) ++ piece) number kind) limits faulty)

-- none of them
pub taken_no_piece : (f : LineReader) (lists : List (List Event)) → TakesPiece f lists [] f lists
taken_no_piece f lists seen told reaches listed =
    record { later = told; reaches = subst (λ t. Reaches f.judge f.unfinished.items t told) (sym (append_nil seen)) reaches; listed = listed }

pub only_next : (old mid new : LineReader) (n m k : ℕ) → n + m ≡ k → OnlyJudges old mid n → OnlyJudges mid new m → OnlyJudges old new k
only_next old mid new n m k is one two = record {
  sound = two.sound;
  few = two.few;
  same_limits = two.same_limits ∙ one.same_limits;
  lines = omega (arith, one.lines, two.lines, is);
  grows = go_on_then old.judge.names mid.judge.names new.judge.names one.grows two.grows;
}

-- and what comes last
pub judged_last : (old mid new : LineReader) (lists lists2 lists3 : List (List Event)) (front piece text : List ℕ) (r : Result (Unit {0}) ReadFault) → front ++ piece ≡ text → TakesPiece old lists front mid lists2 → OnlyJudges old mid (length front) → JudgesText mid lists2 piece new lists3 r → JudgesText old lists text new lists3 r
judged_last old mid new lists lists2 lists3 front piece text (Ok done) is one only last = record {
  tells = taken_next old mid new lists lists2 lists3 front piece text is one last.tells;
  fault = λ number kind at. cc;
  only = only_next old mid new (length front) (length piece) _ (sym (length-append front piece) ∙ ap length is) only last.only;
}
judged_last old mid new lists lists2 lists3 front piece text (Err fault) is one only last = record {
  tells = tt;
  fault = failed_next old mid lists lists2 front piece [] text (Err fault) (Err fault) (append_nil (front ++ piece) ∙ is) one only.same_limits last.fault (λ number kind at. at);
  only = tt;
}

-- pieces that were cut give the same text
pub text_alike : (old new : List Piece) → length new ≡ length old → ((k : ℕ) (d : Piece) → k < length old → bytes_of (get_or new k d) ≡ bytes_of (get_or old k d)) → text_of new ≡ text_of old
text_alike [] [] size same = refl
text_alike [] (q ∷ new) size same = absurd (omega (arith, size))
text_alike (p ∷ old) [] size same = absurd (omega (arith, size))
text_alike (p ∷ old) (q ∷ new) size same =
    let first = same 0 p (omega arith) in
    let rest = text_alike old new (omega (arith, size)) (λ k d within. same (suc k) d (omega (arith, within))) in
    (λ i. first i ++ rest i)

-- ---- pieces that were cut, one and others

of_both : (P : Piece → Type 0) (p : Piece) (ps : List Piece) → P p → All P ps → All P (p ∷ ps)
of_both P p ps is are zero d within = is
of_both P p ps is are (suc k) d within = are k d (omega (arith, within))

pub cut_both : (p q : Piece) (ps qs : List Piece) → HasCutPiece p q → HasCut ps qs → HasCut (p ∷ ps) (q ∷ qs)
cut_both p q ps qs one rest = record {
  cut = of_both IsCut q qs one.cut rest.cut;
  short = of_both IsShort q qs one.short rest.short;
  same = λ i. one.same i ++ rest.same i;
  right = λ names are. of_both (IsRightPiece names) q qs (one.right names (are 0 p (omega arith))) (rest.right names (λ k d low. are (suc k) d (omega (arith, low))));
}

-- ---- what blocks know of names

-- it stays right where names are added
pub right_piece : (old new : NameLists) (piece : Piece) → GoOn old new → IsRightPiece old piece → IsRightPiece new piece
right_piece old new piece on right = by piece.block right
  where
    by : (block : Option Block) → IfSome block (IsRight old) → IfSome block (IsRight new)
    by None right = tt
    by (Some block) right = right_among block.names old new block.known on right

pub right_pieces : (old new : NameLists) (pieces : List Piece) → GoOn old new → AreRight old pieces → AreRight new pieces
right_pieces old new pieces on right k d within = right_piece old new (get_or pieces k d) on (right k d within)

-- and where a piece is added
pub right_push : (names : NameLists) (pieces : List Piece) (piece : Piece) → AreRight names pieces → IsRightPiece names piece → AreRight names (pieces ++ piece ∷ [])
right_push names [] piece are is zero d within = is
right_push names [] piece are is (suc k) d within = absurd (omega (arith, within))
right_push names (p ∷ pieces) piece are is zero d within = are 0 d (omega arith)
right_push names (p ∷ pieces) piece are is (suc k) d within = right_push names pieces piece (λ j d low. are (suc j) d (omega (arith, low))) is k d (omega (arith, within))
