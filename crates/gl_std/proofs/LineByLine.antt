-- A text that is judged line by line as it comes.
use Rattle.std.proofs.Common.{◌≡◌, ◌≢◌, ℕ, zero, suc, ◌+◌, ◌-◌, ◌<◌, ◌≤◌, inl, inr, nat_lt, Option, Bool, true, false, ◌&&◌, cond, eqb, List, [], ◌∷◌, ◌++◌, length, Contains, Some, Result, Ok, Err, take, drop, refl, sym, ap, subst, ◌∙◌, append_assoc, length-append, arith}
use Rattle.std.specs.Prelude.{nat_le, None, IfNone, IfSome, OnOk, IsErr}
use Rattle.std.specs.Io.KnownBytes.{Consumes, IsAtEnd, Keeps}
use Rattle.std.proofs.KnownBytes.{Consumes-kept, Consumes-nil, Consumes-trans, Consumes-whole}
use Rattle.std.proofs.lemmas.Bool.{false≢true}
use Rattle.std.proofs.Math.Nat.{min-le_left}
use Rattle.std.proofs.Math.Seq.{take-append-add, drop-append-add}
use Rattle.std.proofs.lemmas.Bool.Decides.{nat_tests}
use Rattle.std.proofs.lemmas.List.{take_all, drop-drop, length-take, length-take-le, length-drop}
use Rattle.gl_event.specs.Bounds.{Bounds}
use Rattle.gl_io.specs.Positions.{Position, LieBetween}
use Rattle.gl_io.specs.Reads.{HasRead}
use Rattle.gl_io.specs.declared.source.Failed.{Failed}
use Rattle.gl_io.specs.declared.source.TheConstants.{CHUNK}
use Rattle.gl_io.proofs.Counting.{lie_none, lie_more}
use Rattle.gl_std.specs.LineReading as line_reading
use Rattle.gl_std.specs.LineReading.{HasGiven}
use Rattle.gl_std.specs.Judging as judging
use Rattle.gl_std.specs.bodies.States.{left_of, HasJudged, IsAt, IsFit, IsOver, IsSound, Reaches, ReadsOn}
use Rattle.gl_std.specs.bodies.Telling.{with_judged}
use Rattle.gl_std.specs.bodies.Judgements.{JudgesLine}
use Rattle.gl_std.specs.bodies.Stepping.{fuel, is_idle, HasBroken, HasFilled, HasFilledBuffer, HasStepped, IsRead, IsStep, OnlyReads, Steps}
use Rattle.gl_std.specs.bodies.Taking.{EndsLine, HasTakenLine, HasTakenRest, OnlyTakes, TakesLast, TakesLine}
use Rattle.gl_std.specs.Faults.{lines_fault}
use Rattle.gl_std.specs.Lines.{LF, CR, ended_lines, without_cr}
use Rattle.gl_std.specs.Pieces.{IsFaulty}
use Rattle.gl_std.specs.Trace.{after_line, after_shape, and_then, nothing, trace_of}
use Rattle.gl_std.specs.declared.faults.LinesFault.{LinesFault}
use Rattle.gl_std.specs.declared.faults.ReadFault.{ReadFault}
use Rattle.gl_std.specs.declared.faults.ReadFault.TheVariants.{Line, Memory}
use Rattle.gl_std.specs.declared.faults.StdKind.{StdKind}
use Rattle.gl_std.specs.declared.faults.StdKind.TheVariants.{TooLong}
use Rattle.gl_std.specs.declared.line_reader.LineReader.{LineReader}
use Rattle.gl_std.specs.declared.line_reader.Step.{Step}
use Rattle.gl_std.specs.declared.line_reader.Step.TheVariants.{More, Told, End}
use Rattle.gl_std.specs.declared.line_reader.TheConstants.{KEPT}
use Rattle.gl_std.specs.declared.judge.Judge.{Judge}
use Rattle.gl_std.specs.declared.judge.Judged.{Judged}
use Rattle.gl_std.specs.declared.judge.Judged.TheVariants.{Blank, Skipped, Stray, Event}
use Rattle.gl_std.specs.declared.trace.Trace.{Trace}
use Rattle.gl_std.proofs.PieceByPiece.{with_end, told_front, told_last, told_line, told_nothing, told_whole, faulty_line, told_more, faulty_more, more_read, nil_of}
use Rattle.gl_std.proofs.Shapes.{shape_of-long}

-- ---- tests of numbers

within_of : (n m : ℕ) → nat_le n m ≡ true → n ≤ m
within_of n m e = grind (arith, nat_tests, e)

below_of : (n m : ℕ) → nat_le n m ≡ false → m < n
below_of n m e = grind (arith, nat_tests, e)

some_of : (n : ℕ) → nat_lt 0 n ≡ true → 0 < n
some_of n e = grind (arith, nat_tests, e)

none_of : (n : ℕ) → nat_lt 0 n ≡ false → n ≡ 0
none_of n e = grind (arith, nat_tests, e)

-- ---- the beginning of a line

-- what is added to so many bytes, or to more
pub take_added : (n : ℕ) (xs ys : List ℕ) → take n (take n xs ++ ys) ≡ take n (xs ++ ys)
take_added zero [] ys = refl
take_added zero (x ∷ xs) ys = refl
take_added (suc n) [] ys = refl
take_added (suc n) (x ∷ xs) ys = ap (λ zs. x ∷ zs) (take_added n xs ys)

-- all of it is kept
pub kept_all : (n : ℕ) (xs ys zs : List ℕ) → zs ≡ xs ++ ys → length xs + length ys ≤ n → zs ≡ take n (xs ++ ys)
kept_all n xs ys zs is few = is ∙ sym (take_all n (xs ++ ys) (omega (arith, few, length-append xs ys)))

-- the front of it is kept
pub kept_front : (n room : ℕ) (xs ys zs : List ℕ) → zs ≡ xs ++ take room ys → length xs + room ≡ n → zs ≡ take n (xs ++ ys)
kept_front n room xs ys zs is size = is ∙ sym (take-append-add xs ys room) ∙ ap (λ k. take k (xs ++ ys)) size

-- ---- lines that begin alike

-- at most one byte is dropped from a line
length-without_cr : (line : List ℕ) → length line ≤ length (without_cr line) + 1
length-without_cr [] = omega arith
length-without_cr (b ∷ []) = by (eqb b CR && true)
  where
    by : (v : Bool) → 1 ≤ length (cond v [] (b ∷ [])) + 1
    by true = omega arith
    by false = omega arith
length-without_cr (b ∷ c ∷ line) = by (eqb b CR) (length-without_cr (c ∷ line))
  where
    by : (v : Bool) → length (c ∷ line) ≤ length (without_cr (c ∷ line)) + 1 → length (b ∷ c ∷ line) ≤ length (cond (v && false) [] (b ∷ without_cr (c ∷ line))) + 1
    by true few = omega (arith, few)
    by false few = omega (arith, few)

long_line : (limits : Bounds) (number : ℕ) (told : Trace) (line : List ℕ) → KEPT ≤ length line + 1 → after_line limits number told line ≡ Err (Line number TooLong)
long_line limits number told line long = ap (after_shape limits number told) (sym (shape_of-long line (omega (arith, long))))

-- lines of which the same is kept are the same, or too long
alike : (xs ys : List ℕ) → take KEPT xs ≡ take KEPT ys → nat_le KEPT (length xs) ≡ false → xs ≡ ys
alike xs ys same short = by (nat_le KEPT (length ys)) refl
  where
    first : take KEPT xs ≡ xs
    first = let less = below_of KEPT (length xs) short in take_all KEPT xs (omega (arith, less))

    by : (v : Bool) → nat_le KEPT (length ys) ≡ v → xs ≡ ys
    by false e = let less = below_of KEPT (length ys) e in sym first ∙ same ∙ take_all KEPT ys (omega (arith, less))
    by true e =
        let more = within_of KEPT (length ys) e in
        let less = below_of KEPT (length xs) short in
        let size : length xs ≡ KEPT = ap length (sym first ∙ same) ∙ length-take-le KEPT ys more in
        absurd (omega (arith, size, less))

both_long : (xs ys : List ℕ) → take KEPT xs ≡ take KEPT ys → nat_le KEPT (length xs) ≡ true → KEPT ≤ length ys
both_long xs ys same long = by (nat_le KEPT (length ys)) refl
  where
    by : (v : Bool) → nat_le KEPT (length ys) ≡ v → KEPT ≤ length ys
    by true e = within_of KEPT (length ys) e
    by false e =
        let more = within_of KEPT (length xs) long in
        let less = below_of KEPT (length ys) e in
        let size : length ys ≡ KEPT = ap length (sym (take_all KEPT ys (omega (arith, less))) ∙ sym same) ∙ length-take-le KEPT xs more in
        absurd (omega (arith, size, less))

-- they are judged alike, where LF ends them
pub ended_alike : (limits : Bounds) (number : ℕ) (told : Trace) (xs ys : List ℕ) → take KEPT xs ≡ take KEPT ys → after_line limits number told (without_cr xs) ≡ after_line limits number told (without_cr ys)
ended_alike limits number told xs ys same = by (nat_le KEPT (length xs)) refl
  where
    by : (v : Bool) → nat_le KEPT (length xs) ≡ v → after_line limits number told (without_cr xs) ≡ after_line limits number told (without_cr ys)
    by false e = ap (λ line. after_line limits number told (without_cr line)) (alike xs ys same e)
    by true e =
        let more = within_of KEPT (length xs) e in
        let more2 = both_long xs ys same e in
        long_line limits number told (without_cr xs) (omega (arith, more, length-without_cr xs)) ∙ sym (long_line limits number told (without_cr ys) (omega (arith, more2, length-without_cr ys)))

-- and where the text ends there
pub last_alike : (limits : Bounds) (number : ℕ) (told : Trace) (xs ys : List ℕ) → take KEPT xs ≡ take KEPT ys → after_line limits number told xs ≡ after_line limits number told ys
last_alike limits number told xs ys same = by (nat_le KEPT (length xs)) refl
  where
    by : (v : Bool) → nat_le KEPT (length xs) ≡ v → after_line limits number told xs ≡ after_line limits number told ys
    by false e = ap (after_line limits number told) (alike xs ys same e)
    by true e =
        let more = within_of KEPT (length xs) e in
        let more2 = both_long xs ys same e in
        long_line limits number told xs (omega (arith, more)) ∙ sym (long_line limits number told ys (omega (arith, more2)))

-- ---- a line that LF ends

-- what is kept of a line, with its end
kept_end : (kept unfinished end raw : List ℕ) → kept ≡ take KEPT unfinished → take KEPT raw ≡ take KEPT (kept ++ end) → take KEPT raw ≡ take KEPT (unfinished ++ end)
kept_end kept unfinished end raw is same = same ∙ ap (λ k. take KEPT (k ++ end)) is ∙ take_added KEPT unfinished end

-- a line that was judged by as much as is kept of it
pub reached_line : (j j2 : Judge) (kept kept2 end raw seen : List ℕ) (told : Trace) (judged : Judged) → Reaches j kept seen told → ¬ Contains end LF → take KEPT raw ≡ take KEPT (kept ++ end) → after_line j.limits j.line told (without_cr raw) ≡ Ok (with_judged judged j2.names told) → HasJudged j2 (with_judged judged j2.names told) → j2.limits ≡ j.limits → j2.line ≡ j.line + 1 → kept2 ≡ [] → Reaches j2 kept2 (with_end seen end) (with_judged judged j2.names told)
reached_line j j2 kept kept2 end raw seen told judged reaches one same after has limits line empty =
    let alike = kept_end kept reaches.unfinished end raw reaches.kept same in
    let is = sym (ended_alike j.limits j.line told raw (reaches.unfinished ++ end) alike) ∙ after in
    record {
      unfinished = [];
      is = told_line j.limits j2.limits j.line j2.line told (with_judged judged j2.names told) reaches.unfinished [] end seen (without_cr (reaches.unfinished ++ end)) reaches.is one refl is limits line refl;
      kept = empty;
      judged = has;
    }

-- and one at fault
pub reached_fault : (j : Judge) (kept end raw seen : List ℕ) (told : Trace) (number : ℕ) (kind : StdKind) → Reaches j kept seen told → ¬ Contains end LF → take KEPT raw ≡ take KEPT (kept ++ end) → after_line j.limits j.line told (without_cr raw) ≡ Err (Line number kind) → IsFaulty j.limits (with_end seen end) number kind
reached_fault j kept end raw seen told number kind reaches one same after =
    let alike = kept_end kept reaches.unfinished end raw reaches.kept same in
    faulty_line j.limits j.line told reaches.unfinished end seen (without_cr (reaches.unfinished ++ end)) number kind reaches.is one refl (sym (ended_alike j.limits j.line told raw (reaches.unfinished ++ end) alike) ∙ after)

-- bytes that end no line
pub reached_more : (j : Judge) (kept kept2 more seen : List ℕ) (told : Trace) → Reaches j kept seen told → ¬ Contains more LF → kept2 ≡ take KEPT (kept ++ more) → Reaches j kept2 (seen ++ more) told
reached_more j kept kept2 more seen told reaches one is =
    record {
      unfinished = reaches.unfinished ++ more;
      is = told_more j.limits j.line told reaches.unfinished more seen reaches.is one;
      kept = is ∙ ap (λ k. take KEPT (k ++ more)) reaches.kept ∙ take_added KEPT reaches.unfinished more;
      judged = reaches.judged;
    }

-- ---- what is left of a read

-- what is left behind the end of a line
pub left_after : (buffer end after : List ℕ) (start stop : ℕ) → drop start (take stop buffer) ≡ end ++ LF ∷ after → drop (start + (length end + 1)) (take stop buffer) ≡ after
left_after buffer end after start stop is =
    sym (drop-drop (length end + 1) start (take stop buffer)) ∙ ap (drop (length end + 1)) is ∙ drop-append-add end (LF ∷ after) 1

pub append_nil : (xs : List ℕ) → xs ++ [] ≡ xs
append_nil [] = refl
append_nil (x ∷ xs) = ap (λ ys. x ∷ ys) (append_nil xs)

-- nothing is left at the end
pub left_none : (buffer : List ℕ) (stop : ℕ) → drop stop (take stop buffer) ≡ []
left_none [] zero = refl
left_none [] (suc stop) = refl
left_none (b ∷ buffer) zero = refl
left_none (b ∷ buffer) (suc stop) = left_none buffer stop

-- the place behind a line
pub at_line : (old new : line_reading.LineReader) (end after text : List ℕ) (told more : Trace) (at : line_reading.IsAt old text told) → old.left ≡ end ++ LF ∷ after → new.left ≡ after → line_reading.Reaches new.judge new.beginning (with_end at.seen end) more → line_reading.IsAt new text more
at_line old new end after text told more at is left reaches =
    record {
      seen = with_end at.seen end;
      parts = more_read text at.seen old.left end after at.parts is ∙ ap (λ l. with_end at.seen end ++ l) (sym left);
      reaches = reaches;
    }

-- the place at the end of a read
pub at_end : (old new : line_reading.LineReader) (text : List ℕ) (told : Trace) (at : line_reading.IsAt old text told) → new.left ≡ [] → line_reading.Reaches new.judge new.beginning (at.seen ++ old.left) told → line_reading.IsAt new text told
at_end old new text told at left reaches =
    record {
      seen = at.seen ++ old.left;
      parts = at.parts ∙ sym (append_nil (at.seen ++ old.left)) ∙ ap (λ l. (at.seen ++ old.left) ++ l) (sym left);
      reaches = reaches;
    }

-- a fault in a line of the text is one of the text
pub fault_at : (limits : Bounds) (old : LineReader) (end after text : List ℕ) (told : Trace) (number : ℕ) (kind : StdKind) (at : IsAt old text told) → left_of old ≡ end ++ LF ∷ after → IsFaulty limits (with_end at.seen end) number kind → IsFaulty limits text number kind
fault_at limits old end after text told number kind at is faulty =
    subst (λ t. IsFaulty limits t number kind) (sym (more_read text at.seen (left_of old) end after at.parts is)) (faulty_more limits (with_end at.seen end) after number kind faulty)

-- a line that LF ends, in whichever way it was judged
pub line_ended : (j j2 : Judge) (kept kept2 end raw line : List ℕ) (r : Result Judged ReadFault) → ¬ Contains end LF → take KEPT raw ≡ take KEPT (kept ++ end) → line ≡ without_cr raw
    → JudgesLine j j2 (λ told. after_line j.limits j.line told line) r → OnOk r (IsSound j2) → OnOk r (j2.line ≡ j.line + 1) → OnOk r (kept2 ≡ []) → EndsLine j kept end j2 kept2 r
line_ended j j2 kept kept2 end raw line (Ok judged) one same is judges sound next empty = record {
  reaches = λ seen told reaches. reached_line j j2 kept kept2 end raw seen told judged reaches one same (ap (after_line j.limits j.line told) (sym is) ∙ judges.tells told reaches.judged) (judges.judged told reaches.judged) judges.same_limits next empty;
  known = judges.known;
  sound = sound;
  empty = empty;
  line = next;
}
line_ended j j2 kept kept2 end raw line (Err (Line number kind)) one same is judges sound next empty =
    λ seen told reaches. reached_fault j kept end raw seen told number kind reaches one same (ap (after_line j.limits j.line told) (sym is) ∙ judges.fault number kind refl told reaches.judged)
line_ended j j2 kept kept2 end raw line (Err Memory) one same is judges sound next empty = tt

-- a line that isn't judged is one at fault, or memory was refused
pub line_faulty : (j j2 : Judge) (kept kept2 end : List ℕ) (r : Result Judged ReadFault) → IsErr r
    → ((number : ℕ) (kind : StdKind) → r ≡ Err (Line number kind) → (seen : List ℕ) (told : Trace) → Reaches j kept seen told → IsFaulty j.limits (with_end seen end) number kind) → EndsLine j kept end j2 kept2 r
line_faulty j j2 kept kept2 end (Ok judged) err fails = absurd (false≢true err)
line_faulty j j2 kept kept2 end (Err (Line number kind)) err fails = fails number kind refl
line_faulty j j2 kept kept2 end (Err Memory) err fails = tt

pub take_faulty : (old new : LineReader) (r : Result (Option Judged) ReadFault) → IsErr r
    → ((number : ℕ) (kind : StdKind) → r ≡ Err (Line number kind) → (text : List ℕ) (told : Trace) → IsAt old text told → IsFaulty old.judge.limits text number kind) → TakesLine old new r
take_faulty old new (Ok judged) err fails = absurd (false≢true err)
take_faulty old new (Err (Line number kind)) err fails = fails number kind refl
take_faulty old new (Err Memory) err fails = tt

-- a line that ends is at fault where that is answered
pub fault_ended : (j j2 : Judge) (kept kept2 end seen : List ℕ) (told : Trace) (r : Result Judged ReadFault) (number : ℕ) (kind : StdKind) → r ≡ Err (Line number kind) → EndsLine j kept end j2 kept2 r → Reaches j kept seen told → IsFaulty j.limits (with_end seen end) number kind
fault_ended j j2 kept kept2 end seen told r number kind is ends reaches = subst (EndsLine j kept end j2 kept2) is ends seen told reaches

-- no more is kept
pub few_kept : (n : ℕ) (xs ys : List ℕ) → xs ≡ take n ys → length xs ≤ n
few_kept n xs ys is = let size = ap length is ∙ length-take n ys in omega (arith, size, min-le_left n (length ys))

-- a line ends before the read does
pub line_fits : (buffer end after : List ℕ) (start stop : ℕ) → drop start (take stop buffer) ≡ end ++ LF ∷ after → start ≤ stop → start + (length end + 1) ≤ stop
line_fits buffer end after start stop is order =
    let left = sym (length-drop start (take stop buffer)) ∙ ap length is ∙ length-append end (LF ∷ after) in
    let most = few_kept stop (take stop buffer) buffer refl in
    omega (arith, left, most, order)

-- what `xs[i..]` is
pub slice_rest : (xs : List ℕ) (i : ℕ) → take (length xs - i) (drop i xs) ≡ drop i xs
slice_rest xs i = take_all (length xs - i) (drop i xs) (omega (arith, length-drop i xs))

-- ---- reads

pub drop_none : (xs : List ℕ) → drop 0 xs ≡ xs
drop_none [] = refl
drop_none (x ∷ xs) = refl

-- before the first read
pub given_nothing : (turns left : ℕ) (start : Position) → left ≡ turns → HasGiven turns start start left []
given_nothing turns left start is = record { bytes = Consumes-nil start.left; used = 0; counted = lie_none start; spent = omega (arith, is); some = omega arith; within = omega arith }

-- a read of so many bytes
pub filled_by : (more : Bool) (count : ℕ) (turns : ℕ) (start now new : Position) (failed : Bool) (old f : LineReader) (piece text : List ℕ) → nat_lt 0 count ≡ more → f.start ≡ 0 → take f.end f.buffer.items ≡ piece → length piece ≡ count → count ≤ CHUNK → 0 < old.turns → f.turns + 1 ≡ old.turns → failed ≡ false → Consumes now.left new.left piece → (count ≡ 0 → IsAtEnd new.left) → LieBetween 1 now new → HasGiven turns start now old.turns text → HasFilled more turns start new failed f text
filled_by more count turns start now new failed old f piece text test begin is size most left turn sound gave end one given =
    by more test
  where
    all : left_of f ≡ piece
    all = ap (λ n. drop n (take f.end f.buffer.items)) begin ∙ drop_none (take f.end f.buffer.items) ∙ is

    by : (more : Bool) → nat_lt 0 count ≡ more → HasFilled more turns start new failed f text
    by true test =
        let some = some_of count test in
        let long = length-append text piece in
        subst (λ l. HasGiven turns start new f.turns (text ++ l)) (sym all) (record {
          bytes = Consumes-trans start.left now.left new.left text piece given.bytes gave;
          used = given.used + 1;
          counted = lie_more given.used 1 start now new given.counted one;
          spent = omega (arith, given.spent, turn);
          some = omega (arith, given.some, long, size, some);
          within = omega (arith, given.within, long, size, most);
        })
    by false test =
        let none = none_of count test in
        let bytes : Consumes start.left new.left text = subst (Consumes start.left new.left) (ap (λ l. text ++ l) (nil_of piece (size ∙ none)) ∙ append_nil text) (Consumes-trans start.left now.left new.left text piece given.bytes gave) in
        record {
          bytes = bytes;
          all = λ e. Consumes-whole start.left new.left text (λ everything. text ≡ everything) bytes (end none) refl;
          ended = λ e. end none;
          sound = λ e. sound;
          reads = given.used + 1;
          counted = lie_more given.used 1 start now new given.counted one;
          few = omega (arith, given.spent, left);
          cut = λ e. absurd (false≢true (sym e));
          some = omega (arith, given.some);
          within = omega (arith, given.within);
        }

-- what it leaves in the buffer
pub filled_buffer : (count : ℕ) (now new : Position) (failed : Bool) (old f : LineReader) (piece : List ℕ) → f.start ≡ 0 → take f.end f.buffer.items ≡ piece → length piece ≡ count → count ≤ CHUNK → f.end ≡ count → 0 < old.turns → f.turns + 1 ≡ old.turns → failed ≡ false
    → Consumes now.left new.left piece → (count ≡ 0 → IsAtEnd new.left) → LieBetween 1 now new → HasFilledBuffer now old new failed f (nat_lt 0 count)
filled_buffer count now new failed old f piece begin is size most ends left turn sound gave at_end one = record {
  filled = λ turns start text given. filled_by (nat_lt 0 count) count turns start now new failed old f piece text refl begin is size most left turn sound gave at_end one given;
  sound = sound;
  turn = turn;
  begin = begin;
  within = omega (arith, most, ends);
  none = λ none. ap (λ n. drop n (take f.end f.buffer.items)) begin ∙ drop_none (take f.end f.buffer.items) ∙ is ∙ nil_of piece (size ∙ none_of count none);
}

-- a read that failed
pub broken_by : (turns left : ℕ) (start now new : Position) (failed : Bool) (text : List ℕ) → 0 < left → failed ≡ true → Keeps now.left new.left → LieBetween 1 now new → HasGiven turns start now left text → HasRead turns start new failed text false
broken_by turns left start now new failed text some wrong kept one given =
    record {
      bytes = Consumes-kept start.left now.left new.left text given.bytes kept;
      all = λ e. absurd (false≢true e);
      ended = λ e. absurd (false≢true e);
      sound = λ e. absurd (false≢true e);
      reads = given.used + 1;
      counted = lie_more given.used 1 start now new given.counted one;
      few = omega (arith, given.spent, some);
      cut = λ e. inl wrong;
      some = omega (arith, given.some);
      within = omega (arith, given.within);
    }

pub read_broke : (now : Position) (old : LineReader) (later : Position) (failed : Bool) (new : LineReader) (r : Result Bool Failed) → IsErr r → HasBroken now old later failed → IsRead now old later failed new r
read_broke now old later failed new (Ok more) err broken = absurd (false≢true err)
read_broke now old later failed new (Err fault) err broken = broken

-- what holds anyway holds of what is there

pub on_ok : {A B : Type 0} (r : Result A B) (P : Type 0) → P → OnOk r P
on_ok (Ok a) P holds = holds
on_ok (Err b) P holds = tt

-- the turns are used up
pub used_up : (turns left : ℕ) (start now : Position) (failed : Bool) (text : List ℕ) → left ≡ 0 → HasGiven turns start now left text → HasRead turns start now failed text false
used_up turns left start now failed text none given =
    record {
      bytes = given.bytes;
      all = λ e. absurd (false≢true e);
      ended = λ e. absurd (false≢true e);
      sound = λ e. absurd (false≢true e);
      reads = given.used;
      counted = given.counted;
      few = omega (arith, given.spent);
      cut = λ e. inr (omega (arith, given.spent, none), omega (arith, given.spent, given.some, none));
      some = omega (arith, given.some);
      within = omega (arith, given.within);
    }

-- ---- steps

-- what holds of the value that is there
pub at_some : {X : Type 0} (P : X → Type 0) (o : Option X) (x : X) → o ≡ Some x → IfSome o P → P x
at_some P o x is holds = subst (λ o. IfSome o P) is holds

pub at_none : {X : Type 0} (P : Type 0) (o : Option X) → o ≡ None → IfNone o P → P
at_none P o is holds = subst (λ o. IfNone o P) is holds

-- a text of which nothing is left
all_seen : (old : LineReader) (text : List ℕ) (told : Trace) (at : IsAt old text told) → left_of old ≡ [] → text ≡ at.seen
all_seen old text told at none = at.parts ∙ ap (λ l. at.seen ++ l) none ∙ append_nil at.seen

pub alike_reaches : (old f : LineReader) (seen : List ℕ) (told : Trace) → f.judge ≡ old.judge → f.unfinished.items ≡ old.unfinished.items → Reaches old.judge old.unfinished.items seen told → Reaches f.judge f.unfinished.items seen told
alike_reaches old f seen told judge kept reaches =
    subst (λ u. Reaches f.judge u seen told) (sym kept) (subst (λ j. Reaches j old.unfinished.items seen told) (sym judge) reaches)

-- more was read
pub read_more : (limits : Bounds) (turns : ℕ) (start now new : Position) (old f : LineReader) (text : List ℕ) (told : Trace) → ReadsOn limits turns start now old text told → left_of old ≡ [] → f.judge ≡ old.judge → f.unfinished.items ≡ old.unfinished.items → HasGiven turns start new f.turns (text ++ left_of f) → ReadsOn limits turns start new f (text ++ left_of f) told
read_more limits turns start now new old f text told is none judge kept given =
    record {
      given = given;
      same = ap (λ j. j.limits) judge ∙ is.same;
      at = record {
        seen = is.at.seen;
        parts = ap (λ t. t ++ left_of f) (all_seen old text told is.at none);
        reaches = alike_reaches old f is.at.seen told judge kept is.at.reaches;
      };
    }

-- the source has ended
pub over_of : (old f : LineReader) (text : List ℕ) (told : Trace) (at : IsAt old text told) → left_of old ≡ [] → f.judge ≡ old.judge → f.unfinished.items ≡ old.unfinished.items → IsOver f text told
over_of old f text told at none judge kept =
    subst (λ t. Reaches f.judge f.unfinished.items t told) (sym (all_seen old text told at none)) (alike_reaches old f at.seen told judge kept at.reaches)

-- the trace of the lines that were ended
pub front_of : (limits : Bounds) (old : LineReader) (text : List ℕ) (told : Trace) (at : IsAt old text told) → left_of old ≡ [] → old.judge.limits ≡ limits → trace_of limits (ended_lines text) ≡ Ok told
front_of limits old text told at none same =
    ap (λ t. trace_of limits (ended_lines t)) (all_seen old text told at none) ∙ ap (λ l. trace_of l (ended_lines at.seen)) (sym same) ∙ told_front old.judge.limits old.judge.line told at.reaches.unfinished at.seen at.reaches.is

-- a step that reads nothing
pub stepped_here : (limits : Bounds) (turns : ℕ) (start now : Position) (failed : Bool) (f : LineReader) (text : List ℕ) (told : Trace) (r : Result Step LinesFault) → HasStepped limits turns start now failed f text told r → Steps limits turns start now failed f text told r
stepped_here limits turns start now failed f text told r is =
    record { piece = []; stepped = subst (λ t. HasStepped limits turns start now failed f t told r) (sym (append_nil text)) is }

-- a line at fault, or a refused growth: there is no step
pub no_step : (now : Position) (failed : Bool) (old new : LineReader) (fault : ReadFault) (reason : LinesFault) → reason ≡ lines_fault fault → TakesLine old new (Err fault) → OnlyTakes old new → failed ≡ false → IsStep now old now failed new (Err reason)
no_step now failed old new fault reason is taken same sound = subst (λ e. IsStep now old now failed new (Err e)) (sym is) (by fault taken)
  where
    by : (f : ReadFault) → TakesLine old new (Err f) → IsStep now old now failed new (Err (lines_fault f))
    by (Line number kind) faulty = record {
      tells = λ limits turns start text told is.
          stepped_here limits turns start now failed new text told (Err (lines_fault (Line number kind))) (
            subst (λ left. HasGiven turns start now left text) (sym same.same_turns) is.given,
            subst (λ l. IsFaulty l text number kind) is.same (faulty text told is.at),
          );
      known = tt;
      leaves = sound;
      same_size = same.same_size;
    }
    by Memory refused = record { tells = λ limits turns start text told is. record { piece = []; stepped = tt }; known = tt; leaves = tt; same_size = same.same_size }

-- ---- what a step leaves

-- a line that was taken leaves the reader fit
pub line_fit : (old new : LineReader) (judged : Judged) → IsFit old → HasTakenLine old new judged → OnlyTakes old new → IsFit new
line_fit old new judged fit taken same = record {
  sound = taken.ready.sound;
  order = taken.ready.order;
  within = omega (arith, same.same_end, fit.within);
  room = same.same_size ∙ fit.room;
  few = taken.ready.few;
  countable = omega (arith, fit.countable, taken.line, taken.further, same.same_end, same.same_turns);
}

-- and so does the rest
pub rest_fit : (old new : LineReader) → IsFit old → HasTakenRest old new → OnlyTakes old new → IsFit new
rest_fit old new fit taken same = record {
  sound = taken.ready.sound;
  order = taken.ready.order;
  within = omega (arith, same.same_end, fit.within);
  room = same.same_size ∙ fit.room;
  few = taken.ready.few;
  countable = omega (arith, fit.countable, fit.order, taken.same_line, taken.spent, same.same_end, same.same_turns);
}

-- a read that didn't fail does, too
pub read_fit : (now later : Position) (failed more : Bool) (old new : LineReader) → IsFit old → HasFilledBuffer now old later failed new more → OnlyReads old new → IsFit new
read_fit now later failed more old new fit read same = record {
  sound = subst IsSound (sym same.same_judge) fit.sound;
  order = omega (arith, read.begin);
  within = read.within;
  room = same.same_size ∙ fit.room;
  few = subst (λ kept. length kept ≤ KEPT) (sym (ap (λ u. u.items) same.same_beginning)) fit.few;
  countable = omega (arith, fit.countable, fit.order, ap (λ j. j.line) same.same_judge, read.begin, read.within, read.turn);
}

-- it is nearer to the end after a line
pub line_less : (old new : LineReader) (judged : Judged) → HasTakenLine old new judged → OnlyTakes old new → fuel new < fuel old
line_less old new judged taken same = omega (arith, taken.further, taken.ready.order, same.same_end, same.same_turns)

-- it is no further from it after the rest
pub rest_less : {A : Type 0} (old mid new : LineReader) (r : Result A LinesFault) → HasTakenRest old mid → OnlyTakes old mid → OnOk r (fuel new < fuel mid) → OnOk r (fuel new < fuel old)
rest_less old mid new (Ok step) taken same less = omega (arith, less, taken.spent, same.same_end, same.same_turns)
rest_less old mid new (Err fault) taken same less = tt

-- and nearer after a read
pub read_less : (now later : Position) (failed : Bool) (old new : LineReader) (more : Bool) → HasFilledBuffer now old later failed new more → fuel new < fuel old
read_less now later failed old new more read = omega (arith, read.begin, read.within, read.turn)

-- ---- the last line

-- what is kept of a last line that is none
pub take_none : (n : ℕ) (xs : List ℕ) → 0 < n → take n xs ≡ [] → xs ≡ []
take_none zero xs some none = absurd (omega (arith, some))
take_none (suc n) [] some none = refl
take_none (suc n) (b ∷ xs) some none = absurd (omega (arith, ap length none))

none_kept : (kept unfinished : List ℕ) → kept ≡ take KEPT unfinished → kept ≡ [] → unfinished ≡ []
none_kept kept unfinished is none = take_none KEPT unfinished (omega arith) (sym is ∙ none)

pub whole_over : (f : LineReader) (text : List ℕ) (told : Trace) → f.unfinished.items ≡ [] → IsOver f text told → trace_of f.judge.limits text ≡ Ok told
whole_over f text told none over = told_whole f.judge.limits f.judge.line told over.unfinished text over.is (none_kept f.unfinished.items over.unfinished over.kept none)

pub last_over : (f : LineReader) (text line : List ℕ) (told : Trace) (r : Result Trace ReadFault) → f.unfinished.items ≢ [] → IsOver f text told → line ≡ f.unfinished.items → after_line f.judge.limits f.judge.line told line ≡ r → trace_of f.judge.limits text ≡ and_then r (λ more. Ok more)
last_over f text line told r some over is after =
    let same : take KEPT over.unfinished ≡ take KEPT line = sym over.kept ∙ sym (take_all KEPT f.unfinished.items (few_kept KEPT f.unfinished.items over.unfinished over.kept)) ∙ ap (take KEPT) (sym is) in
    told_last f.judge.limits f.judge.line told over.unfinished text r over.is (λ none. some (over.kept ∙ ap (take KEPT) none))
    (last_alike f.judge.limits f.judge.line told over.unfinished line same ∙ after)

-- ---- the beginning

-- nothing was read
pub begun : (limits : Bounds) (turns : ℕ) (start : Position) (f : line_reading.LineReader) → f.judge.limits ≡ limits → f.judge.line ≡ 1 → judging.HasJudged f.judge nothing → f.beginning ≡ [] → f.left ≡ [] → f.turns ≡ turns → line_reading.ReadsOn limits turns start start f [] nothing
begun limits turns start f same line judged none left turn =
    record {
      given = given_nothing turns f.turns start turn;
      same = same;
      at = record {
        seen = [];
        parts = sym left;
        reaches = record {
          unfinished = [];
          is = told_nothing f.judge.limits f.judge.line nothing [] line refl refl;
          kept = none;
          judged = judged;
        };
      };
    }

-- a last line, in whichever way it was judged
pub last_taken : (f new : LineReader) (line : List ℕ) (r : Result Judged ReadFault) → f.unfinished.items ≢ [] → line ≡ f.unfinished.items
    → JudgesLine f.judge new.judge (λ told. after_line f.judge.limits f.judge.line told line) r → TakesLast f new r
last_taken f new line (Ok judged) some is judges = record {
  trace = λ text told over. last_over f text line told (Ok (with_judged judged new.judge.names told)) some over is (judges.tells told over.judged);
  has_judged = λ text told over. judges.judged told over.judged;
  known = judges.known;
}
last_taken f new line (Err (Line number kind)) some is judges = λ text told over. last_over f text line told (Err (Line number kind)) some over is (judges.fault number kind refl told over.judged)
last_taken f new line (Err Memory) some is judges = tt

-- ---- steps in a row

-- a step that told nothing leaves the trace as it was
idle_on : (limits : Bounds) (turns : ℕ) (start now : Position) (failed : Bool) (f : LineReader) (text : List ℕ) (told : Trace) (step : Step) → is_idle step ≡ true → HasStepped limits turns start now failed f text told (Ok step) → ReadsOn limits turns start now f text told
idle_on limits turns start now failed f text told More idle is = is
idle_on limits turns start now failed f text told (Told Blank) idle is = is
idle_on limits turns start now failed f text told (Told Skipped) idle is = absurd (false≢true idle)
idle_on limits turns start now failed f text told (Told Stray) idle is = absurd (false≢true idle)
idle_on limits turns start now failed f text told (Told (Event thread event)) idle is = absurd (false≢true idle)
idle_on limits turns start now failed f text told End idle is = absurd (false≢true idle)

-- a step after one that told nothing
pub steps_after : (limits : Bounds) (turns : ℕ) (start now new : Position) (failed failed2 : Bool) (f f2 : LineReader) (text : List ℕ) (told : Trace) (step : Step) (r : Result Step LinesFault) → is_idle step ≡ true → Steps limits turns start now failed f text told (Ok step) → ((t : List ℕ) → ReadsOn limits turns start now f t told → Steps limits turns start new failed2 f2 t told r) → Steps limits turns start new failed2 f2 text told r
steps_after limits turns start now new failed failed2 f f2 text told step r idle first next =
    let second = next (text ++ first.piece) (idle_on limits turns start now failed f (text ++ first.piece) told step idle first.stepped) in
    record {
      piece = first.piece ++ second.piece;
      stepped = subst (λ t. HasStepped limits turns start new failed2 f2 t told r) (append_assoc text first.piece second.piece) second.stepped;
    }

-- such steps are one
pub step_after : (now mid later : Position) (failed failed2 : Bool) (old f f2 : LineReader) (step : Step) (r : Result Step LinesFault) → is_idle step ≡ true → IsStep now old mid failed f (Ok step) → IsStep mid f later failed2 f2 r → IsStep now old later failed2 f2 r
step_after now mid later failed failed2 old f f2 step r idle first second = record {
  tells = λ limits turns start text told is. steps_after limits turns start mid later failed failed2 f f2 text told step r idle (first.tells limits turns start text told is) (λ t. second.tells limits turns start t told);
  known = second.known;
  leaves = second.leaves;
  same_size = second.same_size ∙ first.same_size;
}
