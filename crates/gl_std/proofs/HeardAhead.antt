-- What is heard of a text that is read ahead.
use Rattle.std.proofs.Common.{◌≡◌, ℕ, ◌+◌, ◌*◌, ◌^◌, ◌<◌, ◌≤◌, Bool, true, false, List, [], ◌∷◌, ◌++◌, drop, length, take, Result, Ok, Err, refl, sym, ap, subst, ◌∙◌, append_assoc, length-append, arith}
use Rattle.std.specs.Prelude.{vec_len, IfOk, OnOk}
use Rattle.std.specs.declared.alloc.AllocError.{AllocError}
use Rattle.gl_event.specs.Bounds.{Bounds}
use Rattle.gl_event.specs.declared.events.Event.{Event}
use Rattle.gl_io.specs.Positions.{Position}
use Rattle.gl_io.specs.Reads.{HasRead}
use Rattle.gl_std.specs.Heard.{HasHeard}
use Rattle.gl_std.specs.LineReading.{HasGiven}
use Rattle.gl_std.specs.Names.{NameLists}
use Rattle.gl_std.specs.Pieces.{IsFaulty}
use Rattle.gl_std.specs.Trace.{nothing}
use Rattle.gl_std.specs.bodies.Ahead.{text_of, AreCut, AreRight, AreShort, CanCutAndJudge, CanJudge, CanReadAhead, FailsPiece, GivesOn, HasAddedPieces, HasCut, HasGoneOn, HasReadOn, HasReadPieces, HasReadTo, HearsEnding, HearsFault, HearsPieces, HearsRest, IsStillAhead, JudgesText, OnlyJudges, ReadsAhead, StayRight, TakesPiece}
use Rattle.gl_std.specs.bodies.Hearing.{Hears, HearsOn, IsReading}
use Rattle.gl_std.specs.bodies.States.{left_of, IsFit, IsSound, Reaches, ReadsOn}
use Rattle.gl_std.specs.declared.faults.ReadFault.{ReadFault}
use Rattle.gl_std.specs.declared.faults.ReadFault.TheVariants.{Line}
use Rattle.gl_std.specs.declared.faults.StdKind.{StdKind}
use Rattle.gl_std.specs.declared.from_source.Heard.{Heard}
use Rattle.gl_std.specs.declared.judge.Judge.{Judge}
use Rattle.gl_std.specs.declared.line_reader.TheConstants.{KEPT}
use Rattle.gl_io.specs.declared.source.TheConstants.{CHUNK}
use Rattle.gl_std.specs.declared.line_reader.LineReader.{LineReader}
use Rattle.gl_std.specs.declared.line_reader.Step.TheVariants.{End as AtEnd}
use Rattle.gl_std.specs.declared.line_reader.pieces.Ending.{Ending}
use Rattle.gl_std.specs.declared.line_reader.pieces.Ending.TheVariants.{More, End, Broke}
use Rattle.gl_std.specs.declared.line_reader.pieces.Piece.{Piece}
use Rattle.gl_std.specs.declared.trace.Trace.{Trace}
use Rattle.gl_std.proofs.LineByLine.{alike_reaches, append_nil, left_none}
use Rattle.gl_std.proofs.PieceByPiece.{faulty_more}
use Rattle.gl_std.proofs.PiecesAhead.{right_pieces, taken_no_piece}

-- ---- the last pieces

-- the text was read whole
pub heard_whole : (old new : LineReader) (lists lists2 : List (List Event)) (pieces : List ℕ) (whole : Bool) (r : Result Heard AllocError) → ((now : Position) (failed : Bool) → IfOk r (Hears now failed new lists2 (Ok AtEnd) now failed)) → TakesPiece old lists pieces new lists2 → new.judge.limits ≡ old.judge.limits → whole ≡ true → IfOk r (HearsPieces old lists pieces whole)
heard_whole old new lists lists2 pieces whole (Err e) hears takes limits is = tt
heard_whole old new lists lists2 pieces whole (Ok h) hears takes limits is = λ bounds turns start now failed seen told read same reaches listed.
    let more = takes seen told reaches listed in
    hears now failed bounds turns start (seen ++ pieces) more.later (subst (HasRead turns start now failed (seen ++ pieces)) is read, limits ∙ same, more.reaches) more.listed

-- whatever was heard of them was heard of the source
pub heard_pieces : (limits : Bounds) (turns : ℕ) (start now : Position) (failed whole : Bool) (f : LineReader) (lists : List (List Event)) (pieces seen : List ℕ) (told : Trace) (r : Result Heard AllocError) → IfOk r (HearsPieces f lists pieces whole) → HasRead turns start now failed (seen ++ pieces) whole → f.judge.limits ≡ limits → Reaches f.judge f.unfinished.items seen told → lists ≡ told.lists → IfOk r (HasHeard limits turns start now failed)
heard_pieces limits turns start now failed whole f lists pieces seen told (Err e) hears read same reaches listed = tt
heard_pieces limits turns start now failed whole f lists pieces seen told (Ok h) hears read same reaches listed = hears limits turns start now failed seen told read same reaches listed

-- ---- reading ahead

nothing_before : (front rest : List ℕ) → [] ≡ front ++ rest → front ≡ []
nothing_before [] rest is = refl
nothing_before (b ∷ front) rest is = absurd (nil_cons is)
  where
    nil_cons : [] ≡ b ∷ (front ++ rest) → ⊥
    nil_cons e = cc

-- before the first read
pub ahead_nothing : (limits : Bounds) (turns : ℕ) (start : Position) (f j : LineReader) (lists : List (List Event)) (pieces : List ℕ) → ReadsOn limits turns start start f [] nothing → ReadsOn limits turns start start j [] nothing → lists ≡ [] → pieces ≡ [] → ReadsAhead limits turns start start f j lists pieces
ahead_nothing limits turns start f j lists pieces on same none empty =
    let front = nothing_before same.at.seen _ same.at.parts in
    record {
      seen = same.at.seen;
      told = nothing;
      given = subst (HasGiven turns start start f.turns) (sym ((λ i. front i ++ empty i))) on.given;
      same = same.same;
      reaches = same.at.reaches;
      listed = none;
    }

-- what the reads gave, after a text that was read before them
pub read_to : (ending : Ending) (turns : ℕ) (start now later : Position) (failed : Bool) (old new : LineReader) (text gave : List ℕ) → GivesOn now old later failed new gave ending → HasGiven turns start now old.turns text → HasReadTo ending turns start later failed new.turns (text ++ gave)
read_to More turns start now later failed old new text gave gives given = gives.1 turns start text given
read_to End turns start now later failed old new text gave gives given = gives turns start text given
read_to Broke turns start now later failed old new text gave gives given = gives turns start text given

-- what was judged, what is left of what was read before, and what the reads gave then
regrouped : (seen front rest gave : List ℕ) → (seen ++ (front ++ rest)) ++ gave ≡ (seen ++ front) ++ (rest ++ gave)
regrouped seen front rest gave = ap (λ t. t ++ gave) (sym (append_assoc seen front rest)) ∙ append_assoc (seen ++ front) rest gave

-- the trace of all that was judged
reached_ahead : (limits : Bounds) (turns : ℕ) (start now : Position) (f j j2 : LineReader) (lists lists2 : List (List Event)) (front whole : List ℕ) (ahead : ReadsAhead limits turns start now f j lists whole) → TakesPiece j lists front j2 lists2 → (told : Trace) × Reaches j2.judge j2.unfinished.items (ahead.seen ++ front) told × (lists2 ≡ told.lists)
reached_ahead limits turns start now f j j2 lists lists2 front whole ahead takes =
    let more = takes ahead.seen ahead.told ahead.reaches ahead.listed in
    (more.later, more.reaches, more.listed)

-- what was read ahead first was judged, and more was read
pub ahead_more : (limits : Bounds) (turns : ℕ) (start now later : Position) (failed : Bool) (f f2 j j2 : LineReader) (lists lists2 : List (List Event)) (front rest pieces : List ℕ) → ReadsAhead limits turns start now f j lists (front ++ rest) → HasReadOn now f [] later failed f2 pieces More → TakesPiece j lists front j2 lists2 → j2.judge.limits ≡ j.judge.limits → ReadsAhead limits turns start later f2 j2 lists2 (rest ++ pieces)
ahead_more limits turns start now later failed f f2 j j2 lists lists2 front rest pieces ahead on takes same =
    let at = reached_ahead limits turns start now f j j2 lists lists2 front (front ++ rest) ahead takes in
    record {
      seen = ahead.seen ++ front;
      told = at.0;
      given = subst (HasGiven turns start later f2.turns) (regrouped ahead.seen front rest on.gave ∙ ap (λ t. (ahead.seen ++ front) ++ (rest ++ t)) (sym on.text)) (on.gives.1 turns start (ahead.seen ++ (front ++ rest)) ahead.given);
      same = same ∙ ahead.same;
      reaches = at.1;
      listed = at.2;
    }

-- a line of it is at fault
pub failed_ahead : (limits : Bounds) (turns : ℕ) (start now : Position) (f j : LineReader) (lists : List (List Event)) (front rest gave : List ℕ) (r : Result (Unit {0}) ReadFault) (number : ℕ) (kind : StdKind) (ahead : ReadsAhead limits turns start now f j lists (front ++ rest)) → FailsPiece j lists front r → r ≡ Err (Line number kind) → IsFaulty limits ((ahead.seen ++ (front ++ rest)) ++ gave) number kind
failed_ahead limits turns start now f j lists front rest gave r number kind ahead fails is =
    let faulty = fails number kind is ahead.seen ahead.told ahead.reaches ahead.listed in
    subst (λ t. IsFaulty limits t number kind) (sym (regrouped ahead.seen front rest gave))
    (faulty_more limits (ahead.seen ++ front) (rest ++ gave) number kind (subst (λ l. IsFaulty l (ahead.seen ++ front) number kind) ahead.same faulty))

-- ---- nothing is counted beyond what numbers hold

pub can_take : (f j : LineReader) (pieces : List Piece) (rest : List ℕ) → CanReadAhead f j (text_of pieces ++ rest) → AreShort pieces → AreCut pieces → CanJudge j pieces
can_take f j pieces rest can short cut = record { sound = can.sound; few = can.few; countable = omega (arith, length-append (text_of pieces) rest, can.countable); short = short; cut = cut }

-- pieces that were read first
pub can_finish : (now later : Position) (failed : Bool) (f f2 j : LineReader) (pieces : List Piece) (ending : Ending) → CanReadAhead f j [] → HasReadPieces now f later failed f2 pieces ending → AreCut pieces → CanJudge j pieces
can_finish now later failed f f2 j pieces ending can read cut = record {
  sound = can.sound;
  few = can.few;
  countable = omega (arith, can.countable, ap length read.reads.text, read.reads.within);
  short = read.short;
  cut = cut;
}

pub can_begin : (now later : Position) (failed : Bool) (f f2 j : LineReader) (pieces : List ℕ) → CanReadAhead f j [] → vec_len f2.buffer ≡ vec_len f.buffer → HasReadOn now f [] later failed f2 pieces More → CanReadAhead f2 j pieces
can_begin now later failed f f2 j pieces can same on = record {
  sound = can.sound;
  few = can.few;
  room = same ∙ can.room;
  countable = omega (arith, can.countable, ap length on.text, on.within);
}

-- pieces that were cut while those before them were judged, and others behind them that were read
pub can_leave : (f j j2 : LineReader) (front : List ℕ) (rest : List Piece) → CanReadAhead f j (front ++ text_of rest) → OnlyJudges j j2 (length front) → AreShort rest → AreCut rest → CanJudge j2 rest
can_leave f j j2 front rest can judges short cut = record {
  sound = judges.sound;
  few = judges.few;
  countable = omega (arith, can.countable, judges.lines, length-append front (text_of rest));
  short = short;
  cut = cut;
}

pub countable_both : (now later : Position) (failed : Bool) (f f2 j j2 : LineReader) (front rest pieces : List ℕ) (ending : Ending) → CanReadAhead f j (front ++ rest) → OnlyJudges j j2 (length front) → HasReadOn now f [] later failed f2 pieces ending → j2.judge.line + length (rest ++ pieces) + 1 < 2 ^ 64
countable_both now later failed f f2 j j2 front rest pieces ending can judges on =
    omega (arith, can.countable, judges.lines, length-append front rest, length-append rest pieces, ap length on.text, on.within)

pub can_more : (now later : Position) (failed : Bool) (f f2 j j2 : LineReader) (front rest pieces : List ℕ) → CanReadAhead f j (front ++ rest) → OnlyJudges j j2 (length front) → vec_len f2.buffer ≡ vec_len f.buffer → HasReadOn now f [] later failed f2 pieces More → CanReadAhead f2 j2 (rest ++ pieces)
can_more now later failed f f2 j j2 front rest pieces can judges same on = record {
  sound = judges.sound;
  few = judges.few;
  room = same ∙ can.room;
  countable = omega (arith, can.countable, judges.lines, length-append front rest, length-append rest pieces, ap length on.text, on.within);
}

-- the last pieces, of which some were judged while the others were cut
pub can_last : (j j2 : LineReader) (front : List ℕ) (old new : List Piece) → CanCutAndJudge j front old → OnlyJudges j j2 (length front) → HasCut old new → CanJudge j2 new
can_last j j2 front old new can judges cut = record {
  sound = judges.sound;
  few = judges.few;
  countable = omega (arith, can.countable, judges.lines, length-append front (text_of old), ap length cut.same);
  short = cut.short;
  cut = cut.cut;
}

pub judged_on : (f j j2 : LineReader) (front rest : List ℕ) → CanReadAhead f j (front ++ rest) → OnlyJudges j j2 (length front) → CanReadAhead f j2 rest
judged_on f j j2 front rest can judges = record {
  sound = judges.sound;
  few = judges.few;
  room = can.room;
  countable = omega (arith, can.countable, judges.lines, length-append front rest);
}

-- ---- no pieces

pub no_piece_short : (pieces : List Piece) → pieces ≡ [] → AreShort pieces
no_piece_short pieces none = subst AreShort (sym none) (λ k d within. absurd (omega (arith, within)))

pub no_piece_cut : (pieces : List Piece) → pieces ≡ [] → AreCut pieces
no_piece_cut pieces none = subst AreCut (sym none) (λ k d within. absurd (omega (arith, within)))

pub no_piece_right : (names : NameLists) (pieces : List Piece) → pieces ≡ [] → AreRight names pieces
no_piece_right names pieces none = subst (AreRight names) (sym none) (λ k d within. absurd (omega (arith, within)))

-- ---- pieces that were read into none

pub read_cut : (now later : Position) (failed : Bool) (old new : LineReader) (none pieces cut : List Piece) (ending : Ending) → none ≡ [] → text_of cut ≡ text_of pieces → HasReadOn now old (text_of none) later failed new (text_of pieces) ending → HasReadOn now old [] later failed new (text_of cut) ending
read_cut now later failed old new none pieces cut ending empty same on = record {
  gave = on.gave;
  text = same ∙ on.text ∙ ap (λ ps. text_of ps ++ on.gave) empty;
  gives = on.gives;
  within = on.within;
}

pub added_read : (now later : Position) (failed : Bool) (old new : LineReader) (none pieces : List Piece) (r : Result Ending AllocError) → none ≡ [] → IfOk r (HasAddedPieces now old none later failed new pieces) → IfOk r (HasReadPieces now old later failed new pieces)
added_read now later failed old new none pieces (Err e) empty added = tt
added_read now later failed old new none pieces (Ok ending) empty added = record {
  reads = read_cut now later failed old new none pieces pieces ending empty refl added.reads;
  same_size = added.only.same_size;
  short = added.short;
  fewer = added.fewer;
}

-- pieces in the memory of those that were right before others were judged
pub right_beside : (old new : LineReader) (lists lists2 : List (List Event)) (text : List ℕ) (spare none spare2 pieces : List Piece) (taken : Result (Unit {0}) ReadFault) (read : Result Ending AllocError) → none ≡ [] → AreRight old.judge.names spare → JudgesText old lists text new lists2 taken → OnOk read (StayRight spare none spare2 pieces) → OnOk taken (OnOk read (AreRight new.judge.names pieces))
right_beside old new lists lists2 text spare none spare2 pieces (Err f) read empty right judged stay = tt
right_beside old new lists lists2 text spare none spare2 pieces (Ok done) (Err e) empty right judged stay = tt
right_beside old new lists lists2 text spare none spare2 pieces (Ok done) (Ok ending) empty right judged stay =
    right_pieces old.judge.names new.judge.names pieces judged.only.grows (stay old.judge.names right (no_piece_right old.judge.names none empty)).1

-- ---- a fault by its parts

pub faulty_parts : (limits : Bounds) (text : List ℕ) (number number2 : ℕ) (kind kind2 : StdKind) → number2 ≡ number → kind2 ≡ kind → IsFaulty limits text number kind → IsFaulty limits text number2 kind2
faulty_parts limits text number number2 kind kind2 a b faulty = subst (λ n. IsFaulty limits text n kind2) (sym a) (subst (λ k. IsFaulty limits text number k) (sym b) faulty)

-- ---- one reader in place of two

-- nothing is left of its latest read
gone_left : (f j new : LineReader) → HasGoneOn f j new → left_of new ≡ []
gone_left f j new gone = ap (λ n. drop n (take new.end new.buffer.items)) (gone.begin ∙ sym gone.end) ∙ left_none new.buffer.items new.end

pub gone_fit : (f j j2 new : LineReader) (pieces : List ℕ) → CanReadAhead f j pieces → OnlyJudges j j2 (length pieces) → HasGoneOn f j2 new → IsFit new
gone_fit f j j2 new pieces can judges gone = record {
  sound = subst IsSound (sym gone.judge) judges.sound;
  order = omega (arith, gone.begin);
  within = omega (arith, gone.end);
  room = gone.same_size ∙ can.room;
  few = subst (λ u. length u ≤ KEPT) (sym gone.beginning) judges.few;
  countable = omega (arith, ap (λ (j : Judge). j.line) gone.judge, ap (λ n. n * CHUNK) gone.same_turns, judges.lines, can.countable, gone.end);
}

-- it reads on where the two were
pub gone_on : (limits : Bounds) (turns : ℕ) (start now : Position) (f j j2 new : LineReader) (lists lists2 : List (List Event)) (pieces : List ℕ) → ReadsAhead limits turns start now f j lists pieces → TakesPiece j lists pieces j2 lists2 → j2.judge.limits ≡ j.judge.limits → HasGoneOn f j2 new → IsReading limits turns start now new lists2
gone_on limits turns start now f j j2 new lists lists2 pieces ahead takes same gone =
    let at = reached_ahead limits turns start now f j j2 lists lists2 pieces pieces ahead takes in
    let text = ahead.seen ++ pieces in
    record {
      text = text;
      told = at.0;
      reads = record {
        given = subst (λ n. HasGiven turns start now n text) (sym gone.same_turns) ahead.given;
        same = ap (λ (j : Judge). j.limits) gone.judge ∙ same ∙ ahead.same;
        at = record {
          seen = text;
          parts = sym (append_nil text) ∙ ap (λ l. text ++ l) (sym (gone_left f j2 new gone));
          reaches = alike_reaches j2 new text at.0 gone.judge gone.beginning at.1;
        };
      };
      listed = at.2;
    }

-- what it hears is what is heard of the source
pub heard_rest : (now later : Position) (failed : Bool) (f j j2 new : LineReader) (lists lists2 : List (List Event)) (pieces : List ℕ) (r : Result Heard AllocError) → IfOk r (HearsOn now new lists2 later failed) → TakesPiece j lists pieces j2 lists2 → j2.judge.limits ≡ j.judge.limits → HasGoneOn f j2 new → IfOk r (HearsRest now f j lists pieces later failed)
heard_rest now later failed f j j2 new lists lists2 pieces (Err e) hears takes same gone = tt
heard_rest now later failed f j j2 new lists lists2 pieces (Ok h) hears takes same gone = λ limits turns start ahead.
    hears limits turns start (gone_on limits turns start now f j j2 new lists lists2 pieces ahead takes same gone)

pub heard_after : (limits : Bounds) (turns : ℕ) (start now later : Position) (failed : Bool) (f j : LineReader) (lists : List (List Event)) (pieces : List ℕ) (r : Result Heard AllocError) → IfOk r (HearsRest now f j lists pieces later failed) → ReadsAhead limits turns start now f j lists pieces → IfOk r (HasHeard limits turns start later failed)
heard_after limits turns start now later failed f j lists pieces (Err e) hears ahead = tt
heard_after limits turns start now later failed f j lists pieces (Ok h) hears ahead = hears limits turns start ahead

-- ---- rounds of reading ahead

-- one thread goes on alone
pub ending_more : (now later : Position) (failed failed2 : Bool) (f j : LineReader) (lists : List (List Event)) (pieces : List ℕ) (ending : Ending) (r : Result Heard AllocError) → IfOk r (HearsRest now f j lists pieces later failed2) → ending ≡ More → IfOk r (HearsEnding ending now failed f j lists pieces later failed2)
ending_more now later failed failed2 f j lists pieces ending (Err e) hears is = tt
ending_more now later failed failed2 f j lists pieces ending (Ok h) hears is = λ limits turns start seen told read same reaches listed.
    hears limits turns start (record { seen = seen; told = told; given = subst (λ e. HasReadTo e turns start now failed f.turns (seen ++ pieces)) is read; same = same; reaches = reaches; listed = listed })

-- the source has ended
pub ending_end : (now : Position) (failed : Bool) (f j : LineReader) (lists : List (List Event)) (pieces : List ℕ) (ending : Ending) (r : Result Heard AllocError) → IfOk r (HearsPieces j lists pieces true) → ending ≡ End → IfOk r (HearsEnding ending now failed f j lists pieces now failed)
ending_end now failed f j lists pieces ending (Err e) hears is = tt
ending_end now failed f j lists pieces ending (Ok h) hears is = λ limits turns start seen told read same reaches listed.
    hears limits turns start now failed seen told (subst (λ e. HasReadTo e turns start now failed f.turns (seen ++ pieces)) is read) same reaches listed

-- a read failed, or no turn was left
pub ending_broke : (now : Position) (failed : Bool) (f j : LineReader) (lists : List (List Event)) (pieces : List ℕ) (ending : Ending) (r : Result Heard AllocError) → IfOk r (HearsPieces j lists pieces false) → ending ≡ Broke → IfOk r (HearsEnding ending now failed f j lists pieces now failed)
ending_broke now failed f j lists pieces ending (Err e) hears is = tt
ending_broke now failed f j lists pieces ending (Ok h) hears is = λ limits turns start seen told read same reaches listed.
    hears limits turns start now failed seen told (subst (λ e. HasReadTo e turns start now failed f.turns (seen ++ pieces)) is read) same reaches listed

-- what is heard after the last round is what is heard of the source
pub rest_last : (now later mid last : Position) (failed failed2 : Bool) (f0 j0 : LineReader) (lists0 : List (List Event)) (pieces0 : List ℕ) (f f2 j j2 : LineReader) (lists lists2 : List (List Event)) (front rest pieces : List ℕ) (ending : Ending) (r : Result Heard AllocError) → IsStillAhead now f0 j0 lists0 pieces0 later f j lists (front ++ rest) → HasReadOn later f [] mid failed f2 pieces ending → TakesPiece j lists front j2 lists2 → j2.judge.limits ≡ j.judge.limits → IfOk r (HearsEnding ending mid failed f2 j2 lists2 (rest ++ pieces) last failed2) → IfOk r (HearsRest now f0 j0 lists0 pieces0 last failed2)
rest_last now later mid last failed failed2 f0 j0 lists0 pieces0 f f2 j j2 lists lists2 front rest pieces ending (Err e) still on takes same hears = tt
rest_last now later mid last failed failed2 f0 j0 lists0 pieces0 f f2 j j2 lists lists2 front rest pieces ending (Ok h) still on takes same hears = λ limits turns start was.
    let ahead = still limits turns start was in
    let at = reached_ahead limits turns start later f j j2 lists lists2 front (front ++ rest) ahead takes in
    hears limits turns start (ahead.seen ++ front) at.0
    (subst (HasReadTo ending turns start mid failed f2.turns) (regrouped ahead.seen front rest on.gave ∙ ap (λ t. (ahead.seen ++ front) ++ (rest ++ t)) (sym on.text)) (read_to ending turns start later mid failed f f2 (ahead.seen ++ (front ++ rest)) on.gave on.gives ahead.given))
    (same ∙ ahead.same) at.1 at.2

-- and what is heard after the first piece
pub begin_rest : (now later last : Position) (failed failed2 : Bool) (f f2 j : LineReader) (lists : List (List Event)) (pieces : List ℕ) (r : Result Heard AllocError) → HasReadOn now f [] later failed f2 pieces More → IfOk r (HearsRest later f2 j lists pieces last failed2) → IfOk r (HearsRest now f j lists [] last failed2)
begin_rest now later last failed failed2 f f2 j lists pieces (Err e) on hears = tt
begin_rest now later last failed failed2 f f2 j lists pieces (Ok h) on hears = λ limits turns start was.
    hears limits turns start (ahead_more limits turns start now later failed f f2 j j lists lists [] [] pieces was on (taken_no_piece j lists) refl)

-- and so it is where a line of what was read ahead is at fault
pub rest_faulty : (now later mid last : Position) (failed failed2 : Bool) (f0 j0 : LineReader) (lists0 : List (List Event)) (pieces0 : List ℕ) (f f2 j : LineReader) (lists : List (List Event)) (front rest pieces : List ℕ) (ending : Ending) (r : Result (Unit {0}) ReadFault) (number number2 : ℕ) (kind kind2 : StdKind) (h : Heard) → IsStillAhead now f0 j0 lists0 pieces0 later f j lists (front ++ rest) → HasReadOn later f [] mid failed f2 pieces ending → FailsPiece j lists front r → r ≡ Err (Line number kind) → number2 ≡ number → kind2 ≡ kind → HearsFault ending mid failed f2.turns number2 kind2 last failed2 h → HearsRest now f0 j0 lists0 pieces0 last failed2 h
rest_faulty now later mid last failed failed2 f0 j0 lists0 pieces0 f f2 j lists front rest pieces ending r number number2 kind kind2 h still on fails is a b hears = λ limits turns start was.
    let ahead = still limits turns start was in
    let text = (ahead.seen ++ (front ++ rest)) ++ on.gave in
    hears limits turns start text (read_to ending turns start later mid failed f f2 (ahead.seen ++ (front ++ rest)) on.gave on.gives ahead.given)
    (faulty_parts limits text number number2 kind kind2 a b (failed_ahead limits turns start later f j lists front rest on.gave r number kind ahead fails is))

-- some of the last pieces were judged, and this was heard of the others
pub ending_both : (now later : Position) (failed failed2 : Bool) (f j j2 : LineReader) (lists lists2 : List (List Event)) (front rest : List ℕ) (ending : Ending) (r : Result Heard AllocError) → TakesPiece j lists front j2 lists2 → j2.judge.limits ≡ j.judge.limits → IfOk r (HearsEnding ending now failed f j2 lists2 rest later failed2) → IfOk r (HearsEnding ending now failed f j lists (front ++ rest) later failed2)
ending_both now later failed failed2 f j j2 lists lists2 front rest ending (Err e) takes limits hears = tt
ending_both now later failed failed2 f j j2 lists lists2 front rest ending (Ok h) takes limits hears = λ bounds turns start seen told read same reaches listed.
    let more = takes seen told reaches listed in
    hears bounds turns start (seen ++ front) more.later
    (subst (HasReadTo ending turns start now failed f.turns) (sym (append_assoc seen front rest)) read)
    (limits ∙ same) more.reaches more.listed

-- or one of their lines is at fault
pub ending_faulty : (now later : Position) (failed failed2 : Bool) (f j : LineReader) (lists : List (List Event)) (front rest : List ℕ) (ending : Ending) (r : Result (Unit {0}) ReadFault) (number number2 : ℕ) (kind kind2 : StdKind) (h : Heard) → FailsPiece j lists front r → r ≡ Err (Line number kind) → number2 ≡ number → kind2 ≡ kind → HearsFault ending now failed f.turns number2 kind2 later failed2 h → HearsEnding ending now failed f j lists (front ++ rest) later failed2 h
ending_faulty now later failed failed2 f j lists front rest ending r number number2 kind kind2 h fails is a b hears = λ limits turns start seen told read same reaches listed.
    let text = seen ++ (front ++ rest) in
    let faulty = fails number kind is seen told reaches listed in
    hears limits turns start text read
    (faulty_parts limits text number number2 kind kind2 a b
    (subst (λ t. IsFaulty limits t number kind) (append_assoc seen front rest)
    (faulty_more limits (seen ++ front) rest number kind (subst (λ l. IsFaulty l (seen ++ front) number kind) same faulty))))
