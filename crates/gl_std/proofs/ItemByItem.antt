-- A trace that is read item by item.
use Rattle.std.proofs.Common.{◌≡◌, ℕ, ◌+◌, Bool, true, false, List, ◌++◌, length, take, Result, Ok, Err, sym, ap, subst, ◌∙◌, inl, inr, arith}
use Rattle.std.proofs.lemmas.Bool.{false≢true}
use Rattle.std.proofs.lemmas.List.{length-drop, length-take-le}
use Rattle.gl_event.specs.Bounds.{Bounds}
use Rattle.gl_io.specs.Positions.{Position}
use Rattle.gl_io.specs.Reads.{HasRead}
use Rattle.gl_io.specs.Uses.{used, SourceUse}
use Rattle.gl_std.specs.LineReading as line_reading
use Rattle.gl_std.specs.bodies.Lasts as lasts
use Rattle.gl_std.specs.Streaming.{with_item, GoesOn, HasNoFault, HasTold, HasToldAt, IsAnswerAt, IsOfNamed, Leaves, Stream, Stage as StageOf}
use Rattle.gl_std.specs.Faults.{lines_fault}
use Rattle.gl_std.specs.Names.{NameLists}
use Rattle.gl_std.specs.Streaming.Stage.{Reading, Done, Faulty}
use Rattle.gl_std.specs.Trace.{trace_of}
use Rattle.gl_std.specs.bodies.States.{reader_of, left_of, stage_of, stream_of, HasJudged, IsBuffered, IsFit, IsHeld, IsOver, ReadsOn}
use Rattle.gl_std.specs.bodies.Stepping.{is_idle, HasStepped, Steps}
use Rattle.gl_std.specs.bodies.Taking.{TakesLast}
use Rattle.gl_std.specs.bodies.Telling.{item_in, with_judged, IsKnown}
use Rattle.gl_std.specs.declared.faults.LinesFault.{LinesFault}
use Rattle.gl_std.specs.declared.faults.LinesFault.TheVariants.{Line, Read, Memory}
use Rattle.gl_std.specs.declared.faults.ReadFault.{ReadFault}
use Rattle.gl_std.specs.declared.faults.ReadFault.TheVariants.{Line as LineFault, Memory as Refused}
use Rattle.gl_std.specs.declared.line_reader.LineReader.{LineReader}
use Rattle.gl_std.specs.declared.line_reader.Step.{Step}
use Rattle.gl_std.specs.declared.line_reader.Step.TheVariants.{Told}
use Rattle.gl_std.specs.declared.judge.Judged.{Judged}
use Rattle.gl_std.specs.declared.judge.Judged.TheVariants.{Blank, Skipped, Stray, Event as EventLine}
use Rattle.gl_std.specs.declared.stream.Item.{Item}
use Rattle.gl_std.specs.declared.stream.Item.TheVariants.{Event, Skipped as SkippedItem, Stray as StrayItem, End}
use Rattle.gl_std.specs.declared.stream.Stage.{Stage}
use Rattle.gl_std.specs.declared.stream.Stage.TheVariants.{Reading as ReadingStage, Done as DoneStage, Faulty as FaultyStage}
use Rattle.gl_std.specs.declared.trace.Trace.{Trace}

-- ---- what the code's state shows

-- what is left of the latest read begins and ends in the buffer
left_long : (f : LineReader) → IsBuffered f → length (left_of f) + f.start ≡ f.end
left_long f held =
    let read = length-take-le f.end f.buffer.items (omega (arith, held.within, held.room, f.buffer.ok.0)) in
    omega (arith, held.order, read, length-drop f.start (take f.end f.buffer.items))

buffered : (f : LineReader) → IsFit f → IsBuffered f
buffered f fit = record { order = fit.order; within = fit.within; room = fit.room }

pub held_fit : (stage : Stage) (f : LineReader) → IsFit f → IsHeld stage f
held_fit ReadingStage f fit = buffered f fit
held_fit DoneStage f fit = tt
held_fit (FaultyStage fault) f fit = tt

-- a reader that is fit shows one that is
pub fit_shown : (f : LineReader) → IsFit f → line_reading.IsFit (reader_of f)
fit_shown f fit =
    let long = left_long f (buffered f fit) in
    record {
      sound = fit.sound;
      few = fit.few;
      within = omega (arith, long, fit.within);
      countable = omega (arith, long, fit.countable);
    }

-- and the other way round, where what is left lies in the buffer
fit_held : (f : LineReader) → IsBuffered f → line_reading.IsFit (reader_of f) → IsFit f
fit_held f held fit =
    let long = left_long f held in
    record {
      sound = fit.sound;
      order = held.order;
      within = held.within;
      room = held.room;
      few = fit.few;
      countable = omega (arith, long, fit.countable);
    }

-- the reader of items that show this stream, while reading goes on
pub fit_of : (stage : Stage) (f : LineReader) (i : Stream) → stream_of stage f ≡ i → IsHeld stage f → i.stage ≡ Reading → line_reading.IsFit i.reader → IsFit f
fit_of ReadingStage f i is held reading fit = fit_held f held (subst line_reading.IsFit (sym (ap (λ (s : Stream). s.reader) is)) fit)
fit_of DoneStage f i is held reading fit = let wrong : Done ≡ Reading = ap (λ (s : Stream). s.stage) is ∙ reading in cc
fit_of (FaultyStage fault) f i is held reading fit = let wrong : Faulty fault ≡ Reading = ap (λ (s : Stream). s.stage) is ∙ reading in cc

-- what was told, by what the items show
pub reads_shown : (limits : Bounds) (turns : ℕ) (start now : Position) (stage : Stage) (f : LineReader) (i : Stream) (text : List ℕ) (told : Trace) → stream_of stage f ≡ i → line_reading.ReadsOn limits turns start now i.reader text told → ReadsOn limits turns start now f text told
reads_shown limits turns start now stage f i text told is on = subst (λ (s : Stream). line_reading.ReadsOn limits turns start now s.reader text told) (sym is) on

pub over_shown : (stage : Stage) (f : LineReader) (i : Stream) (text : List ℕ) (told : Trace) → stream_of stage f ≡ i → lasts.IsOver i.reader text told → lasts.IsOver (reader_of f) text told
over_shown stage f i text told is over = subst (λ (s : Stream). lasts.IsOver s.reader text told) (sym is) over

-- ---- items

-- the last line, which isn't at fault
pub last_told : (limits : Bounds) (turns : ℕ) (start now : Position) (failed : Bool) (old f : LineReader) (text : List ℕ) (told : Trace) (judged : Judged) (item : Item) → item ≡ item_in judged → old.judge.limits ≡ limits → HasRead turns start now failed text true → trace_of old.judge.limits text ≡ Ok (with_judged judged f.judge.names told) → HasJudged f.judge (with_judged judged f.judge.names told) → HasToldAt Done limits turns (used start now failed) (reader_of f) text (with_item item f.judge.names told)
last_told limits turns start now failed old f text told judged item is same read trace has =
    subst (λ x. HasToldAt Done limits turns (used start now failed) (reader_of f) text (with_item x f.judge.names told)) (sym is)
    (read, ap (λ l. trace_of l text) (sym same) ∙ trace, has)

-- the last line, which is at fault, or memory was refused
pub last_faulty : (limits : Bounds) (turns : ℕ) (input : SourceUse) (old f : LineReader) (text : List ℕ) (told : Trace) (fault : ReadFault) (reason : LinesFault) → reason ≡ lines_fault fault → old.judge.limits ≡ limits → HasRead turns input.before input.after input.failed text true → TakesLast old f (Err fault) → IsOver old text told → HasToldAt (Faulty reason) limits turns input (reader_of f) text told
last_faulty limits turns input old f text told fault reason is same read taken over = subst (λ e. HasToldAt (Faulty e) limits turns input (reader_of f) text told) (sym is) (by fault taken)
  where
    by : (e : ReadFault) → TakesLast old f (Err e) → HasToldAt (Faulty (lines_fault e)) limits turns input (reader_of f) text told
    by (LineFault number kind) faulty = inr (read, ap (λ l. trace_of l text) (sym same) ∙ faulty text told over)
    by Refused refused = tt

-- a line that LF ended
pub told_item : (limits : Bounds) (turns : ℕ) (start now : Position) (failed : Bool) (stage : Stage) (f : LineReader) (text : List ℕ) (told : Trace) (step : Step) (judged : Judged) (item : Item) → stage_of stage ≡ Reading → step ≡ Told judged → item ≡ item_in judged → Steps limits turns start now failed f text told (Ok step) → GoesOn limits turns (used start now failed) (stream_of stage f) text told (Ok item)
told_item limits turns start now failed stage f text told step judged item reading is line steps =
    record {
      piece = steps.piece;
      tells =
          let stepped = subst (λ s. HasStepped limits turns start now failed f (text ++ steps.piece) told (Ok s)) is steps.stepped in
          subst (λ at. HasToldAt at limits turns (used start now failed) (reader_of f) (text ++ steps.piece) (with_item item f.judge.names told)) (sym reading)
          (subst (λ x. HasToldAt Reading limits turns (used start now failed) (reader_of f) (text ++ steps.piece) (with_item x f.judge.names told)) (sym line) stepped);
    }

-- a fault
pub stopped : (limits : Bounds) (turns : ℕ) (start now : Position) (failed : Bool) (f : LineReader) (text : List ℕ) (told : Trace) (fault : LinesFault) → HasStepped limits turns start now failed f text told (Err fault) → HasToldAt (Faulty fault) limits turns (used start now failed) (reader_of f) text told
stopped limits turns start now failed f text told (Line number kind) is = inl is
stopped limits turns start now failed f text told Read is = is
stopped limits turns start now failed f text told Memory is = tt

-- an event that was answered is of a thread that has a name
pub known_item : (item : Item) (judged : Judged) (names : NameLists) → item ≡ item_in judged → IsKnown judged (length names.threads) → IsOfNamed names (Ok item)
known_item item judged names is known = subst (λ i. IsOfNamed names (Ok i)) (sym is) (by judged known)
  where
    by : (j : Judged) → IsKnown j (length names.threads) → IsOfNamed names (Ok (item_in j))
    by Blank known = tt
    by Skipped known = tt
    by Stray known = tt
    by (EventLine t e) known = known

-- ---- what an answer leaves

no_fault : (at : StageOf) (i : Stream) → i.stage ≡ at → ((fault : LinesFault) → ¬ (at ≡ Faulty fault)) → HasNoFault i
no_fault at i is other = λ fault has. other fault (sym is ∙ has)

-- while reading goes on
pub leaves_reading : (item : Item) (judged : Judged) (i : Stream) → item ≡ item_in judged → is_idle (Told judged) ≡ false → i.stage ≡ Reading → Leaves (Ok item) i
leaves_reading item judged i is found reading = subst (λ x. Leaves (Ok x) i) (sym is) (by judged found)
  where
    none : HasNoFault i
    none = no_fault Reading i reading (λ fault is. cc)

    by : (j : Judged) → is_idle (Told j) ≡ false → Leaves (Ok (item_in j)) i
    by Blank found = absurd (false≢true (sym found))
    by Skipped found = none
    by Stray found = none
    by (EventLine t e) found = none

-- at the end
pub leaves_done : (item : Item) (i : Stream) → i.stage ≡ Done → Leaves (Ok item) i
leaves_done item i done = by item
  where
    none : HasNoFault i
    none = no_fault Done i done (λ fault is. cc)

    by : (x : Item) → Leaves (Ok x) i
    by (Event thread event) = none
    by SkippedItem = none
    by StrayItem = none
    by End = done

-- no item leaves a fault
pub item_no_fault : (item : Item) (i : Stream) → Leaves (Ok item) i → HasNoFault i
item_no_fault (Event thread event) i leaves = leaves
item_no_fault SkippedItem i leaves = leaves
item_no_fault StrayItem i leaves = leaves
item_no_fault End i leaves = no_fault Done i leaves (λ fault is. cc)

-- ---- while reading goes on

pub told_reading : (limits : Bounds) (turns : ℕ) (start now : Position) (failed : Bool) (i : Stream) (text : List ℕ) (told : Trace) → i.stage ≡ Reading → HasTold limits turns (used start now failed) i text told → line_reading.ReadsOn limits turns start now i.reader text told
told_reading limits turns start now failed i text told reading has = subst (λ at. HasToldAt at limits turns (used start now failed) i.reader text told) reading has

pub again_reading : (i : Stream) (result : Result Item LinesFault) → i.stage ≡ Reading → IsAnswerAt i.stage result
again_reading i result reading = subst (λ at. IsAnswerAt at result) (sym reading) tt
