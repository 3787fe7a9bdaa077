-- What a judged line does to each trace that a judge stands for.
use Rattle.std.specs.Prelude.{◌≡◌, ◌+◌, ◌^◌, ◌<◌, ◌≤◌, ℕ, List, false, Result, Ok, Err, IfOk, length}
use Rattle.gl_std.specs.Line.{Operation, Shape, is_on_itself}
use Rattle.gl_std.specs.Line.Shape.{Blank, Bad, Other, Call}
use Rattle.gl_std.specs.Trace.{after_call, after_shape}
use Rattle.gl_std.specs.bodies.States.{HasJudged, IsSound}
use Rattle.gl_std.specs.bodies.Telling.{with_judged, IsKnown}
use Rattle.gl_std.specs.declared.faults.ReadFault.{ReadFault}
use Rattle.gl_std.specs.declared.faults.ReadFault.TheVariants.{Line}
use Rattle.gl_std.specs.declared.faults.StdKind.{StdKind}
use Rattle.gl_std.specs.declared.judge.Judge.{Judge}
use Rattle.gl_std.specs.declared.judge.Judged.{Judged}
use Rattle.gl_std.specs.declared.trace.Trace.{Trace}

-- the next line can be judged: what is known is true of some trace, and there is a number for the line after it
pub record CanJudgeLine (j : Judge) : Type 0 where
  pub sound : IsSound j
  pub countable : j.line + 1 < 2 ^ 64

-- what comes after each of them is that trace with what the line is judged to be
abbrev pub TellsAs : Judge → Judge → (Trace → Result Trace ReadFault) → Judged → Type 0
TellsAs old new after judged =
    (told : Trace) → HasJudged old told → after told ≡ Ok (with_judged judged new.names told)

-- the judge stands for each of them with that
abbrev pub HasJudgedMore : Judge → Judge → Judged → Type 0
HasJudgedMore old new judged =
    (told : Trace) → HasJudged old told → HasJudged new (with_judged judged new.names told)

-- a fault that is answered is what comes after each of them
abbrev pub FailsAs : Judge → (Trace → Result Trace ReadFault) → Result Judged ReadFault → Type 0
FailsAs old after result =
    (number : ℕ) (kind : StdKind) → result ≡ Err (Line number kind) → (told : Trace)
    → HasJudged old told → after told ≡ Err (Line number kind)

-- a line is judged, where `after` tells what comes after a trace
pub record JudgesLine (old new : Judge) (after : Trace → Result Trace ReadFault)
    (result : Result Judged ReadFault) : Type 0 where
  -- what the line tells is told of each trace that the judge stands for, and the judge then stands for that
  pub tells : IfOk result (TellsAs old new after)
  pub judged : IfOk result (HasJudgedMore old new)
  -- an event is of a thread that has a name
  pub known : IfOk result (λ judged. IsKnown judged (length new.names.threads))
  -- a line is at fault only where it is after each trace that the judge stands for
  pub fault : FailsAs old after result
  pub same_limits : new.limits ≡ old.limits

-- a line that says this is judged
abbrev pub JudgesShape : Judge → Shape → Judge → Result Judged ReadFault → Type 0
JudgesShape old shape new result =
    JudgesLine old new (λ told. after_shape old.limits old.line told shape) result

-- a line that tells an event is judged
abbrev pub JudgesCall : Judge → Operation → List ℕ → List ℕ → List ℕ → Judge
    → Result Judged ReadFault → Type 0
JudgesCall old operation thread operand location new result =
    JudgesLine old new
    (λ told. after_call old.limits old.line told operation thread operand location) result

-- the judge has counted one line more, at most once as skipped and at most once as a stray: it is still the judge's line
pub record HasCountedLine (old new : Judge) : Type 0 where
  pub line : new.line ≡ old.line
  pub few_skipped : new.skipped ≤ old.skipped + 1
  pub few_stray : new.stray ≤ old.stray + 1

-- the same of a line that tells an event: it isn't skipped
pub record HasCountedEvent (old new : Judge) : Type 0 where
  pub line : new.line ≡ old.line
  pub none_skipped : new.skipped ≡ old.skipped
  pub few_stray : new.stray ≤ old.stray + 1

-- no thread forks or joins itself, if this is what a line says
abbrev pub AreApart : Shape → Type 0
AreApart Blank = Unit {0}
AreApart (Bad kind) = Unit {0}
AreApart Other = Unit {0}
AreApart (Call operation thread operand location) = is_on_itself operation thread operand ≡ false
