-- What the ruling on an event does to what is known of the threads, whatever lists of events they stand for.
use Rattle.std.specs.Prelude.{◌≡◌, ℕ, List, Option, Result, Ok, Err}
use Rattle.gl_event.specs.Lawful.{lock_refusal}
use Rattle.gl_event.specs.States.{State}
use Rattle.gl_event.specs.declared.events.Event.{Event}
use Rattle.gl_std.specs.Standings.{AreStanding}
use Rattle.gl_std.specs.Trace.{events_of}
use Rattle.gl_std.specs.bodies.Finding.{ruling_of}
use Rattle.gl_std.specs.declared.faults.ReadFault.{ReadFault}
use Rattle.gl_std.specs.declared.faults.ReadFault.TheVariants.{Line}
use Rattle.gl_std.specs.declared.faults.StdKind.{StdKind}
use Rattle.gl_std.specs.declared.judge.Judged.{Judged}
use Rattle.gl_std.specs.declared.judge.Judged.TheVariants.{Event as Told, Stray as IsStray}
use Rattle.gl_std.specs.declared.ruling.Ruling.{Ruling}
use Rattle.gl_std.specs.declared.ruling.Ruling.TheVariants.{Kept, Stray, Fault}

-- where the lists stand before, the lists so changed stand after
abbrev pub Stands : List State → List State → (List (List Event) → List (List Event)) → Type 0
Stands before after changed =
    (lists : List (List Event)) → AreStanding lists before → AreStanding (changed lists) after

-- the ruling on the thread's event is that of the locks that it holds and of the limit
abbrev pub IsRulingOf : List State → Option ℕ → Event → Option StdKind → Ruling → Type 0
IsRulingOf states thread event limit ruling =
    (lists : List (List Event)) → AreStanding lists states
    → ruling ≡ ruling_of (lock_refusal (events_of lists thread) event) limit

-- after this ruling the lists with a kept event stand, and a stray has changed nothing
pub record StandsRuled (before after : List State)
    (with_kept : List (List Event) → List (List Event)) (ruling : Ruling) : Type 0 where
  pub kept : ruling ≡ Kept → Stands before after with_kept
  pub stray : ruling ≡ Stray → after ≡ before

-- what the line with this number is, where the ruling on the thread's event is this
abbrev pub judged_by : Ruling → ℕ → ℕ → Event → Result Judged ReadFault
judged_by Kept line thread event = Ok (Told thread event)
judged_by Stray line thread event = Ok IsStray
judged_by (Fault kind) line thread event = Err (Line line kind)

-- one, for a stray
abbrev pub if_stray : Ruling → ℕ
if_stray Kept = 0
if_stray Stray = 1
if_stray (Fault kind) = 0
