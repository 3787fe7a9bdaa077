-- What opening a session does.
use Rattle.std.specs.Prelude.{◌≡◌, ℕ, List, [], ◌++◌, Option, Some, None, map, reverse, codes, decimal}
use Rattle.std.specs.List.{range_with_len}
use Rattle.std.specs.Option.{option_map}
use Rattle.gl_event.specs.Bounds.{Bounds, first_out_of_range}
use Rattle.gl_engine.specs.Collecting.{Collecting, IsOpened}
use Rattle.gl_engine.specs.Recording.{Recording}
use Rattle.gl_c.specs.Calls.{IsCodeFor}
use Rattle.gl_c.specs.declared.codes.TheConstants.{OK, MISUSE, RANGE}
use Rattle.gl_c.specs.declared.session_state.SessionState.{SessionState}
use Rattle.gl_c.specs.declared.session_state.Stage.{Stage}
use Rattle.gl_c.specs.declared.session_state.Stage.TheVariants.{Running as Runs, Settled as HasSettled, Gone}

-- the name of the thread with this number: `T`, and the number in decimal digits
abbrev pub thread_name : ℕ → List ℕ
thread_name number = codes "T" ++ decimal number

-- the names of so many threads, from thread 0 on
abbrev pub thread_names : ℕ → List (List ℕ)
thread_names count = map thread_name (range_with_len 0 count)

-- these are the recorders of a session that was opened, the last thread's first
pub record AreOpened (number : ℕ) (limits : Bounds) (recorders : List Recording)
    (collector : Collecting) : Type 0 where
  pub in_order : List Recording
  pub turned : recorders ≡ reverse in_order
  pub opened : IsOpened number limits in_order collector

-- what runs was opened with these recorders
abbrev pub IsNewStage : ℕ → Bounds → List Recording → Stage → Type 0
IsNewStage number limits recorders (Runs r) =
    (r.limits ≡ limits) × AreOpened number limits recorders r.collector
IsNewStage number limits recorders (HasSettled lists) = ⊥
IsNewStage number limits recorders Gone = ⊥

-- a new session: none of its recorders is given out, there are no receipts, its threads are named T0, T1, .., and no
-- lock and no place has a name
pub record IsNewSession (number : ℕ) (limits : Bounds) (new : SessionState) : Type 0 where
  pub number_is : new.number ≡ number
  pub threads : new.names.threads ≡ thread_names limits.threads
  pub no_locks : new.names.locks ≡ []
  pub no_places : new.names.locs ≡ []
  pub no_receipts : new.receipts.items ≡ []
  pub runs : IsNewStage number limits new.recorders.items new.stage

-- the handle is of a new session
abbrev pub IsNewOf : ℕ → Bounds → Option SessionState → Type 0
IsNewOf number limits (Some new) = IsNewSession number limits new
IsNewOf number limits None = ⊥

-- what stands against opening a session: the handle is of one, or a limit is out of its range
abbrev pub open_refusal : Bounds → Option SessionState → Option ℕ
open_refusal limits (Some state) = Some MISUSE
open_refusal limits None = option_map (λ bad. RANGE) (first_out_of_range limits)

-- a session is opened into a handle that was of nothing; or the handle is as it was
pub record IsOpening (number : ℕ) (limits : Bounds) (was : Option SessionState) (answer : ℕ)
    (now : Option SessionState) : Type 0 where
  pub answers : IsCodeFor (open_refusal limits was) answer
  pub done : answer ≡ OK → (was ≡ None) × IsNewOf number limits now
  pub same : (answer ≡ OK → ⊥) → now ≡ was
