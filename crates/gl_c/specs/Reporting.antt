-- What making a report does.
use Rattle.std.specs.Prelude.{◌≡◌, ℕ, ◌==◌, List, [], ◌∷◌, Option, Some, None, Result, Ok, Err, if◌then◌else◌, is_some, option_and_then}
use Rattle.gl_event.specs.declared.events.Event.{Event}
use Rattle.gl_cycles.specs.Reports.{IsReportFault}
use Rattle.gl_cycles.specs.declared.found.Report.{Report}
use Rattle.gl_cycles.specs.declared.found.ReportFault.{ReportFault}
use Rattle.gl_cycles.specs.declared.found.ReportFault.TheVariants as fault
use Rattle.gl_filters.specs.Asked.{Asked, first_out_of_range}
use Rattle.gl_filters.specs.declared.query.Mode.{Mode}
use Rattle.gl_filters.specs.declared.query.Mode.TheVariants.{Basic, Guarded, Full}
use Rattle.gl_findings.specs.Reports.{IsReportOf}
use Rattle.gl_findings.specs.declared.listing.Listing.{Listing}
use Rattle.gl_intake.specs.Stream.{logs_of}
use Rattle.gl_std.specs.Names.{NameLists}
use Rattle.gl_c.specs.Calls.{IsOneOf}
use Rattle.gl_c.specs.declared.codes.TheConstants.{OK, MEMORY, MISUSE, RANGE, INCONSISTENT, BASIC, GUARDED, FULL_MODE}
use Rattle.gl_c.specs.declared.made_state.MadeState.{MadeState}
use Rattle.gl_c.specs.declared.session_state.SessionState.{SessionState}
use Rattle.gl_c.specs.declared.session_state.Stage.{Stage}
use Rattle.gl_c.specs.declared.session_state.Stage.TheVariants.{Running as Runs, Settled as HasSettled, Gone}

-- the mode with this number
abbrev pub mode_of : ℕ → Option Mode
mode_of mode =
    if mode == BASIC then Some Basic
    else (if mode == GUARDED then Some Guarded else (if mode == FULL_MODE then Some Full else None))

-- the query, if each of its numbers is in its range
abbrev pub in_range : Asked → Option Asked
in_range asked = if is_some (first_out_of_range asked) then None else Some asked

-- the query for these numbers, if each of them is in its range
abbrev pub query_of : ℕ → ℕ → ℕ → Option Asked
query_of mode length number =
    option_and_then (λ m. in_range (record { mode = m; len = length; max = number })) (mode_of mode)

-- the lists of what was pulled so far, of a session that runs
abbrev pub lists_so_far : Stage → Option (List (List Event))
lists_so_far (Runs r) = Some (logs_of r.collector.limits.threads r.collector.stream)
lists_so_far (HasSettled lists) = None
lists_so_far Gone = None

-- the lists that a session was settled into
abbrev pub settled_lists : Stage → Option (List (List Event))
settled_lists (Runs r) = None
settled_lists (HasSettled lists) = Some lists
settled_lists Gone = None

-- what is answered where there is no report
abbrev pub report_code : ReportFault → ℕ
report_code (fault.Inconsistent at ring) = INCONSISTENT
report_code fault.Memory = MEMORY

-- the handle is of the report, which lists this, with these names of its own or with none
abbrev pub IsOf : Listing → Report → Option NameLists → Option MadeState → Type 0
IsOf listing report names (Some made) =
    (made.report ≡ report) × (made.listing ≡ listing) × (made.names ≡ names)
IsOf listing report names None = ⊥

-- the report is put into the handle, or memory is refused; and where there is none, it is said why. The handle is as it was then
pub record IsKeeping (listing : Listing) (was : Option MadeState) (report : Report)
    (names : Option NameLists) (answer : ℕ) (now : Option MadeState) : Type 0 where
  pub answers : IsOneOf answer (OK ∷ MEMORY ∷ [])
  pub done : answer ≡ OK → IsOf listing report names now
  pub same : (answer ≡ OK → ⊥) → now ≡ was

abbrev pub IsKept : Listing → Option MadeState → Result Report ReportFault → Option NameLists → ℕ
    → Option MadeState → Type 0
IsKept listing was (Ok report) names answer now = IsKeeping listing was report names answer now
IsKept listing was (Err fault) names answer now = (answer ≡ report_code fault) × (now ≡ was)

-- the handle is of the report of these lists that lists cycles, their Goodlock report, or findings; with these names of its own or with none
abbrev pub HoldsReportOf : Listing → Asked → List (List Event) → Option NameLists
    → Option MadeState → Type 0
HoldsReportOf listing asked lists names (Some made) =
    IsReportOf listing asked lists made.report × (made.listing ≡ listing) × (made.names ≡ names)
HoldsReportOf listing asked lists names None = ⊥

-- the lists have no report, for this reason
pub record HaveNoReport (lists : List (List Event)) (answer : ℕ) : Type 0 where
  pub fault : ReportFault
  pub is : IsReportFault lists fault
  pub tells : answer ≡ report_code fault

-- the report of the lists that lists this is made into the handle; or the handle is as it was, and it is said why
pub record IsMaking (listing : Listing) (asked : Asked) (lists : List (List Event))
    (names : Option NameLists) (was : Option MadeState) (answer : ℕ) (now : Option MadeState)
    : Type 0 where
  pub done : answer ≡ OK → HoldsReportOf listing asked lists names now
  pub same : (answer ≡ OK → ⊥) → now ≡ was
  pub fault : (answer ≡ OK → ⊥) → HaveNoReport lists answer

-- a report is made where there are such a query and such lists. It has no names of its own
abbrev pub IsReporting : Listing → Option Asked → Option (List (List Event)) → Option MadeState → ℕ
    → Option MadeState → Type 0
IsReporting listing None lists was answer now = (answer ≡ RANGE) × (now ≡ was)
IsReporting listing (Some asked) None was answer now = (answer ≡ MISUSE) × (now ≡ was)
IsReporting listing (Some asked) (Some lists) was answer now =
    IsMaking listing asked lists None was answer now

-- a session's report is made into a handle that was of nothing
abbrev pub IsReportCall : Listing → (Stage → Option (List (List Event))) → Option SessionState
    → Option Asked → Option MadeState → ℕ → Option MadeState → Type 0
IsReportCall listing lists_of None asked was answer now = (answer ≡ MISUSE) × (now ≡ was)
IsReportCall listing lists_of (Some state) asked (Some made) answer now =
    (answer ≡ MISUSE) × (now ≡ Some made)
IsReportCall listing lists_of (Some state) asked None answer now =
    IsReporting listing asked (lists_of state.stage) None answer now
