-- What making a report with locks and places numbered by first mention does, and by which names a report is printed.
use Rattle.std.specs.Prelude.{◌≡◌, ℕ, Bool, true, false, List, Option, Some, None, unwrap_or}
use Rattle.gl_event.specs.declared.events.Event.{Event}
use Rattle.gl_std.specs.Names.{NameLists}
use Rattle.gl_renumbering.specs.Tales.{have_names, lists_by_mention, names_by_mention, TellTheSame}
use Rattle.gl_filters.specs.Asked.{Asked}
use Rattle.gl_findings.specs.declared.listing.Listing.{Listing}
use Rattle.gl_c.specs.Reporting.{settled_lists, IsMaking, HoldsReportOf}
use Rattle.gl_c.specs.declared.codes.TheConstants.{MISUSE, RANGE, UNNAMED}
use Rattle.gl_c.specs.declared.made_state.MadeState.{MadeState}
use Rattle.gl_c.specs.declared.session_state.SessionState.{SessionState}

-- the names that a report is printed by: its own, or else the session's
abbrev pub names_for : SessionState → MadeState → NameLists
names_for state made = unwrap_or made.names state.names

-- the handle is of the report of the lists by mention that lists cycles, their Goodlock report, or findings; with the names by mention
abbrev pub IsByMention : Listing → Asked → NameLists → List (List Event) → Option MadeState → Type 0
IsByMention listing asked names lists now =
    HoldsReportOf listing asked (lists_by_mention names lists)
    (Some (names_by_mention names lists)) now

-- such a report is made where all locks and places of the lists have names
abbrev pub IsMakingByMention : Bool → Listing → Asked → NameLists → List (List Event)
    → Option MadeState → ℕ → Option MadeState → Type 0
IsMakingByMention true listing asked names lists was answer now =
    IsMaking listing asked (lists_by_mention names lists)
    (Some (names_by_mention names lists)) was answer now
IsMakingByMention false listing asked names lists was answer now =
    (answer ≡ UNNAMED) × (now ≡ was)

-- it is made where there are such a query and such lists
abbrev pub IsReportingByMention : Listing → Option Asked → NameLists → Option (List (List Event))
    → Option MadeState → ℕ → Option MadeState → Type 0
IsReportingByMention listing None names lists was answer now = (answer ≡ RANGE) × (now ≡ was)
IsReportingByMention listing (Some asked) names None was answer now =
    (answer ≡ MISUSE) × (now ≡ was)
IsReportingByMention listing (Some asked) names (Some lists) was answer now =
    IsMakingByMention (have_names names lists) listing asked names lists was answer now

-- the report of a settled session is made so into a handle that was of nothing
abbrev pub IsReportByMention : Listing → Option SessionState → Option Asked → Option MadeState → ℕ
    → Option MadeState → Type 0
IsReportByMention listing None asked was answer now = (answer ≡ MISUSE) × (now ≡ was)
IsReportByMention listing (Some state) asked (Some made) answer now =
    (answer ≡ MISUSE) × (now ≡ Some made)
IsReportByMention listing (Some state) asked None answer now =
    IsReportingByMention listing asked state.names (settled_lists state.stage) None answer now

-- where lists tell the same, whatever numbers their locks and places have, what is made of them by mention is the same: the
-- report, and the names that it is printed by
abbrev pub SameTalesSameReport : Type 0
SameTalesSameReport =
    (listing : Listing) (asked : Asked) (names others : NameLists)
    (lists other_lists : List (List Event)) (made other : MadeState)
    → TellTheSame names lists others other_lists
    → IsByMention listing asked names lists (Some made)
    → IsByMention listing asked others other_lists (Some other)
    → made ≡ other
