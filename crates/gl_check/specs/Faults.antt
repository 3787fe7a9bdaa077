-- Answers in words.
use Rattle.std.specs.Prelude.{ℕ, List, [], ◌++◌, if◌then◌else◌, codes}
use Rattle.std.specs.Fmt.{decimal}
use Rattle.gl_check.specs.declared.faults.CheckFault.{CheckFault}
use Rattle.gl_check.specs.declared.faults.CheckFault.TheVariants.{Json, Shape, Inconsistent, Table, Edge, Verdict, Order, Trim, Memory}
use Rattle.gl_check.specs.declared.reports.Checked.{Checked}
use Rattle.gl_findings.specs.declared.listing.Listing.{Listing}
use Rattle.gl_findings.specs.declared.listing.Listing.TheVariants.{Cycles, Findings}

-- what is printed of why a report isn't accepted; cycles, edges and entries count from 0, and findings as the cycles that show them
abbrev pub text_of : CheckFault → List ℕ
text_of Json = codes "report is not JSON"
text_of Shape = codes "report has the wrong shape"
text_of (Inconsistent at ring) = codes "a segment precedes itself"
text_of (Table k) = codes "table entry " ++ decimal k ++ codes " is wrong"
text_of (Edge i k) =
    codes "cycle " ++ (decimal i ++ (codes " edge " ++ (decimal k ++ codes " is not in the trace")))
text_of (Verdict i verdict) = codes "cycle " ++ decimal i ++ codes " is not valid"
text_of (Order i) = codes "cycle " ++ decimal i ++ codes " is out of order"
text_of (Trim i) = codes "trim entry " ++ decimal i ++ codes " is wrong"
text_of Memory = codes "out of memory"

-- the word for what is listed
abbrev pub listing_word : Listing → List ℕ
listing_word Cycles = codes "cycles"
listing_word Findings = codes "findings"

-- what is printed of a report that is accepted
abbrev pub checked_text : Checked → List ℕ
checked_text checked =
    codes "ok, " ++ (listing_word checked.listing
    ++ (codes ": " ++ (decimal checked.cycles
    ++ (if checked.acyclic then codes ", none of any length" else []))))
