-- What a report lists, cycles or findings: as text, and as JSON.
use Rattle.std.specs.Prelude.{ℕ, List, ◌++◌, codes}
use Rattle.serde_json.specs.Data.{Data}
use Rattle.serde_json.specs.Written.{compact_text}
use Rattle.gl_std.specs.Names.{NameLists}
use Rattle.gl_cycles.specs.declared.found.Report.{Report}
use Rattle.gl_findings.specs.declared.listing.Listing.{Listing}
use Rattle.gl_findings.specs.declared.listing.Listing.TheVariants.{Cycles, Findings}
use Rattle.gl_report.specs.Findings.{findings_tree}
use Rattle.gl_report.specs.Text.{listing_text}
use Rattle.gl_report.specs.Tree.{report_tree}

-- the text of a report that lists cycles, or findings
abbrev pub listed_text : Listing → NameLists → Report → List ℕ
listed_text listing names report =
    listing_text listing names report.edges report.found.cycles report.found.more

-- its tree of values: that of cycles, or that of findings
abbrev pub listed_tree : Listing → NameLists → Report → Data
listed_tree Cycles names report = report_tree names report
listed_tree Findings names report = findings_tree names report.query report.edges report.found

-- its line of JSON
abbrev pub listed_json : Listing → NameLists → Report → List ℕ
listed_json listing names report = compact_text (listed_tree listing names report) ++ codes "\n"
