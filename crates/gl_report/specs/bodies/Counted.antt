-- What is counted where edges are printed.
use Rattle.std.specs.Prelude.{List, [], map}
use Rattle.gl_edges.specs.declared.edge.Edge.{Edge}
use Rattle.gl_edges.specs.declared.edge.Sample.{Sample}
use Rattle.gl_findings.specs.Counts.{counts_of}
use Rattle.gl_findings.specs.declared.counts.ClassCounts.{ClassCounts}
use Rattle.gl_findings.specs.declared.listing.Listing.{Listing}
use Rattle.gl_findings.specs.declared.listing.Listing.TheVariants.{Cycles, Findings}

-- the counts of each edge's class, where findings are listed
abbrev pub listed_counts : Listing → List (Edge × Sample) → List ClassCounts
listed_counts Cycles table = []
listed_counts Findings table = map (counts_of table) table
