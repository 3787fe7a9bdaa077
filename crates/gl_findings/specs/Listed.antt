-- What is listed of findings: the first ones, and whether there are more.
use Rattle.std.specs.Prelude.{Bool, List}
use Rattle.gl_event.specs.declared.events.Segment.{Segment}
use Rattle.gl_edges.specs.declared.edge.Edge.{Edge}
use Rattle.gl_edges.specs.declared.edge.Sample.{Sample}
use Rattle.gl_filters.specs.Asked.{Asked}
use Rattle.gl_cycles.specs.Listed.{listed}
use Rattle.gl_cycles.specs.declared.found.Found.{Found}
use Rattle.gl_findings.specs.Findings.{findings}

-- of the findings that are asked for, each shown by a cycle, by a test of which segment is before which
abbrev pub listed_findings : Asked → (Segment → Segment → Bool) → List (Edge × Sample) → Found
listed_findings asked before pairs = listed asked.max (findings before asked.mode asked.len pairs)
