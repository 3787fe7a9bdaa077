use Rattle.std.proofs.Common.{[]}
use Rattle.gl_filters.specs.Picked.{edges_of_table}
use Rattle.gl_grounds.specs.Classes.{classes_of}
use Rattle.gl_findings.proofs.Spanned.{spans_on}
use Rattle.gl_findings.proofs.finder.Finder.add_from.Goals as goal

pub grow_by-requires-clause-spans : goal.grow_by-requires-clause-spans
grow_by-requires-clause-spans c =
    let s = c.args.self.now in
    spans_on s.mode (edges_of_table s.table.now) (classes_of s.table.now) s.among_models.ground.flags.now s.len [] c.args.class s.begins.now c.in_ok-spans.spans c.requires.ready.begin c.in_ok-spans.ensures.all c.in_ok-spans.ensures.has
