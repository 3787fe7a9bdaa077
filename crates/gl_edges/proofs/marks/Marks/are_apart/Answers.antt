use Rattle.std.specs.Prelude.{bit_and}
use Rattle.std.proofs.lemmas.Bool.{eqb-true}
use Rattle.gl_edges.proofs.Marked.{apart_by_marks}
use Rattle.gl_edges.proofs.marks.Marks.are_apart.Goals as goal

pub returns : goal.returns
returns c = λ is. apart_by_marks c.args.self c.args.others (eqb-true (bit_and c.args.self.places c.args.others.places) 0 is)
