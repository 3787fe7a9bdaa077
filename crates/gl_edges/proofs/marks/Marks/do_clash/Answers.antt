use Rattle.std.proofs.Common.{eqb, rules}
use Rattle.std.specs.Prelude.{bit_and}
use Rattle.std.proofs.lemmas.Bool.{eqb-false, not-true}
use Rattle.gl_edges.proofs.Marked.{clash_by_marks}
use Rattle.gl_edges.proofs.marks.Marks.do_clash.Goals as goal

pub returns : goal.returns
returns c = λ is.
    let n = bit_and c.args.self.owned c.args.others.owned in
    clash_by_marks c.args.self c.args.others (eqb-false n 0 (not-true (eqb n 0) is)) (search rules)
