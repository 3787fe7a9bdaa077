use Rattle.std.proofs.Common.{Some, ap, ◌∙◌, arith}
use Rattle.gl_std.specs.bodies.Shown.{shown_operation}
use Rattle.gl_std.proofs.NumberedLines.{known_at, stands_at}
use Rattle.gl_std.proofs.judge.Judge.known_numbers.Goals as goal

-- all are known
pub returns : goal.returns
returns c =
    let known = c.args.known.now in
    known_at c.args.names.now c.args.self.now.names known (shown_operation c.args.operation)
    c.args.thread c.args.operand c.args.location c.new.result c.in_ok-number.number c.new-2.result c.requires.known.so_far
    (stands_at known.threads.items c.args.thread c.number.result c.in_ok-own.own c.new.result c.index.result.now c.number.ensures
    (omega (arith, c.number.ensures, c.requires.numbered, c.requires.known.all_threads)) c.index.ensures c.in_ok-own.was c.new.ensures)
    (c.operand.ensures.number ∙ ap (λ n. Some n) c.in_ok-number.was)
    (stands_at known.locs.items c.args.location c.number-2.result c.in_ok-loc.loc c.new-2.result c.index-2.result.now c.number-2.ensures
    (omega (arith, c.number-2.ensures, c.requires.numbered, c.requires.known.all_locs)) c.index-2.ensures c.in_ok-loc.was c.new-2.ensures)
