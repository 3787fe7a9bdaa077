use Rattle.std.proofs.Common.{◌<◌, length, ap, ◌∙◌, arith}
use Rattle.std.proofs.lemmas.List.{length-map}
use Rattle.gl_grounds.specs.Classes.{class_of}
use Rattle.gl_findings.proofs.ClassNumbers.{class_below, counts_more}
use Rattle.std.proofs.lemmas.Result.{err_from_is_err_and}
use Rattle.gl_findings.proofs.counts.counts_by_edge.Goals as goal

pub returns-in_err-counts : goal.returns-in_err-counts
returns-in_err-counts c =
    let p = err_from_is_err_and c.from_residual.result c.from_residual.ensures.1 in
    rw p.1 tt

pub returns-in_err-push : goal.returns-in_err-push
returns-in_err-push c =
    let p = err_from_is_err_and c.from_residual-in_err-push.result c.from_residual-in_err-push.ensures.1 in
    rw p.1 tt

pub counts_at-requires-clause-threads : goal.counts_at-requires-clause-threads
counts_at-requires-clause-threads c =
    let as_long = ap length c.requires.classes ∙ length-map c.args.table.now (class_of c.args.table.now) in
    let within : c.loop-class.class-index < length c.args.table.now = omega (arith, c.loop-class-test.true, as_long) in
    omega (arith, c.requires.threads_long, class_below c.args.table.now c.args.classes.now c.requires.classes c.loop-class.class-index within)

pub counts_at-requires-clause-locks : goal.counts_at-requires-clause-locks
counts_at-requires-clause-locks c =
    let as_long = ap length c.requires.classes ∙ length-map c.args.table.now (class_of c.args.table.now) in
    let within : c.loop-class.class-index < length c.args.table.now = omega (arith, c.loop-class-test.true, as_long) in
    omega (arith, c.requires.locks_long, class_below c.args.table.now c.args.classes.now c.requires.classes c.loop-class.class-index within)

pub loop-class-preserved : goal.loop-class-preserved
loop-class-preserved c =
    let as_long = ap length c.requires.classes ∙ length-map c.args.table.now (class_of c.args.table.now) in
    let within : c.loop-class.class-index < length c.args.table.now = omega (arith, c.loop-class-test.true, as_long) in
    counts_more c.args.table.now c.args.classes.now c.requires.classes c.loop-class.class-index within c.args.threads.now c.args.locks.now c.counts_at.result c.loop-class.counts.items c.push.new.self.items
    c.requires.threads c.requires.locks c.counts_at.ensures.threads c.counts_at.ensures.locks c.loop-class.invariant c.in_ok-push.ensures.items
