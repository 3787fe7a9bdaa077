use Rattle.std.proofs.Common.{◌≡◌, map, Vec, Global, Ok, Err, sym, ap, ◌∙◌, arith}
use Rattle.std.proofs.lemmas.Grind.{common_steps}
use Rattle.gl_event.specs.declared.events.Event.{Event}
use Rattle.gl_std.specs.Lines.{lines}
use Rattle.gl_std.specs.Trace.{nothing, read_from}
use Rattle.gl_std.specs.declared.faults.ReadFault.TheVariants.{Line}
use Rattle.gl_std.specs.bodies.Telling.{with_judged}
use Rattle.gl_std.proofs.BetweenLines.{line_fault, line_on, no_line}
use Rattle.gl_std.proofs.WithinLimits.{trace_of-lines, trace_of_over}
use Rattle.gl_std.proofs.whole_text.read_seeded.Goals as goal

pub loop-line-init : goal.loop-line-init
loop-line-init c =
    let judge = c.new-judge.ensures in
    let limits = c.args.limits.now in
    let text = c.args.bytes.now in
    record {
      told = nothing;
      rest_of_text = ap (λ n. read_from limits n nothing (lines text)) judge.line ∙ trace_of-lines limits text;
      judged = judge.judged;
      listed = c.new-lists.ensures ∙ ap (map (λ (v : Vec Event Global). v.items)) c.new.ensures.items;
      sound = judge.sound;
      limits = judge.limits;
      countable = omega (arith, judge.line);
    }

pub loop-line-preserved : goal.loop-line-preserved
loop-line-preserved c =
    let so_far = c.loop-line.invariant in
    let old = c.loop-line.judge in
    let new = c.take.new.self in
    let judged = c.in_ok-judged.ensures in
    let more = with_judged c.in_ok-judged.judged new.names so_far.told in
    record {
      told = more;
      rest_of_text = line_on c.args.limits.now old.limits old.line new.line so_far.told more c.in-Some.line.now _ _ _ so_far.limits judged.line c.in-Some.ensures.0 (judged.judges.tells so_far.told so_far.judged) so_far.rest_of_text;
      judged = judged.judges.judged so_far.told so_far.judged;
      listed = rw c.names.ensures at (c.in_ok-add.ensures so_far.told (sym so_far.listed));
      sound = judged.sound;
      limits = c.take.ensures.judges.same_limits ∙ so_far.limits;
      countable = omega (arith, so_far.countable, judged.line, c.in-Some.ensures.1);
    }

pub returns-in_err-judged-clause-fault : goal.returns-in_err-judged-clause-fault
returns-in_err-judged-clause-fault c = λ number kind is.
    let so_far = c.loop-line.invariant in
    let old = c.loop-line.judge in
    let failed : c.take.result ≡ Err (Line number kind) = let was = c.in_err-judged.was in let of = c.from_residual.ensures in grind (arith, common_steps, was, of, is) in
    line_fault c.args.limits.now old.limits old.line so_far.told c.in-Some.line.now _ _ _ (Line number kind) so_far.limits c.in-Some.ensures.0 (c.take.ensures.judges.fault number kind failed so_far.told so_far.judged) so_far.rest_of_text

-- all lines were read
pub returns-clause-trace : goal.returns-clause-trace
returns-clause-trace c =
    let so_far = c.loop-line.invariant in
    no_line c.args.limits.now c.loop-line.judge.line so_far.told _ _ c.in_default.ensures so_far.rest_of_text ∙ ap (λ t. Ok t) (sym (c.of.ensures so_far.told so_far.judged so_far.listed))

pub returns-clause-over : goal.returns-clause-over
returns-clause-over c = trace_of_over c.args.limits.now c.args.bytes.now c.of.result (returns-clause-trace c)
