use Rattle.std.proofs.Common.{◌≡◌, Some, vec_len, ap, sym, ◌∙◌, arith}
use Rattle.std.proofs.lemmas.Grind.{common_steps}
use Rattle.gl_std.specs.Trace.{events_of}
use Rattle.gl_std.proofs.JudgedLines.{standing_own, standing_event}
use Rattle.gl_std.proofs.judge.standings.stand_own.Goals as goal

pub returns-in-Some-clause-ruling : goal.returns-in-Some-clause-ruling
returns-in-Some-clause-ruling c = λ lists are.
    let is : c.args.found.now.thread ≡ Some c.number.result = c.in-Some.is ∙ ap (λ n. Some n) (sym c.number.ensures) in
    c.rule.ensures.ruling (events_of lists c.args.found.now.thread) (standing_own lists c.args.standings.now.items c.args.found.now.thread c.number.result (vec_len c.args.standings.now) c.index_mut-standing.result.now are is c.requires.known c.args.standings.now.ok.0 c.index_mut-standing.ensures.value)

pub returns-in-Some-clause-stands : goal.returns-in-Some-clause-stands
returns-in-Some-clause-stands c =
    let is : c.args.found.now.thread ≡ Some c.number.result = c.in-Some.is ∙ ap (λ n. Some n) (sym c.number.ensures) in
    record {
      kept = λ kept lists are.
          let own = standing_own lists c.args.standings.now.items c.args.found.now.thread c.number.result (vec_len c.args.standings.now) c.index_mut-standing.result.now are is c.requires.known c.args.standings.now.ok.0 c.index_mut-standing.ensures.value in
          standing_event lists c.args.standings.now.items c.args.found.now.thread c.number.result c.rule.new.state c.args.event are is (c.rule.ensures.kept kept (events_of lists c.args.found.now.thread) own);
      stray = λ stray. grind (arith, common_steps, stray);
    }
