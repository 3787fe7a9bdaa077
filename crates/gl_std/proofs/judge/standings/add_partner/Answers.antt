use Rattle.std.proofs.Common.{◌≡◌, true, arith}
use Rattle.std.proofs.lemmas.Grind.{common_steps}
use Rattle.gl_std.specs.Line.{is_on_thread}
use Rattle.gl_std.specs.bodies.Shown.{shown_operation}
use Rattle.gl_std.proofs.JudgedLines.{standing_partner}
use Rattle.gl_std.proofs.judge.standings.add_partner.Goals as goal

pub returns-in_ok-push-in-None : goal.returns-in_ok-push-in-None
returns-in_ok-push-in-None c = λ lists are.
    let on : is_on_thread (shown_operation c.args.operation) ≡ true = let of = c.is_on_thread.ensures in let is = c.if-not-is_on_thread.false in grind (arith, common_steps, of, is) in
    standing_partner lists c.args.standings.now.items c.push.new.self.items (is_on_thread (shown_operation c.args.operation)) c.args.found.now.operand c.new.result are c.new.ensures.stands on c.in-None.is c.in_ok-push-in-None.ensures.items
