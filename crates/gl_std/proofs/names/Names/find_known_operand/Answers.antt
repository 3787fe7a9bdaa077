use Rattle.std.proofs.Common.{position, cond, sym, ap, ◌∙◌}
use Rattle.std.specs.Str.{bytes_eq}
use Rattle.gl_std.specs.bodies.Blocks.{named}
use Rattle.gl_std.proofs.names.Names.find_known_operand.Goals as goal

-- a thread
pub returns-then-is_on_thread-clause-number : goal.returns-then-is_on_thread-clause-number
returns-then-is_on_thread-clause-number c =
    let block = c.args.block.now in
    let names = c.args.self.now in
    let on = sym c.is_on_thread.ensures ∙ c.if-is_on_thread.true in
    c.find_known.ensures.number
    ∙ (λ i. position (bytes_eq (named ((c.block.view_is i).threads) c.args.number)) ((c.self.view_is i).threads))
    ∙ sym (ap (λ v. position (bytes_eq (named (cond v block.threads block.locks) c.args.number)) (cond v names.threads names.locks)) on)

-- a lock
pub returns-clause-number : goal.returns-clause-number
returns-clause-number c =
    let block = c.args.block.now in
    let names = c.args.self.now in
    let on = sym c.is_on_thread.ensures ∙ c.if-is_on_thread.false in
    c.find_known-2.ensures.number
    ∙ (λ i. position (bytes_eq (named ((c.block.view_is i).locks) c.args.number)) ((c.self.view_is i).locks))
    ∙ sym (ap (λ v. position (bytes_eq (named (cond v block.threads block.locks) c.args.number)) (cond v names.threads names.locks)) on)
