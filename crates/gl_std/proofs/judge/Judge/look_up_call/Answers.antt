use Rattle.std.proofs.Common.{refl, sym, ap, ◌∙◌}
use Rattle.gl_std.specs.bodies.Blocks.{named}
use Rattle.gl_std.specs.Trace.{operands}
use Rattle.gl_std.specs.bodies.Finding.{found_in}
use Rattle.gl_std.specs.bodies.Shown.{shown_operation}
use Rattle.gl_std.specs.declared.judge.Judge.{Judge}
use Rattle.gl_std.proofs.NumberedLines.{found_at, judges_alike, named_of}
use Rattle.gl_std.proofs.judge.Judge.look_up_call.Goals as goal

-- each name has a number
pub returns-in-Some-Some-Some-clause-judges : goal.returns-in-Some-Some-Some-clause-judges
returns-in-Some-Some-Some-clause-judges c =
    let names = c.args.names.now in
    let o = shown_operation c.args.operation in
    let mid = c.find_numbered-found.new.self in
    let s = c.in-Some-Some-Some in
    let t = named names.threads c.args.thread in
    let p = named (operands o names) c.args.operand in
    let l = named names.locs c.args.location in
    let at = found_at c.find_numbered-found.result s.own s.number s.loc s.is-0 s.is-1 s.is-2 ∙ c.find_numbered-found.ensures.found ∙ ap (λ (j : Judge). found_in j.names o t p l) (sym c.find_numbered-found.ensures.same) in
    judges_alike mid c.args.self.now c.take_known.new.self c.take_known.result o t t p p l l (sym c.find_numbered-found.ensures.same) refl refl refl (c.take_known.ensures.judges t p l at)

-- the numbers are those of the names
pub take_found-requires-clause-found : goal.take_found-requires-clause-found
take_found-requires-clause-found c =
    let names = c.args.names.now in
    let o = shown_operation c.args.operation in
    let t = named_of names.threads c.args.thread c.thread.result.now c.thread.ensures in
    let p = named_of (operands o names) c.args.operand c.operand.result.now c.operand.ensures in
    let l = named_of names.locs c.args.location c.loc.result.now c.loc.ensures in
    c.find_numbered-found.ensures.found ∙ (λ i. found_in ((sym c.find_numbered-found.ensures.same i).names) o (t i) (p i) (l i))

pub returns-clause-judges : goal.returns-clause-judges
returns-clause-judges c =
    let names = c.args.names.now in
    let o = shown_operation c.args.operation in
    judges_alike c.find_numbered-found.new.self c.args.self.now c.take_found.new.self c.take_found.result o
    c.thread.result.now (named names.threads c.args.thread) c.operand.result.now (named (operands o names) c.args.operand) c.loc.result.now (named names.locs c.args.location)
    (sym c.find_numbered-found.ensures.same)
    (named_of names.threads c.args.thread c.thread.result.now c.thread.ensures)
    (named_of (operands o names) c.args.operand c.operand.result.now c.operand.ensures)
    (named_of names.locs c.args.location c.loc.result.now c.loc.ensures)
    c.take_found.ensures.judges
