use Rattle.std.proofs.Common.{refl, sym, ap, ◌∙◌}
use Rattle.gl_std.specs.bodies.Finding.{found_in}
use Rattle.gl_std.specs.bodies.Shown.{shown_operation}
use Rattle.gl_std.specs.declared.judge.Judge.{Judge}
use Rattle.gl_std.proofs.NumberedLines.{found_at, judges_alike}
use Rattle.gl_std.proofs.judge.Judge.take_call.Goals as goal

-- each name has a number
pub returns-in-Some-Some-Some-clause-judges : goal.returns-in-Some-Some-Some-clause-judges
returns-in-Some-Some-Some-clause-judges c =
    let o = shown_operation c.args.operation in
    let s = c.in-Some-Some-Some in
    let t = c.args.thread.now in
    let p = c.args.operand.now in
    let l = c.args.location.now in
    let at = found_at c.find-found.result s.own s.number s.loc s.is-0 s.is-1 s.is-2 ∙ c.find-found.ensures.found ∙ ap (λ (j : Judge). found_in j.names o t p l) (sym c.find-found.ensures.same) in
    judges_alike c.find-found.new.self c.args.self.now c.take_known.new.self c.take_known.result o t t p p l l (sym c.find-found.ensures.same) refl refl refl (c.take_known.ensures.judges t p l at)

-- one has none
pub returns-clause-judges : goal.returns-clause-judges
returns-clause-judges c =
    let t = c.args.thread.now in
    let p = c.args.operand.now in
    let l = c.args.location.now in
    judges_alike c.find-found.new.self c.args.self.now c.take_found.new.self c.take_found.result (shown_operation c.args.operation) t t p p l l (sym c.find-found.ensures.same) refl refl refl c.take_found.ensures.judges
