use Rattle.std.proofs.Common.{position, sym, ap, subst, ◌∙◌, arith}
use Rattle.std.specs.Str.{bytes_eq}
use Rattle.gl_std.specs.bodies.Blocks.{named, AreKnown}
use Rattle.gl_std.proofs.NumberedLines.{known_set, named_of}
use Rattle.gl_std.proofs.names.NameList.find_known.Goals as goal

-- it was looked up
pub returns-clause-number : goal.returns-clause-number
returns-clause-number c =
    c.find_again-found.ensures.number ∙ ap (λ name. position (bytes_eq name) c.args.self.now) (sym (named_of c.args.block.now c.args.number c.name.result.now c.name.ensures))

pub returns-clause-known : goal.returns-clause-known
returns-clause-known c =
    known_set c.args.block.now c.find_again-found.new.self c.args.known.now.items c.args.number c.find_again-found.result
    (omega (arith, c.requires.there, c.requires.room))
    (c.find_again-found.ensures.number
    ∙ ap (λ name. position (bytes_eq name) c.args.self.now) (sym (named_of c.args.block.now c.args.number c.name.result.now c.name.ensures))
    ∙ ap (position (bytes_eq (named c.args.block.now c.args.number))) (sym c.find_again-found.ensures.same))
    (subst (λ names. AreKnown c.args.block.now names c.args.known.now.items) (sym c.find_again-found.ensures.same) c.requires.known)
