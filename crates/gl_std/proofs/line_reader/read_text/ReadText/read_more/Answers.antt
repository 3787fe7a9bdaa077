use Rattle.std.proofs.Common.{◌+◌, ◌≤◌, ◌++◌, take, drop, length, sym, ap, subst, ◌∙◌, arith}
use Rattle.std.specs.Io.KnownBytes.{Consumes}
use Rattle.std.proofs.lemmas.List.{length-drop, length-take-le, take-take, with_items_is}
use Rattle.gl_io.specs.declared.source.TheConstants.{CHUNK}
use Rattle.gl_std.specs.bodies.Ahead.{HasReadOn}
use Rattle.gl_std.specs.declared.line_reader.pieces.Ending.TheVariants.{End, Broke}
use Rattle.gl_std.proofs.ReadBehind.{cut_behind, read_broke_behind, read_end_behind, read_more_behind}
use Rattle.gl_std.proofs.line_reader.read_text.ReadText.read_more.Goals as goal

-- it met the end
pub returns-in-Ok-eq0-clause-gave : goal.returns-in-Ok-eq0-clause-gave
returns-in-Ok-eq0-clause-gave g c = λ before later took.
    let read = c.in-Ok-eq0.ensures in
    let now = g.R.Source.position c.args.input.now in
    let then = g.R.Source.position c.read_behind.new.input in
    let first = c.self.inside.count in
    let buffer = c.read_behind.new.buffer in
    let front = read.front ∙ ap (take first) c.as_mut_slice.ensures.value ∙ c.in_ok-lengthen.ensures.front first c.self.invariant ∙ c.self.view_is in
    let same = ap (take first) (with_items_is c.lengthen.new.room buffer (read.size ∙ c.as_mut_slice.ensures.len)) ∙ front in
    subst (λ after. HasReadOn now before c.args.self.now then (g.R.Source.failed c.read_behind.new.input) later after End) (sym same)
    (read_end_behind now then before later c.args.self.now _ took.left took.turn read.counted read.failed
    (subst (λ count. Consumes now.left then.left (take count (drop first buffer))) c.in-Ok-eq0.field-0-test read.bytes) (read.end c.in-Ok-eq0.field-0-test))

-- the read gave some bytes
pub returns-in-Ok-clause-gave : goal.returns-in-Ok-clause-gave
returns-in-Ok-clause-gave g c = λ before later took.
    let read = c.in-Ok.ensures in
    let now = g.R.Source.position c.args.input.now in
    let then = g.R.Source.position c.read_behind.new.input in
    let first = c.self.inside.count in
    let count = c.in-Ok.count in
    let buffer = c.read_behind.new.buffer in
    let lent = c.as_mut_slice.ensures in
    let behind = drop first buffer in
    let room = take CHUNK behind in
    let kept = c.in_ok-lengthen.ensures.front first c.self.invariant ∙ c.self.view_is in
    let within : CHUNK ≤ length behind = omega (arith, length-drop first buffer, read.size, lent.len, c.in_ok-lengthen.ensures.size) in
    let gave = take-take count CHUNK behind read.fits in
    let is = ap (take (first + count)) (with_items_is c.lengthen.new.room buffer (read.size ∙ lent.len)) ∙ cut_behind c.lengthen.new.room.items _ buffer first count lent.value read.front
    ∙ ap (λ t. t ++ take count behind) kept ∙ ap (λ t. c.args.self.now ++ t) (sym gave) in
    read_more_behind now then before later c.args.self.now _ took.left took.turn read.counted _ room count took.room (length-take-le CHUNK behind within) read.failed (omega (arith, c.in-Ok.count-test.1)) read.fits
    (subst (λ bytes. Consumes now.left then.left bytes) (sym gave) read.bytes) is

-- it failed
pub returns-in-Err-clause-gave : goal.returns-in-Err-clause-gave
returns-in-Err-clause-gave g c = λ before later took.
    let read = c.in-Err.ensures in
    let now = g.R.Source.position c.args.input.now in
    let then = g.R.Source.position c.read_behind.new.input in
    let first = c.self.inside.count in
    let buffer = c.read_behind.new.buffer in
    let front = read.front ∙ ap (take first) c.as_mut_slice.ensures.value ∙ c.in_ok-lengthen.ensures.front first c.self.invariant ∙ c.self.view_is in
    let same = ap (take first) (with_items_is c.lengthen.new.room buffer (read.size ∙ c.as_mut_slice.ensures.len)) ∙ front in
    subst (λ after. HasReadOn now before c.args.self.now then (g.R.Source.failed c.read_behind.new.input) later after Broke) (sym same)
    (read_broke_behind now then before later c.args.self.now _ took.left took.turn read.counted read.failed read.kept)
