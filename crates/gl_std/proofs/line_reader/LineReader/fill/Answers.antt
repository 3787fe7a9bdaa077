use Rattle.std.proofs.Common.{◌≡◌, length, take, refl, sym, ap, ◌∙◌, arith}
use Rattle.std.proofs.lemmas.List.{length-take-le, with_items_is}
use Rattle.gl_io.specs.declared.source.TheConstants.{CHUNK}
use Rattle.gl_std.proofs.LineByLine.{broken_by, filled_buffer, read_broke}
use Rattle.gl_std.proofs.line_reader.LineReader.fill.Goals as goal

pub returns-clause-read : goal.returns-clause-read
returns-clause-read g c =
    let old = c.args.self.now in
    let piece = take c.in_ok-count.count c.read.new.buffer in
    let room : length c.read.new.buffer ≡ CHUNK = omega (arith, c.read.auto.buffer, c.as_mut_slice.ensures.len, c.requires.can.room) in
    let gave = c.in_ok-count.ensures.bytes in
    filled_buffer c.in_ok-count.count _ _ _ old _ piece refl
    (ap (take c.in_ok-count.count) (with_items_is old.buffer c.read.new.buffer (room ∙ sym c.requires.can.room)))
    (length-take-le c.in_ok-count.count c.read.new.buffer c.in_ok-count.ensures.bound.0)
    (omega (arith, c.in_ok-count.ensures.bound.0, room)) refl
    c.requires.left (omega (arith, c.requires.left)) c.in_ok-count.ensures.failed gave.0
    (λ none. gave.1 none (omega (arith, room)))
    c.read.ensures.counted

pub returns-in_err-count-clause-read : goal.returns-in_err-count-clause-read
returns-in_err-count-clause-read g c = read_broke _ _ _ _ _ c.from_residual.result c.from_residual.ensures.0 (λ turns start text given.
    broken_by turns c.args.self.now.turns start (g.R.Source.position c.args.input.now) _ _ text c.requires.left c.in_err-count.ensures.failed c.in_err-count.ensures.bytes c.read.ensures.counted given)
