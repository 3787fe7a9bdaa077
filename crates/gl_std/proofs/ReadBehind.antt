-- What a read gives that goes into a piece itself.
use Rattle.std.proofs.Common.{◌≡◌, ◌+◌, ◌<◌, ◌≤◌, ◌++◌, [], ℕ, List, Bool, true, false, length, take, drop, refl, sym, ap, subst, ◌∙◌, arith}
use Rattle.std.specs.Prelude.{vec_len}
use Rattle.std.specs.Vec.{with_items}
use Rattle.std.specs.Io.KnownBytes.{Consumes, IsAtEnd, Keeps}
use Rattle.std.proofs.Math.Seq.{take-add}
use Rattle.std.proofs.lemmas.Bool.{lt-ltb}
use Rattle.std.proofs.lemmas.List.{length-take-le, with_items_is}
use Rattle.gl_io.specs.Positions.{Position, LieBetween}
use Rattle.gl_io.specs.declared.source.TheConstants.{CHUNK}
use Rattle.gl_std.specs.bodies.Ahead.{HasReadOn}
use Rattle.gl_std.specs.bodies.Stepping.{HasFilledBuffer}
use Rattle.gl_std.specs.declared.line_reader.LineReader.{LineReader}
use Rattle.gl_std.specs.declared.line_reader.pieces.Ending.TheVariants.{More, End, Broke}
use Rattle.gl_std.proofs.LineByLine.{broken_by, filled_buffer}
use Rattle.gl_std.proofs.PiecesAhead.{read_on_broke, read_on_end, read_on_more}

-- a buffer that was read into behind its first bytes, as far as it was filled
pub cut_behind : (text lent read : List ℕ) (first count : ℕ) → lent ≡ text → take first read ≡ take first lent → take (first + count) read ≡ take first text ++ take count (drop first read)
cut_behind text lent read first count lends front =
    take-add first count read ∙ ap (λ t. t ++ take count (drop first read)) (front ∙ ap (take first) lends)

module _ (now later : Position) (old new : LineReader) (before : List ℕ) (failed : Bool) (left : 0 < old.turns) (turn : new.turns + 1 ≡ old.turns) (one : LieBetween 1 now later) where
  -- it gave these bytes
  pub read_more_behind : (after room : List ℕ) (count : ℕ) → vec_len old.buffer ≡ CHUNK → length room ≡ CHUNK → failed ≡ false → 0 < count → count ≤ CHUNK → Consumes now.left later.left (take count room)
      → after ≡ before ++ take count room → HasReadOn now old before later failed new after More
  read_more_behind after room count size same sound some most gave is =
      let f : LineReader = record new { buffer = with_items old.buffer room; start = 0; end = count } in
      let items : f.buffer.items ≡ room = with_items_is old.buffer room (same ∙ sym size) in
      let filled = filled_buffer count now later failed old f (take count room) refl (ap (take count) items) (length-take-le count room (omega (arith, most, same))) most refl left turn sound gave (λ none. absurd (omega (arith, none, some))) one in
      let on = read_on_more now later old f before after failed (subst (HasFilledBuffer now old later failed f) (lt-ltb 0 count some) filled) (is ∙ ap (λ xs. before ++ take count xs) (sym items)) in
      record { gave = on.gave; text = on.text; gives = on.gives; within = on.within }

  -- it met the end
  pub read_end_behind : failed ≡ false → Consumes now.left later.left [] → IsAtEnd later.left → HasReadOn now old before later failed new before End
  read_end_behind sound gave at_end =
      let f : LineReader = record new { start = 0; end = 0 } in
      let filled = filled_buffer 0 now later failed old f [] refl refl refl (omega arith) refl left turn sound gave (λ none. at_end) one in
      read_on_end now later old new before failed filled.filled (omega (arith, turn))

  -- it failed
  pub read_broke_behind : failed ≡ true → Keeps now.left later.left → HasReadOn now old before later failed new before Broke
  read_broke_behind wrong kept = read_on_broke now later old new before failed (λ turns start text given. broken_by turns old.turns start now later failed text left wrong kept one given)
