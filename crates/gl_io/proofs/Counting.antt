-- Reads that are counted.
use Rattle.std.proofs.Common.{◌≡◌, ℕ, ◌+◌, ◌*◌, ◌<◌, ◌≤◌, Bool, true, false, List, Option, Some, length, refl, sym, ap, ◌∙◌, inl, arith}
use Rattle.std.specs.Prelude.{None}
use Rattle.std.specs.Io.KnownBytes.{Consumes}
use Rattle.std.specs.Option.{option_map}
use Rattle.std.proofs.KnownBytes.{Consumes-whole}
use Rattle.std.proofs.lemmas.Bool.{false≢true}
use Rattle.gl_io.specs.Positions.{Position, LieBetween}
use Rattle.gl_io.specs.Reads.{HasRead}
use Rattle.gl_io.specs.bodies.Turns.{TurnDid}
use Rattle.gl_io.specs.declared.source.TheConstants.{CHUNK}
use Rattle.gl_io.specs.declared.whole.Turn.TheVariants.{End, Broke}

-- none lies between a position and itself
pub lie_none : (p : Position) → LieBetween 0 p p
lie_none p = by p.reads
  where
    by : (reads : Option ℕ) → reads ≡ option_map (λ n. n + 0) reads
    by None = refl
    by (Some n) = ap (λ m. Some m) (omega arith)

-- reads after others
pub lie_more : (count more : ℕ) (old mid new : Position) → LieBetween count old mid → LieBetween more mid new → LieBetween (count + more) old new
lie_more count more old mid new first second = second ∙ ap (option_map (λ n. n + more)) first ∙ by old.reads
  where
    by : (reads : Option ℕ) → option_map (λ n. n + more) (option_map (λ n. n + count) reads) ≡ option_map (λ n. n + (count + more)) reads
    by None = refl
    by (Some n) = ap (λ m. Some m) (omega arith)

-- the last read met the end
pub met_end : (turns turn : ℕ) (old mid new : Position) (failed : Bool) (before text : List ℕ) → turn < turns → LieBetween turn old mid → LieBetween 1 mid new → turn ≤ length before → length before ≤ turn * CHUNK → Consumes old.left new.left text → TurnDid End new.left failed before text → HasRead turns old new failed text true
met_end turns turn old mid new failed before text left counted one some few bytes did =
    record {
      bytes = bytes;
      all = λ e. Consumes-whole old.left new.left text (λ everything. text ≡ everything) bytes did.1 refl;
      ended = λ e. did.1;
      sound = λ e. did.0;
      reads = turn + 1;
      counted = lie_more turn 1 old mid new counted one;
      few = omega (arith, left);
      cut = λ e. absurd (false≢true (sym e));
      some = omega (arith, some, ap length did.2);
      within = omega (arith, few, ap length did.2);
    }

-- the last read failed
pub met_failure : (turns turn : ℕ) (old mid new : Position) (failed : Bool) (before text : List ℕ) → turn < turns → LieBetween turn old mid → LieBetween 1 mid new → turn ≤ length before → length before ≤ turn * CHUNK → Consumes old.left new.left text → TurnDid Broke new.left failed before text → HasRead turns old new failed text false
met_failure turns turn old mid new failed before text left counted one some few bytes did =
    record {
      bytes = bytes;
      all = λ e. absurd (false≢true e);
      ended = λ e. absurd (false≢true e);
      sound = λ e. absurd (false≢true e);
      reads = turn + 1;
      counted = lie_more turn 1 old mid new counted one;
      few = omega (arith, left);
      cut = λ e. inl did.0;
      some = omega (arith, some, ap length did.1);
      within = omega (arith, few, ap length did.1);
    }
