use Rattle.std.proofs.Common.{◌≡◌, ◌++◌, false, List, ℕ, vec_len}
use Rattle.gl_io.specs.Positions.{Position}
use Rattle.gl_io.specs.declared.source.TheConstants.{CHUNK}
use Rattle.gl_std.specs.LineReading.{HasGiven}
use Rattle.gl_std.proofs.line_reader.LineReader.drain.Given as goal

abbrev pub invariant-loop-self : goal.invariant-loop-self
invariant-loop-self g l = record {
  piece : List ℕ;
  given : (turns : ℕ) (start : Position) (text : List ℕ) → HasGiven turns start (g.R.Source.position l.initial.input) l.initial.self.turns text → HasGiven turns start (g.R.Source.position l.input) l.self.turns (text ++ piece);
  room : vec_len l.self.buffer ≡ CHUNK;
  sound : g.R.Source.failed l.input ≡ false;
}

abbrev pub decreases-loop-self : goal.decreases-loop-self
decreases-loop-self g l = l.self.turns
