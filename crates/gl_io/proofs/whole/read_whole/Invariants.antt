use Rattle.std.proofs.Common.{◌≡◌, ◌*◌, ◌≤◌, false, length, vec_len}
use Rattle.std.specs.Io.KnownBytes.{Consumes}
use Rattle.gl_io.specs.Positions.{LieBetween}
use Rattle.gl_io.specs.declared.source.TheConstants.{CHUNK}
use Rattle.gl_io.proofs.whole.read_whole.Given as goal

abbrev pub invariant-loop-turn : goal.invariant-loop-turn
invariant-loop-turn g l = record {
  room : vec_len l.buffer ≡ CHUNK;
  sound : g.R.Source.failed l.input ≡ false;
  bytes : Consumes (g.R.Source.position l.initial.input).left (g.R.Source.position l.input).left l.text.items;
  counted : LieBetween l.turn (g.R.Source.position l.initial.input) (g.R.Source.position l.input);
  some : l.turn ≤ length l.text.items;
  few : length l.text.items ≤ l.turn * CHUNK;
}
