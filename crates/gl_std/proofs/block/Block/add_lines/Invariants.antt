use Rattle.std.proofs.Common.{◌≡◌, ◌+◌, ◌≤◌, ◌++◌, length, map}
use Rattle.std.specs.Prelude.{vec_len}
use Rattle.gl_std.specs.declared.block.TheConstants.{LONGEST}
use Rattle.gl_std.specs.Line.{shape_of}
use Rattle.gl_std.specs.Lines.{lines}
use Rattle.gl_std.specs.Names.{NameLists}
use Rattle.gl_std.specs.bodies.Blocks.{shapes_of, AreFew, AreNumbered, IsRight}
use Rattle.gl_std.proofs.block.Block.add_lines.Given as goal

abbrev pub invariant-loop-line : goal.invariant-loop-line
invariant-loop-line l =
    record {
      numbered : AreNumbered l.self;
      few : AreFew l.self;
      room : vec_len l.self.lines + length l.rest ≤ LONGEST;
      says : shapes_of l.self ++ map shape_of (lines l.rest) ≡ shapes_of l.initial.self ++ map shape_of (lines l.text);
      right : (names : NameLists) → IsRight names l.initial.self → IsRight names l.self;
      count : vec_len l.self.lines + length (lines l.rest) ≡ vec_len l.initial.self.lines + length (lines l.text);
    }

abbrev pub decreases-loop-line : goal.decreases-loop-line
decreases-loop-line l = length l.rest
