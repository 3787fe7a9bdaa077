use Rattle.std.proofs.Common.{◌≡◌, ◌+◌, ◌-◌, ◌≤◌, length, arith}
use Rattle.gl_std.specs.declared.line_reader.TheConstants.{KEPT}
use Rattle.gl_std.proofs.LineByLine.{kept_all, kept_front}
use Rattle.gl_std.proofs.line_reader.keep.Goals as goal

pub returns-then-more-room : goal.returns-then-more-room
returns-then-more-room c =
    let old = c.args.unfinished.now in
    let few : length old.items + length c.args.more.now ≤ KEPT = omega (arith, c.if-more-room.true, c.requires.few, c.len-room.ensures, old.ok.0) in
    record { kept = kept_all KEPT old.items c.args.more.now c.extend_from_slice.new.self.items c.in_ok-extend_from_slice.ensures.items few }

pub returns : goal.returns
returns c =
    let old = c.args.unfinished.now in
    let size : length old.items + (KEPT - c.len-room.result) ≡ KEPT = omega (arith, c.requires.few, c.len-room.ensures, old.ok.0) in
    record { kept = kept_front KEPT (KEPT - c.len-room.result) old.items c.args.more.now c.extend_from_slice-2.new.self.items c.in_ok-extend_from_slice-2.ensures.items size }
