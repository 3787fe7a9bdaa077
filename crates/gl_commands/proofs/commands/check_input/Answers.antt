use Rattle.std.proofs.KnownBytes.{Keeps-refl}
use Rattle.gl_commands.specs.Checking.HasChecked.{out_of_memory}
use Rattle.gl_commands.proofs.Accepting.{ends_short, ends_whole}
use Rattle.gl_commands.proofs.commands.check_input.Goals as goal

pub returns-in_default : goal.returns-in_default
returns-in_default g c = out_of_memory (Keeps-refl _) c.requires.ready.writable

pub returns-then-input_read : goal.returns-then-input_read
returns-then-input_read g c =
    ends_whole _ _ _ c.as_slice-text.result.now c.in-Ok.input_read.text.items c.in-Ok.input_read.is_whole c.checked.result c.end.result c.in-Ok.ensures.read c.if-input_read.true c.as_slice-text.ensures.value
    c.checked.ensures.printed c.checked.ensures.refused c.end.ensures

pub returns : goal.returns
returns g c =
    ends_short _ _ _ c.as_slice-text.result.now c.in-Ok.input_read.text.items c.in-Ok.input_read.is_whole c.end_cut.result c.in-Ok.ensures.read c.if-input_read.false c.as_slice-text.ensures.value c.end_cut.ensures (Keeps-refl _) c.requires.ready.writable
