-- A reader or writer of std as a source or sink.
use Rattle.std.specs.Prelude.{Bool}
use Rattle.gl_io.specs.declared.from_std.FromStd.{FromStd}

-- the reader or writer itself
abbrev pub inner_of : {T : Type 0} → FromStd T → T
inner_of s = s.inner

-- a read or write of it has failed
abbrev pub has_failed : {T : Type 0} → FromStd T → Bool
has_failed s = s.is_failed
