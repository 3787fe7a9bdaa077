-- What the program says of words that ask for nothing to be done: what goes to standard output and to standard error, and
-- its exit status.
use Rattle.std.specs.Prelude.{ℕ, List, [], codes, string_bytes}
use Rattle.gl_options.specs.declared.options.Usage.{Usage}
use Rattle.gl_options.specs.declared.options.Usage.TheVariants.{Shown, Refused, Memory}

-- the text for standard output
abbrev pub shown_text : Usage → List ℕ
shown_text (Shown text) = string_bytes text
shown_text (Refused text) = []
shown_text Memory = []

-- the text for standard error
abbrev pub refused_text : Usage → List ℕ
refused_text (Shown text) = []
refused_text (Refused text) = string_bytes text
refused_text Memory = codes "goodlock: out of memory\n"

-- the exit status
abbrev pub usage_status : Usage → ℕ
usage_status (Shown text) = 0
usage_status (Refused text) = 2
usage_status Memory = 3
