-- What is found among the values of options.
use Rattle.std.specs.Prelude.{Option, Some, None}
use Rattle.clap.specs.Words.{Text, found_of, rows_of}
use Rattle.clap.specs.declared.parser.matches.ArgMatches.{ArgMatches}
use Rattle.gl_options.specs.Options.{IsCommand}
use Rattle.gl_options.specs.declared.options.Command.{Command}

-- this holds of what is found; where nothing is, it holds of nothing
abbrev pub Finds : {A : Type 0} → (A → Type 0) → Option A → Type 0
Finds Holds (Some found) = Holds found
Finds {A} Holds None = (one : A) → Holds one → ⊥

-- the command of this name that the values of its options ask for; where there is none, they ask for no command
abbrev pub IsAskedBy : Text → ArgMatches → Option Command → Type 0
IsAskedBy name options asked = Finds (IsCommand name (rows_of (found_of options))) asked
