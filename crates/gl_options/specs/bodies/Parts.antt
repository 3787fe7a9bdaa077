-- The parts of the command line as they are built: options and commands.
use Rattle.std.specs.Prelude.{◌≡◌, false, Result, IfOk}
use Rattle.clap.specs.Words.{App, Rule, app_of, rule_of}
use Rattle.clap.specs.declared.builder.arg.Arg.{Arg}
use Rattle.clap.specs.declared.builder.command.Command.{Command}
use Rattle.clap.specs.declared.builder.command.Command.TheViews.{out-Command as fields_of}

-- the option has this rule, and is passed on to no subcommand
pub record HasRule (known : Rule) (option : Arg) : Type 0 where
  pub rule : rule_of option ≡ known
  pub local : option.global ≡ false

-- the command has this shape, where it could be built, and passes no option on to its subcommands
pub record HasShape {E : Type 0} (app : App) (built : Result Command E) : Type 0 where
  pub shape : IfOk built (λ c. app_of c ≡ app)
  pub local : IfOk built (λ c. (fields_of c).has_globals ≡ false)
