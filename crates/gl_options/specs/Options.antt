-- The command line: its commands and options, and what words ask for.
use Rattle.std.specs.Prelude.{◌≡◌, ◌≢◌, ◌≤◌, ◌⊎◌, ⊤, ℕ, Bool, true, false, List, [], ◌∷◌, Option, Some, codes, pos, option_and_then, string_bytes}
use Rattle.std.specs.Str.Parse.{IsNumeral, digits_value, without_leading_plus}
use Rattle.clap.specs.Words.{App, IsAmong, Row, Rule, Text, fault_of, first_of, new_app, new_rule, one_of, subcommand_of, with_rule, with_subcommand}
use Rattle.clap.specs.declared.builder.value_parser.ValueParser.TheVariants as takes
use Rattle.clap.specs.declared.error.kind.ErrorKind.{ErrorKind}
use Rattle.clap.specs.declared.error.kind.ErrorKind.TheVariants as kind
use Rattle.gl_filters.specs.Asked.{Asked, IsInRange, mode_named}
use Rattle.clap.specs.declared.builder.action.ArgAction.TheVariants.{SetTrue}
use Rattle.gl_options.specs.declared.form.Form.{Form}
use Rattle.gl_options.specs.declared.form.Form.TheVariants.{Text as Plain, Json}
use Rattle.gl_options.specs.declared.options.Command.{Command}
use Rattle.gl_options.specs.declared.options.Command.TheVariants.{Predict, Findings, Live, Stats, Replay, Check}
use Rattle.gl_options.specs.declared.live_options.LiveOptions.{LiveOptions}
use Rattle.gl_options.specs.declared.options.Usage.{Usage}
use Rattle.gl_options.specs.declared.options.Usage.TheVariants.{Shown, Refused, Memory}

-- ---- the command line

-- an option with a value, and its default
abbrev pub option_rule : Text → Text → Rule
option_rule name default = record (new_rule name) {
  long = Some name;
  value_names = 1;
  defaults = default ∷ [];
}

abbrev pub mode_rule : Rule
mode_rule = option_rule (codes "mode") (codes "full")

-- whole numbers from 2 to 16
abbrev pub len_rule : Rule
len_rule =
    record (option_rule (codes "len") (codes "4")) { parser = Some (takes.Signed (pos 2) (pos 16)) }

-- whole numbers from 1 to 100,000
abbrev pub max_rule : Rule
max_rule =
    record (option_rule (codes "max") (codes "1000"))
    { parser = Some (takes.Signed (pos 1) (pos 100000)) }

-- whole numbers from 1 to 16
abbrev pub recorders_rule : Rule
recorders_rule =
    record (option_rule (codes "recorders") (codes "4"))
    { parser = Some (takes.Signed (pos 1) (pos 16)) }

abbrev pub shards_rule : Rule
shards_rule =
    record (option_rule (codes "shards") (codes "4"))
    { parser = Some (takes.Signed (pos 1) (pos 16)) }

-- whole numbers from 1 to 65,536
abbrev pub ring_rule : Rule
ring_rule =
    record (option_rule (codes "ring") (codes "256"))
    { parser = Some (takes.Signed (pos 1) (pos 65536)) }

-- whole numbers from 1 to 1,024
abbrev pub threads_rule : Rule
threads_rule =
    record (option_rule (codes "threads") (codes "64"))
    { parser = Some (takes.Signed (pos 1) (pos 1024)) }

-- whole numbers from 0 to 64
abbrev pub jobs_rule : Rule
jobs_rule =
    record (option_rule (codes "jobs") (codes "0"))
    { parser = Some (takes.Signed (pos 0) (pos 64)) }

-- a flag
abbrev pub flag_rule : Text → Rule
flag_rule name = record (new_rule name) { long = Some name; action = Some SetTrue }

abbrev pub json_rule : Rule
json_rule = flag_rule (codes "json")

abbrev pub findings_rule : Rule
findings_rule = flag_rule (codes "findings")

abbrev pub stream_rule : Rule
stream_rule = flag_rule (codes "stream")

-- a command of this name with the options of a query
abbrev pub query_app : Text → App
query_app name = with_rule (with_rule (with_rule (new_app name) mode_rule) len_rule) max_rule

-- and with the form of its report, and with whether it lists findings
abbrev pub report_app : Text → App
report_app name = with_rule (with_rule (query_app name) json_rule) findings_rule

-- the command that predicts, with how many threads read the trace
abbrev pub predict : App
predict = with_rule (report_app (codes "predict")) jobs_rule

-- the command of a session that reads first, with the numbers of its recorder threads, of its shards, and of the notes in a ring
abbrev pub session_app : App
session_app =
    with_rule (with_rule (with_rule (report_app (codes "live")) recorders_rule) shards_rule)
    ring_rule

-- the command that predicts by a session, with whether it records as the text comes, and then how many threads this may name; with how
-- many threads read the trace
abbrev pub live : App
live = with_rule (with_rule (with_rule session_app stream_rule) threads_rule) jobs_rule

-- the command that counts, with how many threads read the trace
abbrev pub stats : App
stats = with_rule (query_app (codes "stats")) jobs_rule

-- the command that writes the trace, with how many threads read it
abbrev pub replay : App
replay = with_rule (new_app (codes "replay")) jobs_rule

-- the command that checks a report, with how many threads read the trace
abbrev pub check : App
check = with_rule (new_app (codes "check")) jobs_rule

-- the program: a subcommand is required
abbrev pub program : App
program = record {
  top = record (new_app (codes "goodlock")).top {
    has_version = true;
    subcommand_required = true;
    disable_help_subcommand = true;
  };
  subs = [];
}

-- with its commands
abbrev pub goodlock : App
goodlock =
    with_subcommand (with_subcommand
    (with_subcommand (with_subcommand (with_subcommand program predict.top) live.top) stats.top)
    replay.top) check.top

-- ---- what words ask for

-- the option's value is this number, in decimal digits
abbrev pub IsNumberAt : List Row → Text → ℕ → Type 0
IsNumberAt rows id number =
    (text : Text) × (one_of id rows ≡ Some text) × IsNumeral 10 (without_leading_plus text)
    × (number ≡ digits_value 10 (without_leading_plus text))

-- the options' values are this query, and it is within the ranges
pub record AsksIn (rows : List Row) (asked : Asked) : Type 0 where
  pub mode : option_and_then mode_named (first_of (codes "mode") rows) ≡ Some asked.mode
  pub len : IsNumberAt rows (codes "len") asked.len
  pub max : IsNumberAt rows (codes "max") asked.max
  pub range : IsInRange asked

-- the option's value is this number, and it is from the least to the greatest
pub record IsNumberIn (rows : List Row) (id : Text) (least greatest number : ℕ) : Type 0 where
  pub value : IsNumberAt rows id number
  pub enough : least ≤ number
  pub fits : number ≤ greatest

-- so many threads are to read the trace, or for 0 one for each processor
abbrev pub IsJobsIn : List Row → ℕ → Type 0
IsJobsIn rows jobs = IsNumberIn rows (codes "jobs") 0 64 jobs

-- the flag was given, or it wasn't
pub record IsFlagIn (rows : List Row) (id : Text) (is_given : Bool) : Type 0 where
  pub given : one_of id rows ≡ Some (codes "true") → is_given ≡ true
  pub left_out : one_of id rows ≡ Some (codes "false") → is_given ≡ false

-- the options' values are these of a session, each number within its range
pub record AsksForSession (rows : List Row) (options : LiveOptions) : Type 0 where
  pub findings : IsFlagIn rows (codes "findings") options.findings
  pub recorders : IsNumberIn rows (codes "recorders") 1 16 options.recorders
  pub shards : IsNumberIn rows (codes "shards") 1 16 options.shards
  pub ring : IsNumberIn rows (codes "ring") 1 65536 options.ring
  pub stream : IsFlagIn rows (codes "stream") options.stream
  pub threads : IsNumberIn rows (codes "threads") 1 1024 options.threads
  pub jobs : IsJobsIn rows options.jobs

-- the flag asks for this form
pub record IsFormIn (rows : List Row) (form : Form) : Type 0 where
  pub given : one_of (codes "json") rows ≡ Some (codes "true") → form ≡ Json
  pub left_out : one_of (codes "json") rows ≡ Some (codes "false") → form ≡ Plain

-- a command of this name, whose options have these values, is this
abbrev pub IsCommand : Text → List Row → Command → Type 0
IsCommand name rows (Predict query form jobs) = (name ≡ codes "predict")
    × IsFlagIn rows (codes "findings") false × AsksIn rows query × IsFormIn rows form
    × IsJobsIn rows jobs
IsCommand name rows (Findings query form jobs) = (name ≡ codes "predict")
    × IsFlagIn rows (codes "findings") true × AsksIn rows query × IsFormIn rows form
    × IsJobsIn rows jobs
IsCommand name rows (Live options) =
    (name ≡ codes "live") × AsksIn rows options.query × IsFormIn rows options.form
    × AsksForSession rows options
IsCommand name rows (Stats query jobs) = (name ≡ codes "stats")
    × AsksIn rows query × IsJobsIn rows jobs
IsCommand name rows (Replay jobs) = (name ≡ codes "replay") × IsJobsIn rows jobs
IsCommand name rows (Check jobs) = (name ≡ codes "check") × IsJobsIn rows jobs

-- how many threads are to read the trace of a command, or 0
abbrev pub jobs_of : Command → ℕ
jobs_of (Predict query form jobs) = jobs
jobs_of (Findings query form jobs) = jobs
jobs_of (Live options) = options.jobs
jobs_of (Stats query jobs) = jobs
jobs_of (Replay jobs) = jobs
jobs_of (Check jobs) = jobs

-- the subcommand that was entered is this
pub record IsEntered (entered : Option (Text × List Row)) (command : Command) : Type 0 where
  pub name : Text
  pub rows : List Row
  pub is_there : entered ≡ Some (name, rows)
  pub is_command : IsCommand name rows command

-- the words fit the command line, and ask for this
pub record Asks (words : List Text) (command : Command) : Type 0 where
  pub fits : fault_of goodlock words ≡ []
  pub enters : IsEntered (subcommand_of goodlock words) command

-- ---- what is answered to other words

-- an answer that is shown and no mistake
abbrev pub shows : ErrorKind → Bool
shows kind.DisplayHelp = true
shows kind.DisplayVersion = true
shows _ = false

-- what becomes of a parse that failed so
abbrev pub IsUsageFor : ErrorKind → Usage → Type 0
IsUsageFor failed (Shown text) = shows failed ≡ true
IsUsageFor failed (Refused text) = (shows failed ≡ false) × (failed ≢ kind.OutOfMemory)
IsUsageFor failed Memory = ⊤

-- a refusal, of a value that no option takes, says what `--mode` takes
abbrev pub NamesModes : Usage → Type 0
NamesModes (Refused text) = string_bytes text
    ≡ codes "error: --mode takes basic, guarded or full\n\nFor more information, try '--help'.\n"
NamesModes other = ⊤

-- a text is shown where the words ask for help or the version; they are refused where they hold a mistake, or a value that no option takes
abbrev pub IsUsageOf : List Text → Usage → Type 0
IsUsageOf words (Shown text) =
    (found : ErrorKind) × IsAmong found (fault_of goodlock words) × (shows found ≡ true)
IsUsageOf words (Refused text) = ((c : Command) → Asks words c → ⊥)
    × ((fault_of goodlock words ≡ [])
    ⊎ ((found : ErrorKind) × IsAmong found (fault_of goodlock words) × (shows found ≡ false)))
IsUsageOf words Memory = ⊤
