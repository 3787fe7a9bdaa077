-- Numbers and queries that are read of options.
use Rattle.std.proofs.Common.{◌≡◌, length, ◌<◌, ◌∙◌, ◌⊎◌, inl, inr, ℕ, true, false, List, [], ◌∷◌, Option, Some, None, Result, Ok, Err, refl, sym, ap, subst, IfSome, option_map}
use Rattle.std.specs.Prelude.{◌==◌, unwrap_or}
use Rattle.std.specs.Str.Parse.{ParsesUnsigned, digits_value, without_leading_plus}
use Rattle.clap.specs.Matches.{ReadsOne}
use Rattle.std.specs.Prelude.{codes}
use Rattle.std.specs.Box.{box_value}
use Rattle.clap.specs.Words.{IsAmong, Row, Text, fault_of, found_of, is_simple, is_simple_and_free, one_of, rows_of, subcommand_name_of, subcommand_rows_of}
use Rattle.clap.specs.declared.parser.matches.ArgMatches.{ArgMatches}
use Rattle.clap.specs.declared.parser.matches.ArgMatches.TheViews.{out-ArgMatches, out-SubCommand}
use Rattle.clap.proofs.OnLiterals.{clap_on_literals}
use Rattle.clap.specs.declared.error.kind.ErrorKind.{ErrorKind}
use Rattle.clap.specs.declared.error.kind.ErrorKind.TheVariants as kind
use Rattle.gl_filters.specs.Asked.{Asked}
use Rattle.gl_options.specs.Options.{Asks, AsksForSession, AsksIn, IsCommand, IsEntered, IsJobsIn, IsNumberAt, IsUsageFor, IsUsageOf, goodlock}
use Rattle.gl_options.specs.Sessions.{CanRun}
use Rattle.gl_options.specs.bodies.Searches.{Finds}
use Rattle.gl_options.specs.declared.live_options.LiveOptions.{LiveOptions}
use Rattle.gl_options.specs.declared.options.Command.{Command}
use Rattle.gl_options.specs.declared.options.Command.TheVariants.{Predict, Findings, Live, Stats, Replay, Check}
use Rattle.gl_options.specs.declared.options.Usage.{Usage}
use Rattle.gl_options.specs.declared.options.Usage.TheVariants.{Shown, Refused, Memory}

-- a number that was read is the option's
pub number_read : (E : Type 0) (G : List ℕ → Result ℕ E → Type 0) (rows : List Row) (id : Text) (r : Option ℕ)
    → (one_of id rows ≡ None → r ≡ None) → ((t : Text) → one_of id rows ≡ Some t → ReadsOne G t r)
    → ((u : Text) (x : Result ℕ E) → G u x → ParsesUnsigned 32 10 u x)
    → IfSome r (λ n. IsNumberAt rows id n)
number_read E G rows id r none some only = go (one_of id rows) refl r none some
  where
    go : (o : Option Text) → one_of id rows ≡ o → (x : Option ℕ) → (one_of id rows ≡ None → x ≡ None)
        → ((t : Text) → one_of id rows ≡ Some t → ReadsOne G t x) → IfSome x (λ n. IsNumberAt rows id n)
    go None is None none some = tt
    go None is (Some v) none some =
        let bad = none is in
        cc
    go (Some t) is None none some = tt
    go (Some t) is (Some v) none some =
        let parsed = only t (Ok v) (some t is) in
        (t, is, parsed.0.0, parsed.1)

-- and where none was read, the option has none that fits
pub number_missing : (E : Type 0) (G : List ℕ → Result ℕ E → Type 0) (rows : List Row) (id : Text) (r : Option ℕ)
    → ((t : Text) → one_of id rows ≡ Some t → ReadsOne G t r)
    → ((u : Text) (x : Result ℕ E) → G u x → ParsesUnsigned 32 10 u x)
    → r ≡ None → (n : ℕ) → n < 4294967296 → IsNumberAt rows id n → ⊥
number_missing E G rows id r some only missing n small at =
    let read : ReadsOne G at.0 None = subst (λ (x : Option ℕ). ReadsOne G at.0 x) missing (some at.0 at.1) in
    only at.0 (Err read.0) read.1 (at.2, subst (λ (x : ℕ). x < 4294967296) at.3 small)

-- a pair of which each part is known
both_parts : {X Y : Type 0} (o : Option (X × Y)) (x : X) (y : Y)
    → option_map (λ p. p.0) o ≡ Some x → option_map (λ p. p.1) o ≡ Some y → o ≡ Some (x, y)
both_parts None x y first second = cc
both_parts (Some p) x y first second =
    let is_x : p.0 ≡ x = ap (λ o. unwrap_or o x) first in
    let is_y : p.1 ≡ y = ap (λ o. unwrap_or o y) second in
    rw (← is_x, ← is_y) refl

first_part : {B X Y : Type 0} (f : B → X × Y) (o : Option B) → option_map (λ b. (f b).0) o ≡ option_map (λ p. p.0) (option_map f o)
first_part f None = refl
first_part f (Some b) = refl

name_of_rows : (m : ArgMatches) → subcommand_name_of m ≡ option_map (λ p. p.0) (subcommand_rows_of m)
name_of_rows m = first_part (λ b. ((out-SubCommand (box_value b)).name.now, rows_of (found_of (out-SubCommand (box_value b)).matches))) (out-ArgMatches m).subcommand

-- the subcommand that was entered, by its name and its rows
pub entered_as : (m : ArgMatches) (name : Text) (rows : List Row) → subcommand_name_of m ≡ Some name
    → option_map (λ p. p.1) (subcommand_rows_of m) ≡ Some rows → subcommand_rows_of m ≡ Some (name, rows)
entered_as m name rows named had = both_parts (subcommand_rows_of m) name rows (sym (name_of_rows m) ∙ named) had

-- what is found of a command that was entered with these values of its options
pub if_entered : (m : ArgMatches) (name : Text) (rows : List Row) (r : Option Command) → subcommand_rows_of m ≡ Some (name, rows)
    → Finds (IsCommand name rows) r → Finds (IsEntered (subcommand_rows_of m)) r
if_entered m name rows None there none = λ c of.
    let same : (of.name, of.rows) ≡ (name, rows) = ap (λ o. unwrap_or o (name, rows)) (sym of.is_there ∙ there) in
    none c (subst (λ (p : Text × List Row). IsCommand p.0 p.1 c) same of.is_command)
if_entered m name rows (Some c) there is = record { name = name; rows = rows; is_there = there; is_command = is }

-- the name of the command that was entered
entered_name : (m : ArgMatches) (c : Command) (name : Text) (of : IsEntered (subcommand_rows_of m) c) → of.name ≡ name → subcommand_name_of m ≡ Some name
entered_name m c name of is = name_of_rows m ∙ ap (option_map (λ p. p.0)) of.is_there ∙ ap Some is

-- no command was entered
pub unentered : (m : ArgMatches) → (subcommand_name_of m ≡ Some (codes "predict") → ⊥) → (subcommand_name_of m ≡ Some (codes "live") → ⊥)
    → (subcommand_name_of m ≡ Some (codes "stats") → ⊥) → (subcommand_name_of m ≡ Some (codes "replay") → ⊥) → (subcommand_name_of m ≡ Some (codes "check") → ⊥) → (c : Command) → IsEntered (subcommand_rows_of m) c → ⊥
unentered m no_predict no_live no_stats no_replay no_check (Predict q form jobs) of = no_predict (entered_name m (Predict q form jobs) (codes "predict") of of.is_command.0)
unentered m no_predict no_live no_stats no_replay no_check (Findings q form jobs) of = no_predict (entered_name m (Findings q form jobs) (codes "predict") of of.is_command.0)
unentered m no_predict no_live no_stats no_replay no_check (Live o) of = no_live (entered_name m (Live o) (codes "live") of of.is_command.0)
unentered m no_predict no_live no_stats no_replay no_check (Stats q jobs) of = no_stats (entered_name m (Stats q jobs) (codes "stats") of of.is_command.0)
unentered m no_predict no_live no_stats no_replay no_check (Replay jobs) of = no_replay (entered_name m (Replay jobs) (codes "replay") of of.is_command.0)
unentered m no_predict no_live no_stats no_replay no_check (Check jobs) of = no_check (entered_name m (Check jobs) (codes "check") of of.is_command.0)

-- options that give no query, or no number of threads that read
pub no_prediction : (rows : List Row) → ((q : Asked) (jobs : ℕ) → AsksIn rows q → IsJobsIn rows jobs → ⊥) → (c : Command) → IsCommand (codes "predict") rows c → ⊥
no_prediction rows none (Predict q form jobs) is = none q jobs is.2 is.4
no_prediction rows none (Findings q form jobs) is = none q jobs is.2 is.4
no_prediction rows none (Live o) is =
    let bad : true ≡ false = ap (λ (name : Text). length name == 7) is.0 in
    cc
no_prediction rows none (Stats q jobs) is =
    let bad : true ≡ false = ap (λ (name : Text). length name == 7) is.0 in
    cc
no_prediction rows none (Replay jobs) is =
    let bad : true ≡ false = ap (λ (name : Text). length name == 7) is.0 in
    cc
no_prediction rows none (Check jobs) is =
    let bad : true ≡ false = ap (λ (name : Text). length name == 7) is.0 in
    cc

abbrev first_letter : Text → ℕ
first_letter [] = 0
first_letter (letter ∷ rest) = letter

pub no_stats : (rows : List Row) → ((q : Asked) (jobs : ℕ) → AsksIn rows q → IsJobsIn rows jobs → ⊥) → (c : Command) → IsCommand (codes "stats") rows c → ⊥
no_stats rows none (Predict q form jobs) is =
    let bad : true ≡ false = ap (λ (name : Text). length name == 5) is.0 in
    cc
no_stats rows none (Findings q form jobs) is =
    let bad : true ≡ false = ap (λ (name : Text). length name == 5) is.0 in
    cc
no_stats rows none (Live o) is =
    let bad : true ≡ false = ap (λ (name : Text). length name == 5) is.0 in
    cc
no_stats rows none (Stats q jobs) is = none q jobs is.1 is.2
no_stats rows none (Replay jobs) is =
    let bad : true ≡ false = ap (λ (name : Text). length name == 5) is.0 in
    cc
no_stats rows none (Check jobs) is =
    let bad : false ≡ true = ap (λ (name : Text). first_letter name == 99) is.0 in
    cc

pub no_session : (rows : List Row) → ((o : LiveOptions) → AsksIn rows o.query → AsksForSession rows o → ⊥) → (c : Command) → IsCommand (codes "live") rows c → ⊥
no_session rows none (Predict q form jobs) is =
    let bad : true ≡ false = ap (λ (name : Text). length name == 4) is.0 in
    cc
no_session rows none (Findings q form jobs) is =
    let bad : true ≡ false = ap (λ (name : Text). length name == 4) is.0 in
    cc
no_session rows none (Live o) is = none o is.1 is.3
no_session rows none (Stats q jobs) is =
    let bad : true ≡ false = ap (λ (name : Text). length name == 4) is.0 in
    cc
no_session rows none (Replay jobs) is =
    let bad : true ≡ false = ap (λ (name : Text). length name == 4) is.0 in
    cc
no_session rows none (Check jobs) is =
    let bad : true ≡ false = ap (λ (name : Text). length name == 4) is.0 in
    cc

pub no_replay : (rows : List Row) → ((jobs : ℕ) → IsJobsIn rows jobs → ⊥) → (c : Command) → IsCommand (codes "replay") rows c → ⊥
no_replay rows none (Predict q form jobs) is =
    let bad : true ≡ false = ap (λ (name : Text). length name == 6) is.0 in
    cc
no_replay rows none (Findings q form jobs) is =
    let bad : true ≡ false = ap (λ (name : Text). length name == 6) is.0 in
    cc
no_replay rows none (Live o) is =
    let bad : true ≡ false = ap (λ (name : Text). length name == 6) is.0 in
    cc
no_replay rows none (Stats q jobs) is =
    let bad : true ≡ false = ap (λ (name : Text). length name == 6) is.0 in
    cc
no_replay rows none (Replay jobs) is = none jobs is.1
no_replay rows none (Check jobs) is =
    let bad : true ≡ false = ap (λ (name : Text). length name == 6) is.0 in
    cc

pub no_check : (rows : List Row) → ((jobs : ℕ) → IsJobsIn rows jobs → ⊥) → (c : Command) → IsCommand (codes "check") rows c → ⊥
no_check rows none (Predict q form jobs) is =
    let bad : true ≡ false = ap (λ (name : Text). length name == 5) is.0 in
    cc
no_check rows none (Findings q form jobs) is =
    let bad : true ≡ false = ap (λ (name : Text). length name == 5) is.0 in
    cc
no_check rows none (Live o) is =
    let bad : true ≡ false = ap (λ (name : Text). length name == 5) is.0 in
    cc
no_check rows none (Stats q jobs) is =
    let bad : true ≡ false = ap (λ (name : Text). first_letter name == 99) is.0 in
    cc
no_check rows none (Replay jobs) is =
    let bad : true ≡ false = ap (λ (name : Text). length name == 5) is.0 in
    cc
no_check rows none (Check jobs) is = none jobs is.1

-- an option has one number
pub same_number : (rows : List Row) (id : Text) (m n : ℕ) → IsNumberAt rows id m → IsNumberAt rows id n → m ≡ n
same_number rows id m n of_m of_n =
    let same : of_m.0 ≡ of_n.0 = ap (λ o. unwrap_or o of_m.0) (sym of_m.1 ∙ of_n.1) in
    of_m.3 ∙ ap (λ text. digits_value 10 (without_leading_plus text)) same ∙ sym of_n.3

-- what words ask for can be run
pub can_run : (words : List Text) (c : Command) → Asks words c → CanRun c
can_run words (Predict q form jobs) asks = tt
can_run words (Findings q form jobs) asks = tt
can_run words (Live o) asks =
    let numbers = asks.enters.is_command.3 in
    record {
      some_recorder = numbers.recorders.enough;
      some_shard = numbers.shards.enough;
      shards_fit = numbers.shards.fits;
      some_ring = numbers.ring.enough;
      ring_fits = numbers.ring.fits;
      some_thread = λ _. numbers.threads.enough;
      threads_fit = λ _. numbers.threads.fits;
    }
can_run words (Stats q jobs) asks = tt
can_run words (Replay jobs) asks = tt
can_run words (Check jobs) asks = tt

-- a value that no option takes
pub refused_value : (words : List Text) (u : Usage) → IsUsageFor kind.InvalidValue u → ((c : Command) → Asks words c → ⊥)
    → fault_of goodlock words ≡ [] → IsUsageOf words u
refused_value words (Shown t) says none fits = cc
refused_value words (Refused t) says none fits = (none, inl fits)
refused_value words Memory says none fits = tt

no_fault : (words : List Text) (k : ErrorKind) → IsAmong k (fault_of goodlock words) → (c : Command) → Asks words c → ⊥
no_fault words k among c asks = subst (λ ks. IsAmong k ks) asks.fits among

-- a parse that failed
pub failed_parse : (words : List Text) (k : ErrorKind) (u : Usage) → IsUsageFor k u
    → ((k ≡ kind.OutOfMemory) ⊎ IsAmong k (fault_of goodlock words)) → IsUsageOf words u
failed_parse words k (Shown t) says (inl memory) =
    let bad : false ≡ true = rw memory at says in
    cc
failed_parse words k (Shown t) says (inr among) = (k, among, says)
failed_parse words k (Refused t) says (inl memory) = absurd (says.1 memory)
failed_parse words k (Refused t) says (inr among) = (no_fault words k among, inr (k, among, says.0))
failed_parse words k Memory says had = tt

-- the command line is one that clap reads as its definitions say
pub is_read : is_simple_and_free goodlock ≡ true
unfolding clap_on_literals
is_read = refl

pub is_simple_line : is_simple goodlock ≡ true
unfolding clap_on_literals
is_simple_line = refl
