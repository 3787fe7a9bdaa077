-- A line is judged as the event that it tells is ruled on.
use Rattle.std.proofs.Common.{◌≡◌, ℕ, ◌+◌, List, length, Option, Result, Ok, unwrap_or, refl, sym, ap, subst, ◌∙◌, arith}
use Rattle.gl_event.specs.declared.events.Event.{Event}
use Rattle.gl_std.specs.Line.{Operation}
use Rattle.gl_std.specs.Standings.{AreStanding}
use Rattle.gl_std.specs.Trace.{after_call}
use Rattle.gl_std.specs.bodies.Counting.{count_of}
use Rattle.gl_std.specs.bodies.Finding.{found_in, event_found, limit_found, with_lists, with_names}
use Rattle.gl_std.specs.bodies.Judgements.{JudgesLine}
use Rattle.gl_std.specs.bodies.Rulings.{if_stray, judged_by, IsRulingOf, StandsRuled}
use Rattle.gl_std.specs.bodies.States.{IsSound}
use Rattle.gl_std.specs.declared.faults.ReadFault.{ReadFault}
use Rattle.gl_std.specs.declared.faults.ReadFault.TheVariants.{Line}
use Rattle.gl_std.specs.declared.faults.StdKind.{StdKind}
use Rattle.gl_std.specs.declared.judge.Judge.{Judge}
use Rattle.gl_std.specs.declared.judge.Judged.{Judged}
use Rattle.gl_std.specs.declared.names.Found.{Found}
use Rattle.gl_std.specs.declared.ruling.Ruling.{Ruling}
use Rattle.gl_std.specs.declared.ruling.Ruling.TheVariants.{Kept, Stray, Fault}
use Rattle.gl_std.specs.declared.trace.Trace.{Trace}
use Rattle.gl_std.proofs.JudgedLines.{call_judged, call_kept, call_known, call_listed, same_fault}

-- the judge with this ruling counted
abbrev pub counted : Judge → Ruling → Judge
counted j ruling = record j { stray = j.stray + if_stray ruling }

by_ruling : (old mid : Judge) (operation : Operation) (t o l : List ℕ) (found : Found) (event : Event) (limit : Option StdKind) (own : ℕ) (ruling : Ruling)
    → IsSound old → found ≡ found_in old.names operation t o l → event ≡ event_found old.names operation found
    → limit ≡ limit_found old.limits old.names (count_of old.standings.items found.thread) operation found → own ≡ unwrap_or found.thread (length old.names.threads)
    → IsRulingOf old.standings.items found.thread event limit ruling → StandsRuled old.standings.items mid.standings.items (λ lists. with_lists lists operation found event) ruling
    → (ruling ≡ Kept → mid.names ≡ with_names old.names operation found t o l) → (ruling ≡ Stray → mid.names ≡ old.names)
    → mid.limits ≡ old.limits → mid.skipped ≡ old.skipped → mid.stray ≡ old.stray
    → JudgesLine old (counted mid ruling) (λ told. after_call old.limits old.line told operation t o l) (judged_by ruling old.line own event)
by_ruling old mid operation t o l found event limit own Kept sound is_found is_event is_limit is_own rules stands told_names same limits skipped stray =
    let names = told_names refl in
    record {
      tells = λ told judged.
          call_judged old.limits old.line old.names old.standings.items told operation t o l found event limit Kept judged.names judged.states is_found is_event is_limit (rules told.lists judged.states)
          ∙ ap (λ t. Ok t) (call_kept old.names mid.names old.standings.items told operation t o l found event own judged.names judged.states sound.one_standing_each is_found is_event names is_own);
      judged = λ told judged. record {
        names = refl;
        states =
            subst (λ lists. AreStanding lists mid.standings.items) (call_listed old.names mid.names old.standings.items told operation t o l found event own judged.states sound.one_standing_each is_found names is_own)
            (stands.kept refl told.lists judged.states);
        skipped = skipped ∙ judged.skipped;
        stray = omega (arith, stray, judged.stray);
      };
      known = call_known old.names mid.names operation t o l found own is_found names is_own;
      fault = λ number kind is told judged. cc;
      same_limits = limits;
    }
by_ruling old mid operation t o l found event limit own Stray sound is_found is_event is_limit is_own rules stands told_names same limits skipped stray =
    record {
      tells = λ told judged.
          call_judged old.limits old.line old.names old.standings.items told operation t o l found event limit Stray judged.names judged.states is_found is_event is_limit (rules told.lists judged.states);
      judged = λ told judged. record {
        names = same refl ∙ judged.names;
        states = subst (AreStanding told.lists) (sym (stands.stray refl)) judged.states;
        skipped = skipped ∙ judged.skipped;
        stray = omega (arith, stray, judged.stray);
      };
      known = tt;
      fault = λ number kind is told judged. cc;
      same_limits = limits;
    }
by_ruling old mid operation t o l found event limit own (Fault fault) sound is_found is_event is_limit is_own rules stands told_names same limits skipped stray =
    record {
      tells = tt;
      judged = tt;
      known = tt;
      fault = λ number kind is told judged.
          call_judged old.limits old.line old.names old.standings.items told operation t o l found event limit (Fault fault) judged.names judged.states is_found is_event is_limit (rules told.lists judged.states)
          ∙ same_fault (Line old.line fault) (Line number kind) is;
      same_limits = limits;
    }

-- a line is judged by the ruling on its event, where the names of a kept one were told before
pub ruled_line : (old mid new : Judge) (operation : Operation) (t o l : List ℕ) (found : Found) (event : Event) (limit : Option StdKind) (own : ℕ) (ruling : Ruling) (result : Result Judged ReadFault)
    → IsSound old → found ≡ found_in old.names operation t o l → event ≡ event_found old.names operation found
    → limit ≡ limit_found old.limits old.names (count_of old.standings.items found.thread) operation found → own ≡ unwrap_or found.thread (length old.names.threads)
    → IsRulingOf old.standings.items found.thread event limit ruling → StandsRuled old.standings.items mid.standings.items (λ lists. with_lists lists operation found event) ruling
    → (ruling ≡ Kept → mid.names ≡ with_names old.names operation found t o l) → (ruling ≡ Stray → mid.names ≡ old.names)
    → mid.limits ≡ old.limits → mid.skipped ≡ old.skipped → mid.stray ≡ old.stray
    → new ≡ counted mid ruling → result ≡ judged_by ruling old.line own event
    → JudgesLine old new (λ told. after_call old.limits old.line told operation t o l) result
ruled_line old mid new operation t o l found event limit own ruling result sound is_found is_event is_limit is_own rules stands told_names same limits skipped stray is_new is_result =
    let after = λ (told : Trace). after_call old.limits old.line told operation t o l in
    subst (λ j. JudgesLine old j after result) (sym is_new)
    (subst (JudgesLine old (counted mid ruling) after) (sym is_result)
    (by_ruling old mid operation t o l found event limit own ruling sound is_found is_event is_limit is_own rules stands told_names same limits skipped stray))
