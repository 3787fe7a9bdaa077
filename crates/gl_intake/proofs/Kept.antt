-- One note more, and its thread's log and cursor brought up to it.
use Rattle.std.proofs.Common.{◌≡◌, ℕ, ◌<◌, ◌≤◌, true, false, List, [], ◌∷◌, ◌++◌, length, get_or, set, Vec, Global, None, sym, subst, ◌∙◌, arith, inl, inr}
use Rattle.std.proofs.lemmas.Bool.{cases_eq}
use Rattle.std.proofs.lemmas.List.{get_or-set_same, get_or-set_other, length-set}
use Rattle.gl_event.specs.Bounds.{Bounds}
use Rattle.gl_event.specs.Lawful.{refusal, IsLawful}
use Rattle.gl_event.specs.declared.events.Event.{Event}
use Rattle.gl_event.specs.declared.notes.Note.{Note}
use Rattle.gl_event.specs.declared.notes.Body.TheVariants.{Happened, Ended}
use Rattle.gl_event.specs.States.{MayFollow}
use Rattle.gl_recorder.specs.Taking.{Tracks}
use Rattle.gl_intake.specs.Stream.{events_of, has_ended, IsNext}
use Rattle.gl_intake.specs.Keeping.{AreLogs, AreCursors, IsKept}
use Rattle.gl_intake.specs.declared.intake.ThreadCursor.{ThreadCursor}
use Rattle.gl_intake.proofs.Order.{AreInOrder-push}
use Rattle.gl_intake.proofs.Streams.{some_item, events_more, events_ended, events_other, ended_other, ended_event, ended_now}

module _ (limits : Bounds) (stream : List Note) (note : Note) (known : note.thread < limits.threads) where
  logs_event : (logs : List (Vec Event Global)) → AreLogs limits.threads stream logs → (e : Event) → note.body ≡ Happened e → (old new : Vec Event Global)
      → old ≡ get_or logs note.thread old → new.items ≡ old.items ++ e ∷ [] → AreLogs limits.threads (stream ++ note ∷ []) (set logs note.thread new)
  logs_event logs are e is old new here more =
      let was : old.items ≡ events_of note.thread stream = rw (← here) at (are.each note.thread old known) in
      let within_logs : note.thread < length logs = omega (arith, are.count) in
      record {
        count = length-set logs note.thread new ∙ are.count;
        each = λ thread d within.
            elim (cases_eq note.thread thread) [
              | inl same ↦
                  let here_too : (get_or (set logs note.thread new) note.thread d).items ≡ events_of note.thread (stream ++ note ∷ []) =
                  rw (get_or-set_same logs note.thread new d within_logs) (more ∙ rw was (sym (events_more stream note e is))) in
                  subst (λ (t : ℕ). (get_or (set logs note.thread new) t d).items ≡ events_of t (stream ++ note ∷ [])) same here_too
              | inr other ↦ rw (get_or-set_other logs note.thread thread new d (λ e. other (sym e))) (are.each thread d within ∙ sym (events_other stream note thread other))
            ];
      }

  logs_end : (logs : List (Vec Event Global)) → AreLogs limits.threads stream logs → (count : ℕ) → note.body ≡ Ended count → AreLogs limits.threads (stream ++ note ∷ []) logs
  logs_end logs are count is = record {
    count = are.count;
    each = λ thread d within. are.each thread d within ∙ sym (events_ended stream note thread count is);
  }

  cursors_push : (cursors : List ThreadCursor) → AreCursors limits stream cursors → (new : ThreadCursor) → Tracks limits note.thread (events_of note.thread (stream ++ note ∷ [])) new.taker
      → new.has_ended ≡ has_ended note.thread (stream ++ note ∷ []) → AreCursors limits (stream ++ note ∷ []) (set cursors note.thread new)
  cursors_push cursors are new tracks ended =
      let within_cursors : note.thread < length cursors = omega (arith, are.count) in
      record {
        count = length-set cursors note.thread new ∙ are.count;
        tracks = λ thread d within.
            elim (cases_eq note.thread thread) [
              | inl same ↦
                  let here : Tracks limits note.thread (events_of note.thread (stream ++ note ∷ [])) (get_or (set cursors note.thread new) note.thread d).taker = rw (get_or-set_same cursors note.thread new d within_cursors) tracks in
                  subst (λ (t : ℕ). Tracks limits t (events_of t (stream ++ note ∷ [])) (get_or (set cursors note.thread new) t d).taker) same here
              | inr other ↦ rw (get_or-set_other cursors note.thread thread new d (λ e. other (sym e)), events_other stream note thread other) (are.tracks thread d within)
            ];
        ended = λ thread d within.
            elim (cases_eq note.thread thread) [
              | inl same ↦
                  let here : (get_or (set cursors note.thread new) note.thread d).has_ended ≡ has_ended note.thread (stream ++ note ∷ []) = rw (get_or-set_same cursors note.thread new d within_cursors) ended in
                  subst (λ (t : ℕ). (get_or (set cursors note.thread new) t d).has_ended ≡ has_ended t (stream ++ note ∷ [])) same here
              | inr other ↦ rw (get_or-set_other cursors note.thread thread new d (λ e. other (sym e)), ended_other stream note thread other) (are.ended thread d within)
            ];
      }

  no_strangers : ((thread : ℕ) → limits.threads ≤ thread → has_ended thread stream ≡ false) → (thread : ℕ) → limits.threads ≤ thread → has_ended thread (stream ++ note ∷ []) ≡ false
  no_strangers none thread strange = ended_other stream note thread (λ e. omega arith) ∙ none thread strange

-- the recorder of a note's thread tracks the thread's events so far
tracks_own : (limits : Bounds) (stream : List Note) (cursors : List ThreadCursor) → AreCursors limits stream cursors → (note : Note) → IsNext limits stream note → (cursor : ThreadCursor) → cursor ≡ get_or cursors note.thread cursor
    → Tracks limits note.thread (events_of note.thread stream) cursor.taker
tracks_own limits stream cursors are note next cursor here = rw (← here) at (are.tracks note.thread cursor next.known)

-- the event of the next note may be taken
pub may_follow : (limits : Bounds) (stream : List Note) (cursors : List ThreadCursor) → AreCursors limits stream cursors → (note : Note) → IsNext limits stream note
    → (e : Event) → note.body ≡ Happened e → (cursor : ThreadCursor) → cursor ≡ get_or cursors note.thread cursor → MayFollow cursor.taker.limits cursor.taker.thread cursor.taker.state e
may_follow limits stream cursors are note next e is cursor here =
    let tracks = tracks_own limits stream cursors are note next cursor here in
    let allowed : refusal limits note.thread (events_of note.thread stream) e ≡ None = rw is at next.fits in
    record {
      es = events_of note.thread stream;
      stands = tracks.stands;
      allowed = rw (tracks.its_limits, tracks.its_thread) allowed;
    }

-- an event's note more
pub kept_event : (limits : Bounds) (stream : List Note) (logs : List (Vec Event Global)) (cursors : List ThreadCursor) → IsKept limits stream logs cursors → (note : Note) → IsNext limits stream note
    → (e : Event) → note.body ≡ Happened e → (old new : Vec Event Global) → old ≡ get_or logs note.thread old → new.items ≡ old.items ++ e ∷ []
    → (was now : ThreadCursor) → was ≡ get_or cursors note.thread was → now.has_ended ≡ was.has_ended
    → ((b : Bounds) (t : ℕ) (es : List Event) → Tracks b t es was.taker → Tracks b t (es ++ e ∷ []) now.taker)
    → IsKept limits (stream ++ note ∷ []) (set logs note.thread new) (set cursors note.thread now)
kept_event limits stream logs cursors kept note next e is old new old_here more was now was_here same_end tracks =
    let ended : was.has_ended ≡ has_ended note.thread stream = rw (← was_here) at (kept.cursors_are.ended note.thread was next.known) in
    let after = tracks limits note.thread (events_of note.thread stream) (tracks_own limits stream cursors kept.cursors_are note next was was_here) in
    record {
      logs_are = logs_event limits stream note next.known logs kept.logs_are e is old new old_here more;
      cursors_are = cursors_push limits stream note next.known cursors kept.cursors_are now (rw (events_more stream note e is) after) (same_end ∙ ended ∙ sym (ended_event stream note note.thread e is));
      no_stranger = no_strangers limits stream note next.known kept.no_stranger;
      in_order = AreInOrder-push limits stream note kept.in_order next;
      range = kept.range;
    }

-- an end mark more
pub kept_end : (limits : Bounds) (stream : List Note) (logs : List (Vec Event Global)) (cursors : List ThreadCursor) → IsKept limits stream logs cursors → (note : Note) → IsNext limits stream note
    → (count : ℕ) → note.body ≡ Ended count → (was now : ThreadCursor) → was ≡ get_or cursors note.thread was → now.taker ≡ was.taker → now.has_ended ≡ true
    → IsKept limits (stream ++ note ∷ []) logs (set cursors note.thread now)
kept_end limits stream logs cursors kept note next count is was now was_here same_taker ended =
    let tracked : Tracks limits note.thread (events_of note.thread stream) was.taker = rw (← was_here) at (kept.cursors_are.tracks note.thread was next.known) in
    record {
      logs_are = logs_end limits stream note next.known logs kept.logs_are count is;
      cursors_are = cursors_push limits stream note next.known cursors kept.cursors_are now (rw (events_ended stream note note.thread count is, same_taker) tracked) (ended ∙ sym (ended_now stream note count is));
      no_stranger = no_strangers limits stream note next.known kept.no_stranger;
      in_order = AreInOrder-push limits stream note kept.in_order next;
      range = kept.range;
    }

-- a log that keeps its events, wherever they lie
pub kept_room : (limits : Bounds) (stream : List Note) (logs : List (Vec Event Global)) (cursors : List ThreadCursor) → IsKept limits stream logs cursors
    → (at : ℕ) → at < limits.threads → (old new : Vec Event Global) → old ≡ get_or logs at old → new.items ≡ old.items → IsKept limits stream (set logs at new) cursors
kept_room limits stream logs cursors kept at known old new here same =
    let are = kept.logs_are in
    let was : old.items ≡ events_of at stream = rw (← here) at (are.each at old known) in
    let within_logs : at < length logs = omega (arith, are.count) in
    record {
      logs_are = record {
        count = length-set logs at new ∙ are.count;
        each = λ thread d within.
            elim (cases_eq at thread) [
              | inl is ↦
                  let here_too : (get_or (set logs at new) at d).items ≡ events_of at stream = rw (get_or-set_same logs at new d within_logs) (same ∙ was) in
                  subst (λ (t : ℕ). (get_or (set logs at new) t d).items ≡ events_of t stream) is here_too
              | inr other ↦ rw (get_or-set_other logs at thread new d (λ e. other (sym e))) (are.each thread d within)
            ];
      };
      cursors_are = kept.cursors_are;
      no_stranger = kept.no_stranger;
      in_order = kept.in_order;
      range = kept.range;
    }

-- the events of a known thread are a lawful list
pub lawful_events : (limits : Bounds) (stream : List Note) (cursors : List ThreadCursor) → AreCursors limits stream cursors → (thread : ℕ) → thread < limits.threads → IsLawful limits thread (events_of thread stream)
lawful_events limits stream cursors are thread known = (are.tracks thread (some_item cursors thread (omega (arith, are.count))) known).lawful
