-- A line changes nothing of what was told before it.
use Rattle.std.proofs.Common.{◌≡◌, ℕ, zero, suc, ◌+◌, Bool, true, false, position, List, [], ◌∷◌, ◌++◌, length, Option, Some, None, Result, Ok, Err, get_or, refl, sym, ap, subst, ◌∙◌, append_assoc}
use Rattle.std.specs.Prelude.{slice_get, slice_set}
use Rattle.gl_event.specs.Bounds.{Bounds}
use Rattle.gl_event.specs.declared.events.Event.{Event}
use Rattle.gl_std.specs.Laws.{IsFront, Grows, TracesGrow}
use Rattle.std.specs.Str.{bytes_eq}
use Rattle.gl_std.specs.Names.{NameLists}
use Rattle.gl_std.specs.Line.{Operation, Shape, shape_of, is_on_thread}
use Rattle.gl_std.specs.Line.Shape.{Blank, Bad, Other, Call}
use Rattle.gl_std.specs.Lines.{LF, lines}
use Rattle.gl_std.specs.Trace.{with_event, after_shape, after_line, and_then, read_from}
use Rattle.gl_std.specs.bodies.Finding.{found_in, with_name, event_found, after_ruling}
use Rattle.gl_std.specs.declared.faults.ReadFault.{ReadFault}
use Rattle.gl_std.specs.declared.faults.ReadFault.TheVariants.{Line}
use Rattle.gl_std.specs.declared.ruling.Ruling.{Ruling}
use Rattle.gl_std.specs.declared.ruling.Ruling.TheVariants.{Kept, Stray, Fault}
use Rattle.gl_std.specs.declared.trace.Trace.{Trace}
use Rattle.gl_std.proofs.FoundNames.{acting, place_of, threads_of, locks_of, with_found, call-found}
use Rattle.gl_std.proofs.WithinLimits.{IsTrace, lists_of, same_trace, no_trace, trace_of-append}

append_nil : {X : Type 0} (xs : List X) → xs ++ [] ≡ xs
append_nil [] = refl
append_nil (x ∷ xs) = ap (λ ys. x ∷ ys) (append_nil xs)

pub IsFront-itself : {X : Type 0} (xs : List X) → IsFront xs xs
IsFront-itself xs = ([], sym (append_nil xs))

pub IsFront-then : {X : Type 0} (xs ys zs : List X) → IsFront xs ys → IsFront ys zs → IsFront xs zs
IsFront-then xs ys zs a b = (a.0 ++ b.0, b.1 ∙ ap (λ l. l ++ b.0) a.1 ∙ append_assoc xs a.0 b.0)

with_name-front : (names : List (List ℕ)) (number : Option ℕ) (name : List ℕ) → IsFront names (with_name names number name)
with_name-front names None name = (name ∷ [], refl)
with_name-front names (Some i) name = IsFront-itself names

-- the thread's list in these lists goes on from these events
abbrev ListGoesOn : List (List Event) → ℕ → List Event → Type 0
ListGoesOn lists thread es = (later : List Event) × (slice_get lists thread ≡ Some (es ++ later))

ListGoesOn-same : (lists : List (List Event)) (thread : ℕ) (es : List Event) → slice_get lists thread ≡ Some es → ListGoesOn lists thread es
ListGoesOn-same lists thread es h = ([], h ∙ ap (λ l. Some l) (sym (append_nil es)))

push_goes_on : (lists : List (List Event)) (new : List Event) (k : ℕ) (es : List Event) → slice_get lists k ≡ Some es → slice_get (lists ++ new ∷ []) k ≡ Some es
push_goes_on [] new k es h = absurd (none_some h)
  where
    none_some : None ≡ Some es → ⊥
    none_some e = cc
push_goes_on (x ∷ lists) new zero es h = h
push_goes_on (x ∷ lists) new (suc k) es h = push_goes_on lists new k es h

set_goes_on : (lists : List (List Event)) (i : ℕ) (e : Event) (k : ℕ) (es : List Event) → slice_get lists k ≡ Some es → ListGoesOn (slice_set lists i (get_or lists i [] ++ e ∷ [])) k es
set_goes_on [] i e k es h = absurd (none_some h)
  where
    none_some : None ≡ Some es → ⊥
    none_some e = cc
set_goes_on (x ∷ lists) zero e zero es h = let same : x ≡ es = cc in (e ∷ [], ap (λ l. Some (l ++ e ∷ [])) same)
set_goes_on (x ∷ lists) zero e (suc k) es h = ListGoesOn-same lists k es h
set_goes_on (x ∷ lists) (suc i) e zero es h = ([], h ∙ ap (λ l. Some l) (sym (append_nil es)))
set_goes_on (x ∷ lists) (suc i) e (suc k) es h = set_goes_on lists i e k es h

with_event-goes_on : (lists : List (List Event)) (number : Option ℕ) (e : Event) (k : ℕ) (es : List Event) → slice_get lists k ≡ Some es → ListGoesOn (with_event lists number e) k es
with_event-goes_on lists None e k es h = ListGoesOn-same (lists ++ (e ∷ []) ∷ []) k es (push_goes_on lists (e ∷ []) k es h)
with_event-goes_on lists (Some i) e k es h = set_goes_on lists i e k es h

threads_of-front : (on : Bool) (names : NameLists) (thread operand : List ℕ) → IsFront names.threads (threads_of on names thread operand)
threads_of-front true names thread operand =
    IsFront-then names.threads (acting names thread) (threads_of true names thread operand) (with_name-front names.threads (position (bytes_eq thread) names.threads) thread) (with_name-front (acting names thread) (place_of true names thread operand) operand)
threads_of-front false names thread operand = with_name-front names.threads (position (bytes_eq thread) names.threads) thread

locks_of-front : (on : Bool) (names : NameLists) (thread operand : List ℕ) → IsFront names.locks (locks_of on names thread operand)
locks_of-front true names thread operand = IsFront-itself names.locks
locks_of-front false names thread operand = with_name-front names.locks (place_of false names thread operand) operand

lists_of-goes_on : (on : Bool) (lists : List (List Event)) (number place : Option ℕ) (e : Event) (k : ℕ) (es : List Event) → slice_get lists k ≡ Some es → ListGoesOn (lists_of on lists number place e) k es
lists_of-goes_on false lists number place e k es h = with_event-goes_on lists number e k es h
lists_of-goes_on true lists number (Some i) e k es h = with_event-goes_on lists number e k es h
lists_of-goes_on true lists number None e k es h =
    let later = with_event-goes_on lists number e k es h in
    (later.0, push_goes_on (with_event lists number e) [] k (es ++ later.0) later.1)

pub Grows-itself : (told : Trace) (skipped stray : ℕ) → Grows told (record { names = told.names; lists = told.lists; skipped = skipped; stray = stray })
Grows-itself told skipped stray =
    record {
      threads = IsFront-itself told.names.threads;
      locks = IsFront-itself told.names.locks;
      locs = IsFront-itself told.names.locs;
      lists = λ k es h. ListGoesOn-same told.lists k es h;
    }

pub Grows-then : (a b c : Trace) → Grows a b → Grows b c → Grows a c
Grows-then a b c one two =
    record {
      threads = IsFront-then a.names.threads b.names.threads c.names.threads one.threads two.threads;
      locks = IsFront-then a.names.locks b.names.locks c.names.locks one.locks two.locks;
      locs = IsFront-then a.names.locs b.names.locs c.names.locs one.locs two.locs;
      lists = λ k es h.
          let more = one.lists k es h in
          let most = two.lists k (es ++ more.0) more.1 in
          (more.0 ++ most.0, most.1 ∙ ap (λ l. Some l) (append_assoc es more.0 most.0));
    }

pub call_grows : (told : Trace) (operation : Operation) (thread operand location : List ℕ) → Grows told (with_found told operation thread operand location)
call_grows told operation thread operand location =
    let found = found_in told.names operation thread operand location in
    let on = is_on_thread operation in
    record {
      threads = threads_of-front on told.names thread operand;
      locks = locks_of-front on told.names thread operand;
      locs = with_name-front told.names.locs found.loc location;
      lists = λ k es h. lists_of-goes_on on told.lists found.thread found.operand (event_found told.names operation found) k es h;
    }

after_ruling_grows : (line : ℕ) (told kept more : Trace) (v : Ruling) → Grows told kept → IsTrace (after_ruling line told kept v) more → Grows told more
after_ruling_grows line told kept more Kept new is = subst (Grows told) (same_trace kept more is) new
after_ruling_grows line told kept more Stray new is = subst (Grows told) (same_trace (record told { stray = told.stray + 1 }) more is) (Grows-itself told told.skipped (told.stray + 1))
after_ruling_grows line told kept more (Fault kind) new is = absurd (no_trace (Line line kind) more is)

pub after_shape_grows : (limits : Bounds) (line : ℕ) (told more : Trace) (shape : Shape) → IsTrace (after_shape limits line told shape) more → Grows told more
after_shape_grows limits line told more Blank is = subst (Grows told) (same_trace told more is) (Grows-itself told told.skipped told.stray)
after_shape_grows limits line told more (Bad kind) is = absurd (no_trace (Line line kind) more is)
after_shape_grows limits line told more Other is = subst (Grows told) (same_trace (record told { skipped = told.skipped + 1 }) more is) (Grows-itself told (told.skipped + 1) told.stray)
after_shape_grows limits line told more (Call operation thread operand location) is =
    after_ruling_grows line told (with_found told operation thread operand location) more _ (call_grows told operation thread operand location) (sym (call-found limits line told operation thread operand location) ∙ is)

read_from_grows : (limits : Bounds) (ls : List (List ℕ)) (number : ℕ) (told more : Trace) → IsTrace (read_from limits number told ls) more → Grows told more
read_from_grows limits [] number told more is = subst (Grows told) (same_trace told more is) (Grows-itself told told.skipped told.stray)
read_from_grows limits (line ∷ ls) number told more is = by (after_line limits number told line) refl (λ next. read_from_grows limits ls (number + 1) next more) is
  where
    by : (r : Result Trace ReadFault) → after_line limits number told line ≡ r → ((next : Trace) → IsTrace (read_from limits (number + 1) next ls) more → Grows next more) → IsTrace (and_then r (λ next. read_from limits (number + 1) next ls)) more → Grows told more
    by (Ok next) here later is = Grows-then told next more (after_shape_grows limits number told next (shape_of line) here) (later next is)
    by (Err fault) here later is = absurd (no_trace fault more is)

pub trace_of_grows : TracesGrow
trace_of_grows limits front rest old new before whole =
    let go_on = λ (told : Trace). read_from limits (1 + length (lines (front ++ LF ∷ []))) told (lines rest) in
    let is : IsTrace (go_on old) new = sym (ap (λ r. and_then r go_on) before) ∙ sym (trace_of-append limits front rest) ∙ whole in
    read_from_grows limits (lines rest) (1 + length (lines (front ++ LF ∷ []))) old new is
