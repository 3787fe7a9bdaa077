-- The fault of a text is that of its first line at fault.
use Rattle.std.proofs.Common.{◌≡◌, ◌⊎◌, ℕ, ◌+◌, ◌<◌, ◌≤◌, Bool, true, false, cond, nat_lt, List, [], ◌∷◌, ◌++◌, length, position, Option, Some, None, Result, Ok, Err, refl, sym, ap, subst, ◌∙◌, inl, inr, arith}
use Rattle.std.specs.Prelude.{nat_le}
use Rattle.std.specs.Str.{bytes_eq}
use Rattle.std.proofs.lemmas.Bool.Decides.{nat_tests}
use Rattle.gl_event.specs.Bounds.{Bounds}
use Rattle.gl_event.specs.declared.events.Refusal.{Refusal}
use Rattle.gl_event.specs.declared.events.Refusal.TheVariants.{PlaceFull, NoSuchThread, OnItself, NotHeld, HeldFull as NoRoom, DepthFull as TooDeep, Upgrade as IsUpgrade}
use Rattle.gl_std.specs.Laws.{refusal_of_call, IsFaultAfter, FaultsComeFirst}
use Rattle.gl_std.specs.Laws.IsFaultAfter.{alone, held_full, too_deep, upgrade, many_threads, many_events, many_names}
use Rattle.gl_std.specs.Line.{Operation, Shape, shape_of}
use Rattle.gl_std.specs.Line.Shape.{Blank, Bad, Other, Call}
use Rattle.gl_std.specs.Lines.{lines}
use Rattle.gl_std.specs.Names.{NameLists}
use Rattle.gl_std.specs.Trace.{names_after, events_of, with_call, limit_reached, after_event, after_shape, after_line, and_then, read_from, nothing, trace_of}
use Rattle.gl_std.specs.declared.faults.ReadFault.{ReadFault}
use Rattle.gl_std.specs.declared.faults.ReadFault.TheVariants.{Line}
use Rattle.gl_std.specs.declared.faults.StdKind.{StdKind}
use Rattle.gl_std.specs.declared.faults.StdKind.TheVariants.{HeldFull, DepthFull, Upgrade, TooManyThreads, TooManyEvents, TooManyNames}
use Rattle.gl_std.specs.declared.trace.Trace.{Trace}

over : (most n : ℕ) → nat_lt most n ≡ true → most < n
over most n h = grind (arith, nat_tests, h)

within : (most n : ℕ) → nat_lt most n ≡ false → n ≤ most
within most n h = grind (arith, nat_tests, h)

full : (most n : ℕ) → nat_le most n ≡ true → most ≤ n
full most n h = grind (arith, nat_tests, h)

room : (most n : ℕ) → nat_le most n ≡ false → n < most
room most n h = grind (arith, nat_tests, h)

module _ (limits : Bounds) (told : Trace) (operation : Operation) (thread operand location : List ℕ) (kind : StdKind) where
  abbrev after : NameLists
  after = names_after told.names operation thread operand location

  abbrev events : ℕ
  events = length (events_of told.lists (position (bytes_eq thread) told.names.threads))

  -- the limits, where the locks allow the event
  limit_reached-says : refusal_of_call told operation thread operand location ≡ None → limit_reached limits after events ≡ Some kind → IsFaultAfter limits told (Call operation thread operand location) kind
  limit_reached-says allowed h = by (nat_lt limits.threads (length after.threads)) (nat_le limits.events events) (nat_lt limits.names (length after.locks)) (nat_lt limits.names (length after.locs)) refl refl refl refl h
    where
      names : nat_lt limits.threads (length after.threads) ≡ false → nat_le limits.events events ≡ false → (limits.names < length after.locks) ⊎ (limits.names < length after.locs) → TooManyNames ≡ kind → IsFaultAfter limits told (Call operation thread operand location) kind
      names t e many is = subst (IsFaultAfter limits told (Call operation thread operand location)) is (many_names operation thread operand location allowed (within limits.threads (length after.threads) t) (room limits.events events e) many)

      by : (t e l o : Bool) → nat_lt limits.threads (length after.threads) ≡ t → nat_le limits.events events ≡ e → nat_lt limits.names (length after.locks) ≡ l → nat_lt limits.names (length after.locs) ≡ o → cond t (Some TooManyThreads) (cond e (Some TooManyEvents) (cond l (Some TooManyNames) (cond o (Some TooManyNames) None))) ≡ Some kind → IsFaultAfter limits told (Call operation thread operand location) kind
      by true e l o a b c d h = let is : TooManyThreads ≡ kind = cc in subst (IsFaultAfter limits told (Call operation thread operand location)) is (many_threads operation thread operand location allowed (over limits.threads (length after.threads) a))
      by false true l o a b c d h = let is : TooManyEvents ≡ kind = cc in subst (IsFaultAfter limits told (Call operation thread operand location)) is (many_events operation thread operand location allowed (within limits.threads (length after.threads) a) (full limits.events events b))
      by false false true o a b c d h = let is : TooManyNames ≡ kind = cc in names a b (inl (over limits.names (length after.locks) c)) is
      by false false false true a b c d h = let is : TooManyNames ≡ kind = cc in names a b (inr (over limits.names (length after.locs) d)) is
      by false false false false a b c d h = absurd cc

  -- the locks, and then the limits
  after_event-says : (n number : ℕ) (kept : Trace) → after_event n told kept (refusal_of_call told operation thread operand location) (limit_reached limits after events) ≡ Err (Line number kind) → (number ≡ n) × IsFaultAfter limits told (Call operation thread operand location) kind
  after_event-says n number kept h = by (refusal_of_call told operation thread operand location) refl (limit_reached limits after events) refl h
    where
      by : (r : Option Refusal) → refusal_of_call told operation thread operand location ≡ r → (limit : Option StdKind) → limit_reached limits after events ≡ limit → after_event n told kept r limit ≡ Err (Line number kind) → (number ≡ n) × IsFaultAfter limits told (Call operation thread operand location) kind
      by None a None b h = absurd cc
      by None a (Some k) b h = let is : k ≡ kind = cc in (cc, limit_reached-says a (b ∙ ap (λ k. Some k) is))
      by (Some NoRoom) a limit b h = let is : HeldFull ≡ kind = cc in (cc, subst (IsFaultAfter limits told (Call operation thread operand location)) is (held_full operation thread operand location a))
      by (Some TooDeep) a limit b h = let is : DepthFull ≡ kind = cc in (cc, subst (IsFaultAfter limits told (Call operation thread operand location)) is (too_deep operation thread operand location a))
      by (Some IsUpgrade) a limit b h = let is : Upgrade ≡ kind = cc in (cc, subst (IsFaultAfter limits told (Call operation thread operand location)) is (upgrade operation thread operand location a))
      by (Some NotHeld) a limit b h = absurd cc
      by (Some PlaceFull) a limit b h = absurd cc
      by (Some NoSuchThread) a limit b h = absurd cc
      by (Some OnItself) a limit b h = absurd cc

after_shape-says : (limits : Bounds) (n : ℕ) (told : Trace) (shape : Shape) (number : ℕ) (kind : StdKind) → after_shape limits n told shape ≡ Err (Line number kind) → (number ≡ n) × IsFaultAfter limits told shape kind
after_shape-says limits n told Blank number kind h = absurd cc
after_shape-says limits n told (Bad k) number kind h = let is : k ≡ kind = cc in (cc, subst (λ k. IsFaultAfter limits told (Bad k) kind) (sym is) (alone kind))
after_shape-says limits n told Other number kind h = absurd cc
after_shape-says limits n told (Call operation thread operand location) number kind h = after_event-says limits told operation thread operand location kind n number (with_call told operation thread operand location) h

-- the first of these lines at fault, where the first line has this number
record IsFirstOf (limits : Bounds) (n : ℕ) (start : Trace) (ls : List (List ℕ)) (number : ℕ) (kind : StdKind) : Type 0 where
  front : List (List ℕ)
  line : List ℕ
  rest : List (List ℕ)
  parts : ls ≡ front ++ line ∷ rest
  counted : number ≡ length front + n
  told : Trace
  before : read_from limits n start front ≡ Ok told
  because : IsFaultAfter limits told (shape_of line) kind

read_from-says : (limits : Bounds) (ls : List (List ℕ)) (n : ℕ) (start : Trace) (number : ℕ) (kind : StdKind) → read_from limits n start ls ≡ Err (Line number kind) → IsFirstOf limits n start ls number kind
read_from-says limits [] n start number kind h = absurd cc
read_from-says limits (line ∷ ls) n start number kind h = by (after_line limits n start line) refl (λ next. read_from-says limits ls (n + 1) next number kind) h
  where
    by : (r : Result Trace ReadFault) → after_line limits n start line ≡ r → ((next : Trace) → read_from limits (n + 1) next ls ≡ Err (Line number kind) → IsFirstOf limits (n + 1) next ls number kind) → and_then r (λ next. read_from limits (n + 1) next ls) ≡ Err (Line number kind) → IsFirstOf limits n start (line ∷ ls) number kind
    by (Ok next) here later h =
        let first = later next h in
        record {
          front = line ∷ first.front;
          line = first.line;
          rest = first.rest;
          parts = ap (λ l. line ∷ l) first.parts;
          counted = omega (arith, first.counted);
          told = first.told;
          before = ap (λ r. and_then r (λ next. read_from limits (n + 1) next first.front)) here ∙ first.before;
          because = first.because;
        }
    by (Err fault) here later h =
        let same : fault ≡ Line number kind = cc in
        let said = after_shape-says limits n start (shape_of line) number kind (here ∙ ap (λ f. Err f) same) in
        record {
          front = [];
          line = line;
          rest = ls;
          parts = refl;
          counted = omega (arith, said.0);
          told = start;
          before = refl;
          because = said.1;
        }

pub trace_of-fault : FaultsComeFirst
unfolding trace_of
trace_of-fault limits text number kind h =
    let first = read_from-says limits (lines text) 1 nothing number kind h in
    record {
      front = first.front;
      line = first.line;
      rest = first.rest;
      parts = first.parts;
      counted = first.counted;
      told = first.told;
      before = first.before;
      because = first.because;
    }
