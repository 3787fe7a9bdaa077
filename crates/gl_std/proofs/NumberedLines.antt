-- Lines by numbers in place of names.
use Rattle.std.proofs.Common.{◌≡◌, ℕ, zero, suc, ◌+◌, ◌<◌, ◌≤◌, Bool, true, false, position, List, [], ◌∷◌, ◌++◌, length, map, take, Option, Some, None, Result, Ok, Err, get_or, refl, sym, ap, subst, ◌∙◌, length-append, add-zero, add-one, cond, inl, inr, arith}
use Rattle.std.specs.Prelude.{slice_get, slice_set, OnOk}
use Rattle.std.specs.Str.{bytes_eq}
use Rattle.std.proofs.lemmas.Bool.{cases_eq, cases_lt}
use Rattle.std.proofs.lemmas.List.{get_or_append_left, get_or-set_same, get_or-set_other, length-set}
use Rattle.std.proofs.lemmas.Option.{get_or_from_slice_get, slice_get-get_or, slice_get_within}
use Rattle.std.proofs.lemmas.List.Quantifiers.{position-Some}
use Rattle.gl_event.specs.Bounds.{Bounds}
use Rattle.gl_event.specs.declared.events.Event.{Event}
use Rattle.gl_std.specs.Laws.{Grows, IsFront}
use Rattle.gl_std.specs.Line.{Operation, Shape, is_on_thread, shape_of}
use Rattle.gl_std.specs.Line.Shape.{Call}
use Rattle.gl_std.specs.Names.{NameLists}
use Rattle.gl_std.specs.Trace.{after_call, after_line, after_shape, and_then, operands, read_from}
use Rattle.gl_std.specs.bodies.Blocks.{after_shapes, known_operands, named, shape_in, AreKnown, GoOn, HasTakenShapes, IsKnownOf, IsKnownSoFar, IsNumbered, TakesShapes}
use Rattle.gl_std.specs.bodies.Finding.{found_in, with_name, AreFoundAt}
use Rattle.gl_std.specs.bodies.Judgements.{AreApart, JudgesLine}
use Rattle.gl_std.specs.bodies.Shown.{shown_operation}
use Rattle.gl_std.specs.bodies.States.{HasJudged}
use Rattle.gl_std.specs.declared.faults.ReadFault.{ReadFault}
use Rattle.gl_std.specs.declared.judge.Judge.{Judge}
use Rattle.gl_std.specs.declared.judge.Judged.{Judged}
use Rattle.gl_std.specs.declared.line.Operation.{Operation as OperationValue}
use Rattle.gl_std.specs.declared.names.known.Known.{Known}
use Rattle.gl_std.specs.declared.names.Found.{Found}
use Rattle.gl_std.specs.declared.numbered_line.NumberedLine.{NumberedLine}
use Rattle.gl_std.specs.declared.numbered_line.NumberedLine.TheVariants.{Blank, Bad, Other, Call as NumberedCall}
use Rattle.gl_std.specs.declared.trace.Trace.{Trace}
use Rattle.gl_std.proofs.Growth.{IsFront-itself, IsFront-then}
use Rattle.gl_std.proofs.Places.{position_at, same_name}
use Rattle.gl_std.proofs.Shapes.{shape_of_apart}

-- ---- names and their numbers

-- a name stands at its place
pub place_stands : (name : List ℕ) (names : List (List ℕ)) (i : ℕ) → Some i ≡ position (bytes_eq name) names → slice_get names i ≡ Some name
place_stands name names i is =
    let at = position-Some (bytes_eq name) names i [] (sym is) in
    slice_get-get_or names i [] at.0 ∙ ap (λ n. Some n) (sym (same_name name (get_or names i []) at.1))

-- what stands at a number is the name that has it
pub named_of : (names : List (List ℕ)) (i : ℕ) (name : List ℕ) → slice_get names i ≡ Some name → named names i ≡ name
named_of names i name stands = get_or_from_slice_get names i name [] stands

-- a name that is added at the end stands there
pub new_stands : (names later : List (List ℕ)) (name : List ℕ) (i : ℕ) → later ≡ names ++ name ∷ [] → i ≡ length names → slice_get later i ≡ Some name
new_stands names later name i is at = subst (λ n. slice_get later n ≡ Some name) (sym at) (subst (λ l. slice_get l (length names) ≡ Some name) (sym is) (last names))
  where
    last : (names : List (List ℕ)) → slice_get (names ++ name ∷ []) (length names) ≡ Some name
    last [] = refl
    last (n ∷ names) = last names

-- names that stood somewhere still do where names are added at the end
pub named_front : (names later : List (List ℕ)) (i : ℕ) → IsFront names later → i < length names → named later i ≡ named names i
named_front names later i front within = ap (λ l. named l i) front.1 ∙ get_or_append_left names front.0 [] i within

pub stands_front : (names later : List (List ℕ)) (i : ℕ) (name : List ℕ) → IsFront names later → slice_get names i ≡ Some name → slice_get later i ≡ Some name
stands_front names later i name front stands =
    let within = slice_get_within names i name stands in
    let longer = ap length front.1 ∙ length-append names front.0 in
    slice_get-get_or later i [] (omega (arith, within, longer)) ∙ ap (λ n. Some n) (named_front names later i front within ∙ named_of names i name stands)

pub front_length : (names later : List (List ℕ)) → IsFront names later → length names ≤ length later
front_length names later front = let longer = ap length front.1 ∙ length-append names front.0 in omega (arith, longer)

pub go_on_itself : (names : NameLists) → GoOn names names
go_on_itself names = record { threads = IsFront-itself names.threads; locks = IsFront-itself names.locks; locs = IsFront-itself names.locs }

pub go_on_then : (old mid new : NameLists) → GoOn old mid → GoOn mid new → GoOn old new
go_on_then old mid new one two =
    record {
      threads = IsFront-then old.threads mid.threads new.threads one.threads two.threads;
      locks = IsFront-then old.locks mid.locks new.locks one.locks two.locks;
      locs = IsFront-then old.locs mid.locs new.locs one.locs two.locs;
    }

-- ---- names that stand where their numbers are

-- so the numbers have names
pub call_numbered : (names : NameLists) (operation : OperationValue) (thread operand location : ℕ) (t p l : List ℕ)
    → slice_get names.threads thread ≡ Some t → slice_get (operands (shown_operation operation) names) operand ≡ Some p → slice_get names.locs location ≡ Some l
    → IsNumbered names (NumberedCall operation thread operand location)
call_numbered names operation thread operand location t p l a b d =
    (slice_get_within names.threads thread t a, slice_get_within (operands (shown_operation operation) names) operand p b, slice_get_within names.locs location l d)

-- and say the line
pub call_says : (names : NameLists) (operation : OperationValue) (thread operand location : ℕ) (t p l : List ℕ)
    → slice_get names.threads thread ≡ Some t → slice_get (operands (shown_operation operation) names) operand ≡ Some p → slice_get names.locs location ≡ Some l
    → shape_in names (NumberedCall operation thread operand location) ≡ Call (shown_operation operation) t p l
call_says names operation thread operand location t p l a b d =
    let first = named_of names.threads thread t a in
    let second = named_of (operands (shown_operation operation) names) operand p b in
    let third = named_of names.locs location l d in
    (λ i. Call (shown_operation operation) (first i) (second i) (third i))

-- ---- what lines said before names are added

operands_front : (operation : Operation) (old new : NameLists) → GoOn old new → IsFront (operands operation old) (operands operation new)
operands_front operation old new on = by (is_on_thread operation)
  where
    by : (v : Bool) → IsFront (cond v old.threads old.locks) (cond v new.threads new.locks)
    by true = on.threads
    by false = on.locks

numbered_later : (old new : NameLists) (line : NumberedLine) → GoOn old new → IsNumbered old line → IsNumbered new line
numbered_later old new Blank on is = tt
numbered_later old new (Bad kind) on is = tt
numbered_later old new Other on is = tt
numbered_later old new (NumberedCall operation thread operand location) on is =
    let o = shown_operation operation in
    let a = front_length old.threads new.threads on.threads in
    let b = front_length (operands o old) (operands o new) (operands_front o old new on) in
    let d = front_length old.locs new.locs on.locs in
    (omega (arith, is.0, a), omega (arith, is.1, b), omega (arith, is.2, d))

says_later : (old new : NameLists) (line : NumberedLine) → GoOn old new → IsNumbered old line → shape_in new line ≡ shape_in old line
says_later old new Blank on is = refl
says_later old new (Bad kind) on is = refl
says_later old new Other on is = refl
says_later old new (NumberedCall operation thread operand location) on is =
    let o = shown_operation operation in
    let t = named_front old.threads new.threads thread on.threads is.0 in
    let p = named_front (operands o old) (operands o new) operand (operands_front o old new on) is.1 in
    let l = named_front old.locs new.locs location on.locs is.2 in
    (λ i. Call o (t i) (p i) (l i))

-- the numbers in a list of lines have names
abbrev AllNumbered : NameLists → List NumberedLine → Type 0
AllNumbered names lines = (k : ℕ) (d : NumberedLine) → k < length lines → IsNumbered names (get_or lines k d)

pub all_later : (old new : NameLists) (lines : List NumberedLine) → GoOn old new → AllNumbered old lines → AllNumbered new lines
all_later old new lines on are k d within = numbered_later old new (get_or lines k d) on (are k d within)

pub map_later : (old new : NameLists) (lines : List NumberedLine) → GoOn old new → AllNumbered old lines → map (shape_in new) lines ≡ map (shape_in old) lines
map_later old new [] on are = refl
map_later old new (s ∷ lines) on are =
    let first = says_later old new s on (are 0 s (omega (arith))) in
    let rest = map_later old new lines on (λ k d within. are (suc k) d (omega (arith, within))) in
    (λ i. first i ∷ rest i)

map_push : {X Y : Type 0} (f : X → Y) (xs : List X) (x : X) → map f (xs ++ x ∷ []) ≡ map f xs ++ f x ∷ []
map_push f [] x = refl
map_push f (y ∷ xs) x = ap (λ l. f y ∷ l) (map_push f xs x)

pub all_push : (names : NameLists) (lines : List NumberedLine) (one : NumberedLine) → AllNumbered names lines → IsNumbered names one → AllNumbered names (lines ++ one ∷ [])
all_push names [] one are is zero d within = is
all_push names [] one are is (suc k) d within = absurd (omega (arith, within))
all_push names (s ∷ lines) one are is zero d within = are 0 d (omega arith)
all_push names (s ∷ lines) one are is (suc k) d within = all_push names lines one (λ j d low. are (suc j) d (omega (arith, low))) is k d (omega (arith, within))

pub shapes_push : (old new : NameLists) (lines later : List NumberedLine) (one : NumberedLine) (shape : Shape) → GoOn old new → AllNumbered old lines → later ≡ lines ++ one ∷ [] → shape_in new one ≡ shape → map (shape_in new) later ≡ map (shape_in old) lines ++ shape ∷ []
shapes_push old new lines later one shape on are is says =
    ap (map (shape_in new)) is ∙ map_push (shape_in new) lines one ∙ (λ i. map_later old new lines on are i ++ says i ∷ [])

-- ---- numbers that are known

-- the first place stays where names are added
place_front : (name : List ℕ) (names later : List (List ℕ)) (i : ℕ) → IsFront names later → position (bytes_eq name) names ≡ Some i → position (bytes_eq name) later ≡ Some i
place_front name names later i front is =
    let at = position-Some (bytes_eq name) names i [] is in
    let longer = ap length front.1 ∙ length-append names front.0 in
    position_at (bytes_eq name) later i [] (omega (arith, at.0, longer))
    (λ k low. ap (bytes_eq name) (named_front names later k front (omega (arith, low, at.0))) ∙ at.2 k low)
    (ap (bytes_eq name) (named_front names later i front at.0) ∙ at.1)

pub known_later : (block names later : List (List ℕ)) (known : List (Option ℕ)) → IsFront names later → AreKnown block names known → AreKnown block later known
known_later block names later known front are number found is = place_front (named block number) names later found front (are number found is)

-- the numbers of names that were there stay known where a block gets names, if those have none yet
known_on : (block later names : List (List ℕ)) (known : List (Option ℕ)) → IsFront block later → length known ≤ length block → AreKnown block names known → AreKnown later names known
known_on block later names known front few are number found is =
    let within = slice_get_within known number (Some found) is in
    ap (λ name. position (bytes_eq name) names) (named_front block later number front (omega (arith, within, few))) ∙ are number found is

pub right_on : (old new names : NameLists) (known : Known) → GoOn old new → IsKnownSoFar old names known → IsKnownSoFar new names known
right_on old new names known on are =
    record {
      threads = known_on old.threads new.threads names.threads known.threads.items on.threads are.some_threads are.threads;
      locks = known_on old.locks new.locks names.locks known.locks.items on.locks are.some_locks are.locks;
      locs = known_on old.locs new.locs names.locs known.locs.items on.locs are.some_locs are.locs;
      some_threads = let longer = front_length old.threads new.threads on.threads in omega (arith, longer, are.some_threads);
      some_locks = let longer = front_length old.locks new.locks on.locks in omega (arith, longer, are.some_locks);
      some_locs = let longer = front_length old.locs new.locs on.locs in omega (arith, longer, are.some_locs);
    }

-- and where the text gets names
pub right_among : (block old new : NameLists) (known : Known) → GoOn old new → IsKnownSoFar block old known → IsKnownSoFar block new known
right_among block old new known on are =
    record {
      threads = known_later block.threads old.threads new.threads known.threads.items on.threads are.threads;
      locks = known_later block.locks old.locks new.locks known.locks.items on.locks are.locks;
      locs = known_later block.locs old.locs new.locs known.locs.items on.locs are.locs;
      some_threads = are.some_threads;
      some_locks = are.some_locks;
      some_locs = are.some_locs;
    }

pub known_of_later : (block old new : NameLists) (known : Known) → GoOn old new → IsKnownOf block old known → IsKnownOf block new known
known_of_later block old new known on are =
    record {
      so_far = right_among block old new known on are.so_far;
      all_threads = are.all_threads;
      all_locks = are.all_locks;
      all_locs = are.all_locs;
    }

pub if_ok_then : (r : Result (Unit {0}) ReadFault) (p q : Type 0) → (p → q) → OnOk r p → OnOk r q
if_ok_then (Ok done) p q then is = then is
if_ok_then (Err fault) p q then is = tt

-- of none is a number known
known_none : (block names : List (List ℕ)) (known : List (Option ℕ)) → known ≡ [] → AreKnown block names known
known_none block names known none number found there =
    let within = slice_get_within known number (Some found) there in
    let size = ap length none in
    absurd (omega (arith, within, size))

pub right_none : (block names : NameLists) (known : Known) → known.threads.items ≡ [] → known.locks.items ≡ [] → known.locs.items ≡ [] → IsKnownSoFar block names known
right_none block names known threads locks locs =
    record {
      threads = known_none block.threads names.threads known.threads.items threads;
      locks = known_none block.locks names.locks known.locks.items locks;
      locs = known_none block.locs names.locs known.locs.items locs;
      some_threads = let size = ap length threads in omega (arith, size);
      some_locks = let size = ap length locks in omega (arith, size);
      some_locs = let size = ap length locs in omega (arith, size);
    }

-- nor of those that get a place
pub known_grown : (block names : List (List ℕ)) (known later : List (Option ℕ)) → ((k : ℕ) (d : Option ℕ) → k < length known → get_or later k d ≡ get_or known k d) → ((k : ℕ) (d : Option ℕ) → length known ≤ k → k < length later → get_or later k d ≡ None) → AreKnown block names known → AreKnown block names later
known_grown block names known later same none are number found there =
    let within = slice_get_within later number (Some found) there in
    let stands = get_or_from_slice_get later number (Some found) None there in
    elim (cases_lt number (length known)) [
      | inl low ↦ are number found (slice_get-get_or known number None low ∙ ap (λ o. Some o) (sym (same number None low) ∙ stands))
      | inr high ↦ absurd (some_none (sym stands ∙ none number None (omega (arith, high)) within))
    ]
  where
    some_none : Some found ≡ None → ⊥
    some_none e = cc

-- a number that was looked up is known
pub known_set : (block names : List (List ℕ)) (known : List (Option ℕ)) (number : ℕ) (found : Option ℕ) → number < length known → found ≡ position (bytes_eq (named block number)) names → AreKnown block names known → AreKnown block names (slice_set known number found)
known_set block names known number found within is are n f there =
    let stands = get_or_from_slice_get (slice_set known number found) n (Some f) None there in
    let inside = slice_get_within (slice_set known number found) n (Some f) there in
    elim (cases_eq n number) [
      | inl same ↦
          ap (λ k. position (bytes_eq (named block k)) names) same ∙ sym is
          ∙ sym (get_or-set_same known number found None within) ∙ ap (λ k. get_or (slice_set known number found) k None) (sym same) ∙ stands
      | inr other ↦
          are n f (slice_get-get_or known n None (omega (arith, inside, length-set known number found)) ∙ ap (λ o. Some o) (sym (get_or-set_other known number n found None other) ∙ stands))
    ]

-- ---- lines that say this, one after another

-- the line after them
pub after_shapes-push : (limits : Bounds) (shapes : List Shape) (number : ℕ) (told : Trace) (shape : Shape) → after_shapes limits number told (shapes ++ shape ∷ []) ≡ and_then (after_shapes limits number told shapes) (λ more. after_shapes limits (number + length shapes) more (shape ∷ []))
after_shapes-push limits [] number told shape = ap (λ n. after_shapes limits n told (shape ∷ [])) (sym (add-zero number))
after_shapes-push limits (s ∷ shapes) number told shape = by (after_shape limits number told s) (λ next. after_shapes-push limits shapes (number + 1) next shape)
  where
    place : (number + 1) + length shapes ≡ number + suc (length shapes)
    place = omega arith

    by : (r : Result Trace ReadFault) → ((next : Trace) → after_shapes limits (number + 1) next (shapes ++ shape ∷ []) ≡ and_then (after_shapes limits (number + 1) next shapes) (λ more. after_shapes limits ((number + 1) + length shapes) more (shape ∷ [])))
        → and_then r (λ next. after_shapes limits (number + 1) next (shapes ++ shape ∷ [])) ≡ and_then (and_then r (λ next. after_shapes limits (number + 1) next shapes)) (λ more. after_shapes limits (number + suc (length shapes)) more (shape ∷ []))
    by (Ok next) later = later next ∙ ap (λ n. and_then (after_shapes limits (number + 1) next shapes) (λ more. after_shapes limits n more (shape ∷ []))) place
    by (Err fault) later = refl

-- a fault stays the first one
pub after_shapes-fault : (limits : Bounds) (shapes rest : List Shape) (number : ℕ) (told : Trace) (fault : ReadFault) → after_shapes limits number told shapes ≡ Err fault → after_shapes limits number told (shapes ++ rest) ≡ Err fault
after_shapes-fault limits [] rest number told fault is = absurd (ok_err is)
  where
    ok_err : ◌≡◌ {A = Result Trace ReadFault} (Ok told) (Err fault) → ⊥
    ok_err e = cc
after_shapes-fault limits (s ∷ shapes) rest number told fault is = by (after_shape limits number told s) (λ next. after_shapes-fault limits shapes rest (number + 1) next fault) is
  where
    by : (r : Result Trace ReadFault) → ((next : Trace) → after_shapes limits (number + 1) next shapes ≡ Err fault → after_shapes limits (number + 1) next (shapes ++ rest) ≡ Err fault) → and_then r (λ next. after_shapes limits (number + 1) next shapes) ≡ Err fault → and_then r (λ next. after_shapes limits (number + 1) next (shapes ++ rest)) ≡ Err fault
    by (Ok next) later is = later next is
    by (Err other) later is = is

-- it is the trace after the lines that say it
pub after_shapes-lines : (limits : Bounds) (ls : List (List ℕ)) (number : ℕ) (told : Trace) → after_shapes limits number told (map shape_of ls) ≡ read_from limits number told ls
after_shapes-lines limits [] number told = refl
after_shapes-lines limits (line ∷ ls) number told = by (after_line limits number told line) (λ next. after_shapes-lines limits ls (number + 1) next)
  where
    by : (r : Result Trace ReadFault) → ((next : Trace) → after_shapes limits (number + 1) next (map shape_of ls) ≡ read_from limits (number + 1) next ls) → and_then r (λ next. after_shapes limits (number + 1) next (map shape_of ls)) ≡ and_then r (λ next. read_from limits (number + 1) next ls)
    by (Ok next) later = later next
    by (Err fault) later = refl

-- nothing was taken
pub taken_none : (limits : Bounds) (number : ℕ) (told : Trace) (new : Judge) (lists : List (List Event)) → HasJudged new told → lists ≡ told.lists → HasTakenShapes limits number told [] new lists
taken_none limits number told new lists judged listed = record { later = told; after = refl; judged = judged; listed = listed }

-- one more was
pub taken_push : (limits : Bounds) (number : ℕ) (told : Trace) (shapes : List Shape) (shape : Shape) (mid new : Judge) (lists lists2 : List (List Event)) (at : ℕ) → HasTakenShapes limits number told shapes mid lists → at ≡ number + length shapes → TakesShapes mid lists (shape ∷ []) new lists2 → mid.limits ≡ limits → mid.line ≡ at → HasTakenShapes limits number told (shapes ++ shape ∷ []) new lists2
taken_push limits number told shapes shape mid new lists lists2 at taken place takes same line =
    let more = takes taken.later taken.judged taken.listed in
    let at_line = line ∙ place in
    let after = (λ i. after_shapes (sym same i) (sym at_line i) taken.later (shape ∷ [])) ∙ more.after in
    record {
      later = more.later;
      after = after_shapes-push limits shapes number told shape ∙ ap (λ r. and_then r (λ t. after_shapes limits (number + length shapes) t (shape ∷ []))) taken.after ∙ after;
      judged = more.judged;
      listed = more.listed;
    }

-- or is at fault
pub failed_push : (limits : Bounds) (number : ℕ) (told : Trace) (shapes rest : List Shape) (shape : Shape) (mid : Judge) (lists : List (List Event)) (fault : ReadFault) → (taken : HasTakenShapes limits number told shapes mid lists) → mid.limits ≡ limits → mid.line ≡ number + length shapes → after_shapes mid.limits mid.line taken.later (shape ∷ []) ≡ Err fault → after_shapes limits number told ((shapes ++ shape ∷ []) ++ rest) ≡ Err fault
failed_push limits number told shapes rest shape mid lists fault taken same line is =
    after_shapes-fault limits (shapes ++ shape ∷ []) rest number told fault
    (after_shapes-push limits shapes number told shape ∙ ap (λ r. and_then r (λ t. after_shapes limits (number + length shapes) t (shape ∷ []))) taken.after ∙ (λ i. after_shapes (sym same i) (sym line i) taken.later (shape ∷ [])) ∙ is)

-- what lines say keeps threads apart
pub shapes_apart : (ls : List (List ℕ)) (k : ℕ) (d : Shape) → k < length (map shape_of ls) → AreApart (get_or (map shape_of ls) k d)
shapes_apart [] k d within = absurd (omega (arith, within))
shapes_apart (line ∷ ls) zero d within = shape_of_apart line
shapes_apart (line ∷ ls) (suc k) d within = shapes_apart ls k d (omega (arith, within))

-- ---- a judge that takes what a line says

-- names only join what the judge knows
pub grown_names : (old new : NameLists) (told more : Trace) → old ≡ told.names → new ≡ more.names → Grows told more → GoOn old new
grown_names old new told more a b grows =
    subst (λ n. GoOn n new) (sym a) (subst (λ n. GoOn told.names n) (sym b) (record { threads = grows.threads; locks = grows.locks; locs = grows.locs }))

-- names of the same bytes say the same
pub judges_alike : (old old2 new : Judge) (r : Result Judged ReadFault) (o : Operation) (t t2 p p2 l l2 : List ℕ) → old2 ≡ old → t2 ≡ t → p2 ≡ p → l2 ≡ l
    → JudgesLine old new (λ told. after_call old.limits old.line told o t p l) r → JudgesLine old2 new (λ told. after_call old2.limits old2.line told o t2 p2 l2) r
judges_alike old old2 new r o t t2 p p2 l l2 same a b d judges =
    subst (λ j. JudgesLine j new (λ told. after_call j.limits j.line told o t2 p2 l2) r) (sym same)
    (subst (λ n. JudgesLine old new (λ told. after_call old.limits old.line told o n p2 l2) r) (sym a)
    (subst (λ n. JudgesLine old new (λ told. after_call old.limits old.line told o t n l2) r) (sym b)
    (subst (λ n. JudgesLine old new (λ told. after_call old.limits old.line told o t p n) r) (sym d) judges)))

-- ---- the lines of a block

pub length_map_take : {X Y : Type 0} (f : X → Y) (xs : List X) (i : ℕ) → i ≤ length xs → length (map f (take i xs)) ≡ i
length_map_take f xs zero within = refl
length_map_take f [] (suc i) within = absurd (omega (arith, within))
length_map_take f (x ∷ xs) (suc i) within = ap suc (length_map_take f xs i (omega (arith, within)))

map_take_suc : {X Y : Type 0} (f : X → Y) (xs : List X) (i : ℕ) (x : X) → i < length xs → x ≡ get_or xs i x → map f (take (suc i) xs) ≡ map f (take i xs) ++ f x ∷ []
map_take_suc f [] i x within is = absurd (omega (arith, within))
map_take_suc f (y ∷ xs) zero x within is = ap (λ z. f z ∷ []) (sym is)
map_take_suc f (y ∷ xs) (suc i) x within is = ap (λ l. f y ∷ l) (map_take_suc f xs i x (omega (arith, within)) is)

pub map_take_next : {X Y : Type 0} (f : X → Y) (xs : List X) (i : ℕ) (x : X) → i < length xs → x ≡ get_or xs i x → map f (take (i + 1) xs) ≡ map f (take i xs) ++ f x ∷ []
map_take_next f xs i x within is = ap (λ n. map f (take n xs)) (add-one i) ∙ map_take_suc f xs i x within is

pub map_take_rest : {X Y : Type 0} (f : X → Y) (xs : List X) (i : ℕ) (x : X) → i < length xs → x ≡ get_or xs i x → (rest : List Y) × (map f xs ≡ (map f (take i xs) ++ f x ∷ []) ++ rest)
map_take_rest f [] i x within is = absurd (omega (arith, within))
map_take_rest f (y ∷ xs) zero x within is = (map f xs, ap (λ z. f z ∷ map f xs) (sym is))
map_take_rest f (y ∷ xs) (suc i) x within is = let later = map_take_rest f xs i x (omega (arith, within)) is in (later.0, ap (λ l. f y ∷ l) later.1)

-- the numbers that were found, where each name has one
pub found_at : (found : Found) (own number loc : ℕ) → found.thread ≡ Some own → found.operand ≡ Some number → found.loc ≡ Some loc → ◌≡◌ {A = Found} (record { thread = Some own; operand = Some number; loc = Some loc }) found
found_at found own number loc a b d = (λ i. record { thread = sym a i; operand = sym b i; loc = sym d i })

-- and where those of a block's names are known
pub stands_at : (xs : List (Option ℕ)) (i n own number : ℕ) (x : Option ℕ) → n ≡ i → n < length xs → x ≡ get_or xs n x → x ≡ Some own → number ≡ own → slice_get xs i ≡ Some (Some number)
stands_at xs i n own number x at within is some same =
    subst (λ j. slice_get xs j ≡ Some (Some number)) at
    (slice_get-get_or xs n x within ∙ ap (λ o. Some o) (sym is ∙ some ∙ ap (λ o. Some o) (sym same)))

known_operand : (block names : NameLists) (known : Known) (o : Operation) (t : List ℕ) (j own number : ℕ) → IsKnownSoFar block names known → position (bytes_eq t) names.threads ≡ Some own → slice_get (known_operands o known) j ≡ Some (Some number)
    → position (bytes_eq (named (operands o block) j)) (cond (is_on_thread o) (with_name names.threads (position (bytes_eq t) names.threads) t) names.locks) ≡ Some number
known_operand block names known o t j own number right at = by (is_on_thread o)
  where
    by : (v : Bool) → slice_get (cond v known.threads.items known.locks.items) j ≡ Some (Some number)
        → position (bytes_eq (named (cond v block.threads block.locks) j)) (cond v (with_name names.threads (position (bytes_eq t) names.threads) t) names.locks) ≡ Some number
    by true is = subst (λ n. position (bytes_eq (named block.threads j)) (with_name names.threads n t) ≡ Some number) (sym at) (right.threads j number is)
    by false is = right.locks j number is

pub known_at : (block names : NameLists) (known : Known) (o : Operation) (i j k own number loc : ℕ) → IsKnownSoFar block names known
    → slice_get known.threads.items i ≡ Some (Some own) → slice_get (known_operands o known) j ≡ Some (Some number) → slice_get known.locs.items k ≡ Some (Some loc)
    → AreFoundAt names o (named block.threads i) (named (operands o block) j) (named block.locs k) own number loc
known_at block names known o i j k own number loc right a b d =
    let t = named block.threads i in
    let at = right.threads i own a in
    found_at (found_in names o t (named (operands o block) j) (named block.locs k)) own number loc at
    (known_operand block names known o t j own number right at b) (right.locs k loc d)
