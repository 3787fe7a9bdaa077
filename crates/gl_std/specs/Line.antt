-- What a line says, taken alone.
use Rattle.std.specs.Prelude.{◌≡◌, ◌≢◌, ℕ, ◌-◌, ◌<◌, ◌≤◌, Bool, true, false, ◌&&◌, List, [], ◌∷◌, ◌++◌, Contains, Option, Some, None, IsTrue, length, take, nat_lt, slice_index, ◌==◌, if◌then◌else◌, codes}
use Rattle.std.specs.Option.{option_map, option_map_or}
use Rattle.std.specs.Str.{bytes_eq}
use Rattle.gl_event.specs.declared.events.LockMode.{LockMode}
use Rattle.gl_event.specs.declared.events.LockMode.TheVariants.{Exclusive, Shared}
use Rattle.gl_std.specs.declared.faults.StdKind.{StdKind}
use Rattle.gl_std.specs.declared.faults.StdKind.TheVariants.{TooLong, NoBar, NoLocation, NoThread, BadOperand, OnItself}
use Rattle.gl_std.specs.declared.line.TheConstants.{MAX_LINE}

-- the byte between fields
abbrev pub BAR : ℕ
BAR = 124

-- the byte before an operand
abbrev pub OPEN : ℕ
OPEN = 40

-- the byte after an operand
abbrev pub CLOSE : ℕ
CLOSE = 41

-- the operations that are events: a thread acquires a lock, releases it, or acquires it by an attempt that can't wait for
-- ever; it starts another thread, or has waited for its end
pub data Operation : Type 0 where
  Acquire : LockMode → Operation
  Release : LockMode → Operation
  TryAcquire : LockMode → Operation
  Fork : Operation
  Join : Operation

-- what a line says: nothing, a fault, an operation that isn't watched, or an event
pub data Shape : Type 0 where
  Blank : Shape
  Bad : StdKind → Shape
  Other : Shape
  Call : (operation : Operation) (thread operand location : List ℕ) → Shape

-- what stands before the first such byte, and what stands after it
abbrev pub cut_at : ℕ → List ℕ → Option (List ℕ × List ℕ)
cut_at byte [] = None
cut_at byte (b ∷ rest) =
    if b == byte then Some ([], rest)
    else option_map (λ parts. (b ∷ parts.0, parts.1)) (cut_at byte rest)

-- the operation that has this name
abbrev pub operation_of : List ℕ → Option Operation
operation_of name =
    if bytes_eq name (codes "acq") then Some (Acquire Exclusive)
    else (if bytes_eq name (codes "racq") then Some (Acquire Shared)
    else (if bytes_eq name (codes "rel") then Some (Release Exclusive)
    else (if bytes_eq name (codes "rrel") then Some (Release Shared)
    else (if bytes_eq name (codes "tryacq") then Some (TryAcquire Exclusive)
    else (if bytes_eq name (codes "tryracq") then Some (TryAcquire Shared)
    else (if bytes_eq name (codes "fork") then Some Fork
    else (if bytes_eq name (codes "join") then Some Join
    else None)))))))

-- the operation is on another thread, and not on a lock
abbrev pub is_on_thread : Operation → Bool
is_on_thread (Acquire mode) = false
is_on_thread (Release mode) = false
is_on_thread (TryAcquire mode) = false
is_on_thread Fork = true
is_on_thread Join = true

-- the operation is a fork or join of the line's own thread
abbrev pub is_on_itself : Operation → List ℕ → List ℕ → Bool
is_on_itself operation thread operand = is_on_thread operation && bytes_eq operand thread

-- the name of an operation: what stands before the first parenthesis, or all
abbrev pub operation_name : List ℕ → List ℕ
operation_name field = option_map_or (λ parts. parts.0) (cut_at OPEN field) field

-- what stands before a closing parenthesis at the end, if that is something
abbrev pub before_close : List ℕ → Option (List ℕ)
before_close text =
    if nat_lt 1 (length text) && (slice_index text (length text - 1) == CLOSE)
    then Some (take (length text - 1) text) else None

-- the operand: what stands between the first parenthesis and the one at the end
abbrev pub operand_of : List ℕ → Option (List ℕ)
operand_of field = option_map_or (λ parts. before_close parts.1) (cut_at OPEN field) None

-- what a call of this operation with this operand says
abbrev pub shape_of_call : List ℕ → Option Operation → Option (List ℕ) → List ℕ → Shape
shape_of_call thread None operand location = Other
shape_of_call thread (Some operation) None location = Bad BadOperand
shape_of_call thread (Some operation) (Some operand) location =
    if is_on_itself operation thread operand then Bad OnItself
    else Call operation thread operand location

-- what the three fields of a line say
abbrev pub shape_of_fields : List ℕ → List ℕ → List ℕ → Shape
shape_of_fields thread field location =
    if length thread == 0 then Bad NoThread
    else shape_of_call thread (operation_of (operation_name field)) (operand_of field) location

-- what the line says: the first that fits decides
abbrev pub shape_of : List ℕ → Shape
shape_of line =
    if nat_lt MAX_LINE (length line) then Bad TooLong
    else (if length line == 0 then Blank
    else option_map_or
    (λ first. option_map_or (λ second. shape_of_fields first.0 second.0 second.1)
    (cut_at BAR first.1) (Bad NoLocation))
    (cut_at BAR line)
    (Bad NoBar))

-- the operation's name is what stands before the first parenthesis, or the whole field; an event has an operand,
-- between that parenthesis and one that is the field's last byte, and no thread forks or joins itself
pub data FieldsSay : List ℕ → List ℕ → List ℕ → Shape → Type 0 where
  no_thread : (field location : List ℕ) → FieldsSay [] field location (Bad NoThread)
  other_word : (thread field location : List ℕ) → thread ≢ [] → ¬ Contains field OPEN
      → operation_of field ≡ None → FieldsSay thread field location Other
  no_operand : (thread field location : List ℕ) (operation : Operation) → thread ≢ []
      → ¬ Contains field OPEN → operation_of field ≡ Some operation
      → FieldsSay thread field location (Bad BadOperand)
  other_call : (thread name rest location : List ℕ) → thread ≢ [] → ¬ Contains name OPEN
      → operation_of name ≡ None → FieldsSay thread (name ++ OPEN ∷ rest) location Other
  call : (thread name operand location : List ℕ) (operation : Operation) → thread ≢ []
      → ¬ Contains name OPEN → operation_of name ≡ Some operation → operand ≢ []
      → (IsTrue (is_on_thread operation) → operand ≢ thread)
      → FieldsSay thread (name ++ OPEN ∷ (operand ++ CLOSE ∷ [])) location
      (Call operation thread operand location)
  on_itself : (thread name location : List ℕ) (operation : Operation) → thread ≢ []
      → ¬ Contains name OPEN → operation_of name ≡ Some operation → IsTrue (is_on_thread operation)
      → FieldsSay thread (name ++ OPEN ∷ (thread ++ CLOSE ∷ [])) location (Bad OnItself)
  bad_operand : (thread name rest location : List ℕ) (operation : Operation) → thread ≢ []
      → ¬ Contains name OPEN → operation_of name ≡ Some operation
      → ((operand : List ℕ) → operand ≢ [] → rest ≢ operand ++ CLOSE ∷ [])
      → FieldsSay thread (name ++ OPEN ∷ rest) location (Bad BadOperand)

-- a line is empty, or has three fields that the first two bars separate, or is at fault
pub data Says : List ℕ → Shape → Type 0 where
  too_long : (line : List ℕ) → MAX_LINE < length line → Says line (Bad TooLong)
  blank : Says [] Blank
  no_bar : (line : List ℕ) → length line ≤ MAX_LINE → line ≢ [] → ¬ Contains line BAR
      → Says line (Bad NoBar)
  one_bar : (thread rest : List ℕ) → length (thread ++ BAR ∷ rest) ≤ MAX_LINE
      → ¬ Contains thread BAR → ¬ Contains rest BAR → Says (thread ++ BAR ∷ rest) (Bad NoLocation)
  fields : (thread field location : List ℕ) (shape : Shape)
      → length (thread ++ BAR ∷ (field ++ BAR ∷ location)) ≤ MAX_LINE → ¬ Contains thread BAR
      → ¬ Contains field BAR → FieldsSay thread field location shape
      → Says (thread ++ BAR ∷ (field ++ BAR ∷ location)) shape

-- each line says one thing
abbrev pub LinesSayOneThing : Type 0
LinesSayOneThing =
    ((line : List ℕ) → Says line (shape_of line))
    × ((line : List ℕ) (shape : Shape) → Says line shape → shape ≡ shape_of line)
