-- What numbering locks and places does.
use Rattle.std.specs.Prelude.{◌≡◌, ℕ, List, [], ◌∷◌}
use Rattle.gl_std.specs.Names.{number_of, with_new, HaveNoNumber}
use Rattle.gl_std.specs.declared.names.numbering.NamesFault.{NamesFault}
use Rattle.gl_std.specs.declared.names.numbering.NamesFault.TheVariants as names_fault
use Rattle.gl_c.specs.Calls.{IsOneOf}
use Rattle.gl_c.specs.declared.codes.TheConstants.{OK, MEMORY, NAMES}
use Rattle.gl_c.specs.declared.session_state.SessionState.{SessionState}

-- what is answered where a name got no number
abbrev pub names_code : NamesFault → ℕ
names_code names_fault.Full = NAMES
names_code names_fault.Memory = MEMORY

-- the name got its number among these names, which it joined where it is new; or nothing changed
pub record IsNumbering (old : List (List ℕ)) (name : List ℕ) (was answer told : ℕ)
    (new : List (List ℕ)) : Type 0 where
  pub answers : IsOneOf answer (OK ∷ NAMES ∷ MEMORY ∷ [])
  pub done : answer ≡ OK → (told ≡ number_of old name) × (new ≡ with_new old name)
  pub same : (answer ≡ OK → ⊥) → (told ≡ was) × (new ≡ old)
  pub full : answer ≡ NAMES → HaveNoNumber old name
  pub room : HaveNoNumber old name → answer ≡ NAMES

-- the lock with this name got its number, and nothing else changed
pub record IsNumberingLock (old : SessionState) (name : List ℕ) (was answer told : ℕ)
    (new : SessionState) : Type 0 where
  pub locks : IsNumbering old.names.locks name was answer told new.names.locks
  pub rest : new ≡ record old { names = record old.names { locks = new.names.locks } }

-- the same of a place
pub record IsNumberingPlace (old : SessionState) (name : List ℕ) (was answer told : ℕ)
    (new : SessionState) : Type 0 where
  pub places : IsNumbering old.names.locs name was answer told new.names.locs
  pub rest : new ≡ record old { names = record old.names { locs = new.names.locs } }
