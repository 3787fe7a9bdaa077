-- What is known of threads' events without the events themselves.
use Rattle.std.specs.Prelude.{List, [], ◌∷◌}
use Rattle.gl_event.specs.States.{State, StandsAfter}
use Rattle.gl_event.specs.declared.events.Event.{Event}

-- this is known of each thread where the lists are these
abbrev pub AreStanding : List (List Event) → List State → Type 0
AreStanding [] [] = Unit {0}
AreStanding [] (s ∷ states) = ⊥
AreStanding (es ∷ lists) [] = ⊥
AreStanding (es ∷ lists) (s ∷ states) = StandsAfter es s × AreStanding lists states
