-- Chains of steps.
use Rattle.std.proofs.Common.{◌≡◌, ◌<◌, inl, inr, ap, List, [], ◌∷◌, ◌++◌, length, arith}
use Rattle.std.proofs.lemmas.Bool.{cases_lt}
use Rattle.std.proofs.lemmas.List.{get_or_past}
use Rattle.gl_event.specs.declared.events.Segment.{Segment}
use Rattle.gl_segments.specs.Segments.{Leads}
use Rattle.gl_segments.specs.bodies.Tables.{Sources, steps_of_thread, sources, Has, LeadsTo, Precedes, IsSound}

-- two chains end to end
pub leads_append : (S : Segment → Segment → Type 0) (a : Segment) (v : List Segment) (b : Segment) (w : List Segment) (c : Segment) → Leads S a v b → Leads S b w c → Leads S a (v ++ b ∷ w) c
leads_append S a [] b w c h k = (h, k)
leads_append S a (x ∷ v) b w c h k = (h.0, leads_append S x v b w c h.1 k)

-- a chain of steps of one kind is one of another kind that has them all
pub leads_weaker : (S T : Segment → Segment → Type 0) → ((x y : Segment) → S x y → T x y) → (a : Segment) (v : List Segment) (b : Segment) → Leads S a v b → Leads T a v b
leads_weaker S T all a [] b h = all a b h
leads_weaker S T all a (x ∷ v) b h = (all a x h.0, leads_weaker S T all x v b h.1)

-- before is transitive
pub precedes_trans : (steps : Sources) (a b c : Segment) → Precedes steps a b → Precedes steps b c → Precedes steps a c
precedes_trans steps a b c p q = (p.0 ++ b ∷ q.0, leads_append (LeadsTo steps) a p.0 b q.0 c p.1 q.1)

-- one step is a chain
pub precedes_step : (steps : Sources) (a b : Segment) → LeadsTo steps a b → Precedes steps a b
precedes_step steps a b h = ([], h)

-- one more step at the front of a chain
pub precedes_cons : (steps : Sources) (a b c : Segment) → LeadsTo steps a b → Precedes steps b c → Precedes steps a c
precedes_cons steps a b c h q = (b ∷ q.0, (h, q.1))

-- a chain begins at a segment of the table
leads_inside : (steps : Sources) → IsSound steps → (a : Segment) (v : List Segment) (b : Segment) → Leads (LeadsTo steps) a v b → Has steps a
leads_inside steps sound a [] b h = sound.inside a b h
leads_inside steps sound a (x ∷ v) b h = sound.inside a x h.0

-- what is before another has its place in the table
pub precedes_inside : (steps : Sources) → IsSound steps → (a b : Segment) → Precedes steps a b → Has steps a
precedes_inside steps sound a b p = leads_inside steps sound a p.0 b p.1

-- a segment of the table is of a thread of the table
pub thread_inside : (steps : Sources) (a : Segment) → Has steps a → a.thread < length steps
thread_inside steps a has =
    elim (cases_lt a.thread (length steps)) [
      | inl below ↦ below
      | inr past ↦ let none : steps_of_thread steps a.thread ≡ [] = get_or_past steps a.thread [] past in absurd (omega (arith, ap length none))
    ]

-- a segment to which a step leads has its place in the table
pub leads_has : (steps : Sources) (a b : Segment) → LeadsTo steps a b → Has steps b
leads_has steps a b h =
    elim (cases_lt b.index (length (steps_of_thread steps b.thread))) [
      | inl below ↦ below
      | inr past ↦ let none : sources steps b ≡ [] = get_or_past (steps_of_thread steps b.thread) b.index [] past in absurd (let w = h.1 in let e = ap length none in omega arith)
    ]

-- a chain ends at a segment of the table
chain_has : (steps : Sources) (a : Segment) (v : List Segment) (b : Segment) → Leads (LeadsTo steps) a v b → Has steps b
chain_has steps a [] b h = leads_has steps a b h
chain_has steps a (x ∷ v) b h = chain_has steps x v b h.1

-- what another is before has its place in the table
pub precedes_has : (steps : Sources) (a b : Segment) → Precedes steps a b → Has steps b
precedes_has steps a b p = chain_has steps a p.0 b p.1
