-- Runners of classes, one edge after the other.
use Rattle.std.proofs.Common.{◌≡◌, ◌≢◌, ℕ, ◌+◌, ◌<◌, ◌≤◌, Bool, true, List, length, set, Option, Some, None, sym, ap, subst, ◌∙◌, arith, inl, inr, refl}
use Rattle.std.specs.Prelude.{slice_get}
use Rattle.std.proofs.lemmas.Bool.{cases_eq, cases_lt}
use Rattle.std.proofs.lemmas.List.{length-set}
use Rattle.std.proofs.lemmas.Option.{slice_get_within}
use Rattle.gl_edges.specs.declared.edge.Edge.{Edge}
use Rattle.gl_index.proofs.Lists.{set_here, set_elsewhere}
use Rattle.gl_grounds.specs.Running.{AreRunners, AreRunnersBefore, IsRunBy}
use Rattle.gl_grounds.specs.declared.runners.Runner.{Runner}

-- nothing is asked of a class that isn't there
pub run_by_none : (thread : ℕ) (runners : List Runner) (class : ℕ) → length runners ≤ class → IsRunBy thread (slice_get runners class)
run_by_none thread runners class beyond = go (slice_get runners class) (λ r at. slice_get_within runners class r at)
  where
    go : (o : Option Runner) → ((r : Runner) → o ≡ Some r → class < length runners) → IsRunBy thread o
    go None within = tt
    go (Some r) within = absurd (let below = within r refl in omega (arith, below, beyond))

-- a thread runs a class once it was added
pub run_here : (thread class : ℕ) (runners : List Runner) (now : Runner) → class < length runners → IsRunBy thread (Some now) → IsRunBy thread (slice_get (set runners class now) class)
run_here thread class runners now within run = subst (IsRunBy thread) (sym (set_here runners class now within)) run

-- and those that ran one still do
pub run_still : (thread class other : ℕ) (runners : List Runner) (was now : Runner) → class < length runners → slice_get runners class ≡ Some was → (IsRunBy thread (Some was) → IsRunBy thread (Some now))
    → IsRunBy thread (slice_get runners other) → IsRunBy thread (slice_get (set runners class now) other)
run_still thread class other runners was now within at stay run =
    elim (cases_eq other class) [
      | inl same ↦ subst (λ k. IsRunBy thread (slice_get (set runners class now) k)) (sym same) (run_here thread class runners now within (stay (subst (IsRunBy thread) (ap (slice_get runners) same ∙ at) run)))
      | inr apart ↦ beside apart
    ]
  where
    beside : other ≢ class → IsRunBy thread (slice_get (set runners class now) other)
    beside apart =
        elim (cases_lt other (length runners)) [
          | inl below ↦ subst (IsRunBy thread) (sym (set_elsewhere runners class other now apart below)) run
          | inr beyond ↦ run_by_none thread (set runners class now) other (omega (arith, beyond, length-set runners class now))
        ]

-- an edge more is of a thread that runs its class
pub runners_more : (edges : List Edge) (classes : List ℕ) (kept : List Bool) (old new : List Runner) (n : ℕ) → AreRunnersBefore n edges classes kept old
    → ((other t : ℕ) → IsRunBy t (slice_get old other) → IsRunBy t (slice_get new other))
    → ((class : ℕ) (e : Edge) → slice_get kept n ≡ Some true → slice_get classes n ≡ Some class → slice_get edges n ≡ Some e → IsRunBy e.thread (slice_get new class))
    → AreRunnersBefore (n + 1) edges classes kept new
runners_more edges classes kept old new n had stay here i class e below keep of_class at =
    elim (cases_eq i n) [
      | inl same ↦ here class e (ap (slice_get kept) (sym same) ∙ keep) (ap (slice_get classes) (sym same) ∙ of_class) (ap (slice_get edges) (sym same) ∙ at)
      | inr other ↦ stay class e.thread (had i class e (omega arith) keep of_class at)
    ]

-- and so all are
pub runners_of_all : (edges : List Edge) (classes : List ℕ) (kept : List Bool) (runners : List Runner) (n : ℕ) → length kept ≤ n → AreRunnersBefore n edges classes kept runners → AreRunners edges classes kept runners
runners_of_all edges classes kept runners n whole each = record { each = λ i class e keep of_class at. each i class e (omega (arith, slice_get_within kept i true keep, whole)) keep of_class at }
