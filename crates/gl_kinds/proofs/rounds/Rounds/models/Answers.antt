use Rattle.std.proofs.Common.{◌≡◌, ℕ, ◌+◌, ◌<◌, Bool, true, List, Some, inl, inr, length, sym, subst, ◌∙◌, arith}
use Rattle.std.specs.Prelude.{slice_get, All, Contains}
use Rattle.std.proofs.lemmas.Bool.{cases_eq}
use Rattle.std.proofs.lemmas.List.Elements.{All-nil}
use Rattle.std.proofs.lemmas.Option.{get_or_from_slice_get}
use Rattle.gl_kinds.proofs.rounds.Rounds.models.Goals as goal

-- one flag more
models_next : (flags : List Bool) (old new : List ℕ) (n : ℕ) (flag : Bool) → ((j : ℕ) → Contains old j → Contains new j) → (flag ≡ true → Contains new n)
    → (slice_get flags n ≡ Some true → flag ≡ true) → ((j : ℕ) → j < n → slice_get flags j ≡ Some true → Contains old j)
    → (j : ℕ) → j < n + 1 → slice_get flags j ≡ Some true → Contains new j
models_next flags old new n flag stay added is had j below at =
    elim (cases_eq j n) [
      | inl same ↦ subst (Contains new) (sym same) (added (is (subst (λ k. slice_get flags k ≡ Some true) same at)))
      | inr other ↦ stay j (had j (omega arith) at)
    ]

pub loop-i-init : goal.loop-i-init
loop-i-init c = (subst (All (λ j. j < length c.args.self.now.sought.table.now)) (sym c.new-models.ensures.items) (All-nil (λ j. j < length c.args.self.now.sought.table.now)), λ j below. absurd (omega arith))

pub loop-i-preserved : goal.loop-i-preserved
loop-i-preserved c =
    let flags = c.args.self.now.flags.items in
    let n = c.loop-i.i in
    let grown = c.in_ok-add_flagged.ensures in (
      grown.within (length c.args.self.now.sought.table.now) (omega (arith, c.requires.long, c.loop-i-test.true)) c.loop-i.invariant.0,
      models_next flags c.loop-i.models.items c.add_flagged.new.models.items n c.index.result.now grown.stay grown.added (λ at. c.index.ensures ∙ get_or_from_slice_get flags n true c.index.result.now at) c.loop-i.invariant.1,
    )
