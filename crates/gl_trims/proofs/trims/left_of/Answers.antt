use Rattle.std.proofs.Common.{◌≡◌, ◌+◌, ◌<◌, ℕ, Bool, true, false, not, eqb, cond, List, [], ◌∷◌, ◌++◌, length, filter, Some, sym, ap, ◌∙◌, arith}
use Rattle.std.specs.Prelude.{slice_get}
use Rattle.std.specs.List.{list_any, range_with_len}
use Rattle.std.proofs.lemmas.List.{append-nil}
use Rattle.std.proofs.lemmas.Option.{slice_get-get_or, same_Some}
use Rattle.gl_trims.specs.bodies.Trimming.{AreFlagsOf}
use Rattle.gl_trims.proofs.Removing.{others_more}
use Rattle.gl_trims.proofs.trims.left_of.Goals as goal
use Rattle.gl_trims.proofs.trims.left_of.Goals.{then-not-gone-i+in_ok-push, else-not-gone-i}

-- the positions that aren't among these
abbrev is_other : List ℕ → ℕ → Bool
is_other removed i = not (list_any (λ k. eqb k i) removed)

-- what the flag says of the next position
next_is : (size : ℕ) (gone : List Bool) (removed : List ℕ) → AreFlagsOf size gone removed → (i : ℕ) (flag : Bool) → i < size → slice_get gone i ≡ Some flag
    → filter (is_other removed) (range_with_len 0 (i + 1)) ≡ filter (is_other removed) (range_with_len 0 i) ++ cond (not flag) (i ∷ []) []
next_is size gone removed are i flag within at =
    others_more (is_other removed) i ∙ ap (λ b. filter (is_other removed) (range_with_len 0 i) ++ cond (not b) (i ∷ []) []) (same_Some _ _ (sym (are.flags i within) ∙ at))

pub loop-i-preserved : goal.loop-i-preserved
loop-i-preserved c = λ edges removed are.
    elim c.if-not-gone-i.branch [
      | then-not-gone-i+in_ok-push w ↦
          let flag = slice_get-get_or c.args.gone.now c.loop-i.i false (c.loop-i-test.true) ∙ ap Some w.if-not-gone-i.true in
          (λ k. (w.left-is k).items) ∙ w.in_ok-push.ensures.items ∙ ap (λ l. l ++ c.loop-i.i ∷ []) (c.loop-i.invariant edges removed are)
          ∙ sym (next_is (length edges) c.args.gone.now removed are c.loop-i.i false (omega (arith, c.loop-i-test.true, are.long)) flag)
      | else-not-gone-i w ↦
          let flag = slice_get-get_or c.args.gone.now c.loop-i.i false (c.loop-i-test.true) ∙ ap Some w.if-not-gone-i.false in
          (λ k. (w.left-is k).items) ∙ c.loop-i.invariant edges removed are ∙ sym (append-nil _)
          ∙ sym (next_is (length edges) c.args.gone.now removed are c.loop-i.i true (omega (arith, c.loop-i-test.true, are.long)) flag)
    ]

pub returns : goal.returns
returns c = λ edges removed are.
    let end : c.loop-i.i ≡ length edges = omega (arith, are.long) in
    c.loop-i.invariant edges removed are ∙ ap (λ n. filter (is_other removed) (range_with_len 0 n)) end
