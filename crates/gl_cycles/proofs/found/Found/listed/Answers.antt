use Rattle.std.proofs.Common.{◌≡◌, ℕ, ◌+◌, ◌≤◌, List, length, map, take, sym, ap, ◌∙◌, arith}
use Rattle.std.specs.Prelude.{nat_lt}
use Rattle.std.proofs.lemmas.Bool.{ltb-true, lt-ltb, ltb_from_iff}
use Rattle.std.proofs.lemmas.List.{length-map, length-take, take-map, take-take}
use Rattle.gl_cycles.proofs.found.Found.listed.Goals as goal

-- the first of what was found are the first of all
first_of_more : {X : Type 0} (max cap : ℕ) (found all : List X) → max ≤ cap → found ≡ take cap all → take max found ≡ take max all
first_of_more max cap found all within is = ap (take max) is ∙ take-take max cap all within

-- one more than the first ones was found exactly if there is one
more_than : {X : Type 0} (max found : ℕ) (cycles all : List X) → found ≡ length cycles → cycles ≡ take (max + 1) all → nat_lt max found ≡ nat_lt max (length all)
more_than max found cycles all long is =
    let first = length-take (max + 1) all in
    let same = ap length is in
    ltb_from_iff (λ more. let above = ltb-true max found more in omega arith, λ above. lt-ltb max found (omega arith))

pub returns : goal.returns
returns c = λ all is.
    let first = c.from_vec.ensures ∙ ap (map (λ cycle. cycle.items)) c.truncate.ensures.items ∙ sym (take-map (λ cycle. cycle.items) c.args.max c.args.cycles.items)
    ∙ first_of_more c.args.max (c.args.max + 1) _ all (omega arith) is in
    let more = more_than c.args.max c.len.result (map (λ cycle. cycle.items) c.args.cycles.items) all (omega (arith, c.len.ensures, c.args.cycles.ok.0, length-map c.args.cycles.items (λ cycle. cycle.items))) is in
    λ i. record { cycles = first i; more = more i }
