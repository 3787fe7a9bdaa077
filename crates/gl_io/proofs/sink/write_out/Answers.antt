use Rattle.std.proofs.Common.{◌≡◌, ℕ, ◌+◌, ◌-◌, ◌++◌, List, Option, length, take, drop, sym, subst, ap, ◌∙◌, rules, length-drop}
use Rattle.std.proofs.Math.Seq.{take-add, take-length}
use Rattle.std.proofs.KnownBytes.{Appends-trans}
use Rattle.std.specs.Io.KnownBytes.{Appends}
use Rattle.gl_io.proofs.sink.write_out.Goals as goal

-- a slice to the end is the rest
take-rest : (n : ℕ) (text : List ℕ) → take (length text - n) (drop n text) ≡ drop n text
take-rest n text = rw (← length-drop n text) (take-length (drop n text))

-- what two writes in a row appended
Appends-take : (a b c : Option (List ℕ)) (n m : ℕ) (text : List ℕ) → Appends a b (take n text) → Appends b c (take m (take (length text - n) (drop n text))) → Appends a c (take (n + m) text)
Appends-take a b c n m text p q =
    let both : take n text ++ take m (take (length text - n) (drop n text)) ≡ take (n + m) text = ap (λ rest. take n text ++ take m rest) (take-rest n text) ∙ sym (take-add n m text) in
    subst (Appends a c) both (Appends-trans a b c (take n text) _ p q)

pub loop-written-preserved : goal.loop-written-preserved
loop-written-preserved g c = record {
  within = search rules;
  sound = c.in-Ok.ensures.failed;
  front = Appends-take _ _ _ c.loop-written.written c.in-Ok.count c.args.text.now c.loop-written.invariant.front c.in-Ok.ensures.bytes;
}
