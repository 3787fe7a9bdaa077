use Rattle.std.proofs.Common.{map, refl, arith}
use Rattle.std.proofs.lemmas.Bool.{false≢true}
use Rattle.std.proofs.lemmas.List.{length-map}
use Rattle.std.proofs.lemmas.Option.{slice_get_within}
use Rattle.gl_recorder.proofs.Lists.{list_at, lawful_more}
use Rattle.gl_recorder.proofs.lawful.are_lawful.Goals as goal

pub returns-then-lists-threads : goal.returns-then-lists-threads
returns-then-lists-threads c = (
  λ never. absurd (false≢true never),
  λ lawful. absurd (omega (arith, lawful.few, length-map c.args.lists.now (λ v. v.items), c.threads.ensures.value)),
)

pub loop-number-preserved : goal.loop-number-preserved
loop-number-preserved c =
    lawful_more c.args.limits.now (map (λ v. v.items) c.args.lists.now) c.loop-number.number c.index-lists-number.result.items
    (list_at (λ v. v.items) c.args.lists.now c.loop-number.number c.index-lists-number.result c.loop-number-test.true c.index-lists-number.is) c.loop-number.invariant
    (rw (c.new.ensures, c.as_slice.ensures.value) at (c.if-not-is_lawful.ensures.0 refl))

pub returns : goal.returns
returns c = (
  λ _. record {
    few = omega (arith, length-map c.args.lists.now (λ v. v.items), c.if-lists-threads.false, c.threads.ensures.value);
    each = λ t es at. c.loop-number.invariant t es (let w = slice_get_within (map (λ v. v.items) c.args.lists.now) t es at in omega (arith, length-map c.args.lists.now (λ v. v.items), c.loop-number-test.false)) at;
  },
  λ _. refl,
)
