use Rattle.std.proofs.Common.{arith}
use Rattle.std.proofs.lemmas.Option.{get_or_from_slice_get}
use Rattle.gl_segments.specs.Clocks.{is_before}
use Rattle.gl_kinds.proofs.Closing.{narrowed_more, narrowed_all}
use Rattle.gl_kinds.proofs.rounds.Rounds.narrowed.Goals as goal

-- one more of the rest was looked at
pub loop-place-preserved : goal.loop-place-preserved
loop-place-preserved c =
    let s = c.args.self.now.sought in (
      c.in_ok-add_met.ensures.within,
      narrowed_more (is_before s.order.now) s.mode c.args.self.now.grain s.table.now c.args.rest.now c.loop-place.place _ _ _ _ c.loop-place.invariant.1 c.in_ok-add_met.ensures.stay c.in_ok-add_met.ensures.met
          (λ i at. get_or_from_slice_get c.args.rest.now c.loop-place.place i _ at),
    )

pub returns-clause-narrowed : goal.returns-clause-narrowed
returns-clause-narrowed c =
    let s = c.args.self.now.sought in
    narrowed_all (is_before s.order.now) s.mode c.args.self.now.grain s.table.now c.args.rest.now c.args.next c.loop-place.place c.index-self-next.result c.loop-place.some.items c.requires.there (omega arith) c.loop-place.invariant.1
