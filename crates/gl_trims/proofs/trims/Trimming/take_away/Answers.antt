use Rattle.std.proofs.Common.{◌≡◌, true, length, set, sym, subst, arith}
use Rattle.std.proofs.lemmas.List.{length-map}
use Rattle.std.proofs.lemmas.Option.{slice_get_within}
use Rattle.gl_segments.specs.Clocks.{is_before}
use Rattle.gl_filters.specs.Picked.{edges_of_table}
use Rattle.gl_trims.specs.Trims.{IsTrimOrder}
use Rattle.gl_trims.specs.bodies.Trimming.{AreFlagsOf}
use Rattle.gl_trims.proofs.Removing.{flags_more, order_more, both_gone, awake_gone}
use Rattle.gl_trims.proofs.trims.Trimming.take_away.Goals as goal

-- it is an edge of the table
pub index_mut-requires : goal.index_mut-requires
index_mut-requires c =
    let first = c.requires.first in
    omega (arith, slice_get_within (edges_of_table c.args.self.now.table.now) c.args.i first.0.edge first.0.stands, c.requires.taken.flags.long, c.args.gone.now.ok.0)

pub wake-requires-clause-followers : goal.wake-requires-clause-followers
wake-requires-clause-followers c =
    let first = c.requires.first in
    omega (arith, slice_get_within (edges_of_table c.args.self.now.table.now) c.args.i first.0.edge first.0.stands, c.requires.taken.hints.followers.as_long)

pub wake-requires-clause-leaders : goal.wake-requires-clause-leaders
wake-requires-clause-leaders c =
    let first = c.requires.first in
    omega (arith, slice_get_within (edges_of_table c.args.self.now.table.now) c.args.i first.0.edge first.0.stands, c.requires.taken.hints.leaders.as_long)

-- it goes on with the order
pub returns-clause-taken : goal.returns-clause-taken
returns-clause-taken c =
    let s = c.args.self.now in
    let edges = edges_of_table s.table.now in
    let size = length s.table.now in
    let same : size ≡ length edges = sym (length-map s.table.now (λ pair. pair.0)) in
    let before = is_before s.order.now in
    let gone = c.args.gone.now.items in
    let i = c.args.i in
    let had = c.requires.taken in
    let first = c.requires.first in
    let within = slice_get_within edges i first.0.edge first.0.stands in
    record {
      flags = subst (AreFlagsOf (length edges) (set gone i true)) (sym c.in_ok-push.ensures.items) (flags_more (length edges) gone c.args.removed.now.items i within had.flags);
      hints = both_gone before s.mode edges gone c.args.sides.now c.wake.new.sides i had.flags.long within had.hints c.in_ok-wake.ensures.followers c.in_ok-wake.ensures.leaders;
      awake = awake_gone before s.mode edges gone size c.args.sides.now c.wake.new.sides i c.args.waiting.now c.wake.new.waiting had.flags.long same (omega (arith, within, same)) had.hints
          c.in_ok-wake.ensures.followers c.in_ok-wake.ensures.leaders c.in_ok-wake.ensures.waiting c.in_ok-wake.ensures.earlier c.in_ok-wake.ensures.next had.awake;
      in_order = subst (IsTrimOrder before s.mode edges) (sym c.in_ok-push.ensures.items) (order_more before s.mode edges gone c.args.removed.now.items had.flags i had.in_order first);
    }
