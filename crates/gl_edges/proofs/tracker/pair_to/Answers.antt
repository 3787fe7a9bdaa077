use Rattle.std.proofs.Common.{refl}
use Rattle.gl_edges.proofs.Steps.{pair_is}
use Rattle.gl_edges.proofs.tracker.pair_to.Goals as goal

pub entry_for-entry-requires : goal.entry_for-entry-requires
entry_for-entry-requires c = rw c.entries.ensures c.requires

pub returns : goal.returns
returns c = λ es stands guarded.
    let there = rw c.entries.ensures at c.entry_for-entry.ensures.there in
    pair_is c.args.thread es (record { thread = c.args.thread; state = c.args.state.now }) (record { of_thread = refl; stands = stands }) c.args.wanted c.args.mode c.args.loc
    c.entry_for-entry.result c.args.held c.args.guards c.segment.result c.events.result c.segment.ensures c.events.ensures there c.entry_for-entry.ensures.of_lock guarded
