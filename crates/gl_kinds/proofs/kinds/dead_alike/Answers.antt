use Rattle.gl_segments.specs.Clocks.{is_before}
use Rattle.gl_filters.specs.Picked.{edges_of_table}
use Rattle.gl_kinds.proofs.ByKinds.{cycles_have_models}
use Rattle.gl_kinds.proofs.kinds.dead_alike.Goals as goal

pub dead_models-requires : goal.dead_models-requires
dead_models-requires c =
    let s = c.args.sought.now in
    record {
      models = record {
        long = c.in_ok-flags.ensures.long;
        models = cycles_have_models (is_before s.order.now) s.mode c.args.grain s.len (edges_of_table s.table.now) c.in_ok-flags.flags.items c.args.kept.now c.requires c.in_ok-flags.ensures.models;
        indexed = rw c.deref.ensures.value at c.in_ok-index.ensures;
      };
    }
