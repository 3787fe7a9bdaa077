use Rattle.std.proofs.Common.{◌<◌, sym, subst}
use Rattle.gl_report.specs.Counts.{event_count, segment_count}
use Rattle.gl_report.proofs.Counting.{few_events, few_segments}
use Rattle.gl_report.proofs.stats.Stats.of.Goals as goal

pub count_events-requires : goal.count_events-requires
count_events-requires c =
    subst (λ lists. event_count lists < 18446744073709551616) (sym c.as_slice-lists.ensures) (few_events c.args.trace.now.lists c.requires.lawful)

pub count_segments-requires : goal.count_segments-requires
count_segments-requires c =
    subst (λ lists. segment_count lists < 18446744073709551616) (sym c.as_slice-lists.ensures) (few_segments c.args.trace.now.lists c.requires.lawful)
