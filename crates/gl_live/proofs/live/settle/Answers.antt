use Rattle.std.proofs.Common.{length, ap, ◌∙◌}
use Rattle.std.proofs.lemmas.List.FromFn.{length-map-range_with_len}
use Rattle.gl_intake.specs.Stream.{events_of}
use Rattle.gl_live.proofs.Leaving.{ours, settled_lists}
use Rattle.gl_live.proofs.live.settle.Goals as goal

pub returns-in-Ok-clause-lists : goal.returns-in-Ok-clause-lists
returns-in-Ok-clause-lists c = λ lists threads receipts.
    settled_lists c.args.gathered lists c.args.receipts.now c.in-Ok.settled.0 _ c.in-Ok.ensures.settled.settled (ap length c.in-Ok.ensures.settled.lists ∙ length-map-range_with_len (λ t. events_of t c.args.gathered.stream) 0 c.args.gathered.limits.threads ∙ threads) receipts

pub settle-requires : goal.settle-requires
settle-requires c = record { ours = ours c.args.gathered c.args.receipts.now c.requires.ours }
