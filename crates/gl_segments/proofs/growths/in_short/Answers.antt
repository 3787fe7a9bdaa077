use Rattle.std.proofs.Common.{◌∙◌, ap}
use Rattle.std.specs.Prelude.{map}
use Rattle.gl_segments.specs.bodies.Growths.{long}
use Rattle.gl_segments.proofs.Shortening.{short_at, short_more}
use Rattle.gl_segments.proofs.growths.in_short.Goals as goal

pub short-requires : goal.short-requires
short-requires c = short_at c.args.growths.now c.loop-growth.growth-index c.growth-item.result c.requires c.loop-growth-test.true c.growth-item.is

pub loop-growth-preserved : goal.loop-growth-preserved
loop-growth-preserved c =
    ap (map long) c.in_ok-push.ensures.items
    ∙ short_more c.args.growths.now c.loop-growth.short.items c.loop-growth.growth-index c.growth-item.result c.short.result c.loop-growth-test.true c.growth-item.is c.short.ensures c.loop-growth.invariant
