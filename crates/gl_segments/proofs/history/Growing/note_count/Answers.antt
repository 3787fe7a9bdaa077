use Rattle.gl_segments.proofs.Noting.{tells_growth}
use Rattle.gl_segments.proofs.history.Growing.note_count.Goals as goal

pub returns-clause-noted : goal.returns-clause-noted
returns-clause-noted c = λ clocks some noted. record {
  size = noted.size;
  tells = rw (c.in_ok-push.ensures.items, c.set.ensures)
      (tells_growth c.args.self.now.thread c.args.self.now.first.items c.args.self.now.growths.items c.args.self.now.latest clocks
      (record { thread = c.args.thread; from = c.args.self.now.segments; count = c.args.count }) some noted.size c.requires noted.tells);
}
