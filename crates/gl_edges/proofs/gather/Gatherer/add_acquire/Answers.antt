use Rattle.gl_edges.proofs.Remembering.{table_seen, before_more, both_ok}
use Rattle.gl_edges.proofs.gather.Gatherer.add_acquire.Goals as goal

pub returns-then-branch : goal.returns-then-branch
returns-then-branch c = λ pairs is.
    let old = c.args.self.now in
    record {
      table =
          table_seen c.args.tracker.now c.args.wanted c.args.mode c.args.loc old.batch pairs old.seen is.seen
          (c.in_ok-note.ensures.known c.if-branch.true) is.table;
      seen = before_more c.args.tracker.now c.args.wanted c.args.mode c.args.loc pairs old.seen c.note.new.self is.seen c.in_ok-note.ensures.noted;
    }

pub returns : goal.returns
returns c =
    let old = c.args.self.now in
    both_ok c.add_each.result
    (λ added same pairs is. record {
      table = added pairs is.table;
      seen = rw same (before_more c.args.tracker.now c.args.wanted c.args.mode c.args.loc pairs old.seen c.note.new.self is.seen c.in_ok-note.ensures.noted);
    })
    c.add_each.ensures.table c.add_each.ensures.seen
