use Rattle.std.proofs.Common.{Ok, sym, ap, ◌∙◌, length, arith}
use Rattle.gl_event.specs.Bounds.{Bounds}
use Rattle.gl_io.specs.Uses.{used}
use Rattle.gl_live.specs.bodies.Rosters.{roster_of}
use Rattle.gl_live.specs.bodies.Streams.{StreamsOn}
use Rattle.gl_live.specs.declared.run.Ran.{Ran}
use Rattle.gl_live.proofs.Leaving.{as_long}
use Rattle.gl_live.proofs.Streamings.{begins, has_gathered, ours_streamed, streamed, unstreamed}
use Rattle.gl_live.proofs.streaming.record_and_collect.Goals as goal

pub join_workers-requires-clause-room : goal.join_workers-requires-clause-room
join_workers-requires-clause-room g c =
    omega (arith, c.requires.start.ready.served_room, as_long _ _ c.start_collecting.new.workers.items c.args.session.inlets.items c.in-Some.ensures.feeds)

pub record_items-read-requires-clause-recording : goal.record_items-read-requires-clause-recording
record_items-read-requires-clause-recording g c =
    let session = c.args.session in
    let unread = c.requires.start.unread in record {
      s = roster_of session.collector;
      limits = unread.limits;
      turns = unread.turns;
      start = unread.start;
      as_many = unread.as_many;
      threads_are = c.requires.start.ready.threads_are ∙ sym unread.as_many;
      events_are = c.requires.start.ready.events_are;
      follows = begins session.collector unread.limits unread.turns _ _ c.args.recorders.items c.requires.start.unused unread.tells;
    }

pub returns-in-Ok : goal.returns-in-Ok
returns-in-Ok g c =
    let session = c.args.session in
    let ready = c.requires.start.ready in
    let unread = c.requires.start.unread in
    let feeds = c.join_workers.ensures.feeds ∙ c.in-Some.ensures.feeds ∙ ready.feeds in
    let gathered = has_gathered _ _ _ _ c.join-gathered.result c.in-Some.ensures.collector c.in-Some.ensures.outlets c.join-gathered.ensures in
    let ran : Ran = record { gathered = c.join-gathered.result; receipts = c.close_all.new.receipts; served = c.join_workers.new.served } in
    let now = g.S.Source.position c.record_items-read.new.input in
    let failed = g.S.Source.failed c.record_items-read.new.input in
    let lanes = length c.args.recorders.items in
    let items = c.record_items-read.new.items in
    let was = g.S.Source.position c.args.input.now in
    let had_failed = g.S.Source.failed c.args.input.now in
    let keeps_up : StreamsOn was had_failed c.args.items.now now failed lanes items (Ok ran) = λ limits turns start told.
    streamed limits turns (used start now failed) lanes items session.collector session.outlets.items c.record_items-read.new.recorders.items session.receipts.items ran gathered ready.no_receipt
    c.record_items-read.ensures.count c.in-Ok.ensures.done c.close_all.ensures
    (c.in-Ok.ensures.follows (roster_of session.collector) limits turns start (begins session.collector limits turns _ _ c.args.recorders.items c.requires.start.unused told)) in
    record {
      ours = ours_streamed unread.limits unread.turns (used unread.start now failed) lanes items ran unread.as_many (keeps_up unread.limits unread.turns unread.start unread.tells);
      run = record { shards_are = as_long _ _ c.join_workers.new.served.items session.outlets.items feeds; feeds = λ none. feeds ∙ sym (gathered.feeds none) };
      threads = ap (λ (b : Bounds). b.threads) gathered.limits ∙ ready.threads_are;
      streamed = keeps_up;
      done = c.in-Ok.ensures.done;
      in_time = tt;
    }

pub returns-in-Err : goal.returns-in-Err
returns-in-Err g c =
    let session = c.args.session in
    record {
      ours = tt;
      run = tt;
      threads = tt;
      streamed = λ limits turns start told.
          unstreamed limits turns _ _ _ c.in-Err.fault
          (c.in-Err.ensures.stops (roster_of session.collector) limits turns start (begins session.collector limits turns _ _ c.args.recorders.items c.requires.start.unused told));
      done = tt;
      in_time = tt;
    }
