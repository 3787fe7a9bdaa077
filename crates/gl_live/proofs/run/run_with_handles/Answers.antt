use Rattle.std.proofs.Common.{refl, sym, ap, ◌≤◌, length, subst, ◌∙◌, arith}
use Rattle.gl_event.specs.Lawful.{lists_of}
use Rattle.gl_shards.specs.declared.shard.TheConstants.{MAX_SHARDS}
use Rattle.gl_event.specs.Bounds.{Bounds}
use Rattle.gl_live.proofs.Leaving.{as_long, roster_same}
use Rattle.gl_live.proofs.run.run_with_handles.Goals as goal

pub start_threads-requires-clause-fit : goal.start_threads-requires-clause-fit
start_threads-requires-clause-fit g c κs within = subst (λ n. n ≤ MAX_SHARDS) (sym (as_long _ _ c.args.session.inlets.items c.args.session.outlets.items c.requires.ready.feeds)) c.requires.ready.outlets.shards.fit

pub join_threads-requires-clause-room : goal.join_threads-requires-clause-room
join_threads-requires-clause-room g c =
    omega (arith, c.requires.ready.served_room, as_long _ _ c.start_threads.new.workers.items c.args.session.inlets.items (c.if-not-start_threads.ensures.feeds refl))

pub returns : goal.returns
returns g c =
    let feeds = c.if-not-start_threads.ensures.feeds refl ∙ c.requires.ready.feeds in
    record {
      run =
          c.join_threads.ensures.run (length c.args.session.outlets.items) (as_long _ _ c.start_threads.new.workers.items c.args.session.outlets.items feeds)
          (λ none. feeds ∙ sym ((c.run_without_repeats-gathered.ensures.whole none).feeds));
      threads = c.join_threads.ensures.threads (length c.args.lists.now) (ap (λ (b : Bounds). b.threads) c.run_without_repeats-gathered.ensures.left.limits ∙ c.requires.ready.threads_are);
      receipts =
          c.join_threads.ensures.receipts c.args.session.collector (lists_of c.args.lists.now)
          (sym (roster_same c.run_without_repeats-gathered.result c.args.session.collector c.run_without_repeats-gathered.ensures.left.session c.run_without_repeats-gathered.ensures.left.limits c.run_without_repeats-gathered.ensures.left.lanes))
          (c.if-not-start_threads.ensures.lists refl) c.requires.ready.no_receipt;
      fault = c.join_threads.ensures.fault;
    }
