use Rattle.std.proofs.Common.{◌∙◌, subst}
use Rattle.std.specs.List.{All}
use Rattle.std.proofs.lemmas.List.Elements.{All-nil}
use Rattle.gl_live.specs.bodies.Rosters.{roster_of, IsReceiptOf}
use Rattle.gl_live.proofs.Leaving.{as_long}
use Rattle.gl_live.proofs.Rostered.{all_same}
use Rattle.gl_live.proofs.run.join_threads.Goals as goal

pub returns-in-Ok-clause-run : goal.returns-in-Ok-clause-run
returns-in-Ok-clause-run g c = λ shards count feeds. record {
  shards_are = as_long _ _ c.join_workers.new.served.items c.args.workers.items c.join_workers.ensures.feeds ∙ count;
  feeds = λ none. c.join_workers.ensures.feeds ∙ feeds none;
}

pub returns-in-Ok-clause-receipts : goal.returns-in-Ok-clause-receipts
returns-in-Ok-clause-receipts g c = λ of lists roster started none.
    subst (λ s. All (IsReceiptOf s lists) c.join_recorders-joined.new.receipts.items) roster
    (c.in-Ok.ensures of lists started (all_same none (IsReceiptOf (roster_of of) lists) (All-nil _)))
