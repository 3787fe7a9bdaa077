use Rattle.std.proofs.Common.{◌++◌, rules}
use Rattle.std.proofs.lemmas.Result.{err_from_is_err_and}
use Rattle.gl_engine.proofs.Handing.{added_all, blamed_gone, blamed_pull, pulled_prefix, stops_gone, stops_pull}
use Rattle.gl_engine.proofs.pull_and_ship.turn.Goals as goal

pub returns-in_err-pulled : goal.returns-in_err-pulled
returns-in_err-pulled g c =
    let p = err_from_is_err_and c.from_residual.result c.from_residual.ensures.1 in
    record {
      goes_on = record {
        keeps = rw p.1 tt;
        limits = search rules;
        lanes = search rules;
        feeds = search rules;
        grown = pulled_prefix 64 c.args.thread _ _ c.pull_some.ensures.pulls_on.grown;
        blamed = rw (p.1, p.2)
            (blamed_pull c.args.thread c.args.intake.now.limits c.pull_some.new.inputs.items c.pull_some.new.intake.stream c.in_err-pulled.field-0.0 c.in_err-pulled.ensures.pulls_on.blamed);
        stopped = rw (p.1, p.2)
            (stops_pull c.args.thread c.args.intake.now.limits c.pull_some.new.inputs.items c.args.making.now.spares c.args.intake.now.stream c.pull_some.new.intake.stream c.args.outlets.now.items c.in_err-pulled.field-0.0
            c.in_err-pulled.ensures.pulls_on.blamed c.pull_some.ensures.pulls_on.grown c.requires.begins.kept.due c.requires.begins.kept.are_due c.requires.begins.kept.shipped);
      };
      moved = rw p.1 tt;
      left = rw p.1 tt;
      spares = c.pull_some.ensures.pulls_on.added.spares;
    }

pub returns-in_err-ship : goal.returns-in_err-ship
returns-in_err-ship g c =
    let p = err_from_is_err_and c.from_residual-in_err-ship.result c.from_residual-in_err-ship.ensures.1 in
    record {
      goes_on = record {
        keeps = rw p.1 tt;
        limits = search rules;
        lanes = search rules;
        feeds = search rules;
        grown = pulled_prefix 64 c.args.thread _ _ c.pull_some.ensures.pulls_on.grown;
        blamed = rw (p.1, p.2)
            (blamed_gone c.args.intake.now.limits c.pull_some.new.inputs.items c.pull_some.new.intake.stream _ _ c.in_err-ship.field-0.0
            (c.in_err-ship.ensures.stopped _ c.requires.begins.kept.shipped));
        stopped = rw (p.1, p.2)
            (stops_gone c.args.making.now.spares c.args.intake.now.stream c.pull_some.new.intake.stream _ _ c.in_err-ship.field-0.0 (added_all _ _ _ _ c.requires.begins.kept.due c.requires.begins.left.none c.requires.begins.kept.are_due c.pull_some.ensures.pulls_on.added)
            (c.in_err-ship.ensures.stopped _ c.requires.begins.kept.shipped));
      };
      moved = rw p.1 tt;
      left = rw p.1 tt;
      spares = c.pull_some.ensures.pulls_on.added.spares;
    }

pub returns : goal.returns
returns g c =
    let due = c.requires.begins.kept.due in
    let added = c.pull_some.ensures.pulls_on.added in
    record {
      goes_on = record {
        keeps = record {
          collector = c.pull_some.ensures.pulls_on.keeps;
          due = due ++ c.pull_some.new.making.made.items;
          are_due = added_all _ _ _ _ due c.requires.begins.left.none c.requires.begins.kept.are_due added;
          shipped = c.in_ok-ship.ensures.ships.shipped _ c.requires.begins.kept.shipped;
        };
        limits = search rules;
        lanes = search rules;
        feeds = search rules;
        grown = pulled_prefix 64 c.args.thread _ _ c.pull_some.ensures.pulls_on.grown;
        blamed = tt;
        stopped = tt;
      };
      moved = search rules;
      left = record { none = c.in_ok-ship.ensures.none; notes = added.notes };
      spares = added.spares;
    }
