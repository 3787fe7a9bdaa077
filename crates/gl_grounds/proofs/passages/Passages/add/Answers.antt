use Rattle.std.proofs.Common.{false, arith}
use Rattle.std.proofs.lemmas.List.{length-map}
use Rattle.std.proofs.lemmas.Option.{slice_get-get_or}
use Rattle.gl_filters.specs.Picked.{edges_of_table}
use Rattle.gl_grounds.proofs.PassageSteps.{more_added, more_likewise, more_unflagged}
use Rattle.gl_grounds.proofs.passages.Passages.add.Goals as goal
use Rattle.gl_grounds.proofs.passages.Passages.add.Goals.{then-not-flags-i-via-then-not-flags-i, then-not-flags-i-via-else-not-flags-i+then-leads_likewise}

pub returns-then-not-flags-i : goal.returns-then-not-flags-i
returns-then-not-flags-i c =
    let edges = edges_of_table c.args.table.now in
    let classes = c.args.classes.now in
    let flags = c.args.flags.now in
    let long = length-map c.args.table.now (λ pair. pair.0) in
    elim c.then-not-flags-i.branch [
      | then-not-flags-i-via-then-not-flags-i w ↦
          more_unflagged edges classes flags c.args.self.now c.args.i _ (slice_get-get_or flags c.args.i false (omega (arith, c.requires.there, c.requires.flags))) w.if-not-flags-i.true c.requires.before
      | then-not-flags-i-via-else-not-flags-i+then-leads_likewise w ↦
          more_likewise edges classes flags c.args.self.now c.args.first c.args.i (omega (arith, long, c.requires.classes)) (omega (arith, long, c.requires.flags)) (w.leads_likewise.ensures w.if-leads_likewise.true) c.requires.before
    ]

pub returns : goal.returns
returns c =
    more_added (edges_of_table c.args.table.now) c.args.classes.now c.args.flags.now c.args.self.now c.add_from.new.self c.args.i c.in_ok-add_from.ensures.stay c.in_ok-add_from.ensures.added c.requires.before
