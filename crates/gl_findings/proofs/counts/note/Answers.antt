use Rattle.std.proofs.Common.{◌∙◌, sym, ap, Some}
use Rattle.std.specs.HashSet.{contains}
use Rattle.std.proofs.lemmas.Option.{slice_get-get_or}
use Rattle.gl_grounds.specs.Classes.{are_places}
use Rattle.gl_findings.proofs.Tallied.{tally_new, tally_old, was_known, was_new}
use Rattle.gl_findings.proofs.counts.note.Goals as goal

pub returns-else-branch-clause-tally : goal.returns-else-branch-clause-tally
returns-else-branch-clause-tally c = λ noted tally.
    tally_old noted (contains are_places c.args.seen.now) (contains are_places c.insert.new.self) c.args.counts.now.items c.args.class c.args.number tally c.in_ok-insert.ensures.updates.0
    (was_known (contains are_places c.args.seen.now (c.args.class, c.args.number)) c.in_ok-insert.field-0 c.in_ok-insert.ensures.added c.if-branch.false)

pub returns-then-branch-clause-tally : goal.returns-then-branch-clause-tally
returns-then-branch-clause-tally c = λ noted tally.
    tally_new noted (contains are_places c.args.seen.now) (contains are_places c.insert.new.self) c.args.counts.now.items c.args.class c.args.number tally c.in_ok-insert.ensures.updates.0 c.index_mut.result.now
    (slice_get-get_or c.args.counts.now.items c.args.class c.index_mut.result.now c.requires.there ∙ ap Some (sym c.index_mut.ensures.value))
    (was_new (contains are_places c.args.seen.now (c.args.class, c.args.number)) c.in_ok-insert.field-0 c.in_ok-insert.ensures.added c.if-branch.true)
