use Rattle.std.proofs.Common.{sym, subst}
use Rattle.std.proofs.lemmas.Result.{err_from_is_err_and}
use Rattle.gl_check.specs.Signatures.{AreClassesFor}
use Rattle.gl_check.proofs.Places.{all_within, classes_within}
use Rattle.gl_check.proofs.cycles.Known.check_next.Goals as goal

pub compared_by-requires : goal.compared_by-requires
compared_by-requires c =
    let known = c.args.self.now in
    classes_within c.listing_of.result known.edges.now c.args.classes.now c.in_ok-positions.positions.items
    (subst (λ listing. AreClassesFor listing known.edges.now c.args.classes.now) (sym c.listing_of.ensures) c.requires.classes)
    (all_within known.format known.names.now known.edges.now _ c.in_ok-positions.positions.items c.in_ok-positions.ensures.cycle.edges)

pub returns-in_err-positions-clause-fault : goal.returns-in_err-positions-clause-fault
returns-in_err-positions-clause-fault c =
    let p = err_from_is_err_and c.from_residual.result c.from_residual.ensures.1 in
    rw (p.1, p.2) (λ found same. c.in_err-positions.ensures.fault found)
