use Rattle.std.proofs.lemmas.Option.{slice_get_within}
use Rattle.gl_filters.proofs.pairs.have_gate.Goals as goal

pub clash-requires-clause-one : goal.clash-requires-clause-one
clash-requires-clause-one c = slice_get_within c.args.sets.now.sets c.args.a c.args.guards.now c.requires.one

pub clash-requires-clause-other : goal.clash-requires-clause-other
clash-requires-clause-other c = slice_get_within c.args.sets.now.sets c.args.b c.args.others.now c.requires.other
