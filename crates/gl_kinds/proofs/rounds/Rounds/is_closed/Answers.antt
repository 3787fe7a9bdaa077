use Rattle.std.proofs.Common.{◌-◌, length, get_or, sym, ap, ◌∙◌}
use Rattle.std.proofs.lemmas.Bool.{false≢true}
use Rattle.gl_filters.specs.Test.{leads_to}
use Rattle.gl_kinds.proofs.ByKinds.{last_tells, first_is}
use Rattle.gl_kinds.proofs.rounds.Rounds.is_closed.Goals as goal

pub returns : goal.returns
returns c = λ unclosed two i f at_i at_f leads.
    let table = c.args.self.now.sought.table.now in
    let is_f = first_is table c.args.path.now c.index-self-first.result i f c.requires.within c.requires.some at_i at_f in
    false≢true (sym unclosed ∙ c.leads_on.ensures ∙ ap (leads_to (get_or table (get_or c.args.path.now (length c.args.path.now - 1) 0) c.index-self-last.result).0) (sym is_f) ∙ last_tells table c.args.path.now c.index-self-last.result f c.requires.within c.requires.some leads)
