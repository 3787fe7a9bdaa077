use Rattle.std.proofs.Common.{◌-◌, length, get_or, sym, ap, subst, ◌∙◌}
use Rattle.std.proofs.lemmas.Bool.{false≢true}
use Rattle.gl_filters.specs.Test.{leads_to}
use Rattle.gl_segments.specs.Clocks.{is_before}
use Rattle.gl_filters.specs.Picked.{edges_of_table}
use Rattle.gl_kinds.specs.bodies.Kinds.{MayMeetAll}
use Rattle.gl_kinds.proofs.ByKinds.{last_tells}
use Rattle.gl_sought.proofs.Places.{edge_is}
use Rattle.gl_kinds.proofs.rounds.Rounds.can_join.Goals as goal

pub returns-then-not-leads_on : goal.returns-then-not-leads_on
returns-then-not-leads_on c = λ no f at leads.
    let table = c.args.self.now.sought.table.now in
    let is_f = edge_is table c.index-self-next.result c.args.next f c.requires.there at in
    absurd (false≢true (sym c.if-not-leads_on.true ∙ c.leads_on.ensures ∙ ap (leads_to (get_or table (get_or c.args.path.now (length c.args.path.now - 1) 0) c.index-self-last.result).0) (sym is_f) ∙ last_tells table c.args.path.now c.index-self-last.result f c.requires.within c.requires.some leads))

pub returns : goal.returns
returns c = λ no f at leads goes.
    let table = c.args.self.now.sought.table.now in
    let is_f = edge_is table c.index-self-next.result c.args.next f c.requires.there at in
    c.goes_with_all.ensures no (subst (MayMeetAll (is_before c.args.self.now.sought.order.now) c.args.self.now.sought.mode c.args.self.now.grain (edges_of_table table) c.args.path.now) is_f goes)
