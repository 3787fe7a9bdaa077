use Rattle.std.proofs.Common.{◌≡◌, ℕ, get_or, sym, ap, ◌∙◌, subst}
use Rattle.std.specs.Prelude.{Contains}
use Rattle.std.proofs.lemmas.Bool.{false≢true}
use Rattle.std.proofs.lemmas.Option.{get_or_from_slice_get}
use Rattle.gl_edges.specs.declared.edge.Edge.{Edge}
use Rattle.gl_sought.proofs.Places.{edge_is}
use Rattle.gl_grounds.specs.Classes.{classes_of}
use Rattle.gl_grounds.specs.Spanning.{goes_on, longer_span}
use Rattle.gl_findings.proofs.finder.Finder.add_with.Goals as goal

pub returns-then-not-goes_on-clause-added : goal.returns-then-not-goes_on-clause-added
returns-then-not-goes_on-clause-added c = λ is_last f class one goes together round.
    let is = edge_is c.args.self.now.table.now c.index-self-j.result c.args.j f c.requires.there one.at in
    absurd (false≢true (sym c.if-not-goes_on.true ∙ c.goes_on.ensures ∙ ap (goes_on c.args.span.now) (sym is) ∙ goes))

pub returns-clause-added : goal.returns-clause-added
returns-clause-added c = λ is_last f class one goes together round.
    let s = c.args.self.now in
    let span = c.args.span.now in
    let j = c.args.j in
    let list = c.add.new.self.list.items in
    let is = edge_is s.table.now c.index-self-j.result j f c.requires.there one.at in
    let same : get_or s.classes.now j 0 ≡ class = ap (λ l. get_or l j 0) c.requires.ready.told ∙ get_or_from_slice_get (classes_of s.table.now) j class 0 one.of_class in
    subst (λ (n : ℕ). Contains list (longer_span span j f n)) same (subst (λ (f : Edge). Contains list (longer_span span j f (get_or s.classes.now j 0))) (sym is) (subst (Contains list) c.longer.ensures c.in_ok-add.ensures.added))
