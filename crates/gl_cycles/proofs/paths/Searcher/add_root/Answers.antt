use Rattle.std.proofs.Common.{◌++◌, map, take, ap, subst, ◌∙◌, arith}
use Rattle.std.specs.Prelude.{◌≡◌, IfSome}
use Rattle.std.proofs.lemmas.List.{length-map}
use Rattle.gl_cycles.specs.bodies.Searching.{first_from, sought_by}
use Rattle.gl_cycles.proofs.RootByRoot.{found_joined, found_full}
use Rattle.gl_cycles.proofs.paths.Searcher.add_root.Goals as goal

-- there are as many as the cap
pub returns-then-len-self-clause-more : goal.returns-then-len-self-clause-more
returns-then-len-self-clause-more c = λ yes.
    let s = c.args.self.now in
    found_full (sought_by s) s.cap c.args.root _ c.requires.found c.requires.there
    (omega (arith, c.args.found.now.ok.0, c.len.ensures, c.if-len-self.true, length-map c.args.found.now.items (λ cycle. cycle.items)))

-- the steps sufficed
pub returns-clause-more : goal.returns-clause-more
returns-clause-more c = λ yes.
    let s = c.args.self.now in
    found_joined (sought_by s) s.cap c.args.root _ (map (λ cycle. cycle.items) c.in-Some.cycles.items) _ c.requires.found c.requires.there
    (subst (λ o. IfSome o (λ cycles. map (λ cycle. cycle.items) cycles.items ≡ first_from s c.args.root)) c.in-Some.is c.in_ok-cycles.ensures)
    (c.in_ok-add_cycles.ensures ∙ ap (λ l. take s.cap (map (λ cycle. cycle.items) c.args.found.now.items ++ map (λ cycle. cycle.items) l)) c.deref.ensures.value)
