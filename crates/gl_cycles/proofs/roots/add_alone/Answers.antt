use Rattle.std.proofs.Common.{◌≡◌, map, ap, ◌∙◌, arith}
use Rattle.gl_cycles.specs.bodies.Dealt.{first_with}
use Rattle.gl_cycles.proofs.RootsJoined.{root_more}
use Rattle.gl_cycles.proofs.roots.add_alone.Goals as goal

pub loop-root-preserved : goal.loop-root-preserved
loop-root-preserved g c =
    let s = c.args.search.now in
    root_more (g.S.RootedSearch.cap s) (g.S.RootedSearch.found_from s) _ _ _ c.args.from c.loop-root.root c.loop-root.auto.root c.loop-root.invariant c.in_ok-add_found_from.ensures

pub returns : goal.returns
returns g c =
    let s = c.args.search.now in
    let done : c.loop-root.root ≡ c.args.to = omega arith in
    let upto = first_with (g.S.RootedSearch.cap s) (g.S.RootedSearch.found_from s) (map (λ cycle. cycle.items) c.args.found.now.items) c.args.from in
    ◌∙◌ {b = upto c.loop-root.root} c.loop-root.invariant (ap upto done)
