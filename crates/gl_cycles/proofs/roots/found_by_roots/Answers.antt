use Rattle.std.proofs.Common.{◌≡◌, ◌≤◌, ap, ◌∙◌, arith}
use Rattle.gl_cycles.specs.Roots.{first_below}
use Rattle.gl_cycles.proofs.RootsJoined.{runs_on}
use Rattle.gl_cycles.proofs.roots.found_by_roots.Goals as goal

pub loop-done-preserved : goal.loop-done-preserved
loop-done-preserved g c =
    let s = c.args.search.now in
    let before = c.loop-done.invariant.1 in
    let on : c.args.from ≤ c.next_end-end.result = omega (arith, c.next_end-end.ensures.later, before) in (
      runs_on (g.S.RootedSearch.cap s) (g.S.RootedSearch.found_from s) _ _ c.loop-done.done c.next_end-end.result (omega (arith, c.next_end-end.ensures.later)) c.loop-done.invariant.0 c.in_ok-add_run.ensures,
      on,
      c.next_end-end.ensures.within,
    )

pub returns : goal.returns
returns g c =
    let s = c.args.search.now in
    let within = c.loop-done.invariant.2 in
    let whole : c.loop-done.done ≡ g.S.RootedSearch.roots s = omega (arith, within, c.roots-size.ensures) in
    let below = first_below (g.S.RootedSearch.cap s) (g.S.RootedSearch.found_from s) in
    ◌∙◌ {b = below c.loop-done.done} c.loop-done.invariant.0 (ap below whole)
