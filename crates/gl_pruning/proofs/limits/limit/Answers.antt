use Rattle.std.proofs.Common.{◌≡◌, ◌<◌, length, Some, sym, ap, ◌∙◌, arith}
use Rattle.std.specs.Prelude.{slice_get}
use Rattle.std.proofs.lemmas.Option.{slice_get-get_or, get_or_from_slice_get}
use Rattle.gl_pruning.specs.bodies.Covers.{component_in}
use Rattle.gl_pruning.proofs.InComponents.{ends_at, component, no_longer}
use Rattle.gl_pruning.proofs.limits.limit.Goals as goal

-- the component of the edge has exclusions
pub returns-in-Some : goal.returns-in-Some
returns-in-Some c =
    let s = c.args.sought.now in
    let covered = c.args.covered.now in
    let checked = c.requires.checked in
    let exclusions = c.in-Some.exclusions.now in
    let some : 0 < length exclusions.items = grind (arith, c.is_empty.ensures, c.if-not-is_empty.true, exclusions.ok.0) in
    record {
      some = omega (arith, c.requires.some, c.min.ensures, c.len.ensures, some);
      short = omega (arith, c.min.ensures);
      longest = λ e at cycle among is in_it.
          let (k, below, same) = in_it in
          let at_k = slice_get-get_or cycle k e below ∙ ap Some same in
          let here = get_or_from_slice_get c.args.ends.now c.args.position _ (record { held = 0; wanted = 0 }) (ends_at s covered.labels.items c.args.ends.now c.args.kept.now checked.components c.args.position e at) in
          let there : slice_get covered.exclusions.items (component s covered.labels.items c.args.ends.now c.args.kept.now checked.components e.held) ≡ Some exclusions = ap (slice_get covered.exclusions.items) (sym (c.component-component.ensures ∙ ap (λ d. component_in covered d.held) here))
          ∙ ap (λ l. slice_get l c.component-component.result) (sym c.deref.ensures.value) ∙ slice_get-get_or c.deref.result.now c.component-component.result exclusions c.in-Some.ensures.lookup.3.0 ∙ ap Some (sym c.in-Some.ensures.lookup.1) in
          let bound = no_longer s c.args.turns.now covered c.args.ends.now c.args.kept.now checked cycle among is k e at_k exclusions there some in
          omega (arith, bound, c.min.ensures, c.len.ensures, is.not_too_long);
    }
