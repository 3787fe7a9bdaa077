-- Walks that begin as spans do.
use Rattle.std.specs.Prelude.{◌≡◌, ◌≢◌, ℕ, true, List}
use Rattle.gl_segments.specs.Clocks.{is_before}
use Rattle.gl_filters.specs.Picked.{edges_of_table}
use Rattle.gl_walks.specs.declared.purpose.Purpose.{Purpose}
use Rattle.gl_walks.specs.declared.purpose.Purpose.TheVariants.{Front}
use Rattle.gl_walks.specs.declared.walker.Walker.{Walker}
use Rattle.gl_walks.specs.Walks.{HasWalkFrom}
use Rattle.gl_grounds.specs.Spanning.{is_round}
use Rattle.gl_grounds.specs.declared.spans.Span.{Span}

-- the walker has no walk for the signature whose first edge holds this lock
abbrev pub NoneHolding : Walker → Purpose → List ℕ → ℕ → Type 0
NoneHolding walker purpose signature lock =
    ¬ HasWalkFrom purpose (is_before walker.ground.order.now) walker.ground.mode
    (edges_of_table walker.ground.table.now) walker.ground.classes.now
    walker.ground.flags.now signature lock

-- nor one that begins as the span does; unless a front is sought, that has to be round
abbrev pub NoneAt : Walker → Purpose → List ℕ → Span → Type 0
NoneAt walker purpose signature span =
    (purpose ≢ Front → is_round span ≡ true) → NoneHolding walker purpose signature span.held
