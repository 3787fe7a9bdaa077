-- The order of edges and of samples.
use Rattle.std.specs.Prelude.{◌≡◌, ◌-◌, List, map, length, slice_get, IfSome}
use Rattle.std.specs.declared.cmp.Ordering.{Ordering}
use Rattle.std.specs.declared.cmp.Ordering.TheVariants.{Less}
use Rattle.std.specs.Ordering.{nat_cmp, on, then_cmp}
use Rattle.std.specs.Cmp.Lexicographic.{slice_cmp}
use Rattle.std.specs.List.Sorted.{IsStrictlySortedBy}
use Rattle.gl_event.specs.Modes.{mode_cmp}
use Rattle.gl_edges.specs.Guards.{guard_cmp}
use Rattle.gl_edges.specs.declared.edge.Edge.{Edge}
use Rattle.gl_edges.specs.declared.edge.Sample.{Sample}

-- edges by thread, held lock and its mode, wanted lock and its mode, the two segments, and the guards as an ascending list
abbrev pub edge_cmp : Edge → Edge → Ordering
edge_cmp =
    then_cmp (on (λ e. e.thread) nat_cmp)
    (then_cmp (on (λ e. e.held) nat_cmp)
    (then_cmp (on (λ e. e.held_mode) mode_cmp)
    (then_cmp (on (λ e. e.wanted) nat_cmp)
    (then_cmp (on (λ e. e.wanted_mode) mode_cmp)
    (then_cmp (on (λ e. e.first) nat_cmp)
    (then_cmp (on (λ e. e.second) nat_cmp) (on (λ e. e.guards) (slice_cmp guard_cmp))))))))

-- samples by place, and then by the two locations
abbrev pub sample_cmp : Sample → Sample → Ordering
sample_cmp =
    then_cmp (on (λ s. s.place) nat_cmp)
    (then_cmp (on (λ s. s.held_loc) nat_cmp) (on (λ s. s.wanted_loc) nat_cmp))

-- each edge is below those after it
abbrev pub AreAscending : List (Edge × Sample) → Type 0
AreAscending pairs = IsStrictlySortedBy edge_cmp (map (λ pair. pair.0) pairs)

-- the edge is above the last one of these, if there is one
abbrev pub IsAboveLast : List (Edge × Sample) → Edge → Type 0
IsAboveLast pairs edge =
    IfSome (slice_get pairs (length pairs - 1)) (λ last. edge_cmp last.0 edge ≡ Less)
