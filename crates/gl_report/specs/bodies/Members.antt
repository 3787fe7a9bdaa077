-- Objects that get the members of an edge, or of a report.
use Rattle.std.specs.Prelude.{ℕ, Bool, List, map, codes}
use Rattle.serde_json.specs.Data.{Members, put, array, boolean, number, string, unsigned}
use Rattle.serde_json.specs.View.{items_of}
use Rattle.gl_std.specs.Names.{NameLists}
use Rattle.gl_edges.specs.declared.edge.Edge.{Edge}
use Rattle.gl_edges.specs.declared.edge.Sample.{Sample}
use Rattle.gl_filters.specs.Asked.{Asked, mode_name}
use Rattle.gl_report.specs.Tree.{guard_modes_tree, guards_tree, lock_mode_tree, name_tree, positions_tree}

-- with the names of its thread and of its locks
abbrev pub with_names : NameLists → Edge → Members → Members
with_names names edge members =
    put (codes "thread") (name_tree names.threads edge.thread)
    (put (codes "wanted") (name_tree names.locks edge.wanted)
    (put (codes "held") (name_tree names.locks edge.held)
    (put (codes "guards") (guards_tree names edge.guards) members)))

-- with where it was seen
abbrev pub with_locations : NameLists → Sample → Members → Members
with_locations names sample members =
    put (codes "wanted_at") (name_tree names.locs sample.wanted_loc)
    (put (codes "place") (number (unsigned sample.place))
    (put (codes "held_at") (name_tree names.locs sample.held_loc) members))

-- with its segments
abbrev pub with_segments : Edge → Members → Members
with_segments edge members =
    put (codes "second") (number (unsigned edge.second))
    (put (codes "first") (number (unsigned edge.first)) members)

-- with the modes of its locks
abbrev pub with_modes : Edge → Members → Members
with_modes edge members =
    put (codes "wanted_mode") (lock_mode_tree edge.wanted_mode)
    (put (codes "held_mode") (lock_mode_tree edge.held_mode)
    (put (codes "guard_modes") (guard_modes_tree edge.guards) members))

-- with the number of the format, and what was asked
abbrev pub with_question : ℕ → Asked → Members → Members
with_question format asked members =
    put (codes "mode") (string (mode_name asked.mode))
    (put (codes "max") (number (unsigned asked.max))
    (put (codes "len") (number (unsigned asked.len))
    (put (codes "format") (number (unsigned format)) members)))

-- with the cycles that were found, under this key, and whether there are more
abbrev pub with_found : List ℕ → List (List ℕ) → Bool → Members → Members
with_found key cycles more members =
    put (codes "more") (boolean more)
    (put key (array (items_of (map positions_tree cycles))) members)
