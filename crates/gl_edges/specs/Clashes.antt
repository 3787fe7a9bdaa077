-- Guard sets that clash: one thread that holds the one set keeps out another that holds the other.
use Rattle.std.specs.Prelude.{Bool, ◌&&◌, ◌==◌, List}
use Rattle.std.specs.List.{list_any}
use Rattle.gl_event.specs.Modes.{conflict}
use Rattle.gl_edges.specs.declared.guards.Guard.{Guard}

-- two guards clash: they are of one lock, and not both shared
abbrev pub clash_on : Guard → Guard → Bool
clash_on g h = (g.lock == h.lock) && conflict g.mode h.mode

-- a guard of the first set clashes with one of the second
abbrev pub guards_clash : List Guard → List Guard → Bool
guards_clash gs hs = list_any (λ g. list_any (clash_on g) hs) gs
