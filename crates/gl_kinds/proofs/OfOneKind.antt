-- Edges of one kind pass each test of it.
use Rattle.std.proofs.Common.{◌≡◌, true, List, subst}
use Rattle.std.specs.Cmp.Lexicographic.{pointwise, lists_equiv}
use Rattle.gl_edges.specs.Guards.{guard_eq, guard_equiv}
use Rattle.gl_edges.specs.declared.guards.Guard.{Guard}

-- guards that are equal pass the test of equality
pub guards_equal : (gs hs : List Guard) → gs ≡ hs → pointwise guard_eq gs hs ≡ true
guards_equal gs hs same = subst (λ l. pointwise guard_eq gs l ≡ true) same ((lists_equiv guard_equiv).refl gs)
