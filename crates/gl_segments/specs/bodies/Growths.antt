-- Growths in few bytes.
use Rattle.std.specs.Prelude.{◌≡◌, ◌^◌, Bool, false, ◌&&◌, List, map, nat_lt}
use Rattle.std.specs.List.{list_all}
use Rattle.gl_segments.specs.declared.growths.Growth.{Growth}
use Rattle.gl_segments.specs.declared.growths.ShortGrowth.{ShortGrowth}
use Rattle.gl_segments.specs.declared.growths.Kept.{Kept}
use Rattle.gl_segments.specs.declared.growths.Kept.TheVariants.{Short, Long}

-- its numbers are below 2^16
abbrev pub is_short : Growth → Bool
is_short g = nat_lt g.thread (2 ^ 16) && nat_lt g.from (2 ^ 16) && nat_lt g.count (2 ^ 16)

-- the growth that a short one stands for
abbrev pub long : ShortGrowth → Growth
long s = record { thread = s.thread; from = s.from; count = s.count }

-- the growths that are kept
abbrev pub growths_of : Kept → List Growth
growths_of (Short growths) = map long growths.items
growths_of (Long growths) = growths.items

-- they are kept in short, unless one of them isn't
abbrev pub IsInShort : Kept → Type 0
IsInShort (Short growths) = Unit {0}
IsInShort (Long growths) = list_all is_short growths.items ≡ false
