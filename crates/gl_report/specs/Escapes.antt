-- Names as text: odd bytes are escaped.
use Rattle.std.specs.Prelude.{ℕ, ◌/◌, ◌%◌, Bool, false, not, ◌&&◌, ◌==◌, List, [], ◌∷◌, nat_le, if◌then◌else◌}
use Rattle.std.specs.List.{flat_map}
use Rattle.std.specs.Fmt.{digit_glyph}

-- whether a byte stands for itself: it is printable ASCII, and no backslash
abbrev pub stands_for_itself : ℕ → Bool
stands_for_itself byte = nat_le 32 byte && (nat_le byte 126 && not (byte == 92))

-- a byte that stands for itself, or else a backslash, `x` and two lower-case hexadecimal digits
unfoldable pub escaped_byte : ℕ → List ℕ
escaped_byte byte =
    if stands_for_itself byte then byte ∷ []
    else 92 ∷ 120 ∷ digit_glyph false (byte / 16) ∷ digit_glyph false (byte % 16) ∷ []

-- a name, byte by byte
abbrev pub escaped : List ℕ → List ℕ
escaped name = flat_map escaped_byte name
