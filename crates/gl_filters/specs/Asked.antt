-- What a query asks for, and its ranges.
use Rattle.std.specs.Prelude.{ℕ, ◌≤◌, ◌||◌, List, Option, Some, None, codes, if◌then◌else◌, nat_lt}
use Rattle.std.specs.Str.{bytes_eq}
use Rattle.gl_filters.specs.declared.query.TheConstants.{MAX_LEN, MAX_CYCLES}
use Rattle.gl_filters.specs.declared.query.Mode.{Mode}
use Rattle.gl_filters.specs.declared.query.Mode.TheVariants.{Basic, Guarded, Full}
use Rattle.gl_filters.specs.declared.query.BadQuery.{BadQuery}
use Rattle.gl_filters.specs.declared.query.BadQuery.TheVariants.{Len, Max}

-- the word for a mode
abbrev pub mode_name : Mode → List ℕ
mode_name Basic = codes "basic"
mode_name Guarded = codes "guarded"
mode_name Full = codes "full"

-- the mode that a word stands for
abbrev pub mode_named : List ℕ → Option Mode
mode_named word =
    if bytes_eq word (mode_name Basic) then Some Basic
    else (if bytes_eq word (mode_name Guarded) then Some Guarded
    else (if bytes_eq word (mode_name Full) then Some Full
    else None))

-- the mode, the greatest number of edges of a cycle, and the greatest number of cycles
pub record Asked : Type 0 where
  pub mode : Mode
  pub len : ℕ
  pub max : ℕ

-- a cycle may have 2 edges and up to 16, and at least one cycle is asked for
pub record IsInRange (asked : Asked) : Type 0 where
  pub two_edges : 2 ≤ asked.len
  pub len_fits : asked.len ≤ MAX_LEN
  pub one_cycle : 1 ≤ asked.max
  pub max_fits : asked.max ≤ MAX_CYCLES

-- the first part of the query that is out of its range
abbrev pub first_out_of_range : Asked → Option BadQuery
first_out_of_range asked =
    if nat_lt asked.len 2 || nat_lt MAX_LEN asked.len then Some Len
    else (if nat_lt asked.max 1 || nat_lt MAX_CYCLES asked.max then Some Max
    else None)
