-- What is printed of a query that is out of range.
use Rattle.std.specs.Prelude.{ℕ, List, codes}
use Rattle.gl_filters.specs.declared.query.BadQuery.{BadQuery}
use Rattle.gl_filters.specs.declared.query.BadQuery.TheVariants.{Len, Max}

-- which number is out of its range, in words
abbrev pub text_of : BadQuery → List ℕ
text_of Len = codes "the greatest length of a cycle is out of range"
text_of Max = codes "the number of cycles is out of range"
