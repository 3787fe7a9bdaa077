-- What is printed where there is no order.
use Rattle.std.specs.Prelude.{ℕ, List, codes}
use Rattle.gl_segments.specs.declared.faults.OrderFault.{OrderFault}
use Rattle.gl_segments.specs.declared.faults.OrderFault.TheVariants.{Inconsistent, Memory}

-- why there is none, in words
abbrev pub text_of : OrderFault → List ℕ
text_of (Inconsistent at ring) = codes "a segment precedes itself"
text_of Memory = codes "out of memory"
