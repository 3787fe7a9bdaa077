-- What is printed where there is no report.
use Rattle.std.specs.Prelude.{ℕ, List, codes}
use Rattle.gl_cycles.specs.declared.found.ReportFault.{ReportFault}
use Rattle.gl_cycles.specs.declared.found.ReportFault.TheVariants.{Inconsistent, Memory}

-- why there is none, in words
abbrev pub text_of : ReportFault → List ℕ
text_of (Inconsistent at ring) = codes "a segment precedes itself"
text_of Memory = codes "out of memory"
