use Rattle.std.proofs.Common.{refl, arith}
use Rattle.gl_options.proofs.found.number_in.Goals as goal

pub returns-in_err-number : goal.returns-in_err-number
returns-in_err-number c = rw c.from_residual.ensures (λ n asked.
    let fits = asked.fits in
    let small = c.ranges.greatest.fits in
    c.in_err-number.ensures.none refl n (omega (arith, fits, small)) asked.value)
