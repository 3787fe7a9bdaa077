use Rattle.std.proofs.Common.{refl, arith}
use Rattle.gl_options.proofs.found.query_in.Goals as goal

pub returns-in_err-len : goal.returns-in_err-len
returns-in_err-len c = rw c.from_residual-in_err-len.ensures (λ q asks.
    let fits = asks.range.len_fits in
    c.in_err-len.ensures.none refl q.len (omega arith) asks.len)

pub returns-in_err-max : goal.returns-in_err-max
returns-in_err-max c = rw c.from_residual-in_err-max.ensures (λ q asks.
    let fits = asks.range.max_fits in
    c.in_err-max.ensures.none refl q.max (omega arith) asks.max)
