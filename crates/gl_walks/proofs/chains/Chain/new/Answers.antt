use Rattle.std.proofs.Common.{ap, arith}
use Rattle.std.specs.Map.{lookup}
use Rattle.gl_walks.specs.bodies.Listing.{same_key}
use Rattle.gl_walks.proofs.Listed.{none_listed}
use Rattle.gl_walks.proofs.chains.Chain.new.Goals as goal

pub returns : goal.returns
returns c = λ key. none_listed key c.args.size _ c.in_ok-vec.field-0.items (omega (arith, c.in_ok-vec.field-0.ok.0, c.in_ok-vec.ensures.len)) (λ k. ap (λ es. lookup (λ q. same_key k q) es) c.new.ensures.empty)
