use Rattle.std.proofs.Common.{sym}
use Rattle.gl_edges.proofs.Apart.{if_ok}
use Rattle.gl_edges.proofs.parallel.gathered.Goals as goal

pub collect-requires-clause-ready : goal.collect-requires-clause-ready
collect-requires-clause-ready g c κs within = rw c.with_min_len.ensures.base c.requires.ready

pub returns : goal.returns
returns g c =
    let h = c.in_ok-found.ensures in
    if_ok c.in_ok-found.found _ _ _ h.2
    (λ v is. rw (is.2, sym is.1) (rw c.with_min_len.ensures.base at h.1))
