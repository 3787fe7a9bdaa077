use Rattle.std.proofs.Common.{◌≡◌, map, Ok, ap, ◌∙◌, length}
use Rattle.std.proofs.lemmas.Result.{IfOk-weaker}
use Rattle.std.specs.Prelude.{IfOk}
use Rattle.rayon.proofs.ToStd.{slice-AllZip}
use Rattle.gl_edges.specs.bodies.Sharing.{edges_of_places}
use Rattle.gl_edges.proofs.Apart.{pieces_of, share_within}
use Rattle.gl_edges.proofs.long_list.edges_of_each_part.Goals as goal

pub gathered-requires-clause-ready : goal.gathered-requires-clause-ready
gathered-requires-clause-ready g c κs within =
    let slice = ap (λ it. it.slice.now) c.map-chain.ensures.base ∙ c.par_iter.ensures in
    rw (slice, c.map-chain.ensures.f)
    (λ k d lt x is.
    let (forth, end) = share_within 0 c.args.parts.now (length c.args.list.now) c.requires.dealt k d lt in
    (rw is (forth, end, c.requires.lawful), λ y p. tt))

pub returns : goal.returns
returns g c =
    let list = c.args.list.now in
    let slice = ap (λ it. it.slice.now) c.map-chain.ensures.base ∙ c.par_iter.ensures in
    IfOk-weaker c.gathered.result _ _
    (λ v given.
    let chain = rw c.map-chain.ensures.f at given in
    pieces_of _ (edges_of_places c.args.thread list) c.args.parts.now v.items
    (slice-AllZip chain.0 c.args.parts.now (chain.1 ∙ slice) (λ part r. IfOk r (λ piece. piece ≡ edges_of_places c.args.thread list part)) (map Ok v.items) chain.2))
    c.gathered.ensures
