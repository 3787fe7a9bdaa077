use Rattle.std.proofs.Common.{◌≡◌, ◌<◌, [], ◌∷◌, Some, refl, subst, arith}
use Rattle.std.specs.Prelude.{slice_get}
use Rattle.std.proofs.lemmas.List.{append-nil, append_assoc}
use Rattle.std.proofs.lemmas.Option.{slice_get_read}
use Rattle.gl_segments.specs.bodies.Search.{FollowsLinks}
use Rattle.gl_segments.specs.declared.search.Link.{Link}
use Rattle.gl_segments.proofs.search.chain.Goals as goal

pub loop-at-preserved : goal.loop-at-preserved
loop-at-preserved c =
    let l : Link = c.index-found-at.result in
    let here : slice_get c.args.found.now c.loop-at.at ≡ Some l = slice_get_read c.args.found.now _ c.loop-at.at l refl c.loop-at.invariant.within c.index-found-at.is in
    let back : l.next < c.loop-at.at = c.requires.linked c.loop-at.at l c.loop-at-test.true here in
    record {
      within = omega arith;
      follows = λ rest h. rw (c.in_ok-push.ensures.items, append_assoc) (c.loop-at.invariant.follows (l.segment ∷ rest) (l, c.loop-at-test.true, here, refl, h));
    }

pub returns : goal.returns
returns c =
    let r = c.loop-at.invariant.follows [] (omega arith) in
    subst (FollowsLinks c.args.found.now c.args.from) (append-nil c.loop-at.segments.items) r
