use Rattle.std.proofs.Common.{◌≡◌, ◌-◌, ◌+◌, ◌++◌, ◌∷◌, [], length, ap, ◌∙◌, arith, rules}
use Rattle.std.specs.Prelude.{slice_index, take}
use Rattle.std.proofs.lemmas.List.{length-append, length-take-le}
use Rattle.std.proofs.lemmas.Grind.{get_or_default_zero}
use Rattle.gl_segments.proofs.Unpacking.{lists_push}
use Rattle.gl_segments.proofs.packed.Packed.push.Goals as goal

pub returns : goal.returns
returns c =
    let bs = c.self.inside.bounds.items in
    let xs = c.self.inside.segments.items in
    let list = c.args.list.now in
    let start = c.index-start.result.now in
    let some = c.self.invariant.some in
    let size : c.len.result ≡ length bs = search rules in
    let last : start ≡ slice_index bs (length bs - 1) = c.index-start.ensures ∙ get_or_default_zero bs (c.len.result - 1) start (omega arith) ∙ ap (λ k. slice_index bs (k - 1)) size in
    let within = c.self.invariant.within in
    let cut = length-take-le start xs (omega arith) in
    let both = length-append (take start xs) list in
    let kept : c.extend_from_slice.new.self.items ≡ take start xs ++ list = c.in_ok-extend_from_slice.ensures.items ∙ ap (λ zs. zs ++ list) c.truncate.ensures.items in
    let end : c.len-2.result ≡ start + length list = let e = ap length kept in let l = c.len-2.ensures in omega arith in
    rw (c.in_ok-push.ensures.items, kept) (lists_push bs xs list start c.len-2.result c.self.invariant last end ∙ ap (λ ls. ls ++ list ∷ []) c.self.view_is)
