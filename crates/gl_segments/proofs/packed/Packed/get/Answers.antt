use Rattle.std.proofs.Common.{◌≡◌, ◌+◌, ◌<◌, [], length, sym, ap, subst, ◌∙◌, arith, rules}
use Rattle.std.specs.Prelude.{slice_index, slice_index_or}
use Rattle.std.proofs.lemmas.Grind.{get_or_default_zero}
use Rattle.gl_segments.specs.bodies.Packing.{between, lists_between}
use Rattle.gl_segments.proofs.Unpacking.{length_lists, list_at}
use Rattle.gl_segments.proofs.packed.Packed.get.Goals as goal

pub index-requires : goal.index-requires
index-requires c =
    let bs = c.self.inside.bounds.items in
    let xs = c.self.inside.segments.items in
    let view : length (lists_between bs xs) ≡ length c.args.self.now = ap length c.self.view_is in
    let all = length_lists bs xs in
    search rules

pub overflow_add-at : goal.overflow_add-at
overflow_add-at c =
    let bs = c.self.inside.bounds.items in
    let xs = c.self.inside.segments.items in
    let view : length (lists_between bs xs) ≡ length c.args.self.now = ap length c.self.view_is in
    let all = length_lists bs xs in
    search rules

pub index-requires-2 : goal.index-requires-2
index-requires-2 c =
    let bs = c.self.inside.bounds.items in
    let xs = c.self.inside.segments.items in
    let view : length (lists_between bs xs) ≡ length c.args.self.now = ap length c.self.view_is in
    let all = length_lists bs xs in
    search rules

pub part-requires-clause-rising : goal.part-requires-clause-rising
part-requires-clause-rising c =
    let bs = c.self.inside.bounds.items in
    let xs = c.self.inside.segments.items in
    let view : length (lists_between bs xs) ≡ length c.args.self.now = ap length c.self.view_is in
    let all = length_lists bs xs in
    let some = c.self.invariant.some in
    let within : c.args.at + 1 < length bs = let r = c.requires in omega arith in
    let start : c.index.result.now ≡ slice_index bs c.args.at = c.index.ensures ∙ get_or_default_zero bs c.args.at c.index.result.now (omega arith) in
    let end : c.index-2.result.now ≡ slice_index bs (c.args.at + 1) = c.index-2.ensures ∙ get_or_default_zero bs (c.args.at + 1) c.index-2.result.now within in
    let r = c.self.invariant.rising c.args.at within in
    omega arith

pub part-requires-clause-within : goal.part-requires-clause-within
part-requires-clause-within c =
    let bs = c.self.inside.bounds.items in
    let xs = c.self.inside.segments.items in
    let view : length (lists_between bs xs) ≡ length c.args.self.now = ap length c.self.view_is in
    let all = length_lists bs xs in
    let some = c.self.invariant.some in
    let within : c.args.at + 1 < length bs = let r = c.requires in omega arith in
    let start : c.index.result.now ≡ slice_index bs c.args.at = c.index.ensures ∙ get_or_default_zero bs c.args.at c.index.result.now (omega arith) in
    let end : c.index-2.result.now ≡ slice_index bs (c.args.at + 1) = c.index-2.ensures ∙ get_or_default_zero bs (c.args.at + 1) c.index-2.result.now within in
    let u = c.self.invariant.up_to_last (c.args.at + 1) within in
    let w = c.self.invariant.within in
    let same = ap length c.deref.ensures.value in
    omega arith

pub returns : goal.returns
returns c =
    let bs = c.self.inside.bounds.items in
    let xs = c.self.inside.segments.items in
    let view : length (lists_between bs xs) ≡ length c.args.self.now = ap length c.self.view_is in
    let all = length_lists bs xs in
    let some = c.self.invariant.some in
    let within : c.args.at + 1 < length bs = let r = c.requires in omega arith in
    let start : c.index.result.now ≡ slice_index bs c.args.at = c.index.ensures ∙ get_or_default_zero bs c.args.at c.index.result.now (omega arith) in
    let end : c.index-2.result.now ≡ slice_index bs (c.args.at + 1) = c.index-2.ensures ∙ get_or_default_zero bs (c.args.at + 1) c.index-2.result.now within in
    let here = list_at bs xs c.args.at (omega arith) in
    let is = c.part.ensures ∙ ap (λ a. between a c.index-2.result.now c.deref.result.now) start ∙ ap (λ b. between (slice_index bs c.args.at) b c.deref.result.now) end
    ∙ ap (between (slice_index bs c.args.at) (slice_index bs (c.args.at + 1))) c.deref.ensures.value in
    subst (λ v. c.part.result.now ≡ slice_index_or v c.args.at []) c.self.view_is (is ∙ sym here)
