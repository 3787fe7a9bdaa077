use Rattle.std.proofs.Common.{◌+◌, ap, sym, ◌∙◌, arith}
use Rattle.std.proofs.lemmas.List.{length-map}
use Rattle.std.proofs.lemmas.Result.{IfOk-weaker}
use Rattle.gl_edges.specs.Edges.{edges_made_from, once}
use Rattle.gl_edges.proofs.Apart.{ends_at, first_only, list_of_share, map_share, only_edges, only_list}
use Rattle.gl_edges.proofs.parallel.edges_of_one.Goals as goal

pub edges_from-requires : goal.edges_from-requires
edges_from-requires g c =
    let share = c.args.share in
    let lists = c.args.lists.now in
    let (forth, within) = c.requires.within in
    let lawful = c.requires.lawful in
    let ends = ends_at lists share.from share.to forth within in
    record {
      few = omega (arith, ends, within, length-map lists (λ v. v.items), lawful.few);
      lawful = λ index es is. lawful.each (share.from + index) es (list_of_share (λ v. v.items) lists share index es is);
    }

pub returns : goal.returns
returns g c =
    let share = c.args.share in
    IfOk-weaker c.edges_from.result _ _ (λ l is. is ∙ ap (λ ls. once (edges_made_from share.from ls)) (sym (map_share (λ v. v.items) c.args.lists.now share))) c.edges_from.ensures

pub edges_of_long_list-requires-clause-lawful : goal.edges_of_long_list-requires-clause-lawful
edges_of_long_list-requires-clause-lawful g c κs within =
    let only = first_only _ c.list-item.result c.in-len1.len_at_least c.in-len1.len_below c.list-item.is in
    rw (c.new.ensures, c.as_slice.ensures.value) (c.requires.lawful.each c.args.share.from c.list-item.result.items (only_list (λ v. v.items) c.args.lists.now c.args.share c.list-item.result only))

pub returns-then-is_long : goal.returns-then-is_long
returns-then-is_long g c =
    let only = first_only _ c.list-item.result c.in-len1.len_at_least c.in-len1.len_below c.list-item.is in
    let is = rw (c.new.ensures, c.as_slice.ensures.value) at c.edges_of_long_list.ensures in
    IfOk-weaker c.edges_of_long_list.result _ _ (λ l it. it ∙ only_edges (λ v. v.items) c.args.lists.now c.args.share c.list-item.result only) is
