use Rattle.std.proofs.Common.{[], ◌∷◌, ◌++◌, position, take, sym, ap, ◌∙◌}
use Rattle.std.specs.Prelude.{slice_get}
use Rattle.std.specs.Str.{bytes_eq}
use Rattle.std.proofs.lemmas.List.{take_more}
use Rattle.std.proofs.lemmas.Option.{get_or_from_slice_get, slice_get_within}
use Rattle.gl_std.specs.Names.{NameLists}
use Rattle.gl_renumbering.proofs.Growing.{new_after}
use Rattle.gl_renumbering.proofs.threads.names_of_threads.Goals as goal

pub add_thread-requires-clause-absent : goal.add_thread-requires-clause-absent
add_thread-requires-clause-absent c =
    let at = ap (slice_get c.args.names.now.threads) (sym c.new.ensures) ∙ c.thread.ensures in
    ap (λ (ns : NameLists). position (bytes_eq c.thread.result.now) ns.threads) c.loop-number.invariant
    ∙ new_after c.args.names.now.threads c.loop-number.number c.thread.result.now c.threads-number-end.ensures.distinct at

pub loop-number-preserved : goal.loop-number-preserved
loop-number-preserved c =
    let all = c.args.names.now.threads in
    let i = c.loop-number.number in
    let name = c.thread.result.now in
    let at = ap (slice_get all) (sym c.new.ensures) ∙ c.thread.ensures in
    c.in_ok-add_thread.ensures
    ∙ ap {A = NameLists} {B = NameLists} (λ ns. record ns { threads = ns.threads ++ name ∷ [] }) c.loop-number.invariant
    ∙ ap {B = NameLists} (λ n. record { threads = take i all ++ n ∷ []; locks = []; locs = [] }) (sym (get_or_from_slice_get all i name name at))
    ∙ ap {B = NameLists} (λ ts. record { threads = ts; locks = []; locs = [] }) (sym (take_more all i name (slice_get_within all i name at)))
