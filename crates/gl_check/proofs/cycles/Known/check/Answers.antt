use Rattle.std.proofs.Common.{◌≡◌, ◌⊎◌, true, length, map, sym, ap, subst, ◌∙◌, arith}
use Rattle.std.specs.List.{list_all}
use Rattle.std.proofs.lemmas.Result.{err_from_is_err_and}
use Rattle.std.proofs.lemmas.Simd.{map-map}
use Rattle.serde_json.specs.View.{view}
use Rattle.gl_segments.specs.Clocks.{is_before}
use Rattle.gl_check.specs.Checked.{AreListedAt}
use Rattle.gl_check.specs.Cycles.{AreCyclesOf, IsFirstFault}
use Rattle.gl_check.specs.Shape.{asked_in, cycles_shown, format_in, is_listing, items_in, listing_in, listings_in}
use Rattle.gl_check.specs.declared.faults.CheckFault.TheVariants.{Memory}
use Rattle.gl_check.proofs.Faulty.{false_cycles, false_trim}
use Rattle.gl_check.proofs.Tables.{retold}
use Rattle.gl_check.proofs.Truth.{as_many, listings_are}
use Rattle.gl_check.proofs.cycles.Known.check.Goals as goal

pub check_cycles-requires-clause-listings : goal.check_cycles-requires-clause-listings
check_cycles-requires-clause-listings c =
    let known = c.args.self.now in
    let d = view c.args.value.now in
    let all = listings_are known.names.now known.edges.now (is_before known.order.now) d c.requires.shaped c.in_ok-check_edges.ensures.ok in
    subst (λ ds. list_all (is_listing known.format (length known.edges.now)) ds ≡ true) (sym c.listings_in-cycles.ensures)
    (subst (λ format. list_all (is_listing format (length known.edges.now)) (listings_in format d) ≡ true) (sym c.requires.format) all)

pub returns-in_err-count-clause-fault : goal.returns-in_err-count-clause-fault
returns-in_err-count-clause-fault c =
    let p = err_from_is_err_and c.from_residual-in_err-count.result c.from_residual-in_err-count.ensures.1 in
    let known = c.args.self.now in
    let d = view c.args.value.now in
    let before = is_before known.order.now in
    let listed : map (λ cycle. items_in (view cycle)) c.listings_in-cycles.result.now ≡ cycles_shown d =
    sym (map-map items_in view c.listings_in-cycles.result.now) ∙ ap (map items_in) (c.listings_in-cycles.ensures ∙ ap (λ format. listings_in format d) c.requires.format) in
    let fault = c.in_err-count.field-0.0 in
    let first : (fault ≡ Memory) ⊎ IsFirstFault (format_in d) known.names.now known.edges.now before (asked_in d) (cycles_shown d) fault =
    retold (λ format asked cycles. (fault ≡ Memory) ⊎ IsFirstFault format known.names.now known.edges.now before asked cycles fault) known.format (format_in d) known.query (asked_in d) _ (cycles_shown d)
    c.requires.format c.requires.query listed c.in_err-count.ensures.fault in
    rw (p.1, p.2) (false_cycles known.names.now known.edges.now before d fault c.in_ok-check_edges.ensures.ok first)

pub returns-in_err-acyclic-clause-fault : goal.returns-in_err-acyclic-clause-fault
returns-in_err-acyclic-clause-fault c =
    let p = err_from_is_err_and c.from_residual-in_err-acyclic.result c.from_residual-in_err-acyclic.ensures.1 in
    let known = c.args.self.now in
    let d = view c.args.value.now in
    let before = is_before known.order.now in
    let listed : map (λ cycle. items_in (view cycle)) c.listings_in-cycles.result.now ≡ cycles_shown d =
    sym (map-map items_in view c.listings_in-cycles.result.now) ∙ ap (map items_in) (c.listings_in-cycles.ensures ∙ ap (λ format. listings_in format d) c.requires.format) in
    let counted = c.in_ok-count.ensures.cycles in
    let are : AreListedAt known.names.now known.edges.now before d counted.0 =
    retold (λ format asked cycles. AreCyclesOf format known.names.now known.edges.now before asked cycles counted.0) known.format (format_in d) known.query (asked_in d) _ (cycles_shown d)
    c.requires.format c.requires.query listed counted.1 in
    rw (p.1, p.2) (false_trim known.names.now known.edges.now before d c.in_err-acyclic.field-0.0 counted.0 c.in_ok-check_edges.ensures.ok are c.in_err-acyclic.ensures.fault)

pub overflow_cast-result : goal.overflow_cast-result
overflow_cast-result c =
    let known = c.args.self.now in
    let d = view c.args.value.now in
    let before = is_before known.order.now in
    let listed : map (λ cycle. items_in (view cycle)) c.listings_in-cycles.result.now ≡ cycles_shown d =
    sym (map-map items_in view c.listings_in-cycles.result.now) ∙ ap (map items_in) (c.listings_in-cycles.ensures ∙ ap (λ format. listings_in format d) c.requires.format) in
    let counted = c.in_ok-count.ensures.cycles in
    let are : AreListedAt known.names.now known.edges.now before d counted.0 =
    retold (λ format asked cycles. AreCyclesOf format known.names.now known.edges.now before asked cycles counted.0) known.format (format_in d) known.query (asked_in d) _ (cycles_shown d)
    c.requires.format c.requires.query listed counted.1 in
    let many = as_many (format_in d) known.names.now known.edges.now before (asked_in d) d counted.0 are in
    let few = c.requires.few in
    omega (arith, many, few, counted.2)

pub returns-clause-ok : goal.returns-clause-ok
returns-clause-ok c =
    let known = c.args.self.now in
    let d = view c.args.value.now in
    let before = is_before known.order.now in
    let listed : map (λ cycle. items_in (view cycle)) c.listings_in-cycles.result.now ≡ cycles_shown d =
    sym (map-map items_in view c.listings_in-cycles.result.now) ∙ ap (map items_in) (c.listings_in-cycles.ensures ∙ ap (λ format. listings_in format d) c.requires.format) in
    let counted = c.in_ok-count.ensures.cycles in
    let are : AreListedAt known.names.now known.edges.now before d counted.0 =
    retold (λ format asked cycles. AreCyclesOf format known.names.now known.edges.now before asked cycles counted.0) known.format (format_in d) known.query (asked_in d) _ (cycles_shown d)
    c.requires.format c.requires.query listed counted.1 in (
      counted.0,
      record { printed_table = c.in_ok-check_edges.ensures.ok; cycles = are; trim = c.in_ok-acyclic.ensures.whole },
      c.listing_of-listing.ensures ∙ ap listing_in c.requires.format,
      counted.2,
      c.in_ok-acyclic.ensures.trimmed,
    )
