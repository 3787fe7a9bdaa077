use Rattle.std.proofs.Common.{◌≡◌, ◌<◌, Some, length, All, Vec, Global, sym, ap, subst, ◌∙◌, arith}
use Rattle.std.specs.Prelude.{slice_get}
use Rattle.std.proofs.lemmas.List.{length-map}
use Rattle.std.proofs.lemmas.Result.{err_from_is_err_and}
use Rattle.gl_event.specs.declared.events.Event.{Event}
use Rattle.gl_std.specs.Trace.{IsNamed}
use Rattle.gl_writing.proofs.WrittenTexts.{lists_more, list_at, lists_whole, some_list}
use Rattle.gl_writing.proofs.writing.write_trace.Goals as goal

pub put_list-requires : goal.put_list-requires
put_list-requires c =
    let rows = c.as_slice-lists.result.now in
    let size : length c.args.trace.now.lists ≡ length rows = ap length (sym c.as_slice-lists.ensures) ∙ length-map rows (λ (v : Vec Event Global). v.items) in
    let within : c.loop-number.number < length rows = omega (arith, size, c.loop-number-test.true, c.threads-number-end.ensures.count, c.requires.one_list_each) in
    let at = list_at (λ (v : Vec Event Global). v.items) rows c.args.trace.now.lists c.loop-number.number c.index-lists-number.result c.as_slice-lists.ensures within c.index-lists-number.is in
    subst (All (IsNamed c.args.trace.now.names)) (sym c.deref.ensures.value) (c.requires.named c.loop-number.number c.index-lists-number.result.items at)

pub loop-number-preserved : goal.loop-number-preserved
loop-number-preserved c =
    let trace = c.args.trace.now in
    let rows = c.as_slice-lists.result.now in
    let size : length trace.lists ≡ length rows = ap length (sym c.as_slice-lists.ensures) ∙ length-map rows (λ (v : Vec Event Global). v.items) in
    let within : c.loop-number.number < length rows = omega (arith, size, c.loop-number-test.true, c.threads-number-end.ensures.count, c.requires.one_list_each) in
    let at = list_at (λ (v : Vec Event Global). v.items) rows trace.lists c.loop-number.number c.index-lists-number.result c.as_slice-lists.ensures within c.index-lists-number.is in
    lists_more trace.names trace.lists c.loop-number.number c.loop-number.text.items c.put_list.new.text.items c.thread-thread.result.now c.deref.result.now
    (ap (slice_get trace.names.threads) (sym c.new.ensures) ∙ c.thread-thread.ensures) (at ∙ ap (λ es. Some es) (sym c.deref.ensures.value)) c.loop-number.invariant c.in_ok-put_list.ensures.written

pub returns-clause-written : goal.returns-clause-written
returns-clause-written c = lists_whole c.args.trace.now.names c.args.trace.now.lists c.loop-number.number c.loop-number.text.items (omega (arith, c.loop-number-test.false, c.threads-number-end.ensures.count)) c.loop-number.invariant

pub returns-in_err-put_list-clause-memory : goal.returns-in_err-put_list-clause-memory
returns-in_err-put_list-clause-memory c =
    let trace = c.args.trace.now in
    let rows = c.as_slice-lists.result.now in
    let size : length trace.lists ≡ length rows = ap length (sym c.as_slice-lists.ensures) ∙ length-map rows (λ (v : Vec Event Global). v.items) in
    let within : c.loop-number.number < length rows = omega (arith, size, c.loop-number-test.true, c.threads-number-end.ensures.count, c.requires.one_list_each) in
    let at = list_at (λ (v : Vec Event Global). v.items) rows trace.lists c.loop-number.number c.index-lists-number.result c.as_slice-lists.ensures within c.index-lists-number.is in
    let p = err_from_is_err_and c.from_residual.result c.from_residual.ensures.1 in
    rw p.1 (some_list trace.names trace.lists c.loop-number.number c.thread-thread.result.now c.deref.result.now
    (ap (slice_get trace.names.threads) (sym c.new.ensures) ∙ c.thread-thread.ensures) (at ∙ ap (λ es. Some es) (sym c.deref.ensures.value)) c.in_err-put_list.ensures.memory)
