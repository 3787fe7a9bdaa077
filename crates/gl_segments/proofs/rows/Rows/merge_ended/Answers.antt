use Rattle.std.proofs.Common.{◌≡◌, [], List, ℕ, Some, length, refl, sym, ap, ◌∙◌}
use Rattle.std.specs.Prelude.{slice_get, slice_index_or}
use Rattle.std.proofs.lemmas.Option.{slice_get_read}
use Rattle.gl_segments.specs.declared.rows.Row.TheVariants.{Ended}
use Rattle.gl_segments.specs.bodies.Rows.{AreClocksOf}
use Rattle.gl_segments.specs.bodies.Tables.{Has}
use Rattle.gl_segments.proofs.Sweeping.{merged_counts, part_merged}
use Rattle.gl_segments.proofs.rows.Rows.merge_ended.Goals as goal

pub returns-in_ok-merge_segment-in-Some-Ended-clause-part : goal.returns-in_ok-merge_segment-in-Some-Ended-clause-part
returns-in_ok-merge_segment-in-Some-Ended-clause-part c = λ steps target sound have step part.
    let source = c.args.source in
    let history = c.in-Some-Ended.history in
    let looked = c.in-Some-Ended.ensures.lookup in
    let rows = c.deref.result.now in
    let at = slice_get_read rows (length rows) c.number.result c.in-Some-Ended.field-0.now refl looked.3.0 looked.1 in
    let here : slice_get c.args.self.now source.thread ≡ Some (Ended history)
    = ap (λ rs. slice_get rs source.thread) (sym c.self.view_is ∙ sym c.deref.ensures.value) ∙ ap (slice_get rows) (sym c.number.ensures) ∙ at ∙ ap Some c.in-Some-Ended.field-0-is in
    let all : AreClocksOf steps source.thread history = have source.thread (Ended history) here in
    let has : Has steps source = sound.inside source target step in
    let clock : List ℕ = slice_index_or history source.index [] in
    let is = all.each source.index has in
    (part_merged steps sound clock source has is (λ counted. all.apart source.index has ((is source).0 counted)) c.args.growing.now.latest c.merge_segment.new.growing.latest _ target step part refl c.in_ok-merge_segment-in-Some-Ended.ensures.latest).0

pub returns-in_ok-merge_segment-in-Some-Ended-clause-kept : goal.returns-in_ok-merge_segment-in-Some-Ended-clause-kept
returns-in_ok-merge_segment-in-Some-Ended-clause-kept c =
    (merged_counts c.args.growing.now.latest _ c.merge_segment.new.growing.latest c.args.source _ c.requires.within c.in_ok-merge_segment-in-Some-Ended.ensures.latest).0

pub returns-in_ok-merge_segment-in-Some-Ended-clause-counted : goal.returns-in_ok-merge_segment-in-Some-Ended-clause-counted
returns-in_ok-merge_segment-in-Some-Ended-clause-counted c = λ ended.
    (merged_counts c.args.growing.now.latest _ c.merge_segment.new.growing.latest c.args.source _ c.requires.within c.in_ok-merge_segment-in-Some-Ended.ensures.latest).1
