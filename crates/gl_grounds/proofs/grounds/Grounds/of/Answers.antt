use Rattle.std.proofs.Common.{length, sym, ap, subst, ◌∙◌}
use Rattle.std.proofs.lemmas.List.{length-map}
use Rattle.std.proofs.lemmas.Result.{err_from_is_err_and}
use Rattle.gl_grounds.specs.Classes.{class_of, classes_of}
use Rattle.gl_grounds.specs.Models.{IsNextClass}
use Rattle.gl_grounds.proofs.grounds.Grounds.of.Goals as goal

pub returns : goal.returns
returns c = λ before mode len keeps.
    let table = c.args.edges.now in
    let classed = c.in_ok-classed.ensures in
    let models = classed.models in
    let next = c.in_ok-relations.ensures.next in
    let runners = c.in_ok-relations.ensures.runners in
    let passages = c.in_ok-relations.ensures.passages in
    let holders = c.in_ok-look_ups.ensures.holders in
    let closers = c.in_ok-look_ups.ensures.closers in
    let begins = c.in_ok-look_ups.ensures.begins mode len in
    rw c.with.ensures (record {
      same_classes = classed.classes;
      keeps = keeps;
      long = classed.long;
      have = rw (c.deref.ensures.value, classed.classes) at models;
      follow = subst (λ n. IsNextClass n (classes_of table) c.in_ok-classed.classed.models.items c.in_ok-relations.relations.next.items)
          (length-map table (class_of table))
          (rw (c.deref-3.ensures.value, c.deref-4.ensures.value, classed.classes) at next);
      run = rw (c.entries-table.ensures.pairs, c.deref-2.ensures.value, c.deref-3.ensures.value, classed.classes) at runners;
      pass = rw (c.entries-table.ensures.pairs, c.deref-3.ensures.value, c.deref-4.ensures.value, classed.classes) at passages;
      held_by = rw (c.entries-table.ensures.pairs, c.deref-6.ensures.value) at holders;
      closed_by = rw (c.entries-table.ensures.pairs, c.deref-6.ensures.value) at closers;
      begin = rw (c.entries-table.ensures.pairs, c.deref-5.ensures.value, c.deref-6.ensures.value, classed.classes) at begins;
    })

pub of-requires : goal.of-requires
of-requires c = ap length c.deref.ensures.value ∙ c.requires

pub of-requires-2-clause-kept : goal.of-requires-2-clause-kept
of-requires-2-clause-kept c = ap length c.deref-2.ensures.value ∙ c.requires ∙ sym (ap length c.entries-table.ensures.pairs)

pub of-requires-2-clause-classes : goal.of-requires-2-clause-classes
of-requires-2-clause-classes c =
    let table = c.args.edges.now in
    ap length (c.deref-3.ensures.value ∙ c.in_ok-classed.ensures.classes) ∙ length-map table (class_of table) ∙ sym (ap length c.entries-table.ensures.pairs)

pub of-requires-2-clause-models : goal.of-requires-2-clause-models
of-requires-2-clause-models c = ap length c.deref-4.ensures.value ∙ c.in_ok-classed.ensures.long ∙ sym (ap length c.entries-table.ensures.pairs)

pub of-requires-3-clause-classes : goal.of-requires-3-clause-classes
of-requires-3-clause-classes c =
    let table = c.args.edges.now in
    ap length (c.deref-5.ensures.value ∙ c.in_ok-classed.ensures.classes) ∙ length-map table (class_of table) ∙ sym (ap length c.entries-table.ensures.pairs)

pub of-requires-3-clause-models : goal.of-requires-3-clause-models
of-requires-3-clause-models c = ap length c.deref-6.ensures.value ∙ c.in_ok-classed.ensures.long ∙ sym (ap length c.entries-table.ensures.pairs)

pub returns-in_err-classed : goal.returns-in_err-classed
returns-in_err-classed c =
    let p = err_from_is_err_and c.from_residual.result c.from_residual.ensures.1 in
    rw p.1 tt

pub returns-in_err-relations : goal.returns-in_err-relations
returns-in_err-relations c =
    let p = err_from_is_err_and c.from_residual-in_err-relations.result c.from_residual-in_err-relations.ensures.1 in
    rw p.1 tt

pub returns-in_err-look_ups : goal.returns-in_err-look_ups
returns-in_err-look_ups c =
    let p = err_from_is_err_and c.from_residual-in_err-look_ups.result c.from_residual-in_err-look_ups.ensures.1 in
    rw p.1 tt
