use Rattle.std.proofs.Common.{sym, ◌∙◌}
use Rattle.std.specs.HashMap.{get}
use Rattle.gl_grounds.specs.Classes.{are_places}
use Rattle.gl_grounds.proofs.FirstPlaces.{class_known, class_new}
use Rattle.gl_grounds.proofs.classes.class_at.Goals as goal

pub returns-in-Some-clause-class : goal.returns-in-Some-clause-class
returns-in-Some-clause-class c = λ table pair had at is.
    (class_known table pair c.args.i (get are_places c.args.first.now) c.in-Some.class c.args.places had at is (sym (c.copied.ensures ∙ c.get.ensures.value) ∙ c.in-Some.is)).0

pub returns-in-Some-clause-firsts : goal.returns-in-Some-clause-firsts
returns-in-Some-clause-firsts c = λ table pair had at is.
    (class_known table pair c.args.i (get are_places c.args.first.now) c.in-Some.class c.args.places had at is (sym (c.copied.ensures ∙ c.get.ensures.value) ∙ c.in-Some.is)).1

pub returns-in_ok-insert-in-None-clause-class : goal.returns-in_ok-insert-in-None-clause-class
returns-in_ok-insert-in-None-clause-class c = λ table pair had at is.
    (class_new table pair c.args.i (get are_places c.args.first.now) (get are_places c.insert.new.self) c.args.places had at is (sym (c.copied.ensures ∙ c.get.ensures.value) ∙ c.in-None.is) c.in_ok-insert-in-None.ensures.updates.0).0

pub returns-in_ok-insert-in-None-clause-firsts : goal.returns-in_ok-insert-in-None-clause-firsts
returns-in_ok-insert-in-None-clause-firsts c = λ table pair had at is.
    (class_new table pair c.args.i (get are_places c.args.first.now) (get are_places c.insert.new.self) c.args.places had at is (sym (c.copied.ensures ∙ c.get.ensures.value) ∙ c.in-None.is) c.in_ok-insert-in-None.ensures.updates.0).1
