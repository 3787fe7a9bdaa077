use Rattle.std.proofs.Common.{◌≡◌, [], ◌∷◌, ◌++◌, get_or, length, refl, sym, ap, ◌∙◌, arith}
use Rattle.std.proofs.lemmas.Option.{slice_get-get_or}
use Rattle.gl_grounds.specs.Classes.{class_of}
use Rattle.gl_grounds.proofs.FirstPlaces.{classes_more}
use Rattle.std.proofs.lemmas.Result.{err_from_is_err_and}
use Rattle.gl_grounds.proofs.classes.classes_of.Goals as goal

pub returns-in_err-class : goal.returns-in_err-class
returns-in_err-class c =
    let p = err_from_is_err_and c.from_residual-in_err-class.result c.from_residual-in_err-class.ensures.1 in
    rw p.1 (record { classes = tt; memory = λ none. omega (arith, c.loop-i-test.true, ap length none) })

pub returns-in_err-push : goal.returns-in_err-push
returns-in_err-push c =
    let p = err_from_is_err_and c.from_residual-in_err-push.result c.from_residual-in_err-push.ensures.1 in
    rw p.1 (record { classes = tt; memory = λ none. omega (arith, c.loop-i-test.true, ap length none) })

pub loop-i-preserved : goal.loop-i-preserved
loop-i-preserved c =
    let table = c.args.table.now in
    let d = c.index-table-i.result in
    let pair = get_or table c.loop-i.i d in
    let at = slice_get-get_or table c.loop-i.i d c.loop-i-test.true in
    let is : c.in_ok-class.class ≡ class_of table pair = c.in_ok-class.ensures.class table pair c.loop-i.invariant.firsts at refl in
    record {
      classes =
          c.in_ok-push.ensures.items ∙ ap (λ k. c.loop-i.classes.items ++ k ∷ []) is ∙ ap (λ cs. cs ++ class_of table pair ∷ []) c.loop-i.invariant.classes
          ∙ sym (classes_more table c.loop-i.i d c.loop-i-test.true);
      firsts = c.in_ok-class.ensures.firsts table pair c.loop-i.invariant.firsts at refl;
    }
