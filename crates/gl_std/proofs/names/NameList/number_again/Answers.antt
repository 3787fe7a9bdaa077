use Rattle.std.proofs.Common.{◌≡◌, Some, sym, subst}
use Rattle.std.specs.Prelude.{slice_get}
use Rattle.gl_std.proofs.NumberedLines.{new_stands, place_stands}
use Rattle.gl_std.proofs.names.NameList.number_again.Goals as goal

-- the name was there
pub returns-in-Some-clause-stands : goal.returns-in-Some-clause-stands
returns-in-Some-clause-stands c =
    subst (λ names. slice_get names c.in-Some.number ≡ Some c.args.name.now) (sym c.find_again.ensures.same)
    (place_stands c.args.name.now c.args.self.now c.in-Some.number c.in-Some.ensures.number)

-- it is new
pub returns-clause-stands : goal.returns-clause-stands
returns-clause-stands c = new_stands c.find_again.new.self c.add.new.self c.args.name.now c.len-number.result c.in_ok-add.ensures.ok c.len-number.ensures.len
