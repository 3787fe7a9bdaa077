use Rattle.gl_bytes.proofs.Nearby.{found_in_rest, absent_in_rest}
use Rattle.gl_bytes.proofs.near.find_far.Goals as goal

pub returns-in-Some : goal.returns-in-Some
returns-in-Some c = found_in_rest c.args.byte c.args.text.now c.args.from c.in-Some.place c.requires c.in-Some.ensures

pub returns-in-None : goal.returns-in-None
returns-in-None c = absent_in_rest c.args.byte c.args.text.now c.args.from c.requires c.in-None.ensures
