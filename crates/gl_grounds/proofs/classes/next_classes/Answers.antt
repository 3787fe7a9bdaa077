use Rattle.std.proofs.Common.{length, subst}
use Rattle.std.proofs.lemmas.Result.{IfOk-weaker}
use Rattle.gl_grounds.specs.bodies.Classing.{AreNextFrom}
use Rattle.gl_grounds.specs.Models.{IsNextClass}
use Rattle.gl_grounds.proofs.NextFlagged.{next_of_classes}
use Rattle.gl_grounds.proofs.classes.next_classes.Goals as goal

pub returns : goal.returns
returns c =
    let occurs = c.in_ok-occurs.occurs.items in
    IfOk-weaker c.nexts_of.result (λ nexts. AreNextFrom 0 (length c.deref.result.now) c.deref.result.now nexts.items) (λ nexts. IsNextClass (length c.args.classes.now) c.args.classes.now c.args.flags.now nexts.items)
    (λ nexts next.
    next_of_classes c.args.classes.now nexts.items c.args.flags.now occurs c.in_ok-occurs.ensures.long c.in_ok-occurs.ensures.flagged (subst (λ l. AreNextFrom 0 (length l) l nexts.items) c.deref.ensures.value next))
    c.nexts_of.ensures
