use Rattle.std.proofs.Common.{sym, subst}
use Rattle.gl_world.specs.Keeping.{Keeper, IsFrontOf}
use Rattle.gl_world.proofs.ThreadParts.{kept_popped, may_take}
use Rattle.gl_world.proofs.thread_part.ThreadPart.pop.Goals as goal

pub follow-requires : goal.follow-requires
follow-requires c =
    let front = subst (λ (k : Keeper). IsFrontOf k.limits k.thread k.lane c.args.note.now) (sym c.self.view_is) c.requires in
    may_take _ _ _ _ front c.self.inside.tracker c.self.invariant.follows c.self.invariant.range

pub invariant_of-self : goal.invariant_of-self
invariant_of-self c =
    let front = subst (λ (k : Keeper). IsFrontOf k.limits k.thread k.lane c.args.note.now) (sym c.self.view_is) c.requires in
    kept_popped _ _ _ _ front _ _ _ _ _ c.self.invariant c.follow.ensures
