use Rattle.std.proofs.Common.{◌++◌, ◌∷◌, [], get_or, ap, ◌∙◌, arith}
use Rattle.gl_lane.proofs.Running.{one_more, is_placed, still_taken}
use Rattle.gl_lane.proofs.ends.LaneOut.pop_known.Goals as goal

pub invariant_of-self-2 : goal.invariant_of-self-2
invariant_of-self-2 c = still_taken _ _ _ _ c.self.invariant c.index-self-self.result (omega (arith, c.self.invariant.within, c.if-self.false))

pub returns-clause-popped : goal.returns-clause-popped
returns-clause-popped c =
    one_more _ _ _ _ c.self.invariant c.index-self-self.result (omega (arith, c.self.invariant.within, c.if-self.false))
    ∙ ap (λ v. v.popped ++ get_or c.self.inside.run c.self.inside.popped c.index-self-self.result ∷ []) c.self.view_is

pub returns-clause-placed : goal.returns-clause-placed
returns-clause-placed c = is_placed _ _ _ _ c.self.invariant c.index-self-self.result (omega (arith, c.self.invariant.within, c.if-self.false))
