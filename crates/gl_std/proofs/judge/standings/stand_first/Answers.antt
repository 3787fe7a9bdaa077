use Rattle.std.proofs.Common.{[], ◌∷◌, ◌++◌, refl, sym, subst}
use Rattle.gl_std.specs.Standings.{AreStanding}
use Rattle.gl_std.proofs.JudgedLines.{standing_push}
use Rattle.gl_std.proofs.judge.standings.stand_first.Goals as goal

pub returns-in_ok-push-in-Kept-clause-stands : goal.returns-in_ok-push-in-Kept-clause-stands
returns-in_ok-push-in-Kept-clause-stands c =
    let own = c.in-Kept.ensures.kept refl [] c.new-standing.ensures.stands in
    record {
      kept = λ kept lists are. subst (AreStanding (lists ++ (c.args.event ∷ []) ∷ [])) (sym c.in_ok-push-in-Kept.ensures.items) (standing_push lists c.args.standings.now.items (c.args.event ∷ []) c.rule.new.state are own);
      stray = λ stray. cc;
    }
