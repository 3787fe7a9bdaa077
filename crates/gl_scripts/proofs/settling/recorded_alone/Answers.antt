use Rattle.std.proofs.Common.{sym, ap, ◌∙◌}
use Rattle.gl_engine.specs.Collecting.{Collecting}
use Rattle.gl_engine.specs.Recording.{Closed}
use Rattle.gl_engine.proofs.Alone.{only_session, only_limits}
use Rattle.gl_scripts.proofs.settling.recorded_alone.Goals as goal

pub returns-clause-sessions : goal.returns-clause-sessions
returns-clause-sessions c =
    let opened = c.in_ok-recorders.ensures in (
      ap (λ (r : Closed). r.session) c.in_ok-receipt.ensures ∙ c.record_all.ensures.session ∙ only_session _ _ _ _ opened _ c.in-Some.recorder c.in-Some.ensures.items,
      ap (λ (s : Collecting). s.session) opened.collects,
    )

pub returns-clause-limits : goal.returns-clause-limits
returns-clause-limits c =
    let opened = c.in_ok-recorders.ensures in
    ap (λ (r : Closed). r.limits) c.in_ok-receipt.ensures ∙ c.record_all.ensures.limits ∙ only_limits _ _ _ _ opened _ c.in-Some.recorder c.in-Some.ensures.items
    ∙ sym (ap (λ (s : Collecting). s.limits) opened.collects)
