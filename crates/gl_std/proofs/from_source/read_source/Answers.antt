use Rattle.std.proofs.Common.{[], map, Vec, Global, ap, ◌∙◌}
use Rattle.std.proofs.lemmas.Result.{err_from_is_err_and}
use Rattle.gl_event.specs.declared.events.Event.{Event}
use Rattle.gl_std.specs.Trace.{nothing}
use Rattle.gl_std.proofs.HeardSources.{heard_over, heard_so}
use Rattle.gl_std.proofs.from_source.read_source.Goals as goal

pub returns-clause-heard : goal.returns-clause-heard
returns-clause-heard g c =
    let start = g.R.Source.position c.args.input.now in
    heard_so c.args.limits.now c.args.turns start start (g.R.Source.position c.read_on.new.input) (g.R.Source.failed c.read_on.new.input) c.in_ok-reader.reader c.new-lists.result c.read_on.result c.read_on.ensures
    (record {
      text = [];
      told = nothing;
      reads = c.in_ok-reader.ensures.begun start;
      listed = c.new-lists.ensures ∙ ap (map (λ (v : Vec Event Global). v.items)) c.new-2.ensures.items;
    })

pub returns-clause-over : goal.returns-clause-over
returns-clause-over g c = heard_over c.args.limits.now c.args.turns _ _ _ c.read_on.result (returns-clause-heard g c)

-- memory was refused
pub returns-in_err-reader-clause-heard : goal.returns-in_err-reader-clause-heard
returns-in_err-reader-clause-heard g c =
    let p = err_from_is_err_and c.from_residual.result c.from_residual.ensures.1 in
    rw p.1 tt

pub returns-in_err-reader-clause-over : goal.returns-in_err-reader-clause-over
returns-in_err-reader-clause-over g c =
    let p = err_from_is_err_and c.from_residual.result c.from_residual.ensures.1 in
    rw p.1 tt
