use Rattle.gl_engine.proofs.Agreeing.{record_is_take, close_is_end, pull_is_pull}
use Rattle.gl_engine.proofs.laws.running_calls_are_steps.Goals as goal

pub returns-clause-record : goal.returns-clause-record
returns-clause-record c = record_is_take

pub returns-clause-close : goal.returns-clause-close
returns-clause-close c = close_is_end

pub returns-clause-pull : goal.returns-clause-pull
returns-clause-pull c = pull_is_pull
