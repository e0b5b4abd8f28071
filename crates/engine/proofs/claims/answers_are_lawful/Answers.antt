use Rattle.engine.proofs.Right.{answers_none, answers_plans, hills_run}
use Rattle.engine.proofs.Decided.{answers_counted, answers_decided, answers_short}
use Rattle.engine.proofs.claims.answers_are_lawful.Goals as goal

pub returns : goal.returns
returns c = record { plans = answers_plans; none = answers_none; decided = answers_decided; counted = answers_counted; short = answers_short; hills_run = hills_run }
