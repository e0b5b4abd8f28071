use Rattle.std.proofs.Common.{sym}
use Rattle.planfile.proofs.Follow.{ok_is_plan, one_reading, plan_is_ok}
use Rattle.planfile.proofs.Sizes.{whole_records}
use Rattle.planfile.proofs.reader.read.Goals as goal

pub returns-clause-only : goal.returns-clause-only
returns-clause-only c = λ _ y r. one_reading _ _ _ _ y _ r c.follow.ensures

pub returns-clause-good_is_plan : goal.returns-clause-good_is_plan
returns-clause-good_is_plan c = ok_is_plan _ _ _ _ _ (whole_records _ _ _ c.args.bytes.now (sym c.in_ok-check.ensures)) c.follow.ensures

pub returns-clause-plan_is_good : goal.returns-clause-plan_is_good
returns-clause-plan_is_good c = λ _ p. plan_is_ok _ _ _ _ _ c.follow.ensures p
