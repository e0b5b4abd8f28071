use Rattle.std.proofs.Common.{refl}
use Rattle.commands.proofs.Served.{served_plan, served_refused, unserved}
use Rattle.commands.proofs.serve.carry_out.Goals as goal

pub returns-in_default : goal.returns-in_default
returns-in_default g c = record { serves = unserved _ _ _ c.in_default.ensures.value; store_room = refl; frontier_room = refl }

pub returns-in-Ok-clause-serves : goal.returns-in-Ok-clause-serves
returns-in-Ok-clause-serves g c =
    let a = c.in-Ok in
    served_plan _ _ _ _ _ _ _ _ a.verdict a.climbed a.tried c.in-Some.ensures.value c.in-Plan.is c.tell.ensures.line a.ensures.counts a.ensures.call

pub returns-in-Err-clause-serves : goal.returns-in-Err-clause-serves
returns-in-Err-clause-serves g c = served_refused _ _ _ _ _ _ _ _ _ c.in-Some.ensures.value c.in-Plan.is c.refused.ensures.line c.in-Err.ensures.call
