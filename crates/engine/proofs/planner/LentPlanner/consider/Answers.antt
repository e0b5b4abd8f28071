use Rattle.std.proofs.Common.{◌<◌, length, arith}
use Rattle.engine.specs.BestFirst.{passed, full, reached, never, waits}
use Rattle.engine.proofs.Bests.{put_done}
use Rattle.engine.proofs.Gens.{handed_on}
use Rattle.engine.proofs.planner.LentPlanner.consider.Goals as goal

pub returns-in_err-entered-clause-change : goal.returns-in_err-entered-clause-change
returns-in_err-entered-clause-change g c = rw (handed_on c.from_residual.result _ c.from_residual.ensures.1) (full c.in_err-entered.ensures.change)

pub returns-in_default-clause-change : goal.returns-in_default-clause-change
returns-in_default-clause-change g c = passed (rw c.in_default.is at c.in_ok-entered.ensures.change)

pub returns-in_default-estimate-clause-change : goal.returns-in_default-estimate-clause-change
returns-in_default-estimate-clause-change g c = never (rw c.in-Some.is at c.in_ok-entered.ensures.change) c.in_default-estimate.is

pub returns-then-estimate-eq0-clause-change : goal.returns-then-estimate-eq0-clause-change
returns-then-estimate-eq0-clause-change g c = reached (rw c.in-Some.is at c.in_ok-entered.ensures.change) (cc (c.in-Steps.is, c.if-estimate-eq0.true))

pub returns-clause-change : goal.returns-clause-change
returns-clause-change g c =
    let fits : length (g.F.Frontier.waiting c.args.self.now.frontier.now) < g.F.Frontier.room c.args.self.now.frontier.now = omega (arith, g.met.S.Store.few c.args.self.now.searcher.store.now) in
    waits (rw c.in-Some.is at c.in_ok-entered.ensures.change) c.in-Steps.is (omega arith) (put_done _ _ _ _ _ fits c.put-put.ensures.change)
