use Rattle.std.proofs.Common.{Some, None, ◌∙◌, arith, rules}
use Rattle.facts.proofs.Members.{next_in}
use Rattle.weights.specs.Tables.{total}
use Rattle.weights.proofs.Walks.{total_end, total_step}
use Rattle.weights.proofs.table.Weights.total.Goals as goal

pub loop-fact-init : goal.loop-fact-init
unfolding total
loop-fact-init c = search rules

pub loop-fact-preserved : goal.loop-fact-preserved
loop-fact-preserved c =
    let inv = c.loop-fact.invariant in
    let step = c.in-Some.ensures.steps in (
      total_step c.args.self.now.table c.args.self.now.table c.args.set.now.words c.loop-fact.fact-iterator.from c.in-Some.fact c.from.result c.next.new.self.from _
          c.args.self.now.sized c.from.ensures step.2 (omega arith) (next_in _ _ c.loop-fact.fact-iterator.from (Some c.in-Some.fact) inv.2 step.1) _ _ c.plus-sum.ensures inv.0,
      omega arith,
      step.0 ∙ inv.2,
    )

pub returns : goal.returns
returns c =
    let inv = c.loop-fact.invariant in
    total_end _ _ c.loop-fact.fact-iterator.from _ inv.1 (next_in _ _ c.loop-fact.fact-iterator.from None inv.2 c.in-None.ensures.steps.1) inv.0
