use Rattle.std.proofs.Common.{Some, None, ◌∙◌, arith}
use Rattle.facts.proofs.Members.{next_in}
use Rattle.weights.proofs.Walks.{fell_step, partly_end, partly_step}
use Rattle.weights.proofs.table.Weights.lower_all.Goals as goal

pub loop-fact-preserved : goal.loop-fact-preserved
loop-fact-preserved c =
    let inv = c.loop-fact.invariant in
    let step = c.in-Some.ensures.steps in
    let next = next_in _ _ c.loop-fact.fact-iterator.from (Some c.in-Some.fact) inv.3 step.1 in (
      partly_step c.args.self.now.table c.loop-fact.self.table c.args.set.now.words c.loop-fact.fact-iterator.from c.in-Some.fact c.from.result c.next.new.self.from _
          inv.0.size c.from.ensures step.2 (omega arith) next _ _ c.lower-fell.ensures.weight inv.0,
      fell_step c.args.self.now.table c.loop-fact.self.table c.args.set.now.words c.loop-fact.fact-iterator.from c.in-Some.fact c.from.result c.next.new.self.from _
          inv.0.size c.from.ensures step.2 (omega arith) next _ _ _ _ c.requires c.lower-fell.ensures.weight c.lower-fell.ensures.fell inv.1,
      omega arith,
      step.0 ∙ inv.3,
    )

pub returns : goal.returns
returns c =
    let inv = c.loop-fact.invariant in
    record { table = partly_end _ _ c.loop-fact.fact-iterator.from _ _ c.args.self.now.sized (next_in _ _ c.loop-fact.fact-iterator.from None inv.3 c.in-None.ensures.steps.1) inv.0; fell = inv.1.0 }
