use Rattle.std.proofs.Common.{vec_items}
use Rattle.std.specs.Fn.{FnReturnsAt}
use Rattle.strips.specs.Sound.{act}
use Rattle.heuristic.specs.Useful.{Picks}
use Rattle.heuristic.proofs.preference.prefer.Given as goal

abbrev pub invariant-loop-k : goal.invariant-loop-k
invariant-loop-k g l = Picks (λ j. FnReturnsAt g.F.Fn l.passes (act (vec_items l.task.actions) j)) l.k l.preferred.words
