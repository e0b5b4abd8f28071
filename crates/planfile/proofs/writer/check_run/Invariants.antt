use Rattle.std.proofs.Common.{take, vec_items}
use Rattle.strips.specs.Semantics.{Run}
use Rattle.planfile.proofs.writer.check_run.Given as goal

abbrev pub invariant-loop-place : goal.invariant-loop-place
invariant-loop-place l = Run (vec_items l.task.actions) l.start.words (take l.place-counter l.plan) l.state.words
