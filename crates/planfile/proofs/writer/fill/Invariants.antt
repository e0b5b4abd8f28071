use Rattle.std.proofs.Common.{◌≡◌, ◌*◌, ◌++◌, take, drop, vec_items}
use Rattle.strips.specs.Semantics.{Run}
use Rattle.planfile.specs.File.{file, record_bytes}
use Rattle.planfile.proofs.writer.fill.Given as goal

abbrev pub invariant-loop-i : goal.invariant-loop-i
invariant-loop-i l =
    Run (vec_items l.task.actions) l.start.words (take l.i l.plan) l.state.words
    × (l.out ≡ file (vec_items l.task.actions) l.start.words (take l.i l.plan) ++ drop (record_bytes * l.i) l.initial.out)
