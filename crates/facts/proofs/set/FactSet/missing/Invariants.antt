use Rattle.std.proofs.Common.{◌≡◌, ◌*◌, ◌≤◌, take}
use Rattle.facts.specs.Words.{size, without}
use Rattle.facts.proofs.set.FactSet.missing.Given as goal

abbrev pub invariant-loop-i : goal.invariant-loop-i
invariant-loop-i l = (l.count ≤ 64 * l.i) × (l.count ≡ size (take l.i (without l.self.words l.state.words)))
