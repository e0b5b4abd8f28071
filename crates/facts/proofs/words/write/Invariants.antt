use Rattle.std.proofs.Common.{◌≡◌, ℕ, ◌*◌, ◌/◌, ◌%◌, ◌^◌, ◌<◌, length, get_or}
use Rattle.facts.proofs.words.write.Given as goal

abbrev pub invariant-loop-k : goal.invariant-loop-k
invariant-loop-k l = (length l.field ≡ length l.initial.field) × ((k : ℕ) → k < l.k → get_or l.field k 0 ≡ get_or l.words (k / 8) 0 / 2 ^ (8 * (k % 8)) % 256)
