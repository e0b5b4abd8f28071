use Rattle.std.proofs.Common.{ap}
use lib.Bits.{bit_and}
use Rattle.std.proofs.lemmas.Nat.{and_le_r}
use Rattle.hashed_list.specs.Buckets.{bucket}
use Rattle.hashed_list.proofs.hashed.bucket.Goals as goal

pub returns : goal.returns
unfolding bucket
returns c = record { value = ap (λ d. bit_and d c.args.mask) c.digest.ensures; within = and_le_r _ _ }
