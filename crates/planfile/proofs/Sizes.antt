-- What an answer of the reader says of sizes.
use Rattle.std.proofs.Common.{◌≡◌, ℕ, ◌%◌, ◌≤◌, List, length, Err, None, arith}
use Rattle.strips.specs.Semantics.{State}
use Rattle.planfile.specs.File.{most_records, record_bytes, record_count}
use Rattle.planfile.specs.Reads.{read_refusal, Reads, bad, goals_false}
use Rattle.planfile.specs.declared.answer.Flaw.{Flaw}
use Rattle.planfile.specs.declared.answer.Fault.TheVariants.{Bad}
use Rattle.strips.specs.declared.action.Action.{Action}

pub whole_records : (facts s goal : State) (bs : List ℕ) → read_refusal facts s goal bs ≡ None → length bs % record_bytes ≡ 0
unfolding read_refusal
whole_records facts s goal bs e = grind arith

pub few_records : (facts s goal : State) (bs : List ℕ) → read_refusal facts s goal bs ≡ None → record_count bs ≤ most_records
unfolding read_refusal
few_records facts s goal bs e = grind arith

-- a bad record is named by a number up to that of the records
pub bad_within : (acts : List Action) (s goal : State) (bs : List ℕ) (i : ℕ) (f : Flaw) → Reads acts s goal bs (Err (Bad i f)) → i ≤ record_count bs
bad_within acts s goal bs i f (bad l a p) = omega arith
bad_within acts s goal bs i f (goals_false a p) = omega arith
