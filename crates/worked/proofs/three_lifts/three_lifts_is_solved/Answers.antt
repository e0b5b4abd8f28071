use Rattle.std.proofs.Common.{[], ◌∷◌, refl, arith}
use Rattle.facts.specs.Field.{bytes, words}
use Rattle.facts.specs.Words.{common, none, subset, union, without}
use Rattle.planfile.specs.File.{file}
use Rattle.strips.specs.Records.{action_fault, field, header_fault, size_fault, task_fault}
use Rattle.strips.specs.Semantics.{step, stop}
use Rattle.strips.specs.Sound.{is_clash_free}
use Rattle.worked.proofs.three_lifts.three_lifts_is_solved.Goals as goal

pub returns : goal.returns
unfolding task_fault size_fault header_fault action_fault field words subset none common union without is_clash_free file bytes
returns c =
    record {
      solved =
          record {
            task = refl;
            plan = (7 ∷ 0 ∷ 0 ∷ 0 ∷ [], step (omega arith) refl (step (omega arith) refl (step (omega arith) refl stop)), refl);
            written = refl;
          };
    }
