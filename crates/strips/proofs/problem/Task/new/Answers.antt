use Rattle.std.proofs.Common.{ℕ, List, [], ◌∷◌, length, get_or, refl, ap, ◌∙◌, arith}
use Rattle.facts.specs.Words.{none}
use Rattle.facts.proofs.Sets.{subset_self, none_word}
use Rattle.strips.proofs.problem.Task.new.Goals as goal

pub invariant_of-result : goal.invariant_of-result
unfolding none
invariant_of-result c =
    let m = c.in_ok-actions.ensures in
    let e = c.empty-none.ensures.words in
    record {
      wide = ap length e;
      small = λ k. let z = ap (λ (ws : List ℕ). get_or ws k 0) e ∙ none_word (0 ∷ 0 ∷ 0 ∷ 0 ∷ []) refl k in omega arith;
      initial_within = subset_self _;
      goal_within = subset_self _;
      actions_within = λ k l. absurd (omega (arith, ap length m.items));
      clash_free = λ k l. absurd (omega (arith, ap length m.items));
      few = omega arith;
      room = omega arith;
    }
