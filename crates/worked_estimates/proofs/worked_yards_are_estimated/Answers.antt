use Rattle.std.proofs.Common.{◌≡◌, refl}
use Rattle.std.proofs.lemmas.List.Elements.{All-from_recursion}
use lib.Count.{ones, ones_in}
use Rattle.facts.specs.Words.{common, has, none, size, subset, union, without}
use Rattle.heuristic.specs.GoalCount.{goals_missing}
use Rattle.heuristic.specs.Useful.{useful}
use Rattle.relaxed.specs.Extract.{pass, treated}
use Rattle.relaxed.specs.Layers.{first, grown, layer}
use Rattle.relaxed.specs.Plan.{helpful, last, relaxed_plan}
use Rattle.weights.specs.Tables.{total}
use Rattle.weights.specs.Weights.{height, lowered, opening, pass as weigh-pass, settled, weights}
use Rattle.worked_estimates.specs.Rows.{Row, rows}
use Rattle.worked_estimates.proofs.worked_yards_are_estimated.Goals as goal

pub returns : goal.returns
unfolding relaxed_plan last layer pass treated has union without subset first grown helpful useful common none goals_missing size ones ones_in weights settled opening height weigh-pass lowered total
returns c =
    record {
      rows = All-from_recursion (λ (r : Row). r.means r.acts r.goal r.state ≡ r.expected) rows (refl, (refl, (refl, (refl, (refl, (refl, (refl, (refl, (refl, (refl, (refl, (refl, (refl, (refl, (refl, (refl, tt))))))))))))))));
      helpful = refl;
    }
