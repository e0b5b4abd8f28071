use Rattle.std.proofs.Common.{◌≡◌, ◌<◌, ◌≤◌, take, vec_items}
use Rattle.engine.specs.Generation.{posed}
use Rattle.engine.specs.HillClimbing.{Hill, longest}
use Rattle.engine.proofs.searcher.LentSearcher.hill.Given as goal

abbrev pub invariant-stretches : goal.invariant-stretches
invariant-stretches g l =
    record {
      so_far : Hill (posed g.E.Estimator.meaning g.E.Estimator.prefers (vec_items l.problem.task.now.actions) l.problem.goal.now.words (g.S.Store.room l.initial.self.store.now)) l.initial.expansions.budget l.initial.from.state.words (take l.len l.out) l.from.state.words l.from.steps l.expansions.count;
      same : g.S.Store.room l.self.store.now ≡ g.S.Store.room l.initial.self.store.now;
      lent : (l.self.estimator.ghost_name ≡ l.initial.self.estimator.ghost_name) × (l.self.store.ghost_name ≡ l.initial.self.store.ghost_name);
      budget : l.expansions.budget ≡ l.initial.expansions.budget;
      short : l.len ≤ longest;
      above : 0 < l.from.steps;
    }

abbrev pub decreases-stretches : goal.decreases-stretches
decreases-stretches g l = l.from.steps
