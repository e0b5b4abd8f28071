use Rattle.std.proofs.Common.{◌≡◌, vec_items}
use Rattle.closed_list.specs.Rows.{row}
use Rattle.engine.specs.Generation.{posed}
use Rattle.engine.specs.HillClimbing.{Stretch}
use Rattle.engine.proofs.searcher.LentSearcher.take_up.Given as goal

abbrev pub invariant-loop-number : goal.invariant-loop-number
invariant-loop-number g l =
    record {
      so_far : Stretch (posed g.E.Estimator.meaning g.E.Estimator.prefers (vec_items l.problem.task.now.actions) l.problem.goal.now.words (g.S.Store.room l.initial.self.store.now)) l.tries l.bound l.initial.expansions.budget l.initial.expansions.count (row (g.S.Store.rows l.initial.self.store.now) 0).state.words l.number (g.S.Store.rows l.self.store.now) l.expansions.count;
      same : g.S.Store.room l.self.store.now ≡ g.S.Store.room l.initial.self.store.now;
      lent : (l.self.estimator.ghost_name ≡ l.initial.self.estimator.ghost_name) × (l.self.store.ghost_name ≡ l.initial.self.store.ghost_name);
      budget : l.expansions.budget ≡ l.initial.expansions.budget;
    }
