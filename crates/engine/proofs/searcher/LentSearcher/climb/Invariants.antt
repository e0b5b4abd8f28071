use Rattle.std.proofs.Common.{◌≡◌, vec_items}
use Rattle.engine.specs.Generation.{posed}
use Rattle.engine.specs.HillClimbing.{Climb}
use Rattle.engine.proofs.searcher.LentSearcher.climb.Given as goal

abbrev pub invariant-loop-k : goal.invariant-loop-k
invariant-loop-k g l =
    record {
      so_far : Climb (posed g.E.Estimator.meaning g.E.Estimator.prefers (vec_items l.problem.task.now.actions) l.problem.goal.now.words (g.S.Store.room l.fn.self.store.now)) l.fn.tries l.bound l.parent.number l.parent.row (g.S.Store.rows l.fn.self.store.now) l.k (g.S.Store.rows l.self.store.now);
      same : g.S.Store.room l.self.store.now ≡ g.S.Store.room l.fn.self.store.now;
      lent : (l.self.estimator.ghost_name ≡ l.fn.self.estimator.ghost_name) × (l.self.store.ghost_name ≡ l.fn.self.store.ghost_name);
    }
