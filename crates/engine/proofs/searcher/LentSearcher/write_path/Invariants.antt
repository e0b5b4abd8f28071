use Rattle.std.proofs.Common.{◌≡◌, ◌<◌, ◌++◌, length, take, drop}
use Rattle.engine.specs.Paths.{back, path}
use Rattle.engine.proofs.searcher.LentSearcher.write_path.Given as goal

abbrev pub invariant-loop-d : goal.invariant-loop-d
invariant-loop-d g l =
    record {
      written : back (g.S.Store.rows l.self.store.now) l.d l.at ++ drop l.d (take l.far l.out) ≡ path (g.S.Store.rows l.self.store.now) l.j;
      there : l.at.parent < length (g.S.Store.rows l.self.store.now);
    }
