use Rattle.std.proofs.Common.{◌≤◌, length, ap, arith}
use Rattle.engine.specs.Paths.{back, path}
use Rattle.engine.proofs.Traces.{trace_start, trace_next}
use Rattle.engine.proofs.searcher.LentSearcher.write_path.Goals as goal

pub loop-d-init : goal.loop-d-init
loop-d-init g c =
    let rows = g.S.Store.rows c.args.self.now.store.now in
    let e = c.in-Some.ensures.found.1 in
    record { written = trace_start rows c.in-Some.at c.in-Some.at.distance c.args.out.now (path rows c.args.j) (ap (λ r. back rows r.distance r) e); there = rw e (c.requires.parents c.args.j c.requires.there) }

pub loop-d-preserved : goal.loop-d-preserved
loop-d-preserved g c =
    let rows = g.S.Store.rows c.args.self.now.store.now in
    let inv = c.loop-d.invariant in
    let e = c.in-Some-row.ensures.found.1 in
    let far = c.in-Some.at.distance in
    let fits : far ≤ length c.loop-d.out = omega (arith, c.requires.fits, ap (λ r. r.distance) c.in-Some.ensures.found.1) in
    record { written = trace_next rows c.loop-d.at c.loop-d.d far c.loop-d.out (path rows c.args.j) c.in-Some-row.parent (omega arith) (omega arith) fits e inv.written; there = rw e (c.requires.parents _ inv.there) }
