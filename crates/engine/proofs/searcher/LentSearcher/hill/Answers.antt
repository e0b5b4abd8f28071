use Rattle.std.proofs.Common.{◌++◌, take, refl, ap, ◌∙◌, arith, length-take-le}
use Rattle.engine.specs.HillClimbing as hills
use Rattle.engine.specs.HillClimbing.{failed}
use Rattle.engine.proofs.Hills.{leg_at, leg_better, leg_tree, hill_told, too_long_as, on_as, done_as}
use Rattle.engine.proofs.Lent.{take_lent}
use Rattle.engine.proofs.searcher.LentSearcher.hill.Goals as goal

pub stretches-init : goal.stretches-init
stretches-init g c = record { so_far = rw c.requires.begun (hills.Hill.start c.requires.told); same = refl; lent = (refl, refl); budget = refl; short = omega arith; above = c.requires.above }

pub leg-requires-clause-told : goal.leg-requires-clause-told
leg-requires-clause-told g c = hill_told c.stretches.invariant.so_far

pub returns-in_default-clause-climbs : goal.returns-in_default-clause-climbs
returns-in_default-clause-climbs g c =
    let inv = c.stretches.invariant in
    failed inv.so_far inv.above (rw c.in_default.is at (leg_at _ _ _ _ _ inv.same _ _ inv.budget c.leg.ensures.leg)) tt

pub returns-in_default-end-clause-climbs : goal.returns-in_default-end-clause-climbs
returns-in_default-end-clause-climbs g c =
    let inv = c.stretches.invariant in
    failed inv.so_far inv.above (rw c.in_default-end.is at (leg_at _ _ _ _ _ inv.same _ _ inv.budget c.in-Ok.ensures.leg)) tt

pub unreachable-requires : goal.unreachable-requires
unreachable-requires g c =
    let l = leg_at _ _ _ _ _ c.stretches.invariant.same _ _ c.stretches.invariant.budget (rw c.in-Some.is at c.in-Ok.ensures.leg) in
    omega (arith, (leg_better l).0, c.in_default-row.ensures.found)

pub returns-then-at-len-clause-climbs : goal.returns-then-at-len-clause-climbs
returns-then-at-len-clause-climbs g c =
    let inv = c.stretches.invariant in
    let l = leg_at _ _ _ _ _ inv.same _ _ inv.budget (rw c.in-Some.is at c.in-Ok.ensures.leg) in
    let taken = length-take-le c.stretches.len c.stretches.out (omega (arith, inv.short)) in
    too_long_as inv.so_far inv.above _ _ c.in-Some.better l c.in-Some-row.at c.in-Some-row.ensures.found.1 c.stretches.len taken (omega (arith, inv.short))

pub write_path-len-requires-clause-parents : goal.write_path-len-requires-clause-parents
write_path-len-requires-clause-parents g c = (leg_tree (rw c.in-Some.is at c.in-Ok.ensures.leg)).parents

pub returns-then-better-eq0-clause-climbs : goal.returns-then-better-eq0-clause-climbs
returns-then-better-eq0-clause-climbs g c =
    let inv = c.stretches.invariant in
    let l = leg_at _ _ _ _ _ inv.same _ _ inv.budget (rw c.in-Some.is at c.in-Ok.ensures.leg) in
    let at = c.in-Some-row.ensures.found.1 in
    let far = ap (λ r. r.distance) at in
    let out = c.stretches.out in
    let len = c.stretches.len in
    let taken = length-take-le len out (omega (arith, inv.short)) in
    let joined = take_lent len _ c.write_path-len.result out c.write_path-len.new.out (omega (arith, inv.short)) (omega (arith, far, c.write_path-len.ensures.far)) ∙ ap (λ z. take len out ++ z) c.write_path-len.ensures.path in
    done_as (on_as inv.so_far inv.above _ _ c.in-Some.better l c.in-Some-row.at at len taken (omega (arith, inv.short)) _ joined) c.if-better-eq0.true

pub stretches-smaller : goal.stretches-smaller
stretches-smaller g c = (leg_better (rw c.in-Some.is at c.in-Ok.ensures.leg)).2

pub stretches-preserved : goal.stretches-preserved
stretches-preserved g c =
    let inv = c.stretches.invariant in
    let e = c.in-Ok.ensures in
    let l = leg_at _ _ _ _ _ inv.same _ _ inv.budget (rw c.in-Some.is at e.leg) in
    let at = c.in-Some-row.ensures.found.1 in
    let far = ap (λ r. r.distance) at in
    let out = c.stretches.out in
    let len = c.stretches.len in
    let taken = length-take-le len out (omega (arith, inv.short)) in
    let joined = take_lent len _ c.write_path-len.result out c.write_path-len.new.out (omega (arith, inv.short)) (omega (arith, far, c.write_path-len.ensures.far)) ∙ ap (λ z. take len out ++ z) c.write_path-len.ensures.path in
    record {
      so_far = on_as inv.so_far inv.above _ _ c.in-Some.better l c.in-Some-row.at at len taken (omega (arith, inv.short)) _ joined;
      same = e.same ∙ inv.same;
      lent = (e.lent.0 ∙ inv.lent.0, e.lent.1 ∙ inv.lent.1);
      budget = e.budget ∙ inv.budget;
      short = omega (arith, far, c.write_path-len.ensures.far);
      above = omega arith;
    }
