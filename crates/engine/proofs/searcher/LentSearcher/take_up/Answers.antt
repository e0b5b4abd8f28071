use Rattle.std.proofs.Common.{sym, refl, ap, ◌∙◌, arith}
use Rattle.engine.specs.HillClimbing.{skip, ran_out}
use Rattle.engine.proofs.Gens.{handed_on}
use Rattle.engine.proofs.Hills.{stretch_tree, stretch_reached, tops_at, begins, spent_as, turn_as, full_as, climbed_as}
use Rattle.engine.proofs.searcher.LentSearcher.take_up.Goals as goal

pub loop-number-init : goal.loop-number-init
loop-number-init g c = record { so_far = begins _ _ _ _ _ _ _ c.requires.begun; same = refl; lent = (refl, refl); budget = refl }

pub returns-in_default-clause-ended : goal.returns-in_default-clause-ended
returns-in_default-clause-ended g c = ran_out (stretch_reached _ _ c.loop-number.invariant.so_far c.in_default.ensures.found)

pub loop-number-preserved-in-Never : goal.loop-number-preserved-in-Never
loop-number-preserved-in-Never g c =
    let inv = c.loop-number.invariant in
    let at = c.in-Some.ensures.found in
    record { so_far = skip inv.so_far at.0 (ap (λ r. r.estimate) (sym at.1) ∙ c.in-Never.is); same = inv.same; lent = inv.lent; budget = inv.budget }

pub returns-in_err-count_one-clause-ended : goal.returns-in_err-count_one-clause-ended
returns-in_err-count_one-clause-ended g c =
    let inv = c.loop-number.invariant in
    let at = c.in-Some.ensures.found in
    rw (handed_on c.from_residual.result _ c.from_residual.ensures.1)
    (spent_as inv.so_far at.0 (λ n. c.in_default-estimate.not-Never (ap (λ r. r.estimate) at.1 ∙ n)) _ inv.budget _ _ c.in_err-count_one.ensures.counts)

pub invariant_of-climb : goal.invariant_of-climb
invariant_of-climb g c =
    let inv = c.loop-number.invariant in
    let at = c.in-Some.ensures.found in
    let near = (stretch_tree inv.so_far).near c.loop-number.number at.0 in
    let few = g.met.S.Store.few c.loop-number.self.store.now in
    record { near = omega (arith, near, ap (λ r. r.distance) at.1, at.0, few, inv.same, c.requires.places.1) }

pub returns-in_err-better-clause-ended : goal.returns-in_err-better-clause-ended
returns-in_err-better-clause-ended g c =
    let inv = c.loop-number.invariant in
    let at = c.in-Some.ensures.found in
    rw (handed_on c.from_residual-in_err-better.result _ c.from_residual-in_err-better.ensures.1)
    (full_as inv.so_far at.0 (λ n. c.in_default-estimate.not-Never (ap (λ r. r.estimate) at.1 ∙ n)) _ inv.budget _ c.in_ok-count_one.ensures.counts
    (tops_at _ _ _ _ _ inv.same _ _ at.1 c.in_err-better.ensures.change))

pub returns-in-Some-2-clause-ended : goal.returns-in-Some-2-clause-ended
returns-in-Some-2-clause-ended g c =
    let inv = c.loop-number.invariant in
    let at = c.in-Some.ensures.found in
    climbed_as inv.so_far at.0 (λ n. c.in_default-estimate.not-Never (ap (λ r. r.estimate) at.1 ∙ n)) _ inv.budget _ c.in_ok-count_one.ensures.counts
    (tops_at _ _ _ _ _ inv.same _ _ at.1 (rw c.in-Some-2.is at c.in_ok-better.ensures.change))

pub loop-number-preserved : goal.loop-number-preserved
loop-number-preserved g c =
    let inv = c.loop-number.invariant in
    let at = c.in-Some.ensures.found in
    let e = c.in_ok-better.ensures in
    record {
      so_far = turn_as inv.so_far at.0 (λ n. c.in_default-estimate.not-Never (ap (λ r. r.estimate) at.1 ∙ n)) _ inv.budget _ c.in_ok-count_one.ensures.counts
          (tops_at _ _ _ _ _ inv.same _ _ at.1 (rw c.in_default-2.is at e.change));
      same = e.same ∙ inv.same;
      lent = (e.lent.0 ∙ inv.lent.0, e.lent.1 ∙ inv.lent.1);
      budget = c.count_one.ensures.same ∙ inv.budget;
    }

pub returns-clause-ended : goal.returns-clause-ended
returns-clause-ended g c =
    let inv = c.loop-number.invariant in
    let few = g.met.S.Store.few c.loop-number.self.store.now in
    ran_out (stretch_reached _ _ inv.so_far (omega (arith, few, inv.same, c.places-number-end.ensures.value)))
