use Rattle.std.proofs.Common.{refl, arith, rules}
use Rattle.std.proofs.lemmas.List.{take_all}
use Rattle.std.proofs.lemmas.Result.{err_from_is_err_and}
use Rattle.strips.specs.Semantics.{stop}
use Rattle.planfile.specs.declared.answer.Fault.TheVariants.{Bad}
use Rattle.planfile.proofs.Listed.{run_further}
use Rattle.planfile.proofs.Mapped.{mapped_ok, mapped_err}
use Rattle.planfile.proofs.writer.check_run.Goals as goal

pub loop-place-init : goal.loop-place-init
loop-place-init c = stop

pub loop-place-preserved : goal.loop-place-preserved
loop-place-preserved c =
    let n = mapped_ok _ _ c.step.result c.map_err.result c.in_ok-state.state c.map_err.ensures.cases c.step.ensures.next c.in_ok-state.was in
    run_further _ _ _ _ c.args.plan.now c.loop-place.place-counter _ (omega arith) refl c.loop-place.invariant n.0 n.1 n.2

pub returns-in_err-state-clause-stops : goal.returns-in_err-state-clause-stops
returns-in_err-state-clause-stops c =
    let p = err_from_is_err_and c.from_residual.result c.from_residual.ensures.1 in
    let r =
    mapped_err _ (Bad c.loop-place.place-counter) (λ e d q. search rules) _ c.step.result c.map_err.result c.in_err-state.field-0.0 c.map_err.ensures.cases
    c.step.ensures.blocked c.in_err-state.was in
    rw (p.1, p.2, r.2) (record { within = omega arith; at = c.loop-place.state.words; before = c.loop-place.invariant; blocked = r.1 })

pub returns-clause-runs : goal.returns-clause-runs
returns-clause-runs c = (_, rw (take_all c.loop-place.place-counter c.args.plan.now (omega arith)) at c.loop-place.invariant)
