use Rattle.std.proofs.Common.{◌≡◌, ◌/◌, ◌<◌, length, sym, arith, rules}
use Rattle.std.proofs.lemmas.Result.{err_from_is_err_and}
use Rattle.planfile.specs.File.{record_bytes, record_count}
use Rattle.planfile.specs.Reads.{good, bad, goals_false}
use Rattle.planfile.specs.declared.answer.Fault.TheVariants.{Bad}
use Rattle.planfile.proofs.Follow.{follows_none, follows_more}
use Rattle.planfile.proofs.Cuts.{right_there, flawed_there}
use Rattle.planfile.proofs.Mapped.{mapped_ok, mapped_err}
use Rattle.planfile.proofs.reader.follow.Goals as goal

pub loop-k-init : goal.loop-k-init
loop-k-init c = follows_none _ _ _

pub loop-k-preserved : goal.loop-k-preserved
loop-k-preserved c =
    let r = mapped_ok _ _ c.follow_record.result c.map_err.result c.in_ok-state.state c.map_err.ensures.cases c.follow_record.ensures.right c.in_ok-state.was in
    follows_more _ _ _ c.loop-k.k-counter _ _ (λ k. (c.type_inv.bytes k).fits) (omega arith) c.loop-k.invariant
    (right_there _ _ c.records-records.ensures.list _ (omega arith) _ _ _ r)

pub returns-in_err-state : goal.returns-in_err-state
returns-in_err-state c =
    let p = err_from_is_err_and c.from_residual.result c.from_residual.ensures.1 in
    let r =
    mapped_err _ (Bad c.loop-k.k-counter) (λ e d q. search rules) _ c.follow_record.result c.map_err.result c.in_err-state.field-0.0 c.map_err.ensures.cases
    c.follow_record.ensures.flawed c.in_err-state.was in
    let l : c.loop-k.k-counter < record_count c.args.bytes.now = omega arith in
    rw (p.1, p.2, r.2) (bad l c.loop-k.invariant (flawed_there _ _ c.records-records.ensures.list _ l _ _ _ r.1))

pub returns-then-is_subset : goal.returns-then-is_subset
returns-then-is_subset c =
    let e : c.loop-k.k-counter ≡ length c.args.bytes.now / record_bytes = omega arith in
    good (rw e at c.loop-k.invariant) (sym c.if-is_subset.ensures.test)

pub returns-else-is_subset : goal.returns-else-is_subset
returns-else-is_subset c =
    let e : c.loop-k.k-counter ≡ length c.args.bytes.now / record_bytes = omega arith in
    rw c.records-records.ensures.count (goals_false (rw e at c.loop-k.invariant) (sym c.if-is_subset.ensures.test))
