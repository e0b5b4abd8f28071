use Rattle.std.proofs.Common.{◌≡◌, ℕ, ◌+◌, ◌-◌, ◌*◌, List, ◌++◌, length, get_or, drop, vec_items, refl, ap, ◌∙◌, arith}
use borrow.Rule.Slice.PartMut.{put_mid}
use Rattle.std.proofs.lemmas.List.{take_all}
use Rattle.std.proofs.lemmas.Result.{IfOk-at_ok}
use Rattle.strips.specs.Semantics.{stop}
use Rattle.planfile.specs.File.{file, record_bytes}
use Rattle.planfile.proofs.Listed.{run_at, run_further, file_further, step_is_ok}
use Rattle.planfile.proofs.writer.fill.Goals as goal

pub loop-i-init : goal.loop-i-init
unfolding file
loop-i-init c = (stop, refl)

pub unwrap-state-requires : goal.unwrap-state-requires
unwrap-state-requires c =
    let k : ℕ = get_or c.args.plan.now c.loop-i.i 0 in
    let there = run_at _ _ _ _ c.args.plan.now c.loop-i.i c.requires.run.1 c.loop-i.invariant.0 (omega arith) in
    step_is_ok _ _ k _ there.0 there.1 c.step.ensures.blocked

pub loop-i-preserved : goal.loop-i-preserved
loop-i-preserved c =
    let n = IfOk-at_ok _ c.unwrap-state.ensures c.step.ensures.next in
    let i : ℕ = c.loop-i.i in
    let z : record_bytes * i + record_bytes - record_bytes * i ≡ record_bytes = omega arith in (
      run_further _ _ _ _ c.args.plan.now i _ (omega arith) refl c.loop-i.invariant.0 n.0 n.1 n.2,
      ap (λ (m : ℕ). put_mid (record_bytes * i) m c.loop-i.out c.copy_from_slice.new.self) z
          ∙ ap (put_mid (record_bytes * i) record_bytes c.loop-i.out) (c.copy_from_slice.ensures.after ∙ c.entry.ensures)
          ∙ file_further _ _ _ _ c.args.plan.now i _ c.loop-i.out c.args.out.now (omega arith) refl c.loop-i.invariant.0 n.2 c.loop-i.invariant.1,
    )

pub returns : goal.returns
returns c =
    let e : c.loop-i.i ≡ length c.args.plan.now = omega arith in
    let t = take_all c.loop-i.i c.args.plan.now (omega arith) in
    c.loop-i.invariant.1
    ∙ ap (λ (ks : List ℕ). file (vec_items c.args.task.now.actions) c.args.start.now.words ks ++ drop (record_bytes * c.loop-i.i) c.args.out.now) t
    ∙ ap (λ (m : ℕ). file (vec_items c.args.task.now.actions) c.args.start.now.words c.args.plan.now ++ drop (record_bytes * m) c.args.out.now) e
