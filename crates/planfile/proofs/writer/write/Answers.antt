use Rattle.std.proofs.Common.{◌≡◌, ℕ, ◌*◌, List, length, take, drop, vec_items, sym, ap, ◌∙◌, arith, take_at}
use Rattle.std.proofs.lemmas.Result.{err_from_is_err_and, IfOk-from_err}
use Rattle.planfile.specs.File.{file, record_bytes}
use Rattle.planfile.specs.Writes.{too_long, outside, too_short, written}
use Rattle.planfile.proofs.Files.{length_file}
use Rattle.planfile.proofs.Follow.{round_trip}
use Rattle.planfile.proofs.Listed.{stuck_there}
use Rattle.planfile.proofs.writer.write.Goals as goal

pub returns-then-plan-gt-MOST_RECORDS : goal.returns-then-plan-gt-MOST_RECORDS
returns-then-plan-gt-MOST_RECORDS c = record { writes = too_long c.if-plan-gt-MOST_RECORDS.true; reads_back = tt }

pub returns-then-not-admits : goal.returns-then-not-admits
returns-then-not-admits c = record { writes = outside c.if-plan-gt-MOST_RECORDS.false (sym c.if-not-admits.ensures.test); reads_back = tt }

pub returns-in_err-check_run : goal.returns-in_err-check_run
returns-in_err-check_run c =
    let p = err_from_is_err_and c.from_residual.result c.from_residual.ensures.1 in
    record {
      writes = rw (p.1, p.2) (stuck_there _ _ _ _ c.args.out.now _ c.if-plan-gt-MOST_RECORDS.false (sym c.if-not-admits.ensures.test) c.in_err-check_run.ensures.stops);
      reads_back = IfOk-from_err c.from_residual.result _ c.from_residual.ensures.0;
    }

pub returns-then-out-used : goal.returns-then-out-used
returns-then-out-used c =
    record {
      writes = too_short c.if-plan-gt-MOST_RECORDS.false (sym c.if-not-admits.ensures.test) c.in_ok-check_run.ensures.runs.1 (omega arith);
      reads_back = tt;
    }

pub returns : goal.returns
returns c =
    let ks : List ℕ = c.args.plan.now in
    let out : List ℕ = c.args.out.now in
    let f : List ℕ = file (vec_items c.args.task.now.actions) c.args.start.now.words ks in
    let e = c.fill.ensures in
    let used : length f ≡ record_bytes * length ks = length_file (vec_items c.args.task.now.actions) c.args.start.now.words ks in
    record {
      writes = rw e (written c.if-plan-gt-MOST_RECORDS.false (sym c.if-not-admits.ensures.test) c.in_ok-check_run.ensures.runs.1 (omega arith));
      reads_back = round_trip _ _ ks _ (ap (take (record_bytes * length ks)) e ∙ take_at f (drop (record_bytes * length ks) out) (record_bytes * length ks) used);
    }
