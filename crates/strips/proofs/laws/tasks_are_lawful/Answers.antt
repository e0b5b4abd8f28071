use Rattle.strips.proofs.Faults.{faultless_is_task, task_is_faultless, field_bits}
use Rattle.strips.proofs.Runs.{runs_join, runs_agree, runs_stay, reached_by_run, run_reaches}
use Rattle.strips.proofs.laws.tasks_are_lawful.Goals as goal

pub returns : goal.returns
returns c =
    record {
      runs_join = runs_join;
      runs_agree = runs_agree;
      runs_stay = runs_stay;
      reached_by_run = reached_by_run;
      run_reaches = run_reaches;
      faultless_is_task = faultless_is_task;
      task_is_faultless = task_is_faultless;
      field_bits = field_bits;
    }
