-- What the console answers to a line, and the calls that it makes of the session for it.
use Rattle.std.specs.Prelude.{ℕ, Bool, if◌then◌else◌, List, length, Some, None, Option, ◌==◌}
use Rattle.strips.specs.declared.action.Action.{Action}
use Rattle.strips.specs.Semantics.{State}
use Rattle.heuristic.specs.declared.estimate.Estimate.{Estimate}
use Rattle.engine.specs.Answers.{Answer, plan, none, spent, full}
use Rattle.engine.specs.declared.model.Verdict.{Verdict}
use Rattle.engine.specs.declared.model.Verdict.TheVariants as verdicts
use Rattle.session.specs.Histories.{Asking, Outcome, Reply, answers, done, issue, not_done, planned, refused}
use Rattle.session.specs.Standing.{Called}
use Rattle.session.specs.declared.model.Order.{Order}
use Rattle.session.specs.declared.session.Session.{Session}
use Rattle.console_lines.specs.declared.command.Command.{Command}
use Rattle.console_lines.specs.declared.command.Command.TheVariants as commands
use Rattle.console_lines.specs.declared.reply.Reply.{Reply as Line}
use Rattle.console_lines.specs.declared.reply.Reply.TheVariants as lines
use Rattle.commands.specs.declared.serve.Report.{Report}
use Rattle.commands.specs.declared.serve.Report.TheVariants.{Done, NotDone}

-- the estimator and the tables that the console plans with
pub record Desk : Type 0 where
  pub estimate : List Action → State → State → Estimate
  pub prefers : List Action → State → State → ℕ → Bool
  pub store : ℕ
  pub frontier : ℕ

abbrev pub asking : Desk → ℕ → ℕ → Asking
asking d h f = record { estimate = d.estimate; prefers = d.prefers; limits = record { store = d.store; frontier = d.frontier; budgets = record { hill = h; fallback = f } } }

-- the line of an answer with its counts
abbrev pub verdict_line : Answer → ℕ → ℕ → Line
verdict_line (plan ks) h f = lines.Plan (length ks) h f
verdict_line none h f = lines.NoPlan h f
verdict_line spent h f = lines.Spent h f
verdict_line full h f = lines.Full h f

-- the line of a verdict, which names the length of its list
abbrev pub told : Verdict → ℕ → ℕ → Line
told (verdicts.Plan n) h f = lines.Plan n h f
told verdicts.None h f = lines.NoPlan h f
told verdicts.Spent h f = lines.Spent h f
told verdicts.Full h f = lines.Full h f

abbrev pub plan_line : Reply Outcome → Line
plan_line (answers o) = verdict_line o.answer o.hill o.fallback
plan_line (refused n) = lines.Refused n

-- a refused issue: 22 is idle
abbrev pub refused_line : ℕ → Line
refused_line n = if n == 22 then lines.Idle else lines.Refused n

-- the command that orders an action and answers the order by the report
abbrev pub command_of : Report → Command
command_of Done = commands.Step
command_of NotDone = commands.Skip

-- the reply to a command, or to a line that is none, and the session after it
pub data Serves (d : Desk) (s : Session) : Option Command → Line → Session → Type 0 where
  no_command : Serves d s None lines.Bad s
  plans : {h f : ℕ} {r : Reply Outcome} {s' : Session} → Called s (planned (asking d h f) r) s' → Serves d s (Some (commands.Plan h f)) (plan_line r) s'
  steps : {p : Order} {t s' : Session} → Called s (issue (answers p)) t → Called t (done p (answers tt)) s' → Serves d s (Some commands.Step) (lines.Did p.action) s'
  cannot_step : {n : ℕ} {s' : Session} → Called s (issue (refused n)) s' → Serves d s (Some commands.Step) (refused_line n) s'
  skips : {p : Order} {t s' : Session} → Called s (issue (answers p)) t → Called t (not_done p (answers tt)) s' → Serves d s (Some commands.Skip) (lines.NotDone p.action) s'
  cannot_skip : {n : ℕ} {s' : Session} → Called s (issue (refused n)) s' → Serves d s (Some commands.Skip) (refused_line n) s'
