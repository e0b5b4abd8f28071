-- The replies of the console at the values that the code computes.
use Rattle.std.proofs.Common.{◌≡◌, ℕ, List, length, Some, None, Option, sym, refl, ap, ◌∙◌, subst}
use Rattle.engine.specs.Answers.{said}
use Rattle.engine.specs.declared.model.Verdict.{Verdict}
use Rattle.engine.specs.declared.model.Verdict.TheVariants as verdicts
use Rattle.session.specs.Account.{Account, holds, remaining}
use Rattle.session.specs.Histories.{answers, done, issue, not_done, planned, refused}
use Rattle.session.specs.Standing.{Called, Counts, account}
use Rattle.session.specs.declared.model.Order.{Order}
use Rattle.session.specs.declared.session.Session.{Session}
use Rattle.console_lines.specs.declared.command.Command.{Command}
use Rattle.console_lines.specs.declared.command.Command.TheVariants as commands
use Rattle.console_lines.specs.declared.reply.Reply.{Reply as Line}
use Rattle.console_lines.specs.declared.reply.Reply.TheVariants as lines
use Rattle.commands.specs.declared.serve.Report.{Report}
use Rattle.commands.specs.declared.serve.Report.TheVariants.{Done, NotDone}
use Rattle.commands.specs.Serves.{Desk, Serves, asking, cannot_skip, cannot_step, command_of, no_command, plans, refused_line, skips, steps, told, verdict_line}

told_is : (v : Verdict) (n m : ℕ) (p : List ℕ) (a : Account) → Counts v a → a.held ≡ holds (said v p) → told v n m ≡ verdict_line (said v p) n m
told_is (verdicts.Plan l) n m p a k e = ap (λ z. lines.Plan z n m) (k ∙ ap (λ z. length (remaining z)) e)
told_is verdicts.None n m p a k e = refl
told_is verdicts.Spent n m p a k e = refl
told_is verdicts.Full n m p a k e = refl

module _ (d : Desk) (s s' : Session) (x : Line) where
  planned_as : (o : Option Command) (q : Command) (h f : ℕ) (z : Line) → Some q ≡ o → q ≡ commands.Plan h f → x ≡ z → Serves d s (Some (commands.Plan h f)) z s' → Serves d s o x s'
  planned_as o q h f z p w e c = subst (λ (o : Option Command). Serves d s o x s') (sym (ap (λ k. Some k) w) ∙ p) (subst (λ z. Serves d s (Some (commands.Plan h f)) z s') (sym e) c)

  pub served_plan : (o : Option Command) (q : Command) (h f : ℕ) (v : Verdict) (n m : ℕ) → Some q ≡ o → q ≡ commands.Plan h f → x ≡ told v n m → Counts v (account s') → Called s (planned (asking d h f) (answers (record { answer = said v s'.plan; hill = n; fallback = m }))) s' → Serves d s o x s'
  served_plan o q h f v n m p w e k c = planned_as o q h f _ p w (e ∙ told_is v n m s'.plan (account s') k (ap (λ a. a.held) c.moves)) (plans c)

  pub served_refused : (o : Option Command) (q : Command) (h f n : ℕ) → Some q ≡ o → q ≡ commands.Plan h f → x ≡ lines.Refused n → Called s (planned (asking d h f) (refused n)) s' → Serves d s o x s'
  served_refused o q h f n p w e c = planned_as o q h f _ p w e (plans c)

  pub unordered : (r : Report) (n : ℕ) → x ≡ refused_line n → Called s (issue (refused n)) s' → Serves d s (Some (command_of r)) x s'
  unordered Done n e c = subst (λ z. Serves d s (Some commands.Step) z s') (sym e) (cannot_step c)
  unordered NotDone n e c = subst (λ z. Serves d s (Some commands.Skip) z s') (sym e) (cannot_skip c)

pub stepped : (d : Desk) (s t s' : Session) (r : Report) (p : Order) (k : ℕ) → r ≡ Done → k ≡ p.action → Called s (issue (answers p)) t → Called t (done p (answers tt)) s' → Serves d s (Some (command_of r)) (lines.Did k) s'
stepped d s t s' r p k w e c c' =
    subst (λ (z : Report). Serves d s (Some (command_of z)) (lines.Did k) s') (sym w) (subst (λ (z : ℕ). Serves d s (Some commands.Step) (lines.Did z) s') (sym e) (steps c c'))

pub skipped : (d : Desk) (s t s' : Session) (r : Report) (p : Order) (k : ℕ) → r ≡ NotDone → k ≡ p.action → Called s (issue (answers p)) t → Called t (not_done p (answers tt)) s' → Serves d s (Some (command_of r)) (lines.NotDone k) s'
skipped d s t s' r p k w e c c' =
    subst (λ (z : Report). Serves d s (Some (command_of z)) (lines.NotDone k) s') (sym w) (subst (λ (z : ℕ). Serves d s (Some commands.Skip) (lines.NotDone z) s') (sym e) (skips c c'))

-- a line that is no command
pub unserved : (d : Desk) (s : Session) (o : Option Command) → None ≡ o → Serves d s o lines.Bad s
unserved d s o e = subst (λ z. Serves d s z lines.Bad s) e no_command
