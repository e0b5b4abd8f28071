use Rattle.std.proofs.Common.{◌≡◌, sym, ap, ◌∙◌, rules}
use Rattle.engine.specs.Answers.{plan}
use Rattle.session.specs.Account.{holds}
use Rattle.session.specs.Standing.{account}
use Rattle.session.specs.Writing.{no_plan}
use Rattle.session.proofs.Fields.{state_in}
use Rattle.session.proofs.Here.{leads_here}
use Rattle.session.proofs.Written.{accepted, held_none, held_plan, if_retold, retold}
use Rattle.session.proofs.session.Session.write_plan.Goals as goal

pub returns-in-Ready : goal.returns-in-Ready
returns-in-Ready c =
    let s = c.args.self.now in
    let w = c.write.ensures in
    let e : (account s).held ≡ holds (plan c.remaining.result.now) = held_plan s.phase _ c.in-Ready.is ∙ ap (λ l. holds (plan l)) (sym c.remaining.ensures.list) in
    record {
      writes = retold s.task.now (account s) _ _ e _ _ c.write.result c.map_err.result c.map_err.ensures.cases (λ x y h. search rules) (leads_here s _ e) (state_in s) c.remaining.ensures.short (let writes = w.writes in search rules);
      accepted = if_retold _ _ _ _ _ c.map_err.ensures.cases w.reads_back (λ n. accepted s.task.now (account s) n c.write.new.out _ e (leads_here s _ e));
    }

pub returns-in_default : goal.returns-in_default
returns-in_default c =
    let s = c.args.self.now in
    record { writes = no_plan (λ ks e. held_none s.phase _ ks c.in_default.not-Ready c.in_default.not-Ordered e); accepted = tt }
