use Rattle.relaxed.proofs.Reaching.{never_is_none, none_is_never, at_most_facts}
use Rattle.relaxed.proofs.laws.relaxed_plan_is_lawful.Goals as goal

pub returns : goal.returns
returns c = record { never_is_none = never_is_none; none_is_never = none_is_never; at_most_facts = at_most_facts }
