use Rattle.std.proofs.Common.{◌<◌, [], ap, ◌∙◌, arith}
use Rattle.planfile.specs.File.{action_at, record_count}
use Rattle.planfile.proofs.Cuts.{number_there}
use Rattle.planfile.proofs.reader.action_number.Goals as goal

pub returns : goal.returns
returns c =
    let found = c.in_ok-get.ensures.lookup.3 in
    let l : c.args.record < record_count c.args.bytes.now = omega arith in
    record { number = (l, c.number_of.ensures ∙ ap (λ r. action_at r 0) (found.1 []) ∙ number_there _ _ c.records.ensures.list _ l) }
