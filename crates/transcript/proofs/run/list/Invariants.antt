use Rattle.std.proofs.Common.{◌≡◌, ◌+◌, ◌++◌, map, take, vec_items, vec_len, vec_capacity}
use Rattle.planfile.specs.File.{action_at}
use Rattle.transcript.specs.declared.line.Line.TheVariants.{Did}
use Rattle.transcript.proofs.run.list.Given as goal

abbrev pub invariant-loop-record : goal.invariant-loop-record
invariant-loop-record l =
    (vec_items l.lines ≡ vec_items l.initial.lines ++ map (λ r. Did (action_at r 0)) (take l.record-index l.records))
    × (vec_len l.lines ≡ vec_len l.initial.lines + l.record-index)
    × (vec_capacity l.lines ≡ vec_capacity l.initial.lines)
