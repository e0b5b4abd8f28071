use Rattle.std.proofs.Common.{◌≡◌, map, take, vec_items, vec_len, vec_capacity}
use Rattle.strips.specs.Records.{action_of}
use Rattle.strips.proofs.reader.fill_actions.Given as goal

abbrev pub invariant-loop-record : goal.invariant-loop-record
invariant-loop-record l =
    (vec_items l.actions ≡ map action_of (take l.record-index l.records))
    × (vec_len l.actions ≡ l.record-index)
    × (vec_capacity l.actions ≡ vec_capacity l.initial.actions)
