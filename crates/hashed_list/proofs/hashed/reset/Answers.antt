use Rattle.std.proofs.Common.{◌≡◌, ◌+◌, ◌<◌, ◌≤◌, length, vec_items, arith, rules}
use Rattle.closed_list.specs.Linked.{rows_of}
use Rattle.closed_list.proofs.LinkedRows.{length_rows}
use Rattle.hashed_list.proofs.Chains.{entry_bucket, left_first, left_next, left_none}
use Rattle.hashed_list.proofs.hashed.reset.Goals as goal

pub loop-entry-init : goal.loop-entry-init
loop-entry-init c =
    let wide : length (vec_items c.args.heads.now) ≡ c.args.mask + 1 = omega arith in
    (c.requires.wide, left_first _ _ _ c.requires.latest wide)

pub loop-entry-preserved : goal.loop-entry-preserved
loop-entry-preserved c =
    let lt : c.loop-entry.entry-index < length c.args.entries.now = omega arith in
    let within : c.bucket.result < length (vec_items c.loop-entry.heads) = omega arith in
    let value = c.bucket.ensures.value in
    (c.loop-entry.invariant.0, left_next _ _ _ _ _ c.loop-entry.invariant.1 (search (rules, entry_bucket)) within)

pub returns-clause-none : goal.returns-clause-none
returns-clause-none c =
    let all : length (rows_of c.args.entries.now) ≤ c.loop-entry.entry-index = omega (arith, length_rows c.args.entries.now) in
    left_none _ _ _ _ c.loop-entry.invariant.1 all
