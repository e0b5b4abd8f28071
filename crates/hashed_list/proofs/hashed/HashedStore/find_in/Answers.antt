use Rattle.std.proofs.Common.{◌≡◌, ◌+◌, length, vec_items, ap, ◌∙◌, arith, rules}
use Rattle.std.specs.Cmp.Lexicographic.{other_text}
use Rattle.closed_list.proofs.LinkedRows.{length_rows}
use Rattle.hashed_list.proofs.Chains.{bucket_within, entry_found, entry_link, entry_row, standing_at, standing_found, standing_first, standing_next, standing_lower}
use Rattle.hashed_list.proofs.hashed.HashedStore.find_in.Goals as goal

pub index-at-requires : goal.index-at-requires
index-at-requires c = omega (arith, bucket_within c.args.self.now.mask c.args.state.now.words, c.requires, c.args.self.now.wide)

pub loop-at-init : goal.loop-at-init
loop-at-init c =
    let self = c.args.self.now in
    let wide : length (vec_items self.heads) ≡ self.mask + 1 = omega arith in
    standing_first _ _ _ _ _ _ self.latest_of_bucket wide c.requires c.index-at.ensures

pub bounds-entries-from : goal.bounds-entries-from
bounds-entries-from c =
    let lt = standing_at _ _ _ _ _ c.loop-at.invariant c.in-Some.is in
    omega (arith, lt, c.from.ensures, length_rows c.args.self.now.table.entries.items, ap length c.entries-entries.ensures.value)

pub returns-then-eq : goal.returns-then-eq
returns-then-eq c =
    let lt = standing_at _ _ _ _ _ c.loop-at.invariant c.in-Some.is in
    let entries = c.entries-entries.ensures.value in
    let number = c.from.ensures in
    let told = c.if-eq.ensures in
    record { found = standing_found _ _ _ _ _ c.loop-at.invariant c.in-Some.is (search (rules, entry_found, told)) }

pub loop-at-smaller : goal.loop-at-smaller
loop-at-smaller c =
    let lt = standing_at _ _ _ _ _ c.loop-at.invariant c.in-Some.is in
    standing_lower _ _ _ _ _ _ _ c.loop-at.invariant c.args.self.now.latest_before c.in-Some.is (entry_link _ _ _ _ _ c.entries-entries.ensures.value c.from.ensures lt)

pub loop-at-preserved : goal.loop-at-preserved
loop-at-preserved c =
    let lt = standing_at _ _ _ _ _ c.loop-at.invariant c.in-Some.is in
    let is = c.entries-entries.ensures.value in
    let row = entry_row _ _ _ _ _ is c.from.ensures lt in
    let link = entry_link _ _ _ _ _ is c.from.ensures lt in
    standing_next _ _ _ _ _ _ _ c.loop-at.invariant c.args.self.now.latest_before c.in-Some.is link (λ same. other_text _ _ c.if-eq.ensures (ap (λ r. r.state.words) row ∙ same))
