use Rattle.std.proofs.Common.{◌≡◌, subst, arith, rules, tests}
use Rattle.std.proofs.lemmas.Iterator.{first_from_Range, serves_from_Range}
use Rattle.closed_list.specs.Rows.{Find, row}
use Rattle.closed_list.specs.Linked.{rows_of}
use Rattle.closed_list.proofs.LinkedRows.{find_number, length_rows}
use Rattle.closed_list.proofs.scanned.ScannedStore.first.Goals as goal

pub find-requires : goal.find-requires
find-requires c = record { can = tt; finite = tt; callable = serves_from_Range (λ x q k. search (rules, tests)) (λ x low high. search rules) }

pub returns : goal.returns
returns c =
    let s = c.args.state.now.words in
    let items = c.entries-entries.result.now in
    let first = first_from_Range _ _ _ _ (λ i. (row (rows_of items) i).state.words ≡ s) (λ i. (row (rows_of items) i).state.words ≡ s → ⊥) c.find.ensures.ran (λ x q k. search (rules, tests)) (λ x q k. (search rules, search (rules, tests))) in
    record { found = subst (λ es. Find (rows_of es) s c.find.result) c.entries-entries.ensures.value (find_number (rows_of items) s _ _ (omega (arith, length_rows items)) first) }
