-- The rows of entries that are looked through, and of entries with one more at the end.
use Rattle.std.proofs.Common.{◌≡◌, ℕ, ◌<◌, ◌≤◌, false, List, [], ◌∷◌, ◌++◌, length, get_or, Some, None, Ok, Err, Option, Result, sym, ap, ◌∙◌, subst, arith}
use Rattle.std.proofs.Math.Logic.{∥∥₁_elim}
use Rattle.std.proofs.lemmas.List.{get_or-map, length-map, map-append}
use Rattle.std.specs.Option.{MatchOption, is_some}
use Rattle.strips.specs.Semantics.{State}
use Rattle.closed_list.specs.declared.row.Refusal.{Refusal}
use Rattle.closed_list.specs.declared.row.Row.{Row}
use Rattle.closed_list.specs.declared.table.Linked.{Linked}
use Rattle.closed_list.specs.Linked.{Pushed, links_of, rows_of}
use Rattle.closed_list.specs.Rows.{Absent, Different, Find, no_row, row}
use Rattle.closed_list.proofs.Differ.{different_push}

pub length_rows : {L : Type 0} (entries : List (Linked L)) → length (rows_of entries) ≡ length entries
length_rows entries = length-map entries (λ e. e.row)

pub length_links : {L : Type 0} (entries : List (Linked L)) → length (links_of entries) ≡ length entries
length_links entries = length-map entries (λ e. e.link)

pub row_at : {L : Type 0} (entries : List (Linked L)) (i : ℕ) (d : Linked L) → i < length entries → row (rows_of entries) i ≡ (get_or entries i d).row
row_at entries i d lt = get_or-map (λ e. e.row) entries i d no_row lt

pub rows_push : {L : Type 0} (entries : List (Linked L)) (e : Linked L) → rows_of (entries ++ e ∷ []) ≡ rows_of entries ++ e.row ∷ []
rows_push entries e = map-append (λ e. e.row) entries (e ∷ [])

pub links_push : {L : Type 0} (entries : List (Linked L)) (e : Linked L) → links_of (entries ++ e ∷ []) ≡ links_of entries ++ e.link ∷ []
links_push entries e = map-append (λ e. e.link) entries (e ∷ [])

-- the numbers of the rows were gone through for the first row that has the state
pub find_number : (rows : List Row) (s : State) (n : ℕ) (r : Option ℕ) → n ≡ length rows → MatchOption r ((k : ℕ) → 0 ≤ k → k < n → (row rows k).state.words ≡ s → ⊥) (λ i. (0 ≤ i) × (i < n) × ((row rows i).state.words ≡ s) × ((k : ℕ) → 0 ≤ k → k < i → (row rows k).state.words ≡ s → ⊥)) → Find rows s r
find_number rows s n None all none = λ i at. none i (omega arith) (omega (arith, all, at.0)) at.1
find_number rows s n (Some i) all at = (omega (arith, all, at.1), at.2)

pub absent_unfound : (rows : List Row) (s : State) (r : Option ℕ) → false ≡ is_some r → Find rows s r → Absent rows s
absent_unfound rows s None e absent = absent
absent_unfound rows s (Some i) e at = absurd cc

pub different_pushed : {L : Type 0} (room : ℕ) (entries : List (Linked L)) (e : Linked L) (r : Result ℕ Refusal) (entries' : List (Linked L)) → ∥ Different (rows_of entries) ∥₁ → Absent (rows_of entries) e.row.state.words → Pushed room entries e r entries' → ∥ Different (rows_of entries') ∥₁
different_pushed room entries e (Ok i) entries' d absent pushed =
    let is = ap rows_of pushed.2 ∙ rows_push entries e in
    ∥∥₁_elim d squash₁ (λ d. ∣ subst Different (sym is) (different_push _ e.row d absent) ∣₁)
different_pushed room entries e (Err why) entries' d absent pushed = subst (λ es. ∥ Different (rows_of es) ∥₁) (sym pushed.2) d
