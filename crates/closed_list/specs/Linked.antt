-- Rows beside what their list keeps to find them by.
use Rattle.std.specs.Prelude.{◌≡◌, ℕ, ◌<◌, List, [], ◌∷◌, ◌++◌, length, map, Ok, Err, Result}
use Rattle.closed_list.specs.declared.row.Row.{Row}
use Rattle.closed_list.specs.declared.row.Refusal.{Refusal}
use Rattle.closed_list.specs.declared.row.Refusal.TheVariants.{Full}
use Rattle.closed_list.specs.declared.table.Linked.{Linked}

abbrev pub rows_of : {L : Type 0} → List (Linked L) → List Row
rows_of entries = map (λ e. e.row) entries

abbrev pub links_of : {L : Type 0} → List (Linked L) → List L
links_of entries = map (λ e. e.link) entries

-- the entry is the next one; or every place was taken, and then nothing changed
abbrev pub Pushed : {L : Type 0} → ℕ → List (Linked L) → Linked L → Result ℕ Refusal → List (Linked L) → Type 0
Pushed room entries e (Ok i) entries' = (length entries < room) × (i ≡ length entries) × (entries' ≡ entries ++ e ∷ [])
Pushed room entries e (Err why) entries' = (why ≡ Full) × (length entries ≡ room) × (entries' ≡ entries)
