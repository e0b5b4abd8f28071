-- The number of each refusal.
use Rattle.std.specs.Prelude.{ℕ}
use Rattle.closed_list.specs.declared.row.Refusal.{Refusal}
use Rattle.closed_list.specs.declared.row.Refusal.TheVariants.{Known, Full}

abbrev pub refusal_number : Refusal → ℕ
refusal_number Known = 30
refusal_number Full = 31
