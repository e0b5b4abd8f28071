-- The number of each refusal.
use Rattle.std.specs.Prelude.{ℕ}
use Rattle.open_list.specs.declared.entry.Refusal.{Refusal}
use Rattle.open_list.specs.declared.entry.Refusal.TheVariants.{Full}

abbrev pub refusal_number : Refusal → ℕ
refusal_number Full = 32
