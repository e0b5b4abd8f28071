-- The numbers under which the causes of a refused task file are reported.
use Rattle.std.specs.Prelude.{ℕ}
use Rattle.strips.specs.declared.fault.Cause.{Cause}
use Rattle.strips.specs.declared.fault.Cause.TheVariants.{Length, TooManyRecords, HeaderOutside, ActionOutside, AddsAndDeletes}

abbrev pub cause_number : Cause → ℕ
cause_number Length = 1
cause_number TooManyRecords = 2
cause_number HeaderOutside = 3
cause_number ActionOutside = 4
cause_number AddsAndDeletes = 5
