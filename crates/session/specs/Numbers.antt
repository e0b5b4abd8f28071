-- The number of each refusal.
use Rattle.std.specs.Prelude.{ℕ}
use Rattle.session.specs.declared.model.Refusal.{Refusal}
use Rattle.session.specs.declared.model.Refusal.TheVariants.{OutsideFacts, StorePlaces, FrontierPlaces, Budget, BufferTooShort, OrderOut, WrongSlip, NothingToGive}

abbrev pub refusal_number : Refusal → ℕ
refusal_number OutsideFacts = 6
refusal_number StorePlaces = 7
refusal_number FrontierPlaces = 8
refusal_number Budget = 9
refusal_number BufferTooShort = 11
refusal_number OrderOut = 20
refusal_number WrongSlip = 21
refusal_number NothingToGive = 22
