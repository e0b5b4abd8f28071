-- Checks that are made in order, of which the first that fails is answered.
use Rattle.std.specs.Prelude.{Bool, true, false, Some, None, Ok, Err, Option, Result}

-- nothing where the test holds, and the fault where it fails
abbrev pub unless : {F : Type 0} → Bool → F → Option F
unless true f = None
unless false f = Some f

-- the first of two faults
abbrev pub or_else : {F : Type 0} → Option F → Option F → Option F
or_else (Some f) o = Some f
or_else None o = o

-- the fault that a result carries
abbrev pub fault_in : {X F : Type 0} → Result X F → Option F
fault_in (Ok x) = None
fault_in (Err f) = Some f
