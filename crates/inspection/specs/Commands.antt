-- What a line of input asks for.
use Rattle.std.specs.Prelude.{ℕ, List, Option}
use Rattle.input_lines.specs.Numbers.{numeral_of}

-- the action that a line names: one to three digits and nothing else
abbrev pub named : List ℕ → Option ℕ
named line = numeral_of 3 line
