-- Three lifts: both goals need fact 0, which only action 2 makes true.
use Rattle.std.specs.Prelude.{◌≡◌, ℕ, List, [], ◌∷◌, ◌++◌, replicate, None}
use Rattle.strips.specs.Records.{actions, field, task_fault}
use Rattle.strips.specs.Semantics.{IsPlan}
use Rattle.planfile.specs.File.{file}

-- a field of one byte and 31 zeros
abbrev pub one_byte : ℕ → List ℕ
one_byte b = b ∷ replicate 31 0

abbrev pub three_lifts : List ℕ
three_lifts =
    one_byte 0 ++ one_byte 6 ++ one_byte 7
    ++ one_byte 1 ++ one_byte 2 ++ one_byte 0
    ++ one_byte 1 ++ one_byte 4 ++ one_byte 0
    ++ one_byte 0 ++ one_byte 1 ++ one_byte 0

-- the file of its plan
abbrev pub solution : List ℕ
solution = (2 ∷ 0 ∷ one_byte 1) ++ (0 ∷ 0 ∷ one_byte 3) ++ (1 ∷ 0 ∷ one_byte 7)

pub record Solved : Type 0 where
  pub task : task_fault three_lifts ≡ None
  pub plan : IsPlan (actions three_lifts) (field three_lifts 0 0) (field three_lifts 0 1) (2 ∷ 0 ∷ 1 ∷ [])
  pub written : file (actions three_lifts) (field three_lifts 0 0) (2 ∷ 0 ∷ 1 ∷ []) ≡ solution
