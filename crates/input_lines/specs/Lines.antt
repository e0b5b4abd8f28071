-- Lines of an input.
use Rattle.std.specs.Prelude.{◌≡◌, ℕ, ◌<◌, ◌≤◌, if◌then◌else◌, ◌⊎◌, List, [], ◌∷◌, ◌++◌, length, ◌==◌, ◌≢◌, slice_index}
use Rattle.std.specs.List.{flat_map, All}
use Rattle.input_lines.specs.Cuts.{before, behind}

-- a byte in front of the first line
abbrev pub onto : ℕ → List (List ℕ) → List (List ℕ)
onto b [] = (b ∷ []) ∷ []
onto b (l ∷ ls) = (b ∷ l) ∷ ls

-- the lines of an input: a line end, byte 10, ends a line, and so does the end of the bytes where anything stands before it
abbrev pub lines : List ℕ → List (List ℕ)
lines [] = []
lines (b ∷ bs) = if b == 10 then [] ∷ lines bs else onto b (lines bs)

-- the first line ends at r: there is no line end before, and one there, unless the bytes end
pub record Ends (bs : List ℕ) (r : ℕ) : Type 0 where
  pub within : r ≤ length bs
  pub before : (k : ℕ) → k < r → slice_index bs k ≢ 10
  pub there : r < length bs → slice_index bs r ≡ 10

-- an input's first line and what stands behind that, with what they are to all its lines
pub record First (input line rest : List ℕ) : Type 0 where
  pub line_is : line ≡ before 10 input
  pub rest_is : rest ≡ behind 10 input
  pub all : lines input ≡ line ∷ lines rest
  pub shorter : length rest < length input
  pub end : Ends input (length line)

-- a line has no line end inside
abbrev pub Whole : List ℕ → Type 0
Whole l = All (λ b. b ≢ 10) l

-- a line with its line end
abbrev pub ended : List ℕ → List ℕ
ended l = l ++ 10 ∷ []

-- lines that are all ended are the lines of what they make up: nothing after the last line end is no line
abbrev pub EndedLines : Type 0
EndedLines = (ls : List (List ℕ)) → All Whole ls → lines (flat_map ended ls) ≡ ls

-- the last line needs no line end, unless it is empty
abbrev pub OpenLastLine : Type 0
OpenLastLine = (ls : List (List ℕ)) (l : List ℕ) → All Whole ls → Whole l → 0 < length l → lines (flat_map ended ls ++ l) ≡ ls ++ l ∷ []

abbrev pub WholeLines : Type 0
WholeLines = (bs : List ℕ) → All Whole (lines bs)

-- every input is made up of its lines, each ended, or each but the last
abbrev pub NothingElse : Type 0
NothingElse = (bs : List ℕ) → (flat_map ended (lines bs) ≡ bs) ⊎ (flat_map ended (lines bs) ≡ bs ++ 10 ∷ [])
