-- The laws of sets as lists of words, of any length.
use Rattle.std.specs.Prelude.{◌≡◌, ◌↔◌, IsTrue, Bool, ℕ, ◌+◌, ◌*◌, ◌/◌, ◌^◌, ◌<◌, ◌≤◌, true, false, not, ◌&&◌, ◌||◌, List, length, ◌==◌}
use Rattle.std.specs.List.{AllByRecursion}
use Rattle.facts.specs.declared.set.BitSet.{BitSet}
use Rattle.facts.specs.Words.{has, union, without, common, subset, none, size, insert, tally}
use Rattle.facts.specs.Field.{words, bytes, part}

-- each word has at most 64 bits, as those of the code have; each byte at most 8
abbrev pub Words : List ℕ → Type 0
Words ws = AllByRecursion (λ w. w < 2 ^ 64) ws

abbrev pub Bytes : List ℕ → Type 0
Bytes bs = AllByRecursion (λ b. b < 256) bs

abbrev pub UnionMembers : Type 0
UnionMembers = (xs ys : List ℕ) (n : ℕ) → has (union xs ys) n ≡ (has xs n || has ys n)

abbrev pub DifferenceMembers : Type 0
DifferenceMembers = (xs ys : List ℕ) (n : ℕ) → has (without xs ys) n ≡ (has xs n && not (has ys n))

abbrev pub CommonMembers : Type 0
CommonMembers = (xs ys : List ℕ) (n : ℕ) → has (common xs ys) n ≡ (has xs n && has ys n)

abbrev pub InsertMembers : Type 0
InsertMembers = (ws : List ℕ) (m n : ℕ) → m / 64 < length ws → has (insert ws m) n ≡ (has ws n || m == n)

-- a number past the last word is not added
abbrev pub InsertPast : Type 0
InsertPast = (ws : List ℕ) (m : ℕ) → length ws ≤ m / 64 → insert ws m ≡ ws

-- the test `subset` against membership, both ways
abbrev pub SubsetGives : Type 0
SubsetGives = (xs ys : List ℕ) → subset xs ys ≡ true → (n : ℕ) → has xs n ≡ true → has ys n ≡ true

abbrev pub SubsetFrom : Type 0
SubsetFrom = (xs ys : List ℕ) → Words xs → ((n : ℕ) → has xs n ≡ true → has ys n ≡ true) → subset xs ys ≡ true

-- `none` says that there is no member
abbrev pub NoneGives : Type 0
NoneGives = (ws : List ℕ) → none ws ≡ true → (n : ℕ) → has ws n ≡ false

abbrev pub NoneFrom : Type 0
NoneFrom = (ws : List ℕ) → Words ws → ((n : ℕ) → has ws n ≡ false) → none ws ≡ true

-- sets of as many words that have the same members are equal
abbrev pub Extensional : Type 0
Extensional = (xs ys : List ℕ) → length xs ≡ length ys → Words xs → Words ys → ((n : ℕ) → has xs n ≡ has ys n) → xs ≡ ys

-- a test of equality says that two sets are one
abbrev pub Equal : (BitSet 4 → BitSet 4 → Bool) → Type 0
Equal eq = (s t : BitSet 4) → IsTrue (eq s t) ↔ (s ≡ t)

-- the size is the number of members
abbrev pub SizeCounts : Type 0
SizeCounts = (ws : List ℕ) → Words ws → size ws ≡ tally (has ws) (64 * length ws)

-- a set is read back from its bytes, and bytes are written again as they were read
abbrev pub WordsBack : Type 0
WordsBack = (ws : List ℕ) → Words ws → words (length ws) (bytes (8 * length ws) ws) 0 ≡ ws

abbrev pub BytesBack : Type 0
BytesBack = (n : ℕ) (bs : List ℕ) (at : ℕ) → Bytes bs → at + 8 * n ≤ length bs → bytes (8 * n) (words n bs at) ≡ part (8 * n) bs at
