-- The text of a move, without its line end.
use Rattle.std.specs.Prelude.{ℕ, List, ◌++◌, codes, decimal}
use Rattle.inspection.specs.declared.moves.Move.{Move}
use Rattle.inspection.specs.declared.moves.Move.TheVariants.{Did, Cannot, Bad}

abbrev pub move_text : Move → List ℕ
move_text (Did k) = codes "did " ++ decimal k
move_text (Cannot k) = codes "cannot " ++ decimal k
move_text Bad = codes "bad"
