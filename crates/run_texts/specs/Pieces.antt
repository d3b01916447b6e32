-- The text of a run in the pieces that are put one by one.
use Rattle.std.specs.Prelude.{List, [], ◌∷◌, ◌++◌, Bool, true, false, map, filter, flat_map, codes}
use Rattle.ir_tree.specs.declared.items.Item.{Item}
use Rattle.mu_model.specs.declared.lines.Line.{Line}
use Rattle.mu_model.specs.declared.endings.Ending.{Ending}
use Rattle.run_texts.specs.Texts.{Text, line_text, ending_text}

abbrev pub lines_text : List Item → List Line → Text
lines_text bundle ls = flat_map (line_text bundle) ls

abbrev pub has_lines : List Line → Bool
has_lines [] = false
has_lines (l ∷ ls) = true

-- A piece for each step that has lines. The last piece is the ending line, behind the lines of the step that gives the ending.
abbrev pub pieces_of : List Item → List (List Line) → List Line → Ending → List Text
pieces_of bundle steps lines e =
    map (lines_text bundle) (filter has_lines steps) ++ (lines_text bundle lines ++ ending_text bundle e ++ codes "\n") ∷ []
