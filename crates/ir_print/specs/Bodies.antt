-- The words of functions' bodies.
use Rattle.std.specs.Prelude.{ℕ, List, [], ◌∷◌, ◌++◌}
use Rattle.std.specs.List.{flat_map}
use Rattle.ir_lex.specs.declared.token.Mark.TheVariants as marks
use Rattle.ir_lex.specs.declared.name.Name.{Name}
use Rattle.ir_lex.specs.Printed.{Piece}
use Rattle.ir_tree.specs.declared.code.Parameter.{Parameter}
use Rattle.ir_tree.specs.declared.code.BlockHead.{BlockHead}
use Rattle.ir_tree.specs.declared.code.Block.{Block}
use Rattle.ir_print.specs.Words.{tight, spaced, on_new_line, indented, mark, local, listed, optional_words}
use Rattle.ir_print.specs.Lists.{bracketed_words}
use Rattle.ir_print.specs.Instructions.{inst_words}

-- < G > L
unfoldable pub pair_words : List ℕ → Parameter → List Piece
pair_words space p = bracketed_words space p.of_type ++ local spaced p.name ∷ []

-- [ L ]
unfoldable pub handler_words : List ℕ → Name → List Piece
handler_words space n = mark space marks.OpenBracket ∷ local tight n ∷ mark tight marks.CloseBracket ∷ []

-- L( pair* ) handler? : with its brackets
unfoldable pub head_words : List ℕ → BlockHead → List Piece
head_words space h = local space h.name ∷ mark tight marks.Open ∷ (listed pair_words h.parameters ++ mark tight marks.Close ∷ (optional_words handler_words h.handler ++ mark tight marks.Colon ∷ []))

-- head inst*: the head has a line, and each instruction
unfoldable pub block_words : List ℕ → Block → List Piece
block_words space b = head_words space b.head ++ flat_map (inst_words indented) b.insts

-- { block* }: each bracket ends a line
unfoldable pub body_words : List Block → List Piece
body_words bs = mark spaced marks.OpenBrace ∷ (flat_map (block_words on_new_line) bs ++ mark on_new_line marks.CloseBrace ∷ [])
