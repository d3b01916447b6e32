-- The text of a script as it is written.
--
--   hail    = command*
--   command = .new O < G > | .newhybrid O < G > N | .init target = source
use Rattle.std.specs.Prelude.{ℕ, Bool, true, false, List, [], ◌∷◌, ◌++◌}
use Rattle.text_forms.specs.declared.symbol.Symbol.TheVariants as symbols
use Rattle.text_forms.specs.Forms.{Form, one_flag, both, on, made, lines, ◌▸◌}
use Rattle.ir_lex.specs.TokenForms.{mark, numeral}
use Rattle.ir_tree.specs.Lists.{bracketed}
use Rattle.hail_load.specs.declared.tree.Piece.{Piece}
use Rattle.hail_load.specs.declared.tree.Piece.TheVariants as pieces
use Rattle.hail_load.specs.declared.tree.Command.{Command}
use Rattle.hail_load.specs.declared.tree.Command.TheVariants as commands
use Rattle.hail_load.specs.declared.tree.Line.{Line}
use Rattle.hail_load.specs.declared.tree.Line.TheVariants as ones
use Rattle.hail_load.specs.Sources.{object, target, index, is_open, source}

-- .new O < G >
unfoldable pub new_command : Form Command
new_command =
    made (λ x. commands.New x.0 x.1.0 x.1.1)
    (both (mark symbols.DotNew) (both object bracketed))

-- .newhybrid O < G > N
unfoldable pub newhybrid_command : Form Command
newhybrid_command =
    made (λ x. commands.NewHybrid x.0 x.1.0 x.1.1.0 x.1.1.1)
    (both (mark symbols.DotNewhybrid) (both object (both bracketed numeral)))

-- at most so many braces stand in one another
abbrev pub most_braces : ℕ
most_braces = 64

-- .init target = source, of which a reference at the end has no indexes yet
unfoldable pub init_command : Form Command
init_command = made (λ x. commands.Init x.0 x.1) (mark symbols.DotInit ▸ both target (source most_braces))

unfoldable pub command : Form Command
command = on (symbols.DotNew ∷ []) new_command (on (symbols.DotNewhybrid ∷ []) newhybrid_command init_command)

-- ---- the lines of a script

-- an index may come next
abbrev pub line_is_open : Line → Bool
line_is_open (ones.Command (commands.Init t s)) = is_open s
line_is_open (ones.Command c) = false
line_is_open (ones.Index i) = true

-- a command, or where one may come an index
abbrev pub line : Bool → Form Line
line false = made ones.Command command
line true = on (symbols.SquareOpen ∷ []) (made ones.Index index) (made ones.Command command)

-- the indexes before the next command
abbrev pub next_indexes : List Line → List Piece
next_indexes (ones.Index i ∷ ls) = pieces.Index i ∷ next_indexes ls
next_indexes _ = []

abbrev pub with_indexes : Command → List Piece → Command
with_indexes (commands.Init t s) is = commands.Init t (s ++ is)
with_indexes c is = c

-- each command has the indexes that stand behind it
abbrev pub commands_of : List Line → List Command
commands_of [] = []
commands_of (ones.Command c ∷ ls) = with_indexes c (next_indexes ls) ∷ commands_of ls
commands_of (ones.Index i ∷ ls) = commands_of ls

-- the commands up to the end of the text
unfoldable pub hail : Form (List Command)
hail = made (λ x. commands_of x.0) (lines one_flag (λ s. s) (λ s l. line_is_open l) line (symbols.End ∷ []) (mark symbols.End) false)
