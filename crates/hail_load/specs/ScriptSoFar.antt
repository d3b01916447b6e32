-- A script as far as it is read.
-- Contracts inside the crate cite this; no public one does, so no reader of those needs it.
use Rattle.std.specs.Prelude.{false, List, [], ◌∷◌, ◌++◌}
use Rattle.hail_load.specs.declared.tree.Index.{Index}
use Rattle.hail_load.specs.declared.tree.Piece.{Piece}
use Rattle.hail_load.specs.declared.tree.Piece.TheVariants as pieces
use Rattle.hail_load.specs.declared.tree.Command.{Command}
use Rattle.hail_load.specs.declared.tree.Line.{Line}
use Rattle.hail_load.specs.declared.tree.Line.TheVariants as ones
use Rattle.hail_load.specs.declared.commands.Script.{Script}
use Rattle.hail_load.specs.Grammar.{line_is_open, next_indexes, with_indexes, commands_of}

abbrev pub index_piece : Index → Piece
index_piece i = pieces.Index i

abbrev pub no_script : Script
no_script = record { commands = []; leads = false }

-- the last command has these indexes too
abbrev pub extended : List Command → List Piece → List Command
extended [] is = []
extended (c ∷ []) is = with_indexes c is ∷ []
extended (c ∷ d ∷ cs) is = c ∷ extended (d ∷ cs) is

-- one more line is read
abbrev pub followed : Script → Line → Script
followed s (ones.Command c) = record { commands = s.commands ++ c ∷ []; leads = line_is_open (ones.Command c) }
followed s (ones.Index i) = record { commands = extended s.commands (index_piece i ∷ []); leads = line_is_open (ones.Index i) }

-- the commands, where these lines follow
abbrev pub commands_with : Script → List Line → List Command
commands_with s ls = extended s.commands (next_indexes ls) ++ commands_of ls
