-- A list as far as it is read.
-- Contracts inside the crate cite this; no public one does, so no reader of those needs it.
use Rattle.std.specs.Prelude.{ℕ, ◌+◌, false, List, [], ◌∷◌, ◌++◌, Result, Ok, Err}
use Rattle.text_forms.specs.declared.fault.ReadError.{ReadError}
use Rattle.hail_load.specs.declared.tree.Index.{Index}
use Rattle.hail_load.specs.declared.tree.Piece.{Piece}
use Rattle.hail_load.specs.declared.tree.Piece.TheVariants as pieces
use Rattle.hail_load.specs.declared.sources.Members.{Members}
use Rattle.hail_load.specs.Sources.{is_open, source_count, all_pieces}

abbrev pub index_alone : Index → List Piece
index_alone i = pieces.Index i ∷ []

-- what a function returned that puts what it reads behind other pieces, which are these then
abbrev pub put : Result (Unit {0}) ReadError → List Piece → Result (List Piece) ReadError
put (Ok x) ps = Ok ps
put (Err e) ps = Err e

abbrev pub no_members : Members
no_members = record { length = 0; leads = false }

-- one more element is read
abbrev pub followed : Members → List Piece → Members
followed m e = record { length = m.length + source_count (e ∷ []); leads = is_open e }

-- the pieces of the list, of whose elements these pieces are read, where these elements follow, and where none do
abbrev pub listed_with : ℕ → Members → List Piece → List (List Piece) → List Piece
listed_with place m ps es = pieces.List place (m.length + source_count es) ∷ (ps ++ all_pieces es)

abbrev pub listed : ℕ → Members → List Piece → List Piece
listed place m ps = pieces.List place m.length ∷ ps
