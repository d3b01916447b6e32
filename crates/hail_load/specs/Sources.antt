-- Targets and sources as they are written.
--
--   target = O index* | G index*
--   index  = [ N ]
--   source = N | NULL | G | O | & target | { source* }
--
-- A source means a list of pieces, in the order of the text. A `{` says how many sources its list has, and their pieces follow; a
-- reference is `& O` or `& G`, and its indexes follow. No mark ends those indexes. So for a reader `& O` is a source of its own, and an
-- index is one more element of the list in which it stands, where a reference stands before it.
use Rattle.std.specs.Prelude.{ℕ, zero, suc, ◌+◌, Bool, true, false, List, [], ◌∷◌}
use Rattle.std.specs.List.{flat_map}
use Rattle.text_forms.specs.declared.symbol.Symbol.TheVariants as symbols
use Rattle.text_forms.specs.Forms.{Form, one_flag, both, on, made, lines, until, ◌◂◌}
use Rattle.ir_lex.specs.declared.name.Name.{Name}
use Rattle.ir_lex.specs.TokenForms.{mark, name, numeral}
use Rattle.ir_tree.specs.Lists.{global}
use Rattle.hail_load.specs.declared.tree.Root.{Root}
use Rattle.hail_load.specs.declared.tree.Root.TheVariants as roots
use Rattle.hail_load.specs.declared.tree.Index.{Index}
use Rattle.hail_load.specs.declared.tree.Target.{Target}
use Rattle.hail_load.specs.declared.tree.Piece.{Piece}
use Rattle.hail_load.specs.declared.tree.Piece.TheVariants as pieces

-- O
unfoldable pub object : Form Name
object = name (symbols.Object ∷ [])

-- O | G
unfoldable pub root : Form Root
root = on (symbols.Object ∷ []) (made roots.Object object) (made roots.Global global)

-- [ N ]
unfoldable pub index : Form Index
index = made (λ x. record { place = x.0; number = x.1 }) (both (mark symbols.SquareOpen) (numeral ◂ mark symbols.SquareClose))

-- target, with the `=` behind it
unfoldable pub target : Form Target
target = made (λ x. record { root = x.0; indexes = x.1 }) (both root (until (symbols.Equals ∷ []) index))

-- ---- sources

-- & O | & G
unfoldable pub reference : Form Piece
reference = made (λ x. pieces.Reference x.0 x.1) (both (mark symbols.Ampersand) root)

-- a source that is no list
unfoldable pub plain : Form Piece
plain =
    on (symbols.Number ∷ []) (made pieces.Number numeral)
    (on (symbols.Null ∷ []) (made pieces.Null (mark symbols.Null))
    (on (symbols.Object ∷ []) (made pieces.Object object)
    (on (symbols.Ampersand ∷ []) reference
    (made pieces.Global global))))

abbrev pub alone : Piece → List Piece
alone p = p ∷ []

-- an index may come next: behind a reference, or behind an index
abbrev pub is_open : List Piece → Bool
is_open (pieces.Reference place r ∷ []) = true
is_open (pieces.Index i ∷ []) = true
is_open _ = false

-- an element of a list: a source, or where one may come an index
abbrev pub element : Form (List Piece) → Bool → Form (List Piece)
element one false = one
element one true = on (symbols.SquareOpen ∷ []) (made (λ i. alone (pieces.Index i)) index) one

-- how many sources elements are
abbrev pub source_count : List (List Piece) → ℕ
source_count [] = 0
source_count ((pieces.Index i ∷ []) ∷ es) = source_count es
source_count (e ∷ es) = source_count es + 1

abbrev pub all_pieces : List (List Piece) → List Piece
all_pieces es = flat_map (λ (e : List Piece). e) es

-- the elements up to `}`, where the first is no index
unfoldable pub members : Form (List Piece) → Form (List (List Piece))
members one = made (λ x. x.0) (lines one_flag (λ s. s) (λ s e. is_open e) (element one) (symbols.BraceClose ∷ []) (mark symbols.BraceClose) false)

-- { source* }
unfoldable pub list : Form (List Piece) → Form (List Piece)
list one = made (λ x. pieces.List x.0 (source_count x.1) ∷ all_pieces x.1) (both (mark symbols.BraceOpen) (members one))

-- a source with at most so many braces in one another
unfoldable pub source : ℕ → Form (List Piece)
source zero = made alone plain
source (suc n) = on (symbols.BraceOpen ∷ []) (list (source n)) (made alone plain)
