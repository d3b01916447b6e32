-- Which sources fit a part, lists among them, and the scalars that they are.
use Rattle.std.specs.Prelude.{ℕ, ◌==◌, List, [], ◌∷◌, ◌++◌, length, Option, Some, None, Result, Ok, Err, if◌then◌else◌}
use Rattle.demands.specs.declared.fault.Fault.{Fault}
use Rattle.demands.specs.declared.fault.Fault.TheVariants.{At}
use Rattle.hail_load.specs.declared.fault.LoadKind.{LoadKind}
use Rattle.hail_load.specs.declared.fault.LoadKind.TheVariants.{WrongType}
use Rattle.hail_load.specs.declared.tree.Piece.{Piece}
use Rattle.hail_load.specs.declared.tree.Piece.TheVariants as pieces
use Rattle.hail_load.specs.Code.{Code}
use Rattle.hail_load.specs.declared.parts.Part.{Part}
use Rattle.hail_load.specs.declared.parts.Part.TheVariants.{Value, Hybrid, Elements}
use Rattle.hail_load.specs.Parts.{parts_of, ◌>>=◌}
use Rattle.hail_load.specs.Fitting.{Store, Scalars, scalars_of}

-- where a source begins
abbrev pub piece_place : Piece → ℕ
piece_place (pieces.Number n) = n.place
piece_place (pieces.Null place) = place
piece_place (pieces.Global n) = n.place
piece_place (pieces.Object n) = n.place
piece_place (pieces.Reference place root) = place
piece_place (pieces.Index i) = i.place
piece_place (pieces.List place many) = place

-- a list fits what has as many parts as it has sources
abbrev pub wanted_by : ℕ → ℕ → Option (List Part) → Result (List Part) (Fault LoadKind)
wanted_by place many None = Err (At WrongType place)
wanted_by place many (Some parts) = if length parts == many then Ok parts else Err (At WrongType place)

-- a part that is no value of a type is filled by a list alone
abbrev pub part_scalars : Code → Store → Part → Piece → List Piece → Scalars
part_scalars c s (Value t) p more = scalars_of c s t p more
part_scalars c s (Hybrid t many) p more = Err (At WrongType (piece_place p))
part_scalars c s (Elements t many) p more = Err (At WrongType (piece_place p))

-- Pieces in order, with the parts that they are for: the scalars of all of them, or the first fault. A list is for the parts of the part
-- that it stands for.
abbrev pub judged : Code → Store → List Part → List Piece → Scalars
judged c s parts [] = Ok []
judged c s parts (pieces.Index i ∷ ps) = judged c s parts ps
judged c s [] (p ∷ ps) = Err (At WrongType (piece_place p))
judged c s (part ∷ parts) (pieces.List place many ∷ ps) = wanted_by place many (parts_of c.graph part) >>= λ inner. judged c s (inner ++ parts) ps
judged c s (part ∷ parts) (p ∷ ps) = part_scalars c s part p ps >>= λ these. judged c s parts ps >>= λ more. Ok (these ++ more)
