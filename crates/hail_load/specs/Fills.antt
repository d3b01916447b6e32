-- What cells begin with, kept as fills before the heap is given it.
-- Contracts inside the crate cite this; no public one does, so no reader of those needs it.
use Rattle.std.specs.Prelude.{◌≡◌, ℕ, zero, suc, ◌+◌, ◌-◌, ◌^◌, ◌<◌, ◌≤◌, List, [], ◌∷◌, ◌++◌, length, map, Option, Some, None, slice_get, slice_index_or}
use Rattle.std.specs.List.{sum_by}
use Rattle.mu_values.specs.declared.scalars.Scalar.{Scalar}
use Rattle.typed_heap.specs.Objects.{HeapObject, with_filled}
use Rattle.typed_heap.specs.Heap.{HeapContents, cells_of}
use Rattle.hail_load.specs.declared.gathered.Run.{Run}
use Rattle.hail_load.specs.declared.fills.Fill.{Fill}
use Rattle.hail_load.specs.declared.fills.Fills.{Fills}
use Rattle.hail_load.specs.Answering.{AreWhole}
use Rattle.hail_load.specs.Gathered.{scalars_in}

-- ---- fills

-- a fill for each of them
abbrev pub fills_of : ℕ → ℕ → List Run → List Fill
fills_of object at [] = []
fills_of object at (r ∷ rs) = record { object = object; at = at; scalars = r } ∷ fills_of object (at + length (scalars_in r)) rs

-- what fills make of objects, the oldest first
abbrev pub made : List HeapObject → List Fill → List HeapObject
made os [] = os
made os (f ∷ fs) = made (with_filled os f.object f.at (scalars_in f.scalars) (slice_get os f.object)) fs

-- its cells are there, and its object has as long a row
pub record Fits (os : List HeapObject) (f : Fill) : Type 0 where
  pub there : f.object < length os
  pub cells : f.at + length (scalars_in f.scalars) ≤ cells_of (slice_get os f.object)
  pub narrow : f.at + length (scalars_in f.scalars) < 2 ^ 32

abbrev pub Every : (Fill → Type 0) → List Fill → Type 0
Every P [] = Unit {0}
Every P (f ∷ fs) = P f × Every P fs

-- ---- rows: of each cell 0, or else how many from it on are covered

abbrev pub entry : List ℕ → ℕ → ℕ
entry row k = slice_index_or row k 0

abbrev pub row_of : List (List ℕ) → ℕ → List ℕ
row_of rows n = slice_index_or rows n []

abbrev pub one_if_zero : ℕ → ℕ
one_if_zero zero = 1
one_if_zero (suc n) = 0

-- how many cells are not covered
abbrev pub uncovered : List ℕ → ℕ
uncovered row = sum_by one_if_zero row

abbrev pub uncovered_in : List (List ℕ) → ℕ
uncovered_in rows = sum_by uncovered rows

pub record HasRow (rows : List (List ℕ)) (f : Fill) : Type 0 where
  pub there : f.object < length rows
  pub cells : f.at + length (scalars_in f.scalars) ≤ length (row_of rows f.object)

-- what is known to be covered is
abbrev pub AreSteps : List ℕ → Type 0
AreSteps row = (k j : ℕ) → k ≤ j → j < k + entry row k → 1 ≤ entry row j

-- a fill of the cells from one on and before another covers them as far as this one
pub record Walked (old new : List ℕ) (at to end : ℕ) : Type 0 where
  pub long : length new ≡ length old
  pub before : (k : ℕ) → k < at → entry new k ≡ entry old k
  pub behind : (k : ℕ) → to ≤ k → entry new k ≡ entry old k
  pub covered : (k : ℕ) → at ≤ k → k < to → 1 ≤ entry new k
  pub steps : (k j : ℕ) → k ≤ j → j < k + entry new k → entry new j ≡ 0 → (to ≤ j) × (j < end)

-- ---- cells

-- an object without what its cells begin with
abbrev pub blank : List HeapObject → List HeapObject
blank os = map (λ (o : HeapObject). record o { initial = [] }) os

abbrev pub begun : Option HeapObject → ℕ → Option Scalar
begun None k = None
begun (Some o) k = slice_get o.initial k

abbrev pub cell : List HeapObject → ℕ → ℕ → Option Scalar
cell os n k = begun (slice_get os n) k

-- the cells of an object from one on and before another are given these scalars, where they are not covered
pub record Given (old new : List HeapObject) (row : List ℕ) (object at to : ℕ) (ss : List Scalar) : Type 0 where
  pub whole : AreWhole new
  pub same : blank new ≡ blank old
  pub kept : (n k : ℕ) → (n ≡ object → at ≤ k → k < to → entry row k ≡ 0 → ⊥) → cell new n k ≡ cell old n k
  pub given : (k : ℕ) → at ≤ k → k < to → entry row k ≡ 0 → cell new object k ≡ slice_get ss (k - at)

-- ---- heaps

-- the heap as it will be
abbrev pub shown : HeapContents → Fills → HeapContents
shown h f = record { objects = made h.objects f.fills.items; left = h.left; spare = h.spare }

-- a row has no cells yet, or those of its object, which a number tells
pub record AsLong (row : List ℕ) (o : Option HeapObject) : Type 0 where
  pub cells : 0 < length row → length row ≡ cells_of o
  pub narrow : length row < 2 ^ 32

-- all fills can be settled
pub record Lags (h : HeapContents) (f : Fills) : Type 0 where
  pub whole : AreWhole h.objects
  pub fits : Every (Fits h.objects) f.fills.items
  pub rows : Every (HasRow f.rows.items) f.fills.items
  pub none : (n k : ℕ) → entry (row_of f.rows.items n) k ≡ 0
  pub cells : f.cells ≡ uncovered_in f.rows.items
  pub room : f.cells ≤ h.spare
  pub few : length f.rows.items ≤ length h.objects
  pub long : (n : ℕ) → AsLong (row_of f.rows.items n) (slice_get h.objects n)
