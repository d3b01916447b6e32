-- A well-typed program: with values that fit the variables of a place, the instruction there does what fits.
use Rattle.std.specs.Prelude.{◌≡◌, ℕ, List, ◌++◌, Option, Some, IsSome, IsSomeAnd, slice_get}
use Rattle.typed_heap.specs.Objects.{leaf_classes, zeros}
use Rattle.typed_heap.specs.Fits.{World, ScalarsFit, signature_classes}
use Rattle.frames.specs.Activations.{Value}
use Rattle.mu_model.specs.Types.{type_graph, classes_taken, classes_given}
use Rattle.mu_model.specs.Acts.{Doing, Program}
use Rattle.model_laws.specs.Values.{ValuesFit, TypedFit, HasGlobals}
use Rattle.model_laws.specs.Places.{Places, HasTypes, HandlerFits, OnwardFits}
use Rattle.model_laws.specs.ActsFit.{ActFits, IsFunction}

-- an instruction has an act, a destination for exceptions or none, and values that it keeps, and all fit its place
pub record DoingFits (p : Program) (t : Places) (w : World) (block at : ℕ) (d : Doing) : Type 0 where
  pub act : IsSomeAnd d.act (ActFits p t w block at)
  pub exceptional : IsSomeAnd d.exceptional (HandlerFits p t w block)
  pub kept : IsSomeAnd d.kept (TypedFit (type_graph p.tables) w)

pub record IsTyped (p : Program) (t : Places) : Type 0 where
  pub types : HasTypes p.tables
  -- what the leaves of a type begin with fits them
  pub zeros : (w : World) (c : ℕ) → ScalarsFit (type_graph p.tables) w (leaf_classes (type_graph p.tables) c) (zeros (type_graph p.tables) (leaf_classes (type_graph p.tables) c))
  -- with values that fit the variables of its place an instruction does what fits: so no operand lacks a value or has another type
  pub doing : (w : World) (block at : ℕ) (ks : List ℕ) (vs : List Value) → HasGlobals p.tables w → t.before block at ≡ Some ks → ValuesFit (type_graph p.tables) w ks vs →
      IsSomeAnd (p.doing block at vs) (DoingFits p t w block at)
  -- and with its results behind them it goes on
  pub going_on : (w : World) (block at : ℕ) (ks gs : List ℕ) (vs : List Value) → HasGlobals p.tables w → t.before block at ≡ Some ks → t.gives block at ≡ Some gs →
      ValuesFit (type_graph p.tables) w (ks ++ gs) vs → IsSomeAnd (p.going_on block at vs) (OnwardFits p t w block at (ks ++ gs))
  -- each function of the bundle is one of the program
  pub functions : (f : ℕ) → IsSome (slice_get (signature_classes p.tables) f) → IsFunction p f
  -- the first block of a function takes its parameters, and gives its results
  pub body : (f b : ℕ) → p.body f ≡ Some (Some b) → (t.before b 0 ≡ Some (classes_taken p.tables f)) × (t.results b ≡ classes_given p.tables f)
