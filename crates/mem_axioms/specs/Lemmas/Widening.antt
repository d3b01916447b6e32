-- What stays as it was where objects are added.
use Rattle.std.proofs.Common.{◌≡◌, ℕ, true, List, [], ◌∷◌, ◌++◌, length-append, slice_index_or, sym, ap, ◌∙◌, inl, inr, arith}
use Rattle.std.proofs.lemmas.List.{get_or_append_left}
use Rattle.mu_base.specs.declared.order.Order.{Order}
use Rattle.mu_values.specs.declared.scalars.Scalar.{Scalar}
use Rattle.mu_values.specs.declared.scalars.Scalar.TheVariants.{Null}
use Rattle.mu_values.specs.declared.cells.CellId.{CellId}
use Rattle.mu_values.specs.CellLaws.{same_cell-true}
use Rattle.mem_axioms.specs.Events.{accesses}
use Rattle.mem_axioms.specs.Form.{value_at}
use Rattle.mem_axioms.specs.Axioms.{meets_axioms}
use Rattle.mem_axioms.specs.Choices.{read_at, is_option}
use Rattle.mem_axioms.specs.Objects.{initial_of, HasCell}
use Rattle.mem_axioms.specs.EventFits.{EventFits}
use Rattle.mem_axioms.specs.Known.{HasCells}
use Rattle.mem_axioms.specs.Sound.{IsSound}
use Rattle.mem_axioms.specs.declared.types.Event.{Event}
use Rattle.mem_axioms.specs.declared.types.Rule.{Rule}
use Rattle.mem_axioms.specs.declared.types.Kind.{Kind}
use Rattle.mem_axioms.specs.declared.types.Kind.TheVariants.{Access, Fence, NewStack, NewThread, Leave, Enter, Wake, Woken}
use Rattle.mem_axioms.specs.declared.types.Mode.TheVariants.{Read, Write, Update}
use Rattle.mem_axioms.specs.Lemmas.Numbers.{event-cases}
use Rattle.mem_axioms.specs.Lemmas.Initials.{meets-same, value-same}

module _ (objects more : List (List Scalar)) where
  -- an older cell is there still, with its initial scalar
  pub cell-wider : (c : CellId) → HasCell objects c → HasCell (objects ++ more) c
  cell-wider c h =
      let e = get_or_append_left objects more [] c.object h.0 in
      let l = length-append objects more in
      (omega (arith, l, h.0), rw e h.1)

  pub initial-wider : (c : CellId) → HasCell objects c → initial_of objects c ≡ initial_of (objects ++ more) c
  initial-wider c h = sym (ap (λ cells. slice_index_or cells c.at Null) (get_or_append_left objects more [] c.object h.0))

  pub cells-wider : (log : List Event) → HasCells objects log → HasCells (objects ++ more) log
  cells-wider log h = record { each = λ i e c at a. cell-wider c (h.each i e c at a) }

  pub value-wider : (log : List Event) (c : CellId) (position : ℕ) → HasCell objects c → value_at (initial_of objects) log c position ≡ value_at (initial_of (objects ++ more)) log c position
  value-wider log c position h = value-same (initial_of objects) (initial_of (objects ++ more)) log c position (initial-wider c h)

  pub meets-wider : (rule : Rule) (log : List Event) → HasCells objects log → meets_axioms rule (initial_of objects) log ≡ meets_axioms rule (initial_of (objects ++ more)) log
  meets-wider rule log cells = meets-same rule (initial_of objects) (initial_of (objects ++ more)) log (λ i e c at a. initial-wider c (cells.each i e c at a))

  pub sound-wider : (rule : Rule) (log : List Event) → HasCells objects log → IsSound rule objects log → IsSound rule (objects ++ more) log
  sound-wider rule log cells s = record { axioms = sym (meets-wider rule log cells) ∙ s.axioms; race_free = s.race_free }

  module _ (rule : Rule) (log : List Event) (cells : HasCells objects log) where
    -- the read of an option accesses a cell that is there
    read-cells : (thread : ℕ) (cell : CellId) (order : Order) (position : ℕ) → HasCell objects cell → HasCells objects (read_at (initial_of objects) log thread cell order position ∷ log)
    read-cells thread cell order position there = record {
      each = λ i e c at a. elim (event-cases (read_at (initial_of objects) log thread cell order position) log i e at) [
        | inl p ↦ newest-cell c (rw p.1 at a)
        | inr p ↦ cells.each i e c p.1 a
      ];
    }
      where
        newest-cell : (c : CellId) → accesses c (read_at (initial_of objects) log thread cell order position) ≡ true → HasCell objects c
        newest-cell c a = rw (sym (same_cell-true cell c a)) there

    pub option-wider : (thread : ℕ) (cell : CellId) (order : Order) (position : ℕ) → HasCell objects cell
        → is_option rule (initial_of (objects ++ more)) log thread cell order position ≡ is_option rule (initial_of objects) log thread cell order position
    option-wider thread cell order position there = rw (sym (value-wider log cell position there)) (sym (meets-wider rule (read_at (initial_of objects) log thread cell order position ∷ log) (read-cells thread cell order position there)))

    fits-wider-kind : (t : ℕ) (k : Kind) → EventFits rule objects log (record { thread = t; kind = k }) → EventFits rule (objects ++ more) log (record { thread = t; kind = k })
    fits-wider-kind t (Access Read cell order position value) f = record {
      thread = f.thread;
      child = tt;
      cell = cell-wider cell f.cell;
      wake = tt;
      position = (option-wider t cell order position f.cell ∙ f.position.0, f.position.1 ∙ value-wider log cell position f.cell);
    }
    fits-wider-kind t (Access Write cell order position value) f = record { thread = f.thread; child = tt; cell = cell-wider cell f.cell; wake = tt; position = f.position }
    fits-wider-kind t (Access Update cell order position value) f = record { thread = f.thread; child = tt; cell = cell-wider cell f.cell; wake = tt; position = f.position }
    fits-wider-kind t (Fence o) f = record { thread = f.thread; child = tt; cell = tt; wake = tt; position = tt }
    fits-wider-kind t (NewStack o) f = record { thread = f.thread; child = tt; cell = tt; wake = tt; position = tt }
    fits-wider-kind t (NewThread o) f = record { thread = f.thread; child = f.child; cell = tt; wake = tt; position = tt }
    fits-wider-kind t (Leave o) f = record { thread = f.thread; child = tt; cell = tt; wake = tt; position = tt }
    fits-wider-kind t (Enter o) f = record { thread = f.thread; child = tt; cell = tt; wake = tt; position = tt }
    fits-wider-kind t (Wake o n) f = record { thread = f.thread; child = tt; cell = cell-wider o f.cell; wake = tt; position = tt }
    fits-wider-kind t (Woken o) f = record { thread = f.thread; child = tt; cell = tt; wake = f.wake; position = tt }

    pub fits-wider : (e : Event) → EventFits rule objects log e → EventFits rule (objects ++ more) log e
    fits-wider e = fits-wider-kind e.thread e.kind
