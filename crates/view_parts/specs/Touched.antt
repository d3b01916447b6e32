-- The accesses of a cell by thread and family.
use Rattle.std.specs.Prelude.{◌≡◌, ℕ, zero, suc, ◌<◌, ◌≤◌, List, [], slice_index, slice_index_or}
use Rattle.write_history.specs.Rooms.{Accesses}
use Rattle.write_history.specs.declared.access_index.Entry.{Entry}
use Rattle.view_parts.specs.declared.families.Family.{Family}
use Rattle.view_parts.specs.declared.families.Family.TheVariants.{Any, Modifications, NotAtomic, NotAtomicModifications, SeqCst}
use Rattle.view_parts.specs.declared.touched.ThreadAccesses.{ThreadAccesses}
use Rattle.view_parts.specs.declared.touched.CellAccesses.{CellAccesses}

-- the index of a family
abbrev pub index_in : Family → ThreadAccesses → Accesses
index_in Any a = a.all
index_in Modifications a = a.modifications
index_in NotAtomic a = a.not_atomic
index_in NotAtomicModifications a = a.not_atomic_modifications
index_in SeqCst a = a.seq_cst

abbrev pub no_index : Accesses
no_index = record { accesses = []; spare = 0 }

-- of a thread that did not access the cell
abbrev pub no_accesses : ThreadAccesses
no_accesses = record { all = no_index; modifications = no_index; not_atomic = no_index; not_atomic_modifications = no_index; seq_cst = no_index }

-- what a slot names: nothing by 0, else what stands at the place below the number
abbrev pub under : List ThreadAccesses → ℕ → ThreadAccesses
under touched zero = no_accesses
under touched (suc p) = slice_index_or touched p no_accesses

-- the index of a family by a thread
abbrev pub index_of : CellAccesses → Family → ℕ → Accesses
index_of kept family u = index_in family (under kept.touched.items (slice_index kept.slots.items u))

abbrev pub entries_at : CellAccesses → Family → ℕ → List Entry
entries_at kept family u = (index_of kept family u).accesses

-- no access is another, and no room is less
pub record IsKept (old new : CellAccesses) : Type 0 where
  pub entries : (family : Family) (u : ℕ) → entries_at new family u ≡ entries_at old family u
  pub room : (family : Family) (u : ℕ) → (index_of old family u).spare ≤ (index_of new family u).spare
  pub there : (u : ℕ) → 0 < slice_index old.slots.items u → 0 < slice_index new.slots.items u
