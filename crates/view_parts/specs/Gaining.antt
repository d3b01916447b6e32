-- What an event takes and gives, by what is kept.
use Rattle.std.specs.Prelude.{ℕ, Bool, ◌&&◌, if◌then◌else◌, List, slice_index}
use Rattle.mem_axioms.specs.Events.{is_access, is_atomic, loads, order_of}
use Rattle.mem_axioms.specs.Synchronizes.{releases}
use Rattle.mem_axioms.specs.declared.types.Event.{Event}

-- an atomic read or update
abbrev pub takes_atomic : Event → Bool
takes_atomic e = is_access (λ mode cell order position. loads mode && is_atomic order) e

-- what a head gives, where it knows `clock` and its thread knew `fenced` at its last release fence
abbrev pub given_of : Event → List ℕ → List ℕ → ℕ → ℕ
given_of e clock fenced u = if is_atomic (order_of e) then if releases (order_of e) then slice_index clock u else slice_index fenced u else 0
