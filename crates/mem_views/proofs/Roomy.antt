-- Room after one more event.
use Rattle.std.proofs.Common.{◌≡◌, ℕ, ◌+◌, ◌-◌, ◌<◌, true, false, Some, List, [], ◌∷◌, ◌++◌, length, length-append, refl, sym, ap, ◌∙◌, inl, inr, ◌⊎◌, arith}
use Rattle.std.proofs.lemmas.Bool.{false≢true}
use Rattle.mu_values.specs.declared.cells.CellId.{CellId}
use Rattle.mu_values.specs.CellLaws.{same_cell-true, same_cell-refl}
use Rattle.mem_axioms.specs.Events.{accesses}
use Rattle.mem_axioms.specs.Rooms.{HasRoom, one_less}
use Rattle.mem_axioms.specs.declared.types.Event.{Event}
use Rattle.mem_axioms.specs.declared.types.Room.{Room}
use Rattle.mem_axioms.specs.declared.types.Kind.{Kind}
use Rattle.mem_axioms.specs.declared.types.Kind.TheVariants.{Access, Fence, NewStack, NewThread, Leave, Enter, Wake, Woken}
use Rattle.view_parts.specs.CellRooms.{CellRoomAt}
use Rattle.view_parts.specs.Roominess.{CellFits}
use Rattle.view_parts.specs.declared.cell.CellViews.{CellViews}
use Rattle.view_parts.specs.Lemmas.CellsKept.{cell-room-less}

room-kind : (room : Room) (t : ℕ) (k : Kind) (cell : CellId) → HasRoom room (record { thread = t; kind = k }) → accesses cell (record { thread = t; kind = k }) ≡ true → (room.thread ≡ t) × (room.cell ≡ Some cell)
room-kind room t (Access mode of o p x) cell h a = (h.1.0, h.1.1 ∙ ap Some (same_cell-true of cell a))
room-kind room t (Fence o) cell h a = absurd (false≢true a)
room-kind room t (NewStack o) cell h a = absurd (false≢true a)
room-kind room t (NewThread o) cell h a = absurd (false≢true a)
room-kind room t (Leave o) cell h a = absurd (false≢true a)
room-kind room t (Enter o) cell h a = absurd (false≢true a)
room-kind room t (Wake o n) cell h a = absurd (false≢true a)
room-kind room t (Woken o) cell h a = absurd (false≢true a)

-- the room of an access is for its thread and cell
room-of : (room : Room) (e : Event) (cell : CellId) → HasRoom room e → accesses cell e ≡ true → (room.thread ≡ e.thread) × (room.cell ≡ Some cell)
room-of room e = room-kind room e.thread e.kind

cases-kind : (t : ℕ) (k : Kind) → ((c : CellId) → accesses c (record { thread = t; kind = k }) ≡ false) ⊎ ((cell : CellId) × (accesses cell (record { thread = t; kind = k }) ≡ true))
cases-kind t (Access mode of o p x) = inr (of, same_cell-refl of)
cases-kind t (Fence o) = inl (λ c. refl)
cases-kind t (NewStack o) = inl (λ c. refl)
cases-kind t (NewThread o) = inl (λ c. refl)
cases-kind t (Leave o) = inl (λ c. refl)
cases-kind t (Enter o) = inl (λ c. refl)
cases-kind t (Wake o n) = inl (λ c. refl)
cases-kind t (Woken o) = inl (λ c. refl)

-- an access has a cell
access-cases : (e : Event) → ((c : CellId) → accesses c e ≡ false) ⊎ ((cell : CellId) × (accesses cell e ≡ true))
access-cases e = cases-kind e.thread e.kind

pub room-at : (room : Room) (e : Event) (cell : CellId) (numbers : CellId → ℕ) (kept : List CellViews) → CellFits room numbers kept → HasRoom room e → e.thread < 64 → accesses cell e ≡ true → CellRoomAt (room.events - 1 + 1) e.thread numbers kept cell
room-at room e cell numbers kept f h s a =
    let r = room-of room e cell h a in
    let n : room.events - 1 + 1 ≡ room.events = (let z = h.0 in omega (arith, z)) in
    rw (n, sym r.0) (f cell r.1 (let q = r.0 in omega (arith, q, s)))

pub fits-less : (room : Room) (e : Event) (numbers : CellId → ℕ) (old new : List CellViews) → CellFits room numbers old → HasRoom room e → (((c : CellId) → accesses c e ≡ false) → new ≡ old)
    → ((count : ℕ) (cell : CellId) → accesses cell e ≡ true → CellRoomAt (count + 1) e.thread numbers old cell → CellRoomAt count e.thread numbers new cell) → CellFits (one_less room) numbers new
fits-less room e numbers old new f h same less cell q t = go (access-cases e)
  where
    n : room.events - 1 + 1 ≡ room.events
    n = let z = h.0 in omega (arith, z)

    had : CellRoomAt (room.events - 1 + 1) room.thread numbers old cell
    had = rw n (f cell q t)

    some-one : (x y : CellId) → Some x ≡ Some y → x ≡ y
    some-one x y p = cc

    go : ((c : CellId) → accesses c e ≡ false) ⊎ ((x : CellId) × (accesses x e ≡ true)) → CellRoomAt (room.events - 1) room.thread numbers new cell
    go (inl none) = rw (same none) (cell-room-less (room.events - 1) room.thread numbers old cell had)
    go (inr w) =
        let r = room-of room e w.0 h w.1 in
        let x : w.0 ≡ cell = some-one w.0 cell (sym r.1 ∙ q) in
        rw r.0 (less (room.events - 1) cell (rw x at w.1) (rw r.0 at had))

-- the list of threads stays some
pub made-longer : (e : Event) (made made' : List ℕ) → 0 < length made → made' ≡ elim e.kind [ NewThread child ↦ made ++ child ∷ [] | _ ↦ made ] → 0 < length made'
made-longer e made made' n h = go e.kind h
  where
    go : (k : Kind) → made' ≡ elim k [ NewThread child ↦ made ++ child ∷ [] | _ ↦ made ] → 0 < length made'
    go (NewThread child) h = let s = ap (λ (ys : List ℕ). length ys) h in let l = length-append made (child ∷ []) in omega (arith, s, l, n)
    go (Access mode of o p x) h = let s = ap (λ (ys : List ℕ). length ys) h in omega (arith, s, n)
    go (Fence o) h = let s = ap (λ (ys : List ℕ). length ys) h in omega (arith, s, n)
    go (NewStack o) h = let s = ap (λ (ys : List ℕ). length ys) h in omega (arith, s, n)
    go (Leave o) h = let s = ap (λ (ys : List ℕ). length ys) h in omega (arith, s, n)
    go (Enter o) h = let s = ap (λ (ys : List ℕ). length ys) h in omega (arith, s, n)
    go (Wake o w) h = let s = ap (λ (ys : List ℕ). length ys) h in omega (arith, s, n)
    go (Woken o) h = let s = ap (λ (ys : List ℕ). length ys) h in omega (arith, s, n)
