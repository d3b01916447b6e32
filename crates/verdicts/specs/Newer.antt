-- Lemmas, with their proofs, on a log that has newer events after a part of it. No clause names anything here.
use Rattle.std.proofs.Common.{◌≡◌, ℕ, ◌+◌, ◌<◌, List, [], ◌∷◌, ◌++◌, length, length-append, inl, inr, arith}
use Rattle.std.specs.Prelude.{Some}
use Rattle.mem_axioms.specs.Logs.{event_at}
use Rattle.mem_axioms.specs.Lemmas.Numbers.{event-cases}
use Rattle.mem_axioms.specs.declared.types.Event.{Event}
use Rattle.verdicts.specs.Searches.{Extends}

-- an event of a log that has newer events after it
pub event_of_past : (newer past : List Event) (i : ℕ) (e : Event) → i < length past → event_at (newer ++ past) i ≡ Some e → event_at past i ≡ Some e
event_of_past [] past i e l h = h
event_of_past (x ∷ newer) past i e l h = elim (event-cases x (newer ++ past) i e h) [
  | inl q ↦ (let z = q.0 in let k = length-append newer past in absurd (omega (arith, z, k, l)))
  | inr q ↦ event_of_past newer past i e l q.1
]

pub event_there : (log past : List Event) (i : ℕ) (e : Event) → Extends log past → i < length past → event_at log i ≡ Some e → event_at past i ≡ Some e
event_there log past i e b l h = event_of_past b.newer past i e l (rw b.parts h)
