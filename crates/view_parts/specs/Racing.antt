-- Which access of a cell races first with an event.
use Rattle.std.specs.Prelude.{ℕ, List, Option}
use Rattle.write_history.specs.declared.access_index.Entry.{Entry}
use Rattle.view_parts.specs.LookUps.{FirstAfter, LeastOf}

-- the first entry of another thread than the given one that the clock does not know
pub record IsFirstUnknown (entries : ℕ → List Entry) (clock : List ℕ) (own : ℕ) (found : Option ℕ) : Type 0 where
  pub least : LeastOf (λ i. (u : ℕ) × FirstAfter entries clock own u i) found
