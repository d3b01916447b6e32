-- A file is fetched and judged.
use Rattle.std.proofs.Common.{◌≡◌, ℕ, List, refl, subst, ap, ◌∙◌, sym, Option, Some, None}
use Rattle.std.specs.Prelude.{Vec, Result, Ok, Err}
use Rattle.std.specs.declared.alloc.Global.{Global}
use Rattle.typed_heap.specs.Heap.{HeapContents}
use Rattle.typed_heap.specs.Objects.{HeapObject}
use Rattle.mu_base.specs.Outcome.{Outcome, got, Allows}
use Rattle.mu_texts.specs.declared.what.What.{What}
use Rattle.mu_texts.specs.declared.stop.Stop.{Stop}
use Rattle.mu_texts.specs.declared.stop.Stop.TheVariants.{Line, Memory}
use Rattle.mu_texts.specs.Answer.{Part}
use Rattle.mu_texts.specs.Comes.{Comes, Fills}
use Rattle.mu_command.specs.Answer.{judged}
use Rattle.mu_command.specs.Allowed.{Seen, AllowsFile}
use Rattle.mu_command.specs.Parts.{IsLoaded, IsJudged, OfFile, objects_in}

module _ {A : Type 0} (seen : Seen) (words : List (List ℕ)) (what : What) (n : Option ℕ) (part : List ℕ → Part A) where
  -- no file was fetched
  pub not_loaded : (stop : Stop) → IsLoaded seen words what n (Err stop) → IsJudged seen words what n part (Err stop)
  not_loaded Memory h = tt
  not_loaded (Line text status) h = record { outcome = h.0; allowed = h.1; comes = rw h.2 refl }

  -- it was, and its text was judged
  pub was_judged : (bytes : Vec ℕ Global) (r : Result A Stop) → IsLoaded seen words what n (Ok bytes) → Comes (part bytes.items) r → IsJudged seen words what n part r
  was_judged bytes (Ok x) h c = record { outcome = got bytes.items; allowed = h; comes = c }
  was_judged bytes (Err (Line text status)) h c = record { outcome = got bytes.items; allowed = h; comes = c }
  was_judged bytes (Err Memory) h c = tt

-- the same of a heap
module _ (seen : Seen) (words : List (List ℕ)) (what : What) (n : Option ℕ) (part : List ℕ → Part (List HeapObject)) where
  pub was_filled : (bytes : Vec ℕ Global) (r : Result HeapContents Stop) → IsLoaded seen words what n (Ok bytes) → Fills (part bytes.items) r → IsJudged seen words what n part (objects_in r)
  was_filled bytes (Ok x) h c = record { outcome = got bytes.items; allowed = h; comes = c }
  was_filled bytes (Err (Line text status)) h c = record { outcome = got bytes.items; allowed = h; comes = c }
  was_filled bytes (Err Memory) h c = tt

pub ruleset files = (not_loaded, was_judged, was_filled)
