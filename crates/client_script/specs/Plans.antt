-- An answer as it is made, part by part.
-- Contracts inside the crate cite this; no public one does, so no reader of those needs it.
use Rattle.std.specs.Prelude.{◌≡◌, List, ◌++◌, Option, Some, None, Result, Ok, Err, map, flat_map, ⊤}
use Rattle.mu_values.specs.Slots.{TypedValues}
use Rattle.frames.specs.Activations.{Activation}
use Rattle.typed_heap.specs.Places.{with_some}
use Rattle.mu_model.specs.declared.lines.Note.{Note}
use Rattle.mu_model.specs.Clients.{Argument, Action}
use Rattle.mu_model.specs.Operands.{all_some}
use Rattle.mu_model.specs.Answers.{argument_value, typed, notes_of}
use Rattle.client_script.specs.declared.refusal.Refusal.{Refusal}
use Rattle.client_script.specs.declared.refusal.Refusal.TheVariants.{Misuse, Memory}

-- a part is made, as f sees it; it is misuse exactly where there is none
abbrev pub Makes : {A B : Type 0} → (B → A) → Option A → Result B Refusal → Type 0
Makes f part (Ok b) = part ≡ Some (f b)
Makes f part (Err Misuse) = part ≡ None
Makes f part (Err Memory) = ⊤

-- records are added behind others; it is misuse exactly where there are none
abbrev pub Adds : {U : Type 0} → Option (List Note) → List Note → List Note → Result U Refusal → Type 0
Adds added before after (Ok u) = with_some added (λ ns. Some (before ++ ns)) ≡ Some after
Adds added before after (Err Misuse) = added ≡ None
Adds added before after (Err Memory) = ⊤

-- the values of arguments with their types, and the records of actions, where each is there
abbrev pub passed : List Activation → List Argument → Option TypedValues
passed fs args = with_some (all_some (map (argument_value fs) args)) (λ vs. Some (typed vs))

abbrev pub noted : List Activation → List Action → Option (List Note)
noted fs actions = with_some (all_some (map (notes_of fs) actions)) (λ ns. Some (flat_map (λ n. n) ns))
