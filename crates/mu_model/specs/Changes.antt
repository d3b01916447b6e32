-- The small changes of a configuration that acts share.
use Rattle.std.specs.Prelude.{ℕ, zero, suc, List, [], ◌∷◌, None, fold, length, slice_set, flat_map, option_map}
use Rattle.typed_heap.specs.Objects.{killed}
use Rattle.frames.specs.Activations.{Activation}
use Rattle.mem_axioms.specs.declared.types.Event.{Event}
use Rattle.mem_axioms.specs.declared.types.Kind.{Kind}
use Rattle.mu_model.specs.declared.lines.Line.TheVariants as lines
use Rattle.mu_model.specs.declared.lines.Note.{Note}
use Rattle.mu_model.specs.Configuration.{Stack, Dead, Thread, Configuration}

-- the element with a number is changed
abbrev pub changed : {A : Type 0} → (A → A) → ℕ → List A → List A
changed f n [] = []
changed f zero (x ∷ xs) = f x ∷ xs
changed f (suc n) (x ∷ xs) = x ∷ changed f n xs

-- ---- lines

abbrev pub noted : Note → Configuration → Configuration
noted n c = record c { lines = lines.Note n ∷ c.lines }

-- an event of a thread
abbrev pub event : ℕ → Kind → Event
event i k = record { thread = i; kind = k }

abbrev pub logged_event : Event → Configuration → Configuration
logged_event e c = record c { log = e ∷ c.log; lines = lines.Event (length c.log) e ∷ c.lines }

abbrev pub logged : ℕ → Kind → Configuration → Configuration
logged i k c = logged_event (event i k) c

-- ---- stacks and frames

abbrev pub stack_becomes : ℕ → Stack → Configuration → Configuration
stack_becomes k s c = record c { stacks = slice_set c.stacks k s }

-- with the frames their objects end: the cells of those die
abbrev pub frames_end : List Activation → Configuration → Configuration
frames_end fs c = record c { objects = fold (λ os n. changed killed n os) c.objects (flat_map (λ (f : Activation). f.objects) fs) }

-- a stack is dead, and its frames end
abbrev pub stack_dies : ℕ → List Activation → Configuration → Configuration
stack_dies k fs c = frames_end fs (stack_becomes k Dead c)

abbrev pub thread_ends : ℕ → Configuration → Configuration
thread_ends i c = record c { threads = slice_set c.threads i None }

abbrev pub thread_changes : ℕ → (Thread → Thread) → Configuration → Configuration
thread_changes i f c = record c { threads = changed (option_map f) i c.threads }
