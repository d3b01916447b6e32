-- The objects that a script makes.
use Rattle.std.proofs.Common.{◌≡◌, ℕ, List, [], refl, sym, ◌∙◌, ap, Option, Some, None}
use Rattle.std.specs.Prelude.{Result, Ok, Err}
use Rattle.demands.specs.declared.fault.Fault.{Fault}
use Rattle.demands.specs.declared.fault.Fault.TheVariants.{At, Memory as NoMemory}
use Rattle.ir_tree.specs.declared.items.Item.{Item}
use Rattle.checked_code.specs.Checking.{bundle_tables}
use Rattle.typed_heap.specs.Heap.{HeapContents}
use Rattle.hail_load.specs.declared.tree.Command.{Command}
use Rattle.hail_load.specs.declared.fault.LoadKind.{LoadKind}
use Rattle.hail_load.specs.Code.{code_of}
use Rattle.hail_load.specs.Loading.{Loaded, load}
use Rattle.hail_load.specs.LoadAnswers.{loaded_from, Loads}
use Rattle.mu_model.specs.Run.{global_objects, cells_left}
use Rattle.loaded_programs.specs.Laws.{carried_out, loaded_objects, CellsAreCounted}
use Rattle.mu_texts.specs.declared.stop.Stop.{Stop}
use Rattle.mu_texts.specs.declared.stop.Stop.TheVariants.{Line, Memory}
use Rattle.mu_texts.specs.declared.what.What.TheVariants.{Hail}
use Rattle.mu_texts.specs.Refusals.{load_fault_name}
use Rattle.mu_texts.specs.Answer.{Part, ◌>>=◌, line, refused, met_part, hail_part, filled_part, loaded}
use Rattle.mu_texts.specs.Comes.{Comes, Fills, IsFilled, IsRefusal}

module _ (code : List Item) (cells : ℕ) (bytes : List ℕ) where
  -- the text is refused
  pub not_read : (stop : Stop) → Comes {A = List Command} (hail_part code bytes) (Err stop) → Fills (loaded code cells bytes) (Err stop)
  not_read Memory h = tt
  not_read (Line text status) h = rw h refl

  -- it is read, and its commands are carried out
  pub was_read : (commands : List Command) (r : Result HeapContents Stop) → hail_part code bytes ≡ Ok commands → Fills (filled_part code cells commands) r → Fills (loaded code cells bytes) r
  was_read commands r is fills = rw is fills

pub ruleset heaps = (not_read, was_read)

module _ (code : List Item) (cells : ℕ) (commands : List Command) (old : HeapContents) (objects : old.objects ≡ global_objects (bundle_tables code)) (left : old.left ≡ cells) where
  pub same : loaded_from (code_of code) old commands ≡ carried_out code cells commands
  same =
      ap (λ os. load (code_of code) (record { objects = os; left = old.left; made = [] }) commands) objects
      ∙ ap (λ k. load (code_of code) (record { objects = global_objects (bundle_tables code); left = k; made = [] }) commands) left

  pub all_made : (new : HeapContents) → Loads (code_of code) commands old new (Ok tt) → Fills (filled_part code cells commands) (Ok new)
  all_made new h = filled_so (sym (ap (λ (l : Loaded). l.fault) same) ∙ h.0) (h.1.0 ∙ ap (λ (l : Loaded). l.store.objects) same)
    where
      filled_so : (carried_out code cells commands).fault ≡ None → new.objects ≡ loaded_objects code cells commands → filled_part code cells commands ≡ Ok new.objects
      filled_so none os = rw (none, os) refl

  pub is_filled : (new : HeapContents) → CellsAreCounted → Loads (code_of code) commands old new (Ok tt) → IsFilled code cells new
  is_filled new law h =
      let os : new.objects ≡ loaded_objects code cells commands = h.1.0 ∙ ap (λ (l : Loaded). l.store.objects) same in
      record {
        objects = record { commands = commands; cells = cells; is = os };
        left = h.1.1 ∙ ap (λ (l : Loaded). l.store.left) same ∙ law code commands cells ∙ ap (cells_left (bundle_tables code) cells) (sym os);
      }

  pub one_refused : (new : HeapContents) (kind : LoadKind) (place : ℕ) (stop : Stop) → Loads (code_of code) commands old new (Err (At kind place)) → IsRefusal stop Hail place (load_fault_name kind) → Fills (filled_part code cells commands) (Err stop)
  one_refused new kind place Memory h r = absurd r
  one_refused new kind place (Line text status) h r = so (sym (ap (λ (l : Loaded). l.fault) same) ∙ h.0)
    where
      so : (carried_out code cells commands).fault ≡ Some (At kind place) → filled_part code cells commands ≡ Err (line text.items status)
      so e = rw (e, r) refl
