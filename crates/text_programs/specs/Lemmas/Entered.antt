-- A function that may be entered takes nothing and has a body, so a run of it begins.
use Rattle.std.proofs.Common.{◌≡◌, refl, ◌∙◌, subst, ℕ, Bool, true, false, List, [], ◌∷◌, Option, Some, None, slice_get, if◌then◌else◌}
use Rattle.std.specs.Prelude.{is_some, Ok, Err}
use Rattle.ir_tree.specs.declared.items.Item.{Item}
use Rattle.checked_code.specs.declared.blocks.Function.{Function}
use Rattle.checked_code.specs.declared.fault.EntryFault.TheVariants.{BadSignature, NoBody}
use Rattle.checked_code.specs.Checking.{bundle_tables, bundle_functions}
use Rattle.checked_code.specs.Answers.{find, function_number, entry_of, entry, takes_nothing, first_in}
use Rattle.check_tables.specs.Lookups.{signature_in, takes_of, noted_classes}
use Rattle.typed_heap.specs.Places.{with_some}
use Rattle.mu_model.specs.Types.{classes_taken}
use Rattle.mu_model.specs.Configuration.{Configuration}
use Rattle.mu_model.specs.Programs.{named}
use Rattle.mu_model.specs.Run.{Setting, first_configuration, begins_in}
use Rattle.typed_programs.specs.Lemmas.Running.{runs_have_an_ending}
use Rattle.text_programs.specs.Laws.{EnteredRunsHaveAnEnding}
use Rattle.text_programs.specs.Lemmas.Texts.{read_have_blocks}

-- ---- what the answer to an entry tells

told : (o : Option (List ℕ)) → takes_nothing o ≡ true → noted_classes o ≡ []
told None h = cc
told (Some []) h = refl
told (Some (c ∷ cs)) h = cc

chosen : (takes has : Bool) (m n : ℕ) → (if takes then (if has then (Ok m) else (Err NoBody)) else (Err BadSignature)) ≡ Ok n → (takes ≡ true) × (has ≡ true) × (m ≡ n)
chosen true true m n h = (refl, refl, cc)
chosen true false m n h = cc
chosen false has m n h = cc

pub record MayBeEntered (bundle : List Item) (n : ℕ) : Type 0 where
  pub takes : takes_nothing (takes_of (signature_in (bundle_tables bundle) (slice_get (bundle_tables bundle).functions n))) ≡ true
  pub has : is_some (first_in (slice_get (bundle_functions bundle) n)) ≡ true

may_be : (bundle : List Item) (o : Option ℕ) (n : ℕ) → entry_of bundle o ≡ Ok n → MayBeEntered bundle n
may_be bundle None n h = cc
may_be bundle (Some m) n h =
    let k = chosen (takes_nothing (takes_of (signature_in (bundle_tables bundle) (slice_get (bundle_tables bundle).functions m)))) (is_some (first_in (slice_get (bundle_functions bundle) m))) m n h in
    subst (MayBeEntered bundle) k.2 (record { takes = k.0; has = k.1 })

body_of_some : (f : Option Function) → is_some (first_in f) ≡ true → (b : ℕ) × (with_some f (λ (g : Function). Some g.first) ≡ Some (Some b))
body_of_some None h = cc
body_of_some (Some f) h = first_is f.first h
  where
    first_is : (o : Option ℕ) → is_some o ≡ true → (b : ℕ) × (Some o ≡ Some (Some b))
    first_is None h = cc
    first_is (Some b) h = (b, refl)

begun : (bundle : List Item) (s : Setting) (n : ℕ) → MayBeEntered bundle n → (c : Configuration) × (first_configuration (named bundle) s n ≡ Some c)
begun bundle s n m =
    let b = body_of_some (slice_get (bundle_functions bundle) n) m.has in
    let e : (named bundle).body n ≡ Some (Some b.0) = b.1 in
    (begins_in (named bundle) s n b.0, rw e refl)

pub nothing_is_taken : (bundle : List Item) (name : List ℕ) (n : ℕ) → entry bundle name ≡ Ok n → classes_taken (bundle_tables bundle) n ≡ []
nothing_is_taken bundle name n entered = told _ (may_be bundle (function_number (find bundle name)) n entered).takes

pub entered_runs_have_an_ending : EnteredRunsHaveAnEnding
entered_runs_have_an_ending bytes bundle read names checked s name n fits entered =
    let m = may_be bundle (function_number (find bundle name)) n entered in
    let c = begun bundle s n m in
    (rw c.1 refl, runs_have_an_ending bundle names checked (read_have_blocks bytes bundle read) s n c.0 (record { setting = fits; takes = told _ m.takes }) c.1)
