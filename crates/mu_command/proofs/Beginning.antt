-- A run is that from its first configuration.
use Rattle.std.proofs.Common.{◌≡◌, ℕ, suc, ◌+◌, List, ap, subst, sym, ◌∙◌, add-one, Option, Some, None}
use Rattle.std.specs.Prelude.{Result, Ok, Err, IfOk}
use Rattle.ir_tree.specs.declared.items.Item.{Item}
use Rattle.typed_heap.specs.Places.{with_some}
use Rattle.mu_model.specs.Acts.{Program}
use Rattle.mu_model.specs.Configuration.{Configuration}
use Rattle.mu_model.specs.Programs.{named}
use Rattle.checked_code.specs.Checking.{bundle_tables}
use Rattle.mem_axioms.specs.declared.types.Rule.{Rule}
use Rattle.mu_model.specs.Run.{Setting, begins_in, cells_left, first_configuration, run, run_from}
use Rattle.mu_texts.specs.Start.{Started}
use Rattle.mu_texts.specs.Answer.{run_of}

-- it may make as many steps as the run is given
budget_of : (p : Program) (s : Setting) (f : ℕ) (c : Configuration) (body : Option (Option ℕ)) →
    with_some body (λ b. with_some b (λ block. Some (begins_in p s f block))) ≡ Some c → c.budget ≡ s.budget
budget_of p s f c None h = cc
budget_of p s f c (Some None) h = cc
budget_of p s f c (Some (Some b)) h = let same : begins_in p s f b ≡ c = cc in ap (λ (x : Configuration). x.budget) (sym same)

pub run_is : (code : List Item) (n : ℕ) (s : Setting) (c : Configuration) → first_configuration (named code) s n ≡ Some c → run_of code n s ≡ run (named code) (s.budget + 1) c
unfolding run_of
run_is code n s c h =
    let b : c.budget ≡ s.budget = budget_of (named code) s n c ((named code).body n) h in
    ap (run_from (named code)) h ∙ ap (λ (k : ℕ). run (named code) (suc k) c) b ∙ ap (λ (k : ℕ). run (named code) k c) (sym (add-one s.budget))

-- what follows of a result follows where there is one
pub if_ok : {A E : Type 0} (P Q : A → Type 0) → ((a : A) → P a → Q a) → (r : Result A E) → IfOk r P → IfOk r Q
if_ok P Q f (Ok a) h = f a h
if_ok P Q f (Err e) h = tt

-- a machine that was made of what a run begins with stands at its beginning
pub begins_so : (code : List Item) (v s : Started) (rule : Rule) (c : Configuration) → v ≡ s → rule ≡ v.setting.rule → s.left ≡ cells_left (bundle_tables code) s.setting.cells s.setting.objects
    → ((cells : ℕ) → v.left ≡ cells_left (bundle_tables code) cells v.setting.objects → first_configuration (named code) (record v.setting { cells = cells; rule = rule }) v.entry ≡ Some c)
    → first_configuration (named code) s.setting s.entry ≡ Some c
begins_so code v s rule c same ruled left first =
    let there : v.left ≡ cells_left (bundle_tables code) v.setting.cells v.setting.objects = subst (λ (s : Started). s.left ≡ cells_left (bundle_tables code) s.setting.cells s.setting.objects) (sym same) left in
    subst (λ (s : Started). first_configuration (named code) s.setting s.entry ≡ Some c) same
    (ap (λ (r : Rule). first_configuration (named code) (record v.setting { rule = r }) v.entry) (sym ruled) ∙ first v.setting.cells there)
