-- The instructions of an accepted bundle and their code, place by place.
use Rattle.std.proofs.Common.{◌≡◌, ℕ, zero, suc, ◌+◌, Bool, false, List, [], ◌∷◌, ◌++◌, Option, Some, None, map, length, slice_get, is_some, refl, ◌∙◌, ap, subst}
use Rattle.demands.specs.Demands.{AllMet, first_unmet}
use Rattle.name_scopes.specs.Names.{found}
use Rattle.demands.specs.Lemmas.Meeting.{all_met}
use Rattle.ir_lex.specs.declared.name.Name.{Name}
use Rattle.ir_tree.specs.declared.code.Inst.{Inst}
use Rattle.ir_tree.specs.declared.code.Block.{Block}
use Rattle.ir_tree.specs.declared.code.BlockHead.{BlockHead}
use Rattle.ir_tree.specs.declared.items.Funcdef.{Funcdef}
use Rattle.ir_tree.specs.declared.items.Item.{Item}
use Rattle.ir_tree.specs.declared.items.Item.TheVariants as items
use Rattle.bundle_names.specs.Naming.{name_demands}
use Rattle.checked_code.specs.declared.code.Code.{Code}
use Rattle.checked_code.specs.declared.scopes.Locals.{Locals}
use Rattle.checked_code.specs.Instructions.{after, after_all, gives, insts_demands, insts_code, is_ending, normal_of}
use Rattle.bundle_laws.specs.Typed.{LocalsFit, TablesFit}
use Rattle.bundle_laws.specs.Lemmas.TypedVariables.{results_fit}
use Rattle.checked_code.specs.declared.blocks.BlockCode.{BlockCode}
use Rattle.checked_code.specs.Blocks.{head_locals, handler_number, block_demands, blocks_demands, block_code, blocks_code}
use Rattle.checked_code.specs.Functions.{body_of, functions_demands, all_blocks}
use Rattle.checked_code.specs.Checking.{bundle_tables, bundle_blocks, check_demands}
use Rattle.bundle_laws.specs.Lemmas.Heads.{head_fits}
use Rattle.bundle_laws.specs.Lemmas.Tables.{tables_fit}
use Rattle.typed_heap.specs.Places.{with_some}
use Rattle.frames.specs.Activations.{Value}
use Rattle.mu_model.specs.Operands.{Scope, tables_in, variables}
use Rattle.mu_model.specs.Programs.{optional_goal, does_named, scopes_in, scopes_from, scopes_of, named}
use Rattle.model_numbers.specs.Numbered.{optional_goal_at, does_at, numbered}
use Rattle.model_numbers.specs.Lemmas.Names.{Stay, all_stay}
use Rattle.model_numbers.specs.Lemmas.Operands.{body, variable_classes, ScopeFits}
use Rattle.model_numbers.specs.Lemmas.Forms.{does_same, goes_on_same}

-- ---- the variables so far are the first of the block's

-- those behind the instructions that are left are all
record IsKnown (s : Scope) (ls : Locals) (left : List Inst) : Type 0 where
  whole : after_all (tables_in s) ls left ≡ variables s
  fits : LocalsFit ls

known : (s : Scope) (ls : Locals) (left : List Inst) → IsKnown s ls left → ScopeFits s ls
known s ls left k =
    let stay : Stay ls (after_all (tables_in s) ls left) = all_stay (tables_in s) ls left in
    record {
      each = λ name v e. subst (λ (l : Locals). found l.names name ≡ Some v) k.whole (stay.names name v e);
      fits = k.fits;
      more = λ n c e. subst (λ (l : Locals). slice_get l.classes n ≡ Some c) k.whole (stay.classes n c e);
    }

-- ---- instructions

-- one instruction further
next_known : (s : Scope) (ls : Locals) (i : Inst) (is : List Inst) → IsKnown s ls (i ∷ is) → IsKnown s (after (tables_in s) ls i) is
next_known s ls i is k = record { whole = k.whole; fits = results_fit ls i.results (gives (tables_in s) i.op) k.fits }

-- what both say of an instruction, where there is one
abbrev Both : List Item → Scope → List Value → Option Inst → Option Code → Type 0
Both bundle s vars i c =
    (with_some i (λ x. Some (does_named s vars x)) ≡ with_some c (λ x. Some (does_at bundle (variable_classes s) vars x)))
    × (with_some i (λ x. optional_goal s vars (normal_of x.op)) ≡ with_some c (λ x. optional_goal_at bundle vars x.normal))

insts_same : (s : Scope) (vars : List Value) (ls : Locals) (ended : Bool) (is : List Inst) (at : ℕ) → TablesFit (tables_in s) →
    IsKnown s ls is → AllMet (insts_demands (tables_in s) (body s) ls ended is) →
    Both s.bundle s vars (slice_get is at) (slice_get (insts_code (tables_in s) (body s) ls is) at)
insts_same s vars ls ended [] at fit k m = (refl, refl)
insts_same s vars ls ended (i ∷ is) zero fit k m = (
  ap (λ x. Some x) (does_same s ls ended i fit (known s ls (i ∷ is) k) m.0 vars),
  goes_on_same s ls ended i (known s (after (tables_in s) ls i) is (next_known s ls i is k)) m.0 vars,
)
insts_same s vars ls ended (i ∷ is) (suc at) fit k m = insts_same s vars (after (tables_in s) ls i) (is_ending i.op) is at fit (next_known s ls i is k) m.1

-- ---- blocks

-- a block and its code: its classes, whether it has a handler, and each instruction
record BlockIsSame (bundle : List Item) (s : Scope) (c : BlockCode) : Type 0 where
  types : variable_classes s ≡ c.classes
  handler : is_some s.block.head.handler ≡ is_some c.handler
  each : (vars : List Value) (at : ℕ) → Both bundle s vars (slice_get s.block.insts at) (slice_get c.code at)

handler_same : (h : BlockHead) (o : Option Name) → is_some o ≡ is_some (handler_number h o)
handler_same h None = refl
handler_same h (Some n) = refl

head_known : (s : Scope) → IsKnown s (head_locals (tables_in s) s.block.head) s.block.insts
head_known s = record { whole = refl; fits = head_fits (tables_in s) s.block.head }

block_same : (s : Scope) (item k : ℕ) → TablesFit (tables_in s) → AllMet (block_demands (tables_in s) (body s) s.block) →
    BlockIsSame s.bundle s (block_code (tables_in s) (body s) item k s.block)
block_same s item k fit m = record {
  types = refl;
  handler = handler_same s.block.head s.block.head.handler;
  each = λ vars at. insts_same s vars (head_locals (tables_in s) s.block.head) false s.block.insts at fit (head_known s) m.1.0;
}

-- blocks and their code, which are equally many
AllSame : List Item → List Scope → List BlockCode → Type 0
AllSame bundle [] [] = Unit {0}
AllSame bundle [] (c ∷ cs) = ⊥
AllSame bundle (s ∷ ss) [] = ⊥
AllSame bundle (s ∷ ss) (c ∷ cs) = BlockIsSame bundle s c × AllSame bundle ss cs

both_lists : (bundle : List Item) (ss rs : List Scope) (cs ds : List BlockCode) → AllSame bundle ss cs → AllSame bundle rs ds → AllSame bundle (ss ++ rs) (cs ++ ds)
unfolding AllSame
both_lists bundle [] rs [] ds a b = b
both_lists bundle [] rs (c ∷ cs) ds a b = absurd a
both_lists bundle (s ∷ ss) rs [] ds a b = absurd a
both_lists bundle (s ∷ ss) rs (c ∷ cs) ds a b = (a.0, both_lists bundle ss rs cs ds a.1 b)

abbrev scope : List Item → Funcdef → ℕ → Block → Scope
scope bundle d first b = record { bundle = bundle; function = d; first = first; block = b }

blocks_same : (bundle : List Item) (d : Funcdef) (first item k : ℕ) (bs : List Block) → TablesFit (bundle_tables bundle) →
    AllMet (blocks_demands (bundle_tables bundle) (body_of (bundle_tables bundle) first d) bs) →
    AllSame bundle (map (scope bundle d first) bs) (blocks_code (bundle_tables bundle) (body_of (bundle_tables bundle) first d) item k bs)
unfolding AllSame
blocks_same bundle d first item k [] fit m = tt
blocks_same bundle d first item k (b ∷ bs) fit m = (block_same (scope bundle d first b) item k fit m.0, blocks_same bundle d first item (suc k) bs fit m.1)

items_same : (bundle : List Item) (item first : ℕ) (is : List Item) → TablesFit (bundle_tables bundle) → AllMet (functions_demands (bundle_tables bundle) first is) →
    AllSame bundle (scopes_from bundle first is) (all_blocks (bundle_tables bundle) item first is)
unfolding AllSame
items_same bundle item first [] fit m = tt
items_same bundle item first (items.Typedef d ∷ is) fit m = items_same bundle (suc item) first is fit m
items_same bundle item first (items.Funcsig d ∷ is) fit m = items_same bundle (suc item) first is fit m
items_same bundle item first (items.Const d ∷ is) fit m = items_same bundle (suc item) first is fit m
items_same bundle item first (items.GlobalCell d ∷ is) fit m = items_same bundle (suc item) first is fit m
items_same bundle item first (items.Funcdecl d ∷ is) fit m = items_same bundle (suc item) first is fit m
items_same bundle item first (items.Funcdef d ∷ is) fit m =
    both_lists bundle (scopes_in bundle d first) (scopes_from bundle (first + length d.blocks) is)
    (blocks_code (bundle_tables bundle) (body_of (bundle_tables bundle) first d) item 0 d.blocks) (all_blocks (bundle_tables bundle) (suc item) (first + length d.blocks) is)
    (blocks_same bundle d first item 0 d.blocks fit m.0.1.1) (items_same bundle (suc item) (first + length d.blocks) is fit m.1)

-- ---- by number

-- what two blocks with the same number say alike
by_number : {B : Type 0} (bundle : List Item) (f : Scope → Option B) (g : BlockCode → Option B) (ss : List Scope) (cs : List BlockCode) (n : ℕ) → AllSame bundle ss cs →
    ((s : Scope) (c : BlockCode) → BlockIsSame bundle s c → f s ≡ g c) → with_some (slice_get ss n) f ≡ with_some (slice_get cs n) g
unfolding AllSame
by_number bundle f g [] [] n a same = refl
by_number bundle f g [] (c ∷ cs) n a same = absurd a
by_number bundle f g (s ∷ ss) [] n a same = absurd a
by_number bundle f g (s ∷ ss) (c ∷ cs) zero a same = same s c a.0
by_number bundle f g (s ∷ ss) (c ∷ cs) (suc n) a same = by_number bundle f g ss cs n a.1 same

all_same : (bundle : List Item) → first_unmet (name_demands bundle) ≡ None → first_unmet (check_demands bundle) ≡ None → AllSame bundle (scopes_of bundle) (bundle_blocks bundle)
unfolding check_demands
all_same bundle names checked = items_same bundle 0 0 bundle (tables_fit bundle names checked) (all_met (check_demands bundle) checked).1

-- ---- what the machine asks, field by field

pub doing_same : (bundle : List Item) → first_unmet (name_demands bundle) ≡ None → first_unmet (check_demands bundle) ≡ None → (block at : ℕ) (vars : List Value) →
    (named bundle).doing block at vars ≡ (numbered bundle).doing block at vars
doing_same bundle names checked block at vars =
    by_number bundle (λ s. with_some (slice_get s.block.insts at) (λ i. Some (does_named s vars i))) (λ c. with_some (slice_get c.code at) (λ i. Some (does_at bundle c.classes vars i)))
    (scopes_of bundle) (bundle_blocks bundle) block (all_same bundle names checked)
    (λ s c same. (same.each vars at).0 ∙ ap (λ (cs : List ℕ). with_some (slice_get c.code at) (λ i. Some (does_at bundle cs vars i))) same.types)

pub going_on_same : (bundle : List Item) → first_unmet (name_demands bundle) ≡ None → first_unmet (check_demands bundle) ≡ None → (block at : ℕ) (vars : List Value) →
    (named bundle).going_on block at vars ≡ (numbered bundle).going_on block at vars
going_on_same bundle names checked block at vars =
    by_number bundle (λ s. with_some (slice_get s.block.insts at) (λ i. optional_goal s vars (normal_of i.op))) (λ c. with_some (slice_get c.code at) (λ i. optional_goal_at bundle vars i.normal))
    (scopes_of bundle) (bundle_blocks bundle) block (all_same bundle names checked) (λ s c same. (same.each vars at).1)

pub has_handler_same : (bundle : List Item) → first_unmet (name_demands bundle) ≡ None → first_unmet (check_demands bundle) ≡ None → (block : ℕ) →
    (named bundle).has_handler block ≡ (numbered bundle).has_handler block
has_handler_same bundle names checked block =
    by_number bundle (λ s. Some (is_some s.block.head.handler)) (λ c. Some (is_some c.handler)) (scopes_of bundle) (bundle_blocks bundle) block (all_same bundle names checked)
    (λ s c same. ap (λ (b : Bool). Some b) same.handler)
