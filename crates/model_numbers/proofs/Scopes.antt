-- The blocks of a bundle, each as it stands in its function.
use Rattle.std.proofs.Common.{◌≡◌, ℕ, zero, suc, ◌+◌, false, List, [], ◌∷◌, ◌++◌, Some, map, length, slice_get, refl, sym, ◌∙◌, ap, subst, append_assoc, length-append}
use Rattle.std.proofs.lemmas.List.{length-map}
use Rattle.std.specs.List.{AllByRecursion}
use Rattle.demands.specs.Demands.{AllMet}
use Rattle.ir_tree.specs.declared.code.Block.{Block}
use Rattle.ir_tree.specs.declared.items.Funcdef.{Funcdef}
use Rattle.ir_tree.specs.declared.items.Item.{Item}
use Rattle.ir_tree.specs.declared.items.Item.TheVariants as items
use Rattle.checked_code.specs.Instructions.{insts_demands}
use Rattle.bundle_laws.specs.Lemmas.TypedVariables.{get_more}
use Rattle.checked_code.specs.Blocks.{head_locals, blocks_demands}
use Rattle.checked_code.specs.Functions.{body_of, functions_demands}
use Rattle.checked_code.specs.Checking.{bundle_tables}
use Rattle.bundle_laws.specs.Lemmas.Graph.{get_right}
use Rattle.mu_model.specs.Operands.{Scope, tables_in}
use Rattle.mu_model.specs.Programs.{scopes_in, scopes_from, scopes_of}
use Rattle.model_numbers.specs.Lemmas.Names.{some_is}
use Rattle.model_numbers.specs.Lemmas.Operands.{body}

-- ---- what holds of each

pub each_of : (P : Scope → Type 0) (ss : List Scope) (k : ℕ) (s : Scope) → AllByRecursion P ss → slice_get ss k ≡ Some s → P s
each_of P [] k s all e = cc
each_of P (x ∷ ss) zero s all e = subst P (some_is x s e) all.0
each_of P (x ∷ ss) (suc k) s all e = each_of P ss k s all.1 e

both_of : (P : Scope → Type 0) (ss rs : List Scope) → AllByRecursion P ss → AllByRecursion P rs → AllByRecursion P (ss ++ rs)
both_of P [] rs all more = more
both_of P (s ∷ ss) rs all more = (all.0, both_of P ss rs all.1 more)

-- ---- the instructions of each meet their demands

abbrev pub IsMet : Scope → Type 0
IsMet s = AllMet (insts_demands (tables_in s) (body s) (head_locals (tables_in s) s.block.head) false s.block.insts)

abbrev scope : List Item → Funcdef → ℕ → Block → Scope
scope bundle d first b = record { bundle = bundle; function = d; first = first; block = b }

blocks_met : (bundle : List Item) (d : Funcdef) (first : ℕ) (bs : List Block) →
    AllMet (blocks_demands (bundle_tables bundle) (body_of (bundle_tables bundle) first d) bs) → AllByRecursion IsMet (map (scope bundle d first) bs)
blocks_met bundle d first [] met = tt
blocks_met bundle d first (b ∷ bs) met = (met.0.1.0, blocks_met bundle d first bs met.1)

pub scopes_met : (bundle : List Item) (first : ℕ) (is : List Item) → AllMet (functions_demands (bundle_tables bundle) first is) → AllByRecursion IsMet (scopes_from bundle first is)
scopes_met bundle first [] met = tt
scopes_met bundle first (items.Typedef d ∷ is) met = scopes_met bundle first is met
scopes_met bundle first (items.Funcsig d ∷ is) met = scopes_met bundle first is met
scopes_met bundle first (items.Const d ∷ is) met = scopes_met bundle first is met
scopes_met bundle first (items.GlobalCell d ∷ is) met = scopes_met bundle first is met
scopes_met bundle first (items.Funcdecl d ∷ is) met = scopes_met bundle first is met
scopes_met bundle first (items.Funcdef d ∷ is) met =
    both_of IsMet (scopes_in bundle d first) (scopes_from bundle (first + length d.blocks) is) (blocks_met bundle d first d.blocks met.0.1.1) (scopes_met bundle (first + length d.blocks) is met.1)

-- ---- the blocks of its function stand behind one another

abbrev pub IsPlaced : List Scope → Scope → Type 0
IsPlaced all s = (n : ℕ) (b : Block) → slice_get s.function.blocks n ≡ Some b → slice_get all (s.first + n) ≡ Some (record s { block = b })

get_map : {A B : Type 0} (f : A → B) (xs : List A) (n : ℕ) (a : A) → slice_get xs n ≡ Some a → slice_get (map f xs) n ≡ Some (f a)
get_map f [] n a e = cc
get_map f (x ∷ xs) zero a e = ap (λ y. Some (f y)) (some_is x a e)
get_map f (x ∷ xs) (suc n) a e = get_map f xs n a e

blocks_placed : (all : List Scope) (bundle : List Item) (d : Funcdef) (first : ℕ) (bs : List Block) →
    ((n : ℕ) (b : Block) → slice_get d.blocks n ≡ Some b → slice_get all (first + n) ≡ Some (scope bundle d first b)) → AllByRecursion (IsPlaced all) (map (scope bundle d first) bs)
blocks_placed all bundle d first [] placed = tt
blocks_placed all bundle d first (b ∷ bs) placed = (placed, blocks_placed all bundle d first bs placed)

items_placed : (all : List Scope) (bundle : List Item) (before : List Scope) (is : List Item) → all ≡ before ++ scopes_from bundle (length before) is →
    AllByRecursion (IsPlaced all) (scopes_from bundle (length before) is)
items_placed all bundle before [] e = tt
items_placed all bundle before (items.Typedef d ∷ is) e = items_placed all bundle before is e
items_placed all bundle before (items.Funcsig d ∷ is) e = items_placed all bundle before is e
items_placed all bundle before (items.Const d ∷ is) e = items_placed all bundle before is e
items_placed all bundle before (items.GlobalCell d ∷ is) e = items_placed all bundle before is e
items_placed all bundle before (items.Funcdecl d ∷ is) e = items_placed all bundle before is e
items_placed all bundle before (items.Funcdef d ∷ is) e =
    both_of (IsPlaced all) own rest (blocks_placed all bundle d (length before) d.blocks own_placed)
    (subst (λ (k : ℕ). AllByRecursion (IsPlaced all) (scopes_from bundle k is)) many (items_placed all bundle (before ++ own) is further))
  where
    own : List Scope
    own = scopes_in bundle d (length before)

    rest : List Scope
    rest = scopes_from bundle (length before + length d.blocks) is

    many : length (before ++ own) ≡ length before + length d.blocks
    many = length-append before own ∙ ap (λ (k : ℕ). length before + k) (length-map d.blocks (scope bundle d (length before)))

    further : all ≡ (before ++ own) ++ scopes_from bundle (length (before ++ own)) is
    further = e ∙ sym (append_assoc before own rest) ∙ ap (λ (k : ℕ). (before ++ own) ++ scopes_from bundle k is) (sym many)

    own_placed : (n : ℕ) (b : Block) → slice_get d.blocks n ≡ Some b → slice_get all (length before + n) ≡ Some (scope bundle d (length before) b)
    own_placed n b h =
        ap (λ (ss : List Scope). slice_get ss (length before + n)) e
        ∙ get_right before (own ++ rest) n
        ∙ get_more own rest n (scope bundle d (length before) b) (get_map (scope bundle d (length before)) d.blocks n b h)

pub scopes_placed : (bundle : List Item) → AllByRecursion (IsPlaced (scopes_of bundle)) (scopes_of bundle)
scopes_placed bundle = items_placed (scopes_of bundle) bundle [] bundle refl
