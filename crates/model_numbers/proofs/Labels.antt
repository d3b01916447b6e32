-- A label leads to the block of its function that has its name.
use Rattle.std.proofs.Common.{◌≡◌, ℕ, suc, ◌+◌, Bool, true, false, List, [], ◌∷◌, Option, Some, None, slice_get, option_map, find, bytes_eq, cond, if◌then◌else◌, refl, sym, ◌∙◌, ap, arith}
use Rattle.std.specs.List.{position_from}
use Rattle.demands.specs.Demands.{or_else}
use Rattle.name_scopes.specs.Names.{Names, found, added}
use Rattle.ir_lex.specs.declared.name.Name.{Name}
use Rattle.ir_tree.specs.declared.code.Block.{Block}
use Rattle.ir_tree.specs.declared.items.Item.{Item}
use Rattle.check_tables.specs.declared.tables.Tables.{Tables}
use Rattle.checked_code.specs.declared.scopes.BlockEntry.{BlockEntry}
use Rattle.checked_code.specs.Functions.{entry_of, entries_from}
use Rattle.typed_heap.specs.Places.{with_some}
use Rattle.mu_model.specs.Operands.{Scope, tables_in, target_block}
use Rattle.mu_model.specs.Programs.{scopes_of}
use Rattle.model_numbers.specs.Lemmas.Names.{found_added, or_none}
use Rattle.model_numbers.proofs.Scopes.{IsPlaced, each_of, scopes_placed}

abbrev is_label : List ℕ → Block → Bool
is_label name b = bytes_eq name b.head.name.text

abbrev number_in : Option BlockEntry → Option ℕ
number_in o = option_map (λ (b : BlockEntry). b.number) o

entry_is : (p : Tables) (es : Names BlockEntry) (k : ℕ) (bs : List Block) (name : List ℕ) →
    number_in (found (entries_from p es k bs) name) ≡ or_else (number_in (found es name)) (position_from (is_label name) k bs)
entry_is p es k [] name = sym (or_none (number_in (found es name)))
entry_is p es k (b ∷ bs) name =
    entry_is p (added es b.head.name.text (entry_of p k b)) (suc k) bs name
    ∙ ap (λ o. or_else (number_in o) (position_from (is_label name) (suc k) bs)) (found_added es b.head.name.text name (entry_of p k b))
    ∙ by (found es name) (is_label name b)
    ∙ ap (λ (m : ℕ). or_else (number_in (found es name)) (cond (is_label name b) (Some k) (position_from (is_label name) m bs))) next
  where
    next : suc k ≡ k + 1
    next = omega arith

    by : (o : Option BlockEntry) (c : Bool) → or_else (number_in (or_else o (if c then Some (entry_of p k b) else None))) (position_from (is_label name) (suc k) bs)
        ≡ or_else (number_in o) (cond c (Some k) (position_from (is_label name) (suc k) bs))
    by (Some x) c = refl
    by None true = refl
    by None false = refl

-- the scope that stands at the first place of the blocks with that name
first_is : (all : List Scope) (f : Block → Scope) (name : List ℕ) (k : ℕ) (bs : List Block) → ((n : ℕ) (b : Block) → slice_get bs n ≡ Some b → slice_get all (k + n) ≡ Some (f b)) →
    with_some (position_from (is_label name) k bs) (slice_get all) ≡ option_map f (find (is_label name) bs)
first_is all f name k [] placed = refl
first_is all f name k (b ∷ bs) placed = by (is_label name b) (first_is all f name (k + 1) bs next)
  where
    here : k ≡ k + 0
    here = omega arith

    next : (n : ℕ) (x : Block) → slice_get bs n ≡ Some x → slice_get all ((k + 1) + n) ≡ Some (f x)
    next n x h = let same : (k + 1) + n ≡ k + suc n = omega arith in ap (λ (m : ℕ). slice_get all m) same ∙ placed (suc n) x h

    by : (c : Bool) → with_some (position_from (is_label name) (k + 1) bs) (slice_get all) ≡ option_map f (find (is_label name) bs) →
        with_some (cond c (Some k) (position_from (is_label name) (k + 1) bs)) (slice_get all) ≡ option_map f (cond c (Some b) (find (is_label name) bs))
    by true rest = ap (λ (m : ℕ). slice_get all m) here ∙ placed 0 b refl
    by false rest = rest

pub label_leads : (bundle : List Item) (block : ℕ) (s : Scope) → slice_get (scopes_of bundle) block ≡ Some s → (n : Name) →
    with_some (target_block s n) (slice_get (scopes_of bundle)) ≡ option_map (λ (b : Block). record s { block = b }) (find (is_label n.text) s.function.blocks)
label_leads bundle block s there n =
    ap (λ (o : Option ℕ). with_some o (slice_get (scopes_of bundle))) (entry_is (tables_in s) [] s.first s.function.blocks n.text)
    ∙ first_is (scopes_of bundle) (λ (b : Block). record s { block = b }) n.text s.first s.function.blocks
    (each_of (IsPlaced (scopes_of bundle)) (scopes_of bundle) block s (scopes_placed bundle) there)
