-- Structs and arrays are written: none of the types that every bundle has besides is one.
use Rattle.std.proofs.Common.{◌≡◌, ℕ, zero, suc, ◌≤◌, Bool, true, false, List, [], ◌∷◌, ◌++◌, Some, None, length, slice_get, nat_lt, if◌then◌else◌, refl, sym, ◌∙◌, ap, append_assoc, arith}
use Rattle.ir_tree.specs.declared.items.Item.{Item}
use Rattle.type_definitions.specs.declared.definition.TypeDef.{TypeDef}
use Rattle.type_definitions.specs.declared.definition.TypeDef.TheVariants.{Int, Void, Ref, Iref, FuncRef, StackRef, ThreadRef}
use Rattle.mu_types.specs.Implied.{is_signature, references, references_from, complete}
use Rattle.mu_values.specs.Constants.{member_count}
use Rattle.check_tables.specs.Types.{definition_at}
use Rattle.bundle_names.specs.Globals.{globals_of}
use Rattle.checked_code.specs.Graph.{graph_of}
use Rattle.checked_code.specs.Entries.{tables_of}
use Rattle.checked_code.specs.Checking.{bundle_tables}
use Rattle.mu_model.specs.Types.{class_definition}

-- no type of the list has members
HaveNone : List TypeDef → Type 0
HaveNone ds = (n : ℕ) → member_count (slice_get ds n) ≡ None

none_first : (d : TypeDef) (ds : List TypeDef) → member_count (Some d) ≡ None → HaveNone ds → HaveNone (d ∷ ds)
unfolding HaveNone
none_first d ds e more zero = e
none_first d ds e more (suc n) = more n

references_have_none : (t : ℕ) (d : TypeDef) (ds : List TypeDef) → HaveNone ds → HaveNone (references t d ++ ds)
references_have_none t d ds more = by (is_signature d)
  where
    by : (b : Bool) → HaveNone ((if b then FuncRef t ∷ [] else Ref t ∷ Iref t ∷ []) ++ ds)
    by true = none_first (FuncRef t) ds refl more
    by false = none_first (Ref t) (Iref t ∷ ds) refl (none_first (Iref t) ds refl more)

all_have_none : (t : ℕ) (ds : List TypeDef) → HaveNone (references_from t ds)
unfolding HaveNone
all_have_none t [] = λ n. refl
all_have_none t (d ∷ ds) = references_have_none t d (references_from (suc t) ds) (all_have_none (suc t) ds)

implied_have_none : (ds : List TypeDef) → HaveNone (Void ∷ Int 1 ∷ Int 32 ∷ StackRef ∷ ThreadRef ∷ references_from 0 ds)
implied_have_none ds =
    none_first Void (Int 1 ∷ Int 32 ∷ StackRef ∷ ThreadRef ∷ references_from 0 ds) refl
    (none_first (Int 1) (Int 32 ∷ StackRef ∷ ThreadRef ∷ references_from 0 ds) refl
    (none_first (Int 32) (StackRef ∷ ThreadRef ∷ references_from 0 ds) refl
    (none_first StackRef (ThreadRef ∷ references_from 0 ds) refl (none_first ThreadRef (references_from 0 ds) refl (all_have_none 0 ds)))))

behind_have_none : (ws ds : List TypeDef) (n : ℕ) → length ws ≤ n → HaveNone ds → member_count (slice_get (ws ++ ds) n) ≡ None
unfolding HaveNone
behind_have_none [] ds n e none = none n
behind_have_none (w ∷ ws) ds zero e none = absurd (omega (arith, e))
behind_have_none (w ∷ ws) ds (suc n) e none = behind_have_none ws ds n (omega (arith, e)) none

complete_is : (ws : List TypeDef) → complete ws ≡ ws ++ (Void ∷ Int 1 ∷ Int 32 ∷ StackRef ∷ ThreadRef ∷ references_from 0 (ws ++ Void ∷ []))
complete_is ws = simp append_assoc

unwritten : (ws : List TypeDef) (n : ℕ) → length ws ≤ n → member_count (slice_get (complete ws) n) ≡ None
unwritten ws n e =
    ap (λ (ds : List TypeDef). member_count (slice_get ds n)) (complete_is ws)
    ∙ behind_have_none ws (Void ∷ Int 1 ∷ Int 32 ∷ StackRef ∷ ThreadRef ∷ references_from 0 (ws ++ Void ∷ [])) n e (implied_have_none (ws ++ Void ∷ []))

at_least : (m n : ℕ) → nat_lt m n ≡ false → n ≤ m
at_least m n e = grind (arith)

-- a type has members where it is written and has
pub members_written : (bundle : List Item) (n : ℕ) → member_count (definition_at (bundle_tables bundle).types n) ≡ member_count (class_definition (bundle_tables bundle) n)
unfolding tables_of
members_written bundle n = by (nat_lt n (length ws)) refl
  where
    ws : List TypeDef
    ws = graph_of (globals_of bundle) bundle

    by : (b : Bool) → nat_lt n (length ws) ≡ b → member_count (if b then slice_get (complete ws) n else None) ≡ member_count (slice_get (complete ws) n)
    by true e = refl
    by false e = sym (unwritten ws n (at_least n (length ws) e))
