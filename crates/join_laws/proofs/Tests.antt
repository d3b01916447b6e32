-- Tests of definitions by constructor and number.
use Rattle.std.proofs.Common.{◌≡◌, ℕ, Bool, true, false, ◌&&◌, ◌||◌, not, nat_eq, nat_le, Option, Some, None, refl, sym, ◌∙◌, ap₂}
use Rattle.type_definitions.specs.declared.definition.TypeDef.{TypeDef}
use Rattle.type_definitions.specs.declared.definition.TypeDef.TheVariants.{Int, Ref, Iref, FuncRef}
use Rattle.type_definitions.specs.Definition.{constructor, number}
use Rattle.check_tables.specs.TypeTests.{is_int, is_sized, is_no_hybrid, is_scalar, is_castable, are_cast, is_hybrid, is_struct, is_int64, is_index_type}
use Rattle.check_tables.specs.Types.{is_sig, is_type_there}
use Rattle.mu_base.specs.declared.operators.CompareOp.{CompareOp}
use Rattle.mu_base.specs.declared.operators.CompareOp.TheVariants as compare_ops
use Rattle.mu_base.specs.declared.operators.ConvertOp.{ConvertOp}
use Rattle.mu_base.specs.declared.operators.UpdateOp.{UpdateOp}
use Rattle.mu_base.specs.declared.operators.UpdateOp.TheVariants as updates
use Rattle.mu_values.specs.Integers.{is_conversion}
use Rattle.checked_code.specs.Computations.{compares, converts}
use Rattle.checked_code.specs.Accesses.{updates_type}

-- a test that nothing passes, and that passes on to each definition of the same constructor and number
pub record IsKept (test : Option TypeDef → Bool) : Type 0 where
  pub nothing : test None ≡ false
  pub kept : (d e : TypeDef) → constructor d ≡ constructor e → number d ≡ number e → test (Some d) ≡ true → test (Some e) ≡ true

-- a test that reads the constructor and the number alone is one
pub by_numbers : (test : Option TypeDef → Bool) (told : ℕ → ℕ → Bool) → test None ≡ false → ((d : TypeDef) → test (Some d) ≡ told (constructor d) (number d)) → IsKept test
by_numbers test told none is = record { nothing = none; kept = λ d e k n h. is e ∙ sym (ap₂ told k n) ∙ sym (is d) ∙ h }

ints : (d : TypeDef) → is_int (Some d) ≡ nat_eq (constructor d) 0
ints (Int w) = refl
ints d = refl

pub int_kept : IsKept is_int
int_kept = by_numbers is_int (λ c n. nat_eq c 0) refl ints

sized : (d : TypeDef) → is_sized (Some d) ≡ not (nat_eq (constructor d) 3 || nat_eq (constructor d) 4 || nat_eq (constructor d) 10)
sized (Int w) = refl
sized d = refl

pub sized_kept : IsKept is_sized
sized_kept = by_numbers is_sized (λ c n. not (nat_eq c 3 || nat_eq c 4 || nat_eq c 10)) refl sized

no_hybrids : (d : TypeDef) → is_no_hybrid (Some d) ≡ not (nat_eq (constructor d) 3 || nat_eq (constructor d) 10)
no_hybrids (Int w) = refl
no_hybrids d = refl

pub no_hybrid_kept : IsKept is_no_hybrid
no_hybrid_kept = by_numbers is_no_hybrid (λ c n. not (nat_eq c 3 || nat_eq c 10)) refl no_hybrids

scalars : (d : TypeDef) → is_scalar (Some d) ≡ not (nat_eq (constructor d) 1 || nat_eq (constructor d) 2 || nat_eq (constructor d) 3 || nat_eq (constructor d) 4 || nat_eq (constructor d) 10)
scalars (Int w) = refl
scalars d = refl

pub scalar_kept : IsKept is_scalar
scalar_kept = by_numbers is_scalar (λ c n. not (nat_eq c 1 || nat_eq c 2 || nat_eq c 3 || nat_eq c 4 || nat_eq c 10)) refl scalars

castables : (d : TypeDef) → is_castable (Some d) ≡ (nat_le 5 (constructor d) && nat_le (constructor d) 7)
castables (Int w) = refl
castables d = refl

pub castable_kept : IsKept is_castable
castable_kept = by_numbers is_castable (λ c n. nat_le 5 c && nat_le c 7) refl castables

hybrids : (d : TypeDef) → is_hybrid (Some d) ≡ nat_eq (constructor d) 3
hybrids (Int w) = refl
hybrids d = refl

pub hybrid_kept : IsKept is_hybrid
hybrid_kept = by_numbers is_hybrid (λ c n. nat_eq c 3) refl hybrids

structs : (d : TypeDef) → is_struct (Some d) ≡ nat_eq (constructor d) 1
structs (Int w) = refl
structs d = refl

pub struct_kept : IsKept is_struct
struct_kept = by_numbers is_struct (λ c n. nat_eq c 1) refl structs

int64s : (d : TypeDef) → is_int64 (Some d) ≡ (nat_eq (constructor d) 0 && nat_eq (number d) 64)
int64s (Int w) = refl
int64s d = refl

pub int64_kept : IsKept is_int64
int64_kept = by_numbers is_int64 (λ c n. nat_eq c 0 && nat_eq n 64) refl int64s

indexes : (d : TypeDef) → is_index_type (Some d) ≡ (nat_eq (constructor d) 0 && nat_le (number d) 64)
indexes (Int w) = refl
indexes d = refl

pub index_kept : IsKept is_index_type
index_kept = by_numbers is_index_type (λ c n. nat_eq c 0 && nat_le n 64) refl indexes

sigs : (d : TypeDef) → is_sig (Some d) ≡ nat_eq (constructor d) 10
sigs (Int w) = refl
sigs d = refl

pub sig_kept : IsKept is_sig
sig_kept = by_numbers is_sig (λ c n. nat_eq c 10) refl sigs

types_there : (d : TypeDef) → is_type_there (Some d) ≡ not (nat_eq (constructor d) 10)
types_there (Int w) = refl
types_there d = refl

pub type_there_kept : IsKept is_type_there
type_there_kept = by_numbers is_type_there (λ c n. not (nat_eq c 10)) refl types_there

-- two definitions

casts : (d e : TypeDef) → are_cast (Some d) (Some e) ≡ (nat_le 5 (constructor d) && nat_le (constructor d) 7 && nat_eq (constructor d) (constructor e))
casts (Ref t) (Ref u) = refl
casts (Iref t) (Iref u) = refl
casts (FuncRef t) (FuncRef u) = refl
casts d e = refl

pub cast_kept : (d e x y : TypeDef) → constructor d ≡ constructor x → constructor e ≡ constructor y → are_cast (Some d) (Some e) ≡ true → are_cast (Some x) (Some y) ≡ true
cast_kept d e x y k l h =
    casts x y ∙ sym (ap₂ (λ a b. nat_le 5 a && nat_le a 7 && nat_eq a b) k l) ∙ sym (casts d e) ∙ h

-- orders and words that are fixed, with one definition or two
compare_kept : (op : CompareOp) → IsKept (compares op)
compare_kept compare_ops.Eq = scalar_kept
compare_kept compare_ops.Ne = scalar_kept
compare_kept op = int_kept

pub compares_kept : (op : CompareOp) → IsKept (compares op)
compares_kept = compare_kept

pub updates_kept : (op : UpdateOp) → IsKept (updates_type op)
updates_kept updates.Xchg = scalar_kept
updates_kept op = int_kept

-- a conversion leads from a width to a width
converted : (op : ConvertOp) (d e : TypeDef) → converts op (Some d) (Some e) ≡ (nat_eq (constructor d) 0 && nat_eq (constructor e) 0 && is_conversion op (number d) (number e))
converted op (Int v) (Int w) = refl
converted op (Int v) e = refl
converted op d e = refl

pub convert_kept : (op : ConvertOp) (d e x y : TypeDef) → constructor d ≡ constructor x → number d ≡ number x → constructor e ≡ constructor y → number e ≡ number y →
    converts op (Some d) (Some e) ≡ true → converts op (Some x) (Some y) ≡ true
convert_kept op d e x y k n l m h =
    converted op x y ∙ sym (ap₂ (λ a b. nat_eq (constructor x) 0 && nat_eq (constructor y) 0 && is_conversion op a b) n m)
    ∙ sym (ap₂ (λ a b. nat_eq a 0 && nat_eq b 0 && is_conversion op (number d) (number e)) k l) ∙ sym (converted op d e) ∙ h
