-- Types of two graphs. A type of the first graph is kin to a type of the second where both unfold alike to every depth.
-- Each graph numbers its types for itself, so kin types may have different numbers.
use Rattle.std.specs.Prelude.{◌≡◌, ℕ, zero, suc, Bool, true, false, List, length, slice_get, ◌<◌}
use Rattle.type_definitions.specs.declared.definition.TypeDef.{TypeDef}
use Rattle.type_definitions.specs.Same.{agree_at, same}
use Rattle.type_definitions.specs.Parts.{contains_itself}
use Rattle.type_definitions.specs.Leaves.{leaves}

-- alike to a depth: the definitions agree, with arguments that are alike to one level less
unfoldable pub akin : List TypeDef → List TypeDef → ℕ → ℕ → ℕ → Bool
akin g h zero a b = true
akin g h (suc depth) a b = agree_at (akin g h depth) (slice_get g a) (slice_get h b)

-- type a of the first graph and type b of the second are alike to every depth
pub record Kin (g h : List TypeDef) (a b : ℕ) : Type 0 where
  pub low : a < length g
  pub there : b < length h
  pub to : (depth : ℕ) → akin g h depth a b ≡ true

-- types that are kin to one type are the same type
abbrev pub KinDecides : List TypeDef → List TypeDef → Type 0
KinDecides g h = (a b c d : ℕ) → same g a b ≡ true → Kin g h a c → Kin g h b d → same h c d ≡ true

-- kin of a type does not contain itself
abbrev pub KinEnd : List TypeDef → List TypeDef → Type 0
KinEnd g h = (a b : ℕ) → Kin g h a b → contains_itself h b ≡ false

-- kin types have as many leaves
abbrev pub KinHaveAsManyLeaves : List TypeDef → List TypeDef → Type 0
KinHaveAsManyLeaves g h = (a b : ℕ) → Kin g h a b → length (leaves g a) ≡ length (leaves h b)
