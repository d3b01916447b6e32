-- A choice passes over each form that begins with other symbols than the next one.
use Rattle.std.proofs.Common.{◌≡◌, false, List, [], ◌∷◌, Some, Err, refl, sym}
use Rattle.std.specs.Prelude.{if◌then◌else◌}
use denote.Enum.Bare.{false_same}
use Rattle.text_forms.specs.declared.symbol.Symbol.{Symbol}
use Rattle.text_forms.specs.contracts.symbol.Symbol.{the_type}
use Rattle.text_forms.specs.Tokens.{Tok, has, symbol_ahead, at, fault_at}
use Rattle.text_forms.specs.Reading.{read}
use Rattle.ir_tree.specs.Words.{one_of, words_of}

-- the symbol is none of these
abbrev pub IsNotAmong : List Symbol → Symbol → Type 0
IsNotAmong [] s = Unit {0}
IsNotAmong (x ∷ xs) s = (s ≡ x → ⊥) × IsNotAmong xs s

pub has_none : (xs : List Symbol) (s : Symbol) → IsNotAmong xs s → has xs s ≡ false
has_none [] s others = refl
has_none (x ∷ xs) s others = rw (false_same the_type tt x s (λ e. others.0 (sym e)), has_none xs s others.1) refl

at_none : (xs : List Symbol) (ts : List Tok) (s : Symbol) → symbol_ahead ts ≡ Some s → IsNotAmong xs s → at xs ts ≡ false
at_none xs ts s ahead others = rw ahead (has_none xs s others)

-- what holds of the rest of a choice holds of it
pub passed_all : {A : Type 0} (P : A → Type 0) (ts : List Tok) (s : Symbol) → symbol_ahead ts ≡ Some s → (xs : List Symbol) (a b : A) → IsNotAmong xs s → P b → P (if at xs ts then a else b)
passed_all P ts s ahead xs a b others held = rw (at_none xs ts s ahead others) held

pub passed : {A : Type 0} (P : A → Type 0) (ts : List Tok) (s : Symbol) → symbol_ahead ts ≡ Some s → (x : Symbol) (a b : A) → (s ≡ x → ⊥) → P b → P (if at (x ∷ []) ts then a else b)
passed P ts s ahead x a b other held = passed_all P ts s ahead (x ∷ []) a b (other, tt) held

-- none of these words comes next
pub no_word : {A : Type 0} (ws : List (Symbol × A)) (ts : List Tok) (s : Symbol) → symbol_ahead ts ≡ Some s → IsNotAmong (words_of ws) s → read (one_of ws) ts ≡ Err (fault_at ts)
no_word [] ts s ahead others = refl
no_word (w ∷ ws) ts s ahead others = rw (at_none (w.0 ∷ []) ts s ahead (others.0, tt)) (no_word ws ts s ahead others.1)
