-- What holds of every grammar, and what the two usual lists are.
use Rattle.std.specs.Prelude.{◌≡◌, ℕ, ◌≤◌, true, List, [], ◌∷◌, ◌++◌, length, Ok, Err, ◌⊎◌, ◌↔◌}
use Rattle.text_forms.specs.declared.symbol.Symbol.{Symbol}
use Rattle.text_forms.specs.declared.fault.Fault.{Fault}
use Rattle.text_forms.specs.Tokens.{Tok, IsText, has}
use Rattle.text_forms.specs.Forms.{Form, until, up_to}
use Rattle.text_forms.specs.Derives.{Each, Derives}
use Rattle.text_forms.specs.Reading.{whole}
use Rattle.text_forms.specs.Limits.{unlimited}
use Rattle.text_forms.specs.First.{IsFirstFault}
use Rattle.text_forms.specs.Texts.{IsGrammar}
use Rattle.text_forms.specs.Places.{Agree, IsPlaceFree}

-- what reading a whole text gives is what the grammar derives
abbrev pub ReadIsDerived : {A : Type 0} → Form A → Type 0
ReadIsDerived {A} f = IsGrammar f → (ts : List Tok) → IsText ts → (a : A) → (whole f ts ≡ Ok a) ↔ Derives f ts a

-- where it gives a fault, that is the first one
abbrev pub FaultIsFirst : {A : Type 0} → Form A → Type 0
FaultIsFirst f = IsGrammar f → (ts : List Tok) → IsText ts → (e : Fault) → (whole f ts ≡ Err e) ↔ IsFirstFault f ts e

-- a text has at most one meaning
abbrev pub IsUnambiguous : {A : Type 0} → Form A → Type 0
IsUnambiguous {A} f = IsGrammar f → (ts : List Tok) (a b : A) → Derives f ts a → Derives f ts b → a ≡ b

-- a text has at most one first fault
abbrev pub HasOneFault : {A : Type 0} → Form A → Type 0
HasOneFault f = IsGrammar f → (ts : List Tok) → IsText ts → (d e : Fault) → IsFirstFault f ts d → IsFirstFault f ts e → d ≡ e

-- a text has a meaning or a first fault, and not both
abbrev pub IsJudged : {A : Type 0} → Form A → Type 0
IsJudged {A} f = IsGrammar f → (ts : List Tok) → IsText ts → ((a : A) × Derives f ts a) ⊎ ((e : Fault) × IsFirstFault f ts e)

abbrev pub IsNotBoth : {A : Type 0} → Form A → Type 0
IsNotBoth {A} f = IsGrammar f → (ts : List Tok) → IsText ts → (a : A) (e : Fault) → Derives f ts a → IsFirstFault f ts e → ⊥

-- `until` derives any number of elements, and then one of the closing tokens
abbrev pub UntilIsEach : {A : Type 0} → Form A → Type 0
UntilIsEach {A} f = (xs : List Symbol) (ts : List Tok) (items : List A) → Derives (until xs f) ts items ↔ ((u : List Tok) × (t : Tok) × (ts ≡ u ++ t ∷ []) × (has xs t.symbol ≡ true) × Each (Derives f) u items)

-- `up_to` derives those of them that are at most n long; without limits it derives all
abbrev pub UpToIsShort : {A : Type 0} → Form A → Type 0
UpToIsShort {A} f = (n : ℕ) (xs : List Symbol) (ts : List Tok) (items : List A) → Derives (up_to n xs f) ts items ↔ (Derives (until xs f) ts items × (length items ≤ n))

abbrev pub UpToUnlimited : {A : Type 0} → Form A → Type 0
UpToUnlimited {A} f = (n : ℕ) (xs : List Symbol) (ts : List Tok) (items : List A) → Derives (unlimited (up_to n xs f)) ts items ↔ Derives (until xs (unlimited f)) ts items

-- tokens that are the same save places have a meaning too
abbrev pub IsDerivedAgain : {A : Type 0} → Form A → Type 0
IsDerivedAgain {A} f = IsPlaceFree f → (ts us : List Tok) (a : A) → Derives f ts a → Agree ts us → (b : A) × Derives f us b
