-- Sources in one another: the next token decides, however deep they are.
use Rattle.std.proofs.Common.{◌≡◌, ℕ, zero, suc, ◌-◌, ◌<◌, Bool, true, false, List, [], ◌∷◌, ◌⊎◌, inl, inr, refl, arith}
use Rattle.text_forms.specs.declared.symbol.Symbol.{Symbol}
use Rattle.text_forms.specs.declared.symbol.Symbol.TheVariants as symbols
use Rattle.text_forms.specs.Tokens.{Tok, at}
use Rattle.text_forms.specs.Forms.{Form}
use Rattle.text_forms.specs.Begins.{empties, begins, goes_on, decides, steady}
use Rattle.text_forms.specs.Reading.{read}
use Rattle.text_forms.specs.Answers.{kept}
use Rattle.text_forms.specs.Lemmas.Loops.{IsPlain}
use Rattle.ir_lex.specs.TokenForms.{mark, name, numeral}
use Rattle.ir_tree.specs.Lists.{globals, global}
use Rattle.hail_load.specs.declared.tree.Piece.{Piece}
use Rattle.hail_load.specs.Sources.{object, root, index, reference, plain, alone, element, members, list, source}

-- what a source that is no list begins with
abbrev plain_begins : List Symbol
plain_begins = symbols.Number ∷ symbols.Null ∷ symbols.Object ∷ symbols.Ampersand ∷ globals

record IsSource (f : Form (List Piece)) : Type 0 where
  some : empties f ≡ false
  decided : decides f ≡ true
  own : steady f ≡ true
  last : goes_on f ≡ []
  first : (begins f ≡ plain_begins) ⊎ (begins f ≡ symbols.BraceOpen ∷ plain_begins)

nested : (f : Form (List Piece)) → IsSource f → decides (list f) ≡ true
unfolding mark numeral index members list
nested f s = elim s.first [ inl b ↦ rw (s.decided, s.some, s.last, b) refl | inr b ↦ rw (s.decided, s.some, s.last, b) refl ]

is_source : (n : ℕ) → IsSource (source n)
unfolding mark name numeral object root index reference plain global members list source
is_source zero = record { some = refl; decided = refl; own = refl; last = refl; first = inl refl }
is_source (suc n) =
    let s = is_source n in
    record { some = refl; decided = rw (nested (source n) s) refl; own = refl; last = refl; first = inr refl }

with_index : (f : Form (List Piece)) → IsSource f → IsPlain (element f true)
unfolding mark numeral index
with_index f s = elim s.first [
  | inl b ↦ record { element = record { some = s.some; decided = rw (s.decided, b) refl }; own = s.own }
  | inr b ↦ record { element = record { some = s.some; decided = rw (s.decided, b) refl }; own = s.own }
]

pub element_plain : (n : ℕ) (leads : Bool) → IsPlain (element (source n) leads)
element_plain n false = let s = is_source n in record { element = record { some = s.some; decided = s.decided }; own = s.own }
element_plain n true = with_index (source n) (is_source n)

pub read_list : (n : ℕ) (ts : List Tok) → 0 < n → at (symbols.BraceOpen ∷ []) ts ≡ true → read (source n) ts ≡ read (list (source (n - 1))) ts
unfolding source
read_list zero ts some here = absurd (omega arith)
read_list (suc n) ts some here = let e : suc n - 1 ≡ n = omega arith in rw (e, here) refl

pub read_plain : (n : ℕ) (ts : List Tok) → (n ≡ 0) ⊎ (at (symbols.BraceOpen ∷ []) ts ≡ false) → read (source n) ts ≡ kept alone (read plain ts)
unfolding source
read_plain zero ts off = refl
read_plain (suc n) ts (inl none) = absurd (omega arith)
read_plain (suc n) ts (inr off) = rw off refl
