-- The text of words, one after the other.
use Rattle.std.proofs.Common.{◌≡◌, ℕ, List, [], ◌∷◌, ◌++◌, refl, sym, ap, ◌∙◌, append_assoc}
use Rattle.std.specs.Prelude.{codes}
use Rattle.std.specs.List.{flat_map}
use Rattle.std.proofs.lemmas.List.Concat.{flat_map-append}
use Rattle.ir_lex.specs.declared.name.Name.{Name}
use Rattle.ir_lex.specs.Printed.{Piece}
use Rattle.ir_lex.specs.declared.token.Mark.TheVariants as marks
use Rattle.ir_print.specs.Words.{word_text, tight, spaced, mark, global_words, local_words, listed}
use Rattle.ir_print.specs.Lists.{global_list_words, local_list_words}
use Rattle.ir_print.specs.Types.{gap_before_element}

pub text_append : (a b : List Piece) → flat_map word_text (a ++ b) ≡ flat_map word_text a ++ flat_map word_text b
text_append a b = flat_map-append word_text a b

-- the text of the words of each
pub texts : {A : Type 0} (words : A → List Piece) (xs : List A) → flat_map word_text (flat_map words xs) ≡ flat_map (λ x. flat_map word_text (words x)) xs
texts words [] = refl
texts words (x ∷ xs) = text_append (words x) (flat_map words xs) ∙ ap (λ (l : List ℕ). flat_map word_text (words x) ++ l) (texts words xs)

-- the text of a list of names does not tell what names they are
more_locals : (ns : List Name) → flat_map word_text (flat_map (local_words spaced) ns) ≡ flat_map word_text (flat_map (global_words spaced) ns)
more_locals [] = refl
more_locals (n ∷ ns) = ap (λ (l : List ℕ). (spaced ++ n.text) ++ l) (more_locals ns)

pub local_texts : (ns : List Name) → flat_map word_text (listed local_words ns) ≡ flat_map word_text (listed global_words ns)
unfolding listed
local_texts [] = refl
local_texts (n ∷ ns) = ap (λ (l : List ℕ). n.text ++ l) (more_locals ns)

pub local_list_text : (space : List ℕ) (ns : List Name) → flat_map word_text (local_list_words space ns) ≡ flat_map word_text (global_list_words space ns)
unfolding local_list_words global_list_words
local_list_text space ns =
    ap (λ (l : List ℕ). (space ++ codes "(") ++ l)
    (text_append (listed local_words ns) (mark tight marks.Close ∷ [])
    ∙ ap (λ (l : List ℕ). l ++ flat_map word_text (mark tight marks.Close ∷ [])) (local_texts ns)
    ∙ sym (text_append (listed global_words ns) (mark tight marks.Close ∷ [])))

-- the names of a hybrid: the element stands behind the fixed fields
with_element : (fs : List Name) (e : Name) → flat_map word_text (listed global_words (fs ++ e ∷ [])) ≡ flat_map word_text (listed global_words fs) ++ flat_map word_text (global_words (gap_before_element fs) e)
unfolding listed
with_element [] e = refl
with_element (f ∷ fs) e = ap (λ (l : List ℕ). f.text ++ l)
    (ap (λ (l : List Piece). flat_map word_text l) (flat_map-append (global_words spaced) fs (e ∷ []))
    ∙ text_append (flat_map (global_words spaced) fs) (flat_map (global_words spaced) (e ∷ [])))
    ∙ sym (append_assoc f.text (flat_map word_text (flat_map (global_words spaced) fs)) (flat_map word_text (global_words spaced e)))

pub fields_joined : (o m n : List ℕ) (fs : List Name) (e : Name) (space : List ℕ) → m ≡ o ++ flat_map word_text (listed global_words fs) → n ≡ m ++ flat_map word_text (global_words space e) → space ≡ gap_before_element fs
    → n ≡ o ++ flat_map word_text (listed global_words (fs ++ e ∷ []))
fields_joined o m n fs e space p q r =
    q
    ∙ ap (λ (l : List ℕ). l ++ flat_map word_text (global_words space e)) p
    ∙ append_assoc o (flat_map word_text (listed global_words fs)) (flat_map word_text (global_words space e))
    ∙ ap (λ (l : List ℕ). o ++ (flat_map word_text (listed global_words fs) ++ flat_map word_text (global_words l e))) r
    ∙ ap (λ (l : List ℕ). o ++ l) (sym (with_element fs e))
