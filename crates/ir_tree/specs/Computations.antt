-- Instructions that compute a value from values. Each form gives the place of its word, too.
use Rattle.std.specs.Prelude.{ℕ, List, [], ◌∷◌, ◌++◌}
use Rattle.text_forms.specs.declared.symbol.Symbol.{Symbol}
use Rattle.text_forms.specs.declared.symbol.Symbol.TheVariants as symbols
use Rattle.text_forms.specs.Forms.{Form, both, on, made, ◌▸◌, ◌◂◌}
use Rattle.ir_lex.specs.declared.name.Name.{Name}
use Rattle.ir_lex.specs.declared.name.Numeral.{Numeral}
use Rattle.ir_lex.specs.TokenForms.{mark, numeral}
use Rattle.ir_tree.specs.declared.computing.Computation.{Computation}
use Rattle.ir_tree.specs.declared.computing.Computation.TheVariants as computations
use Rattle.ir_tree.specs.Words.{one_of, words_of, binary_words, compare_words, convert_words}
use Rattle.ir_tree.specs.Lists.{optional, global, bracketed, bracketed_pair, value, exc}

-- BIN < T > a b exc?
unfoldable pub binary : Form (ℕ × Computation)
binary =
    made (λ x. (x.0.0, computations.Binary x.0.1 x.1.0 x.1.1.0 x.1.1.1.0 x.1.1.1.1))
    (both (one_of binary_words) (both bracketed (both value (both value (optional symbols.Exc exc)))))

-- CMP < T > a b
unfoldable pub compare : Form (ℕ × Computation)
compare = made (λ x. (x.0.0, computations.Compare x.0.1 x.1.0 x.1.1.0 x.1.1.1)) (both (one_of compare_words) (both bracketed (both value value)))

-- TRUNC < A B > a | ZEXT < A B > a | SEXT < A B > a
unfoldable pub convert : Form (ℕ × Computation)
convert = made (λ x. (x.0.0, computations.Convert x.0.1 x.1.0.0 x.1.0.1 x.1.1)) (both (one_of convert_words) (both bracketed_pair value))

-- REFCAST < A B > a
unfoldable pub refcast : Form (ℕ × Computation)
refcast = made (λ x. (x.0, computations.Refcast x.1.0.0 x.1.0.1 x.1.1)) (both (mark symbols.Refcast) (both bracketed_pair value))

-- SELECT < C T > c a b
unfoldable pub select : Form (ℕ × Computation)
select =
    made (λ x. (x.0, computations.Select x.1.0.0 x.1.0.1 x.1.1.0 x.1.1.1.0 x.1.1.1.1))
    (both (mark symbols.Select) (both bracketed_pair (both value (both value value))))

-- < T n >
unfoldable pub bracketed_field : Form (Name × Numeral)
bracketed_field = mark symbols.Less ▸ both global numeral ◂ mark symbols.Greater

-- EXTRACTVALUE < T n > a
unfoldable pub extractvalue : Form (ℕ × Computation)
extractvalue = made (λ x. (x.0, computations.Extractvalue x.1.0.0 x.1.0.1 x.1.1)) (both (mark symbols.Extractvalue) (both bracketed_field value))

-- INSERTVALUE < T n > a b
unfoldable pub insertvalue : Form (ℕ × Computation)
insertvalue =
    made (λ x. (x.0, computations.Insertvalue x.1.0.0 x.1.0.1 x.1.1.0 x.1.1.1))
    (both (mark symbols.Insertvalue) (both bracketed_field (both value value)))

abbrev pub computation_words : List Symbol
computation_words = words_of binary_words ++ (words_of compare_words ++ (words_of convert_words ++ (symbols.Refcast ∷ symbols.Select ∷ symbols.Extractvalue ∷ symbols.Insertvalue ∷ [])))

unfoldable pub computation : Form (ℕ × Computation)
computation =
    on (words_of binary_words) binary
    (on (words_of compare_words) compare
    (on (words_of convert_words) convert
    (on (symbols.Refcast ∷ []) refcast
    (on (symbols.Select ∷ []) select
    (on (symbols.Extractvalue ∷ []) extractvalue
    insertvalue)))))
