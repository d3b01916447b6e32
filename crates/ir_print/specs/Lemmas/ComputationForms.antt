-- The words of instructions that compute a value from values.
use Rattle.std.proofs.Common.{ℕ, false, refl}
use Rattle.std.specs.Prelude.{codes}
use Rattle.text_forms.specs.declared.symbol.Symbol.TheVariants as symbols
use Rattle.ir_lex.specs.WordTable.{words}
use Rattle.ir_tree.specs.declared.computing.Computation.{Computation}
use Rattle.ir_tree.specs.Words.{binary_words, compare_words, convert_words}
use Rattle.ir_tree.specs.Computations.{binary, compare, convert, refcast, select, extractvalue, insertvalue, computation}
use Rattle.ir_print.specs.Spellings.{spelling}
use Rattle.ir_print.specs.Words.{spaced}
use Rattle.ir_print.specs.Operators.{binary_text, compare_text, convert_text}
use Rattle.ir_print.specs.Computations.{computation_words}
use Rattle.ir_print.specs.Placeless.{bare_computation}
use Rattle.ir_print.specs.Lemmas.Prints.{Prints, both_prints, made_prints, on_prints, optional_prints}
use Rattle.ir_print.specs.Lemmas.Tokens.{word_at, one_of_prints}
use Rattle.ir_print.specs.Lemmas.ListForms.{bracketed_prints, bracketed_pair_prints, bracketed_field_prints, value_prints, exc_prints}

-- an instruction is read with the place of its word
abbrev bare : ℕ × Computation → ℕ × Computation
bare x = (0, bare_computation x.1)

binary_prints : Prints false false binary bare bare (λ s x. computation_words s x.1)
unfolding binary computation_words words spelling
binary_prints = made_prints
    (both_prints spaced refl refl (one_of_prints binary_text binary_words refl) (both_prints spaced refl refl bracketed_prints (both_prints spaced refl refl value_prints (both_prints spaced refl refl value_prints (optional_prints exc_prints)))))
    (λ _. refl) (λ _ _. refl)

compare_prints : Prints false false compare bare bare (λ s x. computation_words s x.1)
unfolding compare computation_words words spelling
compare_prints = made_prints
    (both_prints spaced refl refl (one_of_prints compare_text compare_words refl) (both_prints spaced refl refl bracketed_prints (both_prints spaced refl refl value_prints value_prints)))
    (λ _. refl) (λ _ _. refl)

convert_prints : Prints false false convert bare bare (λ s x. computation_words s x.1)
unfolding convert computation_words words spelling
convert_prints = made_prints (both_prints spaced refl refl (one_of_prints convert_text convert_words refl) (both_prints spaced refl refl bracketed_pair_prints value_prints)) (λ _. refl) (λ _ _. refl)

refcast_prints : Prints false false refcast bare bare (λ s x. computation_words s x.1)
unfolding refcast computation_words words spelling
refcast_prints = made_prints (both_prints spaced refl refl (word_at symbols.Refcast (codes "REFCAST") refl) (both_prints spaced refl refl bracketed_pair_prints value_prints)) (λ _. refl) (λ _ _. refl)

select_prints : Prints false false select bare bare (λ s x. computation_words s x.1)
unfolding select computation_words words spelling
select_prints = made_prints
    (both_prints spaced refl refl (word_at symbols.Select (codes "SELECT") refl) (both_prints spaced refl refl bracketed_pair_prints (both_prints spaced refl refl value_prints (both_prints spaced refl refl value_prints value_prints))))
    (λ _. refl) (λ _ _. refl)

extractvalue_prints : Prints false false extractvalue bare bare (λ s x. computation_words s x.1)
unfolding extractvalue computation_words words spelling
extractvalue_prints = made_prints (both_prints spaced refl refl (word_at symbols.Extractvalue (codes "EXTRACTVALUE") refl) (both_prints spaced refl refl bracketed_field_prints value_prints)) (λ _. refl) (λ _ _. refl)

insertvalue_prints : Prints false false insertvalue bare bare (λ s x. computation_words s x.1)
unfolding insertvalue computation_words words spelling
insertvalue_prints = made_prints
    (both_prints spaced refl refl (word_at symbols.Insertvalue (codes "INSERTVALUE") refl) (both_prints spaced refl refl bracketed_field_prints (both_prints spaced refl refl value_prints value_prints)))
    (λ _. refl) (λ _ _. refl)

pub computation_prints : Prints false false computation (λ x. (0, bare_computation x.1)) (λ x. (0, bare_computation x.1)) (λ s x. computation_words s x.1)
unfolding computation
computation_prints = on_prints binary_prints (on_prints compare_prints (on_prints convert_prints (on_prints refcast_prints (on_prints select_prints (on_prints extractvalue_prints insertvalue_prints)))))
