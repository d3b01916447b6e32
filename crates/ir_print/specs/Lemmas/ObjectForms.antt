-- The words of instructions that make objects and find places in them.
use Rattle.std.proofs.Common.{ℕ, false, refl}
use Rattle.std.specs.Prelude.{codes}
use Rattle.text_forms.specs.declared.symbol.Symbol.TheVariants as symbols
use Rattle.ir_lex.specs.WordTable.{words}
use Rattle.ir_tree.specs.declared.allocating.Allocation.{Allocation}
use Rattle.ir_tree.specs.declared.addressing.Addressing.{Addressing}
use Rattle.ir_tree.specs.Objects.{new_object, newhybrid, alloca, allocation, getiref, getfieldiref, getelemiref, shiftiref, getvarpartiref, addressing_form}
use Rattle.ir_print.specs.Spellings.{spelling}
use Rattle.ir_print.specs.Words.{spaced}
use Rattle.ir_print.specs.Objects.{allocation_words, addressing_words}
use Rattle.ir_print.specs.Placeless.{bare_allocation, bare_addressing}
use Rattle.ir_print.specs.Lemmas.Prints.{Prints, both_prints, made_prints, on_prints, optional_prints}
use Rattle.ir_print.specs.Lemmas.Tokens.{word_at}
use Rattle.ir_print.specs.Lemmas.ListForms.{bracketed_prints, bracketed_pair_prints, bracketed_field_prints, value_prints, exc_prints}

abbrev made_bare : ℕ × Allocation → ℕ × Allocation
made_bare x = (0, bare_allocation x.1)

abbrev found_bare : ℕ × Addressing → ℕ × Addressing
found_bare x = (0, bare_addressing x.1)

new_object_prints : Prints false false new_object made_bare made_bare (λ s x. allocation_words s x.1)
unfolding new_object allocation_words words spelling
new_object_prints = made_prints (both_prints spaced refl refl (word_at symbols.New (codes "NEW") refl) (both_prints spaced refl refl bracketed_prints (optional_prints exc_prints))) (λ _. refl) (λ _ _. refl)

newhybrid_prints : Prints false false newhybrid made_bare made_bare (λ s x. allocation_words s x.1)
unfolding newhybrid allocation_words words spelling
newhybrid_prints = made_prints
    (both_prints spaced refl refl (word_at symbols.Newhybrid (codes "NEWHYBRID") refl) (both_prints spaced refl refl bracketed_pair_prints (both_prints spaced refl refl value_prints (optional_prints exc_prints))))
    (λ _. refl) (λ _ _. refl)

alloca_prints : Prints false false alloca made_bare made_bare (λ s x. allocation_words s x.1)
unfolding alloca allocation_words words spelling
alloca_prints = made_prints (both_prints spaced refl refl (word_at symbols.Alloca (codes "ALLOCA") refl) (both_prints spaced refl refl bracketed_prints (optional_prints exc_prints))) (λ _. refl) (λ _ _. refl)

pub allocation_prints : Prints false false allocation (λ x. (0, bare_allocation x.1)) (λ x. (0, bare_allocation x.1)) (λ s x. allocation_words s x.1)
unfolding allocation
allocation_prints = on_prints new_object_prints (on_prints newhybrid_prints alloca_prints)

getiref_prints : Prints false false getiref found_bare found_bare (λ s x. addressing_words s x.1)
unfolding getiref addressing_words words spelling
getiref_prints = made_prints (both_prints spaced refl refl (word_at symbols.Getiref (codes "GETIREF") refl) (both_prints spaced refl refl bracketed_prints value_prints)) (λ _. refl) (λ _ _. refl)

getfieldiref_prints : Prints false false getfieldiref found_bare found_bare (λ s x. addressing_words s x.1)
unfolding getfieldiref addressing_words words spelling
getfieldiref_prints = made_prints (both_prints spaced refl refl (word_at symbols.Getfieldiref (codes "GETFIELDIREF") refl) (both_prints spaced refl refl bracketed_field_prints value_prints)) (λ _. refl) (λ _ _. refl)

getelemiref_prints : Prints false false getelemiref found_bare found_bare (λ s x. addressing_words s x.1)
unfolding getelemiref addressing_words words spelling
getelemiref_prints = made_prints
    (both_prints spaced refl refl (word_at symbols.Getelemiref (codes "GETELEMIREF") refl) (both_prints spaced refl refl bracketed_pair_prints (both_prints spaced refl refl value_prints value_prints)))
    (λ _. refl) (λ _ _. refl)

shiftiref_prints : Prints false false shiftiref found_bare found_bare (λ s x. addressing_words s x.1)
unfolding shiftiref addressing_words words spelling
shiftiref_prints = made_prints
    (both_prints spaced refl refl (word_at symbols.Shiftiref (codes "SHIFTIREF") refl) (both_prints spaced refl refl bracketed_pair_prints (both_prints spaced refl refl value_prints value_prints)))
    (λ _. refl) (λ _ _. refl)

getvarpartiref_prints : Prints false false getvarpartiref found_bare found_bare (λ s x. addressing_words s x.1)
unfolding getvarpartiref addressing_words words spelling
getvarpartiref_prints = made_prints (both_prints spaced refl refl (word_at symbols.Getvarpartiref (codes "GETVARPARTIREF") refl) (both_prints spaced refl refl bracketed_prints value_prints)) (λ _. refl) (λ _ _. refl)

pub addressing_prints : Prints false false addressing_form (λ x. (0, bare_addressing x.1)) (λ x. (0, bare_addressing x.1)) (λ s x. addressing_words s x.1)
unfolding addressing_form
addressing_prints = on_prints getiref_prints (on_prints getfieldiref_prints (on_prints getelemiref_prints (on_prints shiftiref_prints getvarpartiref_prints)))
