-- The words of instructions that make objects and find places in them.
use Rattle.std.specs.Prelude.{ℕ, List, ◌∷◌, ◌++◌}
use Rattle.text_forms.specs.declared.symbol.Symbol.TheVariants as symbols
use Rattle.ir_lex.specs.Printed.{Piece}
use Rattle.ir_tree.specs.declared.allocating.Allocation.{Allocation}
use Rattle.ir_tree.specs.declared.allocating.Allocation.TheVariants as allocations
use Rattle.ir_tree.specs.declared.addressing.Addressing.{Addressing}
use Rattle.ir_tree.specs.declared.addressing.Addressing.TheVariants as addressings
use Rattle.ir_print.specs.Spellings.{spelling}
use Rattle.ir_print.specs.Words.{spaced, word, optional_words}
use Rattle.ir_print.specs.Lists.{bracketed_words, bracketed_pair_words, bracketed_field_words, value_words, exc_words}

unfoldable pub allocation_words : List ℕ → Allocation → List Piece
-- NEW <T> exc?
allocation_words space (allocations.New of_type exception) = word space (spelling symbols.New) ∷ (bracketed_words spaced of_type ++ optional_words exc_words exception)
-- NEWHYBRID <H I> n exc?
allocation_words space (allocations.Newhybrid of_type length_type length exception) =
    word space (spelling symbols.Newhybrid) ∷ (bracketed_pair_words spaced of_type length_type ++ (value_words spaced length ++ optional_words exc_words exception))
-- ALLOCA <T> exc?
allocation_words space (allocations.Alloca of_type exception) = word space (spelling symbols.Alloca) ∷ (bracketed_words spaced of_type ++ optional_words exc_words exception)

unfoldable pub addressing_words : List ℕ → Addressing → List Piece
-- GETIREF <T> r
addressing_words space (addressings.Getiref of_type reference) = word space (spelling symbols.Getiref) ∷ (bracketed_words spaced of_type ++ value_words spaced reference)
-- GETFIELDIREF <T n> p
addressing_words space (addressings.Getfieldiref of_type field location) =
    word space (spelling symbols.Getfieldiref) ∷ (bracketed_field_words spaced of_type field ++ value_words spaced location)
-- GETELEMIREF <T I> p i
addressing_words space (addressings.Getelemiref of_type index_type location index) =
    word space (spelling symbols.Getelemiref) ∷ (bracketed_pair_words spaced of_type index_type ++ (value_words spaced location ++ value_words spaced index))
-- SHIFTIREF <T I> p i
addressing_words space (addressings.Shiftiref of_type offset_type location offset) =
    word space (spelling symbols.Shiftiref) ∷ (bracketed_pair_words spaced of_type offset_type ++ (value_words spaced location ++ value_words spaced offset))
-- GETVARPARTIREF <H> p
addressing_words space (addressings.Getvarpartiref of_type location) = word space (spelling symbols.Getvarpartiref) ∷ (bracketed_words spaced of_type ++ value_words spaced location)
