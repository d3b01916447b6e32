-- The words of instructions that read and write memory.
use Rattle.std.proofs.Common.{◌≡◌, ℕ, false, List, [], ◌∷◌, ◌++◌, Option, Some, None, refl, sym, ap, subst, inl, inr}
use Rattle.std.specs.Prelude.{codes, option_map}
use Rattle.text_forms.specs.declared.symbol.Symbol.TheVariants as symbols
use Rattle.text_forms.specs.Forms.{made}
use Rattle.text_forms.specs.Derives.{Derives}
use Rattle.ir_lex.specs.declared.token.TokenKind.TheVariants as kinds
use Rattle.ir_lex.specs.Printed.{Piece}
use Rattle.ir_lex.specs.WordTable.{words}
use Rattle.ir_lex.specs.TokenForms.{mark}
use Rattle.mu_base.specs.declared.order.Order.TheVariants as orders
use Rattle.ir_tree.specs.declared.order.WrittenOrder.{WrittenOrder}
use Rattle.ir_tree.specs.declared.accessing.Access.{Access}
use Rattle.ir_tree.specs.declared.accessing.Access.TheVariants as accesses
use Rattle.ir_tree.specs.Words.{order_words as order_table, update_words, order}
use Rattle.ir_tree.specs.Accesses.{optional_order, order_at, load, store, weak, cmpxchg, atomicrmw, fence, access}
use Rattle.ir_print.specs.Spellings.{spelling}
use Rattle.ir_print.specs.Words.{spaced, word as word_piece, optional_words}
use Rattle.ir_print.specs.Operators.{update_text, order_text}
use Rattle.ir_print.specs.Lists.{bracketed_words, value_words, exc_words}
use Rattle.ir_print.specs.Accesses.{order_words, weak_words, stored_words, exchanged_words, access_words}
use Rattle.ir_print.specs.Placeless.{bare_name, bare_value, bare_exc, bare_order, bare_access}
use Rattle.ir_print.specs.Lemmas.Apart.{Apart}
use Rattle.ir_print.specs.Lemmas.Prints.{Prints, IsWord, tok, toks, erased_none, both_prints, made_as, made_prints, on_prints, nothing_prints, optional_prints}
use Rattle.ir_print.specs.Lemmas.TokenKinds.{word_is}
use Rattle.ir_print.specs.Lemmas.Tokens.{word_at, one_of_prints}
use Rattle.ir_print.specs.Lemmas.ListForms.{bracketed_prints, value_prints, exc_prints}

abbrev bare : ℕ × Access → ℕ × Access
bare x = (0, bare_access x.1)

order_prints : Prints false false order bare_order bare_order order_words
unfolding order order_words words spelling
order_prints = made_prints (one_of_prints order_text order_table refl) (λ _. refl) (λ _ _. refl)

-- ---- an order that is left out is printed as NOT_ATOMIC

abbrev written_order : Option WrittenOrder → Option WrittenOrder
written_order None = Some (record { place = 0; order = orders.NotAtomic })
written_order (Some o) = Some (bare_order o)

abbrev order_or_not_atomic : List ℕ → Option WrittenOrder → List Piece
order_or_not_atomic space None = word_piece space (codes "NOT_ATOMIC") ∷ []
order_or_not_atomic space (Some o) = order_words space o

some_order_prints : Prints false false (made Some order) written_order (option_map bare_order) order_or_not_atomic
some_order_prints = made_as order_prints (λ _. refl) (λ _. refl) (λ _ _. refl)

not_atomic_is : IsWord symbols.NotAtomic kinds.Word (codes "NOT_ATOMIC")
unfolding words spelling
not_atomic_is = word_is symbols.NotAtomic (codes "NOT_ATOMIC") refl

-- the word NOT_ATOMIC is an order
not_atomic_again : (space : List ℕ) → Derives order (tok (word_piece space (codes "NOT_ATOMIC")) ∷ []) (record { place = 0; order = orders.NotAtomic })
unfolding order mark words spelling
not_atomic_again space = ((0, orders.NotAtomic), inl (0, (tok (word_piece space (codes "NOT_ATOMIC")), (refl, refl), refl), refl), refl)

optional_order_prints : Prints false false optional_order written_order (option_map bare_order) order_or_not_atomic
unfolding optional_order
optional_order_prints = record {
  again = λ s ts o good t. elim t as (λ _. Derives optional_order (toks (order_or_not_atomic s o)) (written_order o)) [
    | inl d ↦ inl (some_order_prints.again s ts o good d)
    | inr (q, e) ↦ subst (λ (z : Option WrittenOrder). Derives optional_order (toks (order_or_not_atomic s z)) (written_order z)) (sym e) (inl (record { place = 0; order = orders.NotAtomic }, not_atomic_again s, refl))
  ];
  apart = λ s ts o blank good t b loose. elim t as (λ _. Apart b (order_or_not_atomic s o)) [
    | inl d ↦ some_order_prints.apart s ts o blank good d b loose
    | inr (q, e) ↦ subst (λ (z : Option WrittenOrder). Apart b (order_or_not_atomic s z)) (sym e) (record { blanks = blank; spells = not_atomic_is.spells; is_token = not_atomic_is.is_token }, loose, tt)
  ];
  ends = λ s ts o t b h. absurd (cc);
  placed = λ ts o t. elim t as (λ _. (a : Option WrittenOrder) × Derives optional_order ts a × (option_map bare_order a ≡ o)) [
    | inl d ↦ let (a, da, ea) = some_order_prints.placed ts o d in (a, inl da, ea)
    | inr (q, e) ↦ (None, inr (erased_none ts q, refl), sym e)
  ];
}

order_meant : (place : ℕ) (o : Option WrittenOrder) → bare_order (order_at place o) ≡ order_at 0 (written_order o)
order_meant place None = refl
order_meant place (Some o) = refl

order_unplaced : (place : ℕ) (o : Option WrittenOrder) → bare_order (order_at place o) ≡ order_at 0 (option_map bare_order o)
order_unplaced place None = refl
order_unplaced place (Some o) = refl

order_worded : (space : List ℕ) (place : ℕ) (o : Option WrittenOrder) → order_words space (order_at place o) ≡ order_or_not_atomic space o
unfolding order_words words spelling
order_worded space place None = refl
order_worded space place (Some o) = refl

-- ---- instructions

load_prints : Prints false false load bare bare (λ s x. access_words s x.1)
unfolding load access_words words spelling
load_prints = made_as
    (both_prints spaced refl refl (word_at symbols.Load (codes "LOAD") refl)
    (both_prints spaced refl refl optional_order_prints (both_prints spaced refl refl bracketed_prints (both_prints spaced refl refl value_prints (optional_prints exc_prints)))))
    (λ x. ap (λ (o : WrittenOrder). (0, accesses.Load o (bare_name x.1.1.0) (bare_value x.1.1.1.0) (option_map bare_exc x.1.1.1.1))) (order_meant x.0 x.1.0))
    (λ x. ap (λ (o : WrittenOrder). (0, accesses.Load o (bare_name x.1.1.0) (bare_value x.1.1.1.0) (option_map bare_exc x.1.1.1.1))) (order_unplaced x.0 x.1.0))
    (λ s x. ap (λ (l : List Piece). word_piece s (codes "LOAD") ∷ (l ++ (bracketed_words spaced x.1.1.0 ++ (value_words spaced x.1.1.1.0 ++ optional_words exc_words x.1.1.1.1)))) (order_worded spaced x.0 x.1.0))

store_prints : Prints false false store bare bare (λ s x. access_words s x.1)
unfolding store access_words words spelling stored_words
store_prints = made_as
    (both_prints spaced refl refl (word_at symbols.Store (codes "STORE") refl)
    (both_prints spaced refl refl optional_order_prints (both_prints spaced refl refl bracketed_prints (both_prints spaced refl refl value_prints (both_prints spaced refl refl value_prints (optional_prints exc_prints))))))
    (λ x. ap (λ (o : WrittenOrder). (0, accesses.Store o (bare_name x.1.1.0) (bare_value x.1.1.1.0) (bare_value x.1.1.1.1.0) (option_map bare_exc x.1.1.1.1.1))) (order_meant x.0 x.1.0))
    (λ x. ap (λ (o : WrittenOrder). (0, accesses.Store o (bare_name x.1.1.0) (bare_value x.1.1.1.0) (bare_value x.1.1.1.1.0) (option_map bare_exc x.1.1.1.1.1))) (order_unplaced x.0 x.1.0))
    (λ s x. ap (λ (l : List Piece). word_piece s (codes "STORE") ∷ (l ++ (bracketed_words spaced x.1.1.0 ++ (value_words spaced x.1.1.1.0 ++ (value_words spaced x.1.1.1.1.0 ++ optional_words exc_words x.1.1.1.1.1))))) (order_worded spaced x.0 x.1.0))

weak_prints : Prints false false weak (λ b. b) (λ b. b) weak_words
unfolding weak weak_words words spelling
weak_prints = on_prints (made_prints (word_at symbols.Weak (codes "WEAK") refl) (λ _. refl) (λ _ _. refl)) (nothing_prints refl (λ _. refl))

cmpxchg_prints : Prints false false cmpxchg bare bare (λ s x. access_words s x.1)
unfolding cmpxchg access_words words spelling exchanged_words
cmpxchg_prints = made_prints
    (both_prints spaced refl refl (word_at symbols.Cmpxchg (codes "CMPXCHG") refl)
    (both_prints spaced refl refl weak_prints
    (both_prints spaced refl refl order_prints
    (both_prints spaced refl refl order_prints
    (both_prints spaced refl refl bracketed_prints
    (both_prints spaced refl refl value_prints
    (both_prints spaced refl refl value_prints
    (both_prints spaced refl refl value_prints (optional_prints exc_prints)))))))))
    (λ _. refl) (λ _ _. refl)

atomicrmw_prints : Prints false false atomicrmw bare bare (λ s x. access_words s x.1)
unfolding atomicrmw access_words words spelling stored_words
atomicrmw_prints = made_prints
    (both_prints spaced refl refl (word_at symbols.Atomicrmw (codes "ATOMICRMW") refl)
    (both_prints spaced refl refl order_prints
    (both_prints spaced refl refl (one_of_prints update_text update_words refl)
    (both_prints spaced refl refl bracketed_prints (both_prints spaced refl refl value_prints (both_prints spaced refl refl value_prints (optional_prints exc_prints)))))))
    (λ _. refl) (λ _ _. refl)

fence_prints : Prints false false fence bare bare (λ s x. access_words s x.1)
unfolding fence access_words words spelling
fence_prints = made_prints (both_prints spaced refl refl (word_at symbols.Fence (codes "FENCE") refl) order_prints) (λ _. refl) (λ _ _. refl)

pub access_prints : Prints false false access (λ x. (0, bare_access x.1)) (λ x. (0, bare_access x.1)) (λ s x. access_words s x.1)
unfolding access
access_prints = on_prints load_prints (on_prints store_prints (on_prints cmpxchg_prints (on_prints atomicrmw_prints fence_prints)))
