-- The words of instructions that ask the client, or that go from one stack to another.
use Rattle.std.proofs.Common.{◌≡◌, ℕ, true, false, List, [], ◌∷◌, ◌++◌, map, refl, ap, inl, inr}
use Rattle.std.specs.Prelude.{codes, option_map, ◌⊎◌}
use Rattle.text_forms.specs.declared.symbol.Symbol.TheVariants as symbols
use Rattle.text_forms.specs.Forms.{on, made}
use Rattle.ir_lex.specs.Printed.{Piece}
use Rattle.ir_lex.specs.WordTable.{words}
use Rattle.ir_tree.specs.declared.operands.Operand.{Operand}
use Rattle.ir_tree.specs.declared.operands.NewStackClause.{NewStackClause}
use Rattle.ir_tree.specs.declared.trapping.Trapping.{Trapping}
use Rattle.ir_tree.specs.declared.switching.StackSwitch.{StackSwitch}
use Rattle.ir_tree.specs.Stacks.{trap, wpexc, watchpoint, wpbranch, trapping_form, Returning, returning, killing, swap_of, swapstack, threadlocal, newthread, stack_switch}
use Rattle.ir_print.specs.Spellings.{spelling}
use Rattle.ir_print.specs.Words.{tight, spaced, word as word_piece, optional_words}
use Rattle.ir_print.specs.Lists.{type_list_words, value_words, new_stack_clause_words, exc_words, keep_words, exc_keep_words}
use Rattle.ir_print.specs.Stacks.{wpexc_words, watched_words, trapping_words, threadlocal_words, ret_with_words, stack_switch_words}
use Rattle.ir_print.specs.Placeless.{bare_name, bare_value, bare_dest, bare_exc, bare_new_stack_clause, bare_trapping, bare_stack_switch}
use Rattle.ir_print.specs.Lemmas.Prints.{Prints, both_prints, made_prints, on_prints, after_prints, before_prints, optional_prints}
use Rattle.ir_print.specs.Lemmas.Tokens.{numeral_prints, word_at}
use Rattle.ir_print.specs.Lemmas.ListForms.{open_prints, close_prints, type_list_prints, value_prints, dest_prints, exc_prints, keep_prints, new_stack_clause_prints}

abbrev trap_bare : ℕ × Trapping → ℕ × Trapping
trap_bare x = (0, bare_trapping x.1)

abbrev bare : ℕ × StackSwitch → ℕ × StackSwitch
bare x = (0, bare_stack_switch x.1)

trap_prints : Prints false false trap trap_bare trap_bare (λ s x. trapping_words s x.1)
unfolding trap trapping_words words spelling exc_keep_words
trap_prints = made_prints
    (both_prints spaced refl refl (word_at symbols.Trap (codes "TRAP") refl) (both_prints spaced refl refl type_list_prints (both_prints spaced refl refl (optional_prints exc_prints) (optional_prints keep_prints))))
    (λ _. refl) (λ _ _. refl)

wpexc_prints : Prints false true wpexc bare_dest bare_dest wpexc_words
unfolding wpexc wpexc_words words spelling
wpexc_prints = after_prints tight refl refl (word_at symbols.Wpexc (codes "WPEXC") refl) (after_prints tight refl refl open_prints (before_prints tight refl refl dest_prints close_prints))

watchpoint_prints : Prints false false watchpoint trap_bare trap_bare (λ s x. trapping_words s x.1)
unfolding watchpoint trapping_words words spelling watched_words
watchpoint_prints = made_prints
    (both_prints spaced refl refl (word_at symbols.Watchpoint (codes "WATCHPOINT") refl)
    (both_prints spaced refl refl numeral_prints
    (both_prints spaced refl refl type_list_prints
    (both_prints spaced refl refl dest_prints
    (both_prints spaced refl refl dest_prints
    (both_prints spaced refl refl (optional_prints wpexc_prints) (optional_prints keep_prints)))))))
    (λ _. refl) (λ _ _. refl)

wpbranch_prints : Prints false true wpbranch trap_bare trap_bare (λ s x. trapping_words s x.1)
unfolding wpbranch trapping_words words spelling
wpbranch_prints = made_prints
    (both_prints spaced refl refl (word_at symbols.Wpbranch (codes "WPBRANCH") refl) (both_prints spaced refl refl numeral_prints (both_prints spaced refl refl dest_prints dest_prints)))
    (λ _. refl) (λ _ _. refl)

pub trapping_prints : Prints false false trapping_form (λ x. (0, bare_trapping x.1)) (λ x. (0, bare_trapping x.1)) (λ s x. trapping_words s x.1)
unfolding trapping_form
trapping_prints = on_prints trap_prints (on_prints watchpoint_prints wpbranch_prints)

-- ---- from one stack to another

abbrev bare_returning : Returning → Returning
bare_returning r = (map bare_name r.0, (bare_new_stack_clause r.1.0, (option_map bare_exc r.1.1.0, option_map (map bare_name) r.1.1.1)))

abbrev returning_words : List ℕ → Returning → List Piece
returning_words space r = word_piece space (codes "RET_WITH") ∷ (type_list_words tight r.0 ++ (new_stack_clause_words spaced r.1.0 ++ (optional_words exc_words r.1.1.0 ++ optional_words keep_words r.1.1.1)))

returning_prints : Prints false false returning bare_returning bare_returning returning_words
unfolding returning words spelling
returning_prints = after_prints tight refl refl (word_at symbols.RetWith (codes "RET_WITH") refl)
    (both_prints spaced refl refl type_list_prints (both_prints spaced refl refl new_stack_clause_prints (both_prints spaced refl refl (optional_prints exc_prints) (optional_prints keep_prints))))

abbrev killing_words : List ℕ → NewStackClause → List Piece
killing_words space n = word_piece space (codes "KILL_OLD") ∷ new_stack_clause_words spaced n

killing_prints : Prints false false killing bare_new_stack_clause bare_new_stack_clause killing_words
unfolding killing words spelling
killing_prints = after_prints spaced refl refl (word_at symbols.KillOld (codes "KILL_OLD") refl) new_stack_clause_prints

-- what stands behind the stack that is entered
abbrev bare_swap : Returning ⊎ NewStackClause → Returning ⊎ NewStackClause
bare_swap (inl r) = inl (bare_returning r)
bare_swap (inr n) = inr (bare_new_stack_clause n)

abbrev swap_words : List ℕ → Returning ⊎ NewStackClause → List Piece
swap_words space (inl r) = returning_words space r
swap_words space (inr n) = killing_words space n

swap_prints : Prints false false (on (symbols.RetWith ∷ []) (made inl returning) (made inr killing)) bare_swap bare_swap swap_words
swap_prints = on_prints (made_prints returning_prints (λ _. refl) (λ _ _. refl)) (made_prints killing_prints (λ _. refl) (λ _ _. refl))

swap_meant : (s : Operand) (r : Returning ⊎ NewStackClause) → bare_stack_switch (swap_of s r) ≡ swap_of (bare_value s) (bare_swap r)
swap_meant s (inl r) = refl
swap_meant s (inr n) = refl

swap_worded : (space : List ℕ) (s : Operand) (r : Returning ⊎ NewStackClause) → stack_switch_words space (swap_of s r) ≡ word_piece space (codes "SWAPSTACK") ∷ (value_words spaced s ++ swap_words spaced r)
unfolding stack_switch_words ret_with_words exc_keep_words words spelling
swap_worded space s (inl r) = refl
swap_worded space s (inr n) = refl

swapstack_prints : Prints false false swapstack bare bare (λ s x. stack_switch_words s x.1)
unfolding swapstack words spelling
swapstack_prints = made_prints
    (both_prints spaced refl refl (word_at symbols.Swapstack (codes "SWAPSTACK") refl) (both_prints spaced refl refl value_prints swap_prints))
    (λ x. ap (λ (y : StackSwitch). (0, y)) (swap_meant x.1.0 x.1.1)) (λ s x. swap_worded s x.1.0 x.1.1)

threadlocal_prints : Prints false true threadlocal bare_value bare_value threadlocal_words
unfolding threadlocal threadlocal_words words spelling
threadlocal_prints = after_prints tight refl refl (word_at symbols.Threadlocal (codes "THREADLOCAL") refl) (after_prints tight refl refl open_prints (before_prints tight refl refl value_prints close_prints))

newthread_prints : Prints false false newthread bare bare (λ s x. stack_switch_words s x.1)
unfolding newthread stack_switch_words words spelling
newthread_prints = made_prints
    (both_prints spaced refl refl (word_at symbols.Newthread (codes "NEWTHREAD") refl)
    (both_prints spaced refl refl value_prints (both_prints spaced refl refl (optional_prints threadlocal_prints) (both_prints spaced refl refl new_stack_clause_prints (optional_prints exc_prints)))))
    (λ _. refl) (λ _ _. refl)

pub stack_switch_prints : Prints false false stack_switch (λ x. (0, bare_stack_switch x.1)) (λ x. (0, bare_stack_switch x.1)) (λ s x. stack_switch_words s x.1)
unfolding stack_switch
stack_switch_prints = on_prints swapstack_prints newthread_prints
