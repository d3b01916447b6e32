-- Worked examples: how many runs a search by sleep sets makes, and how many it leaves out; and what they show.
use Rattle.std.specs.Prelude.{◌≡◌, ◌+◌, ℕ, zero, suc, Bool, true, false, List, [], ◌∷◌, ◌++◌, Option, Some, None, codes, bytes_eq, refl}
use Rattle.ir_tree.specs.declared.items.Item.{Item}
use Rattle.bundle_names.specs.declared.globals.Sort.{Sort}
use Rattle.bundle_names.specs.declared.globals.Sort.TheVariants as sorts
use Rattle.bundle_names.specs.Globals.{globals_of}
use Rattle.name_scopes.specs.Names.{found}
use Rattle.ir_text.specs.TextAnswers.{text_answer}
use Rattle.mu_model.specs.Programs.{named}
use Rattle.run_texts.specs.EventTexts.{Text}
use Rattle.model_rows.specs.Running.{Given, plain, setting, bundle_in, definitions}
use Rattle.std.specs.List.{list_any}
use Rattle.text_forms.specs.Reading.{elements}
use Rattle.ir_lex.specs.WordTable.{words, directives, common_names}
use Rattle.ir_lex.specs.Scanner.{gap_len, next_of}
use Rattle.ir_lex.specs.Walk.{tokens_within, tokens_from}
use Rattle.ir_lex.specs.TokenForms.{mark, name, numeral}
use Rattle.ir_tree.specs.Words.{order}
use Rattle.ir_tree.specs.Lists.{global, bracketed, local, bracketed_pair, global_list, local_list, type_list, value, values, dest, exc, keep, pass_values, throw_exc, new_stack_clause}
use Rattle.ir_tree.specs.Types.{int_type, some_types, struct_type, array_type, hybrid_type, type_form, literal}
use Rattle.ir_tree.specs.Computations.{binary, compare, convert, refcast, select, bracketed_field, extractvalue, insertvalue, computation}
use Rattle.ir_tree.specs.Control.{branch, branch2, switch_case, switch, call, tailcall, ret, throw, control}
use Rattle.ir_tree.specs.Objects.{new_object, newhybrid, alloca, allocation, getiref, getfieldiref, getelemiref, shiftiref, getvarpartiref, addressing_form}
use Rattle.ir_tree.specs.Accesses.{optional_order, load, store, weak, cmpxchg, atomicrmw, fence, access}
use Rattle.ir_tree.specs.Stacks.{trap, wpexc, watchpoint, wpbranch, trapping_form, returning, killing, swapstack, threadlocal, newthread, stack_switch}
use Rattle.ir_tree.specs.CommonForms.{one_value, two_values, three_values, new_stack, kill_stack, thread_exit, current_stack, set_threadlocal, get_threadlocal, futex_wait, futex_wake, futex_wait_timeout, common_inst}
use Rattle.ir_tree.specs.Instructions.{op, label, labelled}
use Rattle.ir_tree.specs.Blocks.{pair, params, handler, head_rest, head, result}
use Rattle.ir_tree.specs.Bodies.{results, more_results, body_rest, body}
use Rattle.ir_tree.specs.Items.{typedef, funcsig, constant, global_cell, funcdecl, funcdef, item, bundle}
use Rattle.type_definitions.specs.Same.{alike}
use Rattle.type_definitions.specs.Leaves.{leaves_to}
use Rattle.checked_code.specs.ConstantValues.{values_to}
use Rattle.checked_code.specs.Entries.{tables_of}
use Rattle.std.specs.Fmt.{digits}
use Rattle.mem_axioms.specs.HappensBefore.{happens_before}
use Rattle.mem_axioms.specs.Axioms.{is_coherent, is_seq_cst_ordered, meets_axioms}
use Rattle.mem_axioms.specs.Choices.{options, choices}
use Rattle.mem_axioms.specs.Races.{race}
use Rattle.mu_model.specs.Outcomes.{on, tried}
use Rattle.local_laws.specs.LocalSearch.{local_shows_tree}
use Rattle.odometer.specs.Trees.{Tree, Leaf, Node}
use Rattle.odometer.specs.GrownLaws.{each_leaf}
use Rattle.sleep_laws.specs.SleepLaws.{sleep_shows_tree}

abbrev sum_below : (ℕ → ℕ) → ℕ → ℕ
sum_below f zero = 0
sum_below f (suc n) = f n + sum_below f n

abbrev lists_below : {A : Type 0} → (ℕ → List A) → ℕ → List A
lists_below f zero = []
lists_below f (suc n) = lists_below f n ++ f n

abbrev leaves : {A : Type 0} → (A → ℕ) → Tree A → ℕ
leaves f (Leaf a) = f a
leaves f (Node n kids) = sum_below (λ k. leaves f (kids k)) (suc (suc n))

abbrev is_made : {A : Type 0} → Option A → ℕ
is_made None = 0
is_made (Some a) = 1

abbrev is_left_out : {A : Type 0} → Option A → ℕ
is_left_out None = 1
is_left_out (Some a) = 0

abbrev is_text : List Text → Option Text → Bool
is_text ts None = false
is_text ts (Some t) = list_any (bytes_eq t) ts

-- of a run that is not left out
abbrev is_found : List Text → Option (Option Text) → Bool
is_found ts None = true
is_found ts (Some o) = is_text ts o

abbrev sleep_entry : Given → List Item → Option Sort → Tree (Option (Option Text))
sleep_entry g b (Some (sorts.Function n)) = sleep_shows_tree b (setting g (named b).tables) n
sleep_entry g b _ = Leaf (Some None)

abbrev local_entry : Given → List Item → Option Sort → Tree (Option Text)
local_entry g b (Some (sorts.Function n)) = local_shows_tree b (setting g (named b).tables) n
local_entry g b _ = Leaf None

abbrev count_bundle : Given → List Item → ℕ × ℕ × ℕ
count_bundle g b =
    let t : Tree (Option (Option Text)) = sleep_entry g b (found (globals_of b).names (codes "@main")) in
    (leaves is_made t, leaves is_left_out t, leaves (λ o. 1) (local_entry g b (found (globals_of b).names (codes "@main"))))

abbrev all_bundle : Given → List Text → List Item → Bool
all_bundle g ts b = each_leaf (is_found ts) (sleep_entry g b (found (globals_of b).names (codes "@main")))

unfoldable pub all_texts : Given → List Text → Text → Bool
unfolding on tried digits tables_of alike leaves_to values_to happens_before is_coherent is_seq_cst_ordered meets_axioms options choices race tokens_from tokens_within next_of gap_len words directives common_names elements mark name numeral order global local bracketed bracketed_pair global_list local_list type_list value values dest exc keep pass_values throw_exc new_stack_clause binary compare convert refcast select bracketed_field extractvalue insertvalue computation branch branch2 switch_case switch call tailcall ret throw control new_object newhybrid alloca allocation getiref getfieldiref getelemiref shiftiref getvarpartiref addressing_form optional_order load store weak cmpxchg atomicrmw fence access trap wpexc watchpoint wpbranch trapping_form returning killing swapstack threadlocal newthread stack_switch one_value two_values three_values new_stack kill_stack thread_exit current_stack set_threadlocal get_threadlocal futex_wait futex_wake futex_wait_timeout common_inst op label labelled pair params handler head_rest head result results more_results body_rest body int_type some_types struct_type array_type hybrid_type type_form literal typedef funcsig constant global_cell funcdecl funcdef item bundle
all_texts g ts text = all_bundle g ts (bundle_in (text_answer text))

-- the runs that are made and those that are left out; and, where local steps come first and nothing sleeps, all runs
unfoldable pub counts : Given → Text → ℕ × ℕ × ℕ
unfolding on tried digits tables_of alike leaves_to values_to happens_before is_coherent is_seq_cst_ordered meets_axioms options choices race tokens_from tokens_within next_of gap_len words directives common_names elements mark name numeral order global local bracketed bracketed_pair global_list local_list type_list value values dest exc keep pass_values throw_exc new_stack_clause binary compare convert refcast select bracketed_field extractvalue insertvalue computation branch branch2 switch_case switch call tailcall ret throw control new_object newhybrid alloca allocation getiref getfieldiref getelemiref shiftiref getvarpartiref addressing_form optional_order load store weak cmpxchg atomicrmw fence access trap wpexc watchpoint wpbranch trapping_form returning killing swapstack threadlocal newthread stack_switch one_value two_values three_values new_stack kill_stack thread_exit current_stack set_threadlocal get_threadlocal futex_wait futex_wake futex_wait_timeout common_inst op label labelled pair params handler head_rest head result results more_results body_rest body int_type some_types struct_type array_type hybrid_type type_form literal typedef funcsig constant global_cell funcdecl funcdef item bundle
counts g text = count_bundle g (bundle_in (text_answer text))

abbrev sb : Text
sb = definitions ++ codes ".global @x <@i64> .global @y <@i64> .funcdef @g VERSION %v <@mi> { %e(): STORE RELAXED <@i64> @y @c1 %b = LOAD RELAXED <@i64> @x RET (%b) } .funcdef @main VERSION %v <@mi> { %e(): %s = COMMINST @uvm.new_stack <[@mi]> (@g) %t = NEWTHREAD %s PASS_VALUES<>() STORE RELAXED <@i64> @x @c1 %a = LOAD RELAXED <@i64> @y RET (%a) }"

store_buffering : all_texts plain (codes "returned t0 0\nreturned t1 0\nfinal @x 1\nfinal @y 1\ndone\n" ∷ codes "returned t0 0\nreturned t1 1\nfinal @x 1\nfinal @y 1\ndone\n" ∷ codes "returned t0 1\nreturned t1 0\nfinal @x 1\nfinal @y 1\ndone\n" ∷ codes "returned t0 1\nreturned t1 1\nfinal @x 1\nfinal @y 1\ndone\n" ∷ []) sb ≡ true
unfolding all_texts
store_buffering = refl

-- Each of the four outcomes is that of one run. Seven more are begun, and left out at a move that sleeps.
fewer_runs : counts plain sb ≡ (4, 7, 20)
unfolding counts
fewer_runs = refl

-- ---- each outcome is found

abbrev leaf_list : {A : Type 0} → Tree A → List A
leaf_list (Leaf a) = a ∷ []
leaf_list (Node n kids) = lists_below (λ k. leaf_list (kids k)) (suc (suc n))

abbrev is_same : Option Text → Option (Option Text) → Bool
is_same o None = false
is_same None (Some None) = true
is_same (Some t) (Some (Some u)) = bytes_eq t u
is_same _ _ = false

-- what a run shows in which local steps come first, some run shows that is not left out
abbrev found_bundle : Given → List Item → Bool
found_bundle g b =
    let sleeping : List (Option (Option Text)) = leaf_list (sleep_entry g b (found (globals_of b).names (codes "@main"))) in
    each_leaf (λ o. list_any (is_same o) sleeping) (local_entry g b (found (globals_of b).names (codes "@main")))

unfoldable pub all_found : Given → Text → Bool
unfolding on tried digits tables_of alike leaves_to values_to happens_before is_coherent is_seq_cst_ordered meets_axioms options choices race tokens_from tokens_within next_of gap_len words directives common_names elements mark name numeral order global local bracketed bracketed_pair global_list local_list type_list value values dest exc keep pass_values throw_exc new_stack_clause binary compare convert refcast select bracketed_field extractvalue insertvalue computation branch branch2 switch_case switch call tailcall ret throw control new_object newhybrid alloca allocation getiref getfieldiref getelemiref shiftiref getvarpartiref addressing_form optional_order load store weak cmpxchg atomicrmw fence access trap wpexc watchpoint wpbranch trapping_form returning killing swapstack threadlocal newthread stack_switch one_value two_values three_values new_stack kill_stack thread_exit current_stack set_threadlocal get_threadlocal futex_wait futex_wake futex_wait_timeout common_inst op label labelled pair params handler head_rest head result results more_results body_rest body int_type some_types struct_type array_type hybrid_type type_form literal typedef funcsig constant global_cell funcdecl funcdef item bundle
all_found g text = found_bundle g (bundle_in (text_answer text))

store_buffering_found : all_found plain sb ≡ true
unfolding all_found
store_buffering_found = refl

-- Two stores of one cell do not commute: what it holds in the end tells which came last. So nothing sleeps.
abbrev two_stores : Text
two_stores = definitions ++ codes ".global @x <@i64> .funcdef @g VERSION %v <@m> { %e(): STORE RELAXED <@i64> @x @c1 RET () } .funcdef @main VERSION %v <@m> { %e(): %s = COMMINST @uvm.new_stack <[@m]> (@g) %t = NEWTHREAD %s PASS_VALUES<>() STORE RELAXED <@i64> @x @c2 RET () }"

both_stores : counts plain two_stores ≡ (2, 0, 2)
unfolding counts
both_stores = refl

both_stores_found : all_found plain two_stores ≡ true
unfolding all_found
both_stores_found = refl
