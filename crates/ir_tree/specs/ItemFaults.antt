-- Worked examples. Faults in items.
use Rattle.std.specs.Prelude.{◌≡◌, refl, codes}
use Rattle.text_forms.specs.declared.fault.FaultKind.TheVariants as kinds
use Rattle.text_forms.specs.Reading.{elements}
use Rattle.ir_lex.specs.WordTable.{words, directives, common_names}
use Rattle.ir_lex.specs.Scanner.{gap_len, next_of}
use Rattle.ir_lex.specs.Walk.{tokens_within, tokens_from}
use Rattle.ir_lex.specs.TokenForms.{mark, name, numeral}
use Rattle.ir_tree.specs.Words.{order}
use Rattle.ir_tree.specs.Lists.{global, bracketed, local, bracketed_pair, global_list, local_list, type_list, value, values, dest, exc, keep, pass_values, throw_exc, new_stack_clause}
use Rattle.ir_tree.specs.Types.{int_type, some_types, struct_type, array_type, hybrid_type, type_form, literal}
use Rattle.ir_tree.specs.Computations.{binary, compare, convert, refcast, select, bracketed_field, extractvalue, insertvalue, computation}
use Rattle.ir_tree.specs.Control.{branch, branch2, switch_case, switch, call, tailcall, ret, throw, control}
use Rattle.ir_tree.specs.Objects.{new_object, newhybrid, alloca, allocation, getiref, getfieldiref, getelemiref, shiftiref, getvarpartiref, addressing_form}
use Rattle.ir_tree.specs.Accesses.{optional_order, load, store, weak, cmpxchg, atomicrmw, fence, access}
use Rattle.ir_tree.specs.Stacks.{trap, wpexc, watchpoint, wpbranch, trapping_form, returning, killing, swapstack, threadlocal, newthread, stack_switch}
use Rattle.ir_tree.specs.CommonForms.{one_value, two_values, three_values, new_stack, kill_stack, thread_exit, current_stack, set_threadlocal, get_threadlocal, futex_wait, futex_wake, futex_wait_timeout, common_inst}
use Rattle.ir_tree.specs.Instructions.{op, label, labelled}
use Rattle.ir_tree.specs.Blocks.{pair, params, handler, head_rest, head, result}
use Rattle.ir_tree.specs.Bodies.{results, more_results, body_rest, body}
use Rattle.ir_tree.specs.Items.{typedef, funcsig, constant, global_cell, funcdecl, funcdef, item}
use Rattle.ir_tree.specs.Samples.{stands, fault_in_type, fault_in_item}

faults_in_types :
    (fault_in_type (codes "hybrid<>") ≡ stands kinds.Unexpected 7)
    × (fault_in_type (codes "struct<>") ≡ stands kinds.Unexpected 7)
    × (fault_in_type (codes "array<@a>") ≡ stands kinds.Unexpected 8)
    × (fault_in_type (codes "weakref<@a>") ≡ stands kinds.NotInProfile 0)
    × (fault_in_type (codes "int<%a>") ≡ stands kinds.Unexpected 4)
unfolding tokens_from tokens_within next_of gap_len words directives common_names elements mark name numeral global bracketed int_type some_types struct_type array_type hybrid_type type_form
faults_in_types = (refl, refl, refl, refl, refl)

faults_in_items :
    (fault_in_item (codes ".expose @f") ≡ stands kinds.NotInProfile 0)
    × (fault_in_item (codes ".typedef @a = double") ≡ stands kinds.NotInProfile 14)
    × (fault_in_item (codes ".typedef .expose") ≡ stands kinds.Unexpected 9)
    × (fault_in_item (codes ".typedef @a = FADD") ≡ stands kinds.Unexpected 14)
    × (fault_in_item (codes ".global @g <@t") ≡ stands kinds.Unexpected 14)
    × (fault_in_item (codes ".const @k <@t> = 340282366920938463463374607431768211456") ≡ stands kinds.NumberTooLarge 17)
unfolding tokens_from tokens_within next_of gap_len words directives common_names elements mark name numeral order global local bracketed bracketed_pair global_list local_list type_list value values dest exc keep pass_values throw_exc new_stack_clause int_type some_types struct_type array_type hybrid_type type_form literal binary compare convert refcast select bracketed_field extractvalue insertvalue computation branch branch2 switch_case switch call tailcall ret throw control new_object newhybrid alloca allocation getiref getfieldiref getelemiref shiftiref getvarpartiref addressing_form optional_order load store weak cmpxchg atomicrmw fence access trap wpexc watchpoint wpbranch trapping_form returning killing swapstack threadlocal newthread stack_switch one_value two_values three_values new_stack kill_stack thread_exit current_stack set_threadlocal get_threadlocal futex_wait futex_wake futex_wait_timeout common_inst op label labelled pair params handler head_rest head result results more_results body_rest body typedef funcsig constant global_cell funcdecl funcdef item
faults_in_items = (refl, refl, refl, refl, refl, refl)
