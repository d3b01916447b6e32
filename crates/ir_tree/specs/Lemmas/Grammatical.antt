-- The next token always decides how a bundle goes on.
use Rattle.std.specs.Prelude.{refl}
use Rattle.text_forms.specs.Texts.{IsGrammar}
use Rattle.ir_lex.specs.TokenForms.{mark, name, numeral}
use Rattle.ir_tree.specs.Words.{order}
use Rattle.ir_tree.specs.Lists.{global, local, bracketed, bracketed_pair, global_list, local_list, type_list, value, values, dest, exc, keep, pass_values, throw_exc, new_stack_clause}
use Rattle.ir_tree.specs.Types.{int_type, some_types, struct_type, array_type, hybrid_type, type_form, literal}
use Rattle.ir_tree.specs.Computations.{binary, compare, convert, refcast, select, bracketed_field, extractvalue, insertvalue, computation}
use Rattle.ir_tree.specs.Control.{branch, branch2, switch_case, switch, call, tailcall, ret, throw, control}
use Rattle.ir_tree.specs.Objects.{new_object, newhybrid, alloca, allocation, getiref, getfieldiref, getelemiref, shiftiref, getvarpartiref, addressing_form}
use Rattle.ir_tree.specs.Accesses.{optional_order, load, store, weak, cmpxchg, atomicrmw, fence, access}
use Rattle.ir_tree.specs.Stacks.{trap, wpexc, watchpoint, wpbranch, trapping_form, returning, killing, swapstack, threadlocal, newthread, stack_switch}
use Rattle.ir_tree.specs.CommonForms.{one_value, two_values, three_values, new_stack, kill_stack, thread_exit, current_stack, set_threadlocal, get_threadlocal, futex_wait, futex_wake, futex_wait_timeout, common_inst}
use Rattle.ir_tree.specs.Instructions.{op, label, labelled}
use Rattle.ir_tree.specs.Blocks.{pair, params, handler, head_rest, head, result}
use Rattle.ir_tree.specs.Bodies.{results, more_results, body_rest, body}
use Rattle.ir_tree.specs.Items.{typedef, funcsig, constant, global_cell, funcdecl, funcdef, item, bundle}

pub is_grammar : IsGrammar bundle
unfolding mark name numeral order global local bracketed bracketed_pair global_list local_list type_list value values dest exc keep pass_values throw_exc new_stack_clause int_type some_types struct_type array_type hybrid_type type_form literal binary compare convert refcast select bracketed_field extractvalue insertvalue computation branch branch2 switch_case switch call tailcall ret throw control new_object newhybrid alloca allocation getiref getfieldiref getelemiref shiftiref getvarpartiref addressing_form optional_order load store weak cmpxchg atomicrmw fence access trap wpexc watchpoint wpbranch trapping_form returning killing swapstack threadlocal newthread stack_switch one_value two_values three_values new_stack kill_stack thread_exit current_stack set_threadlocal get_threadlocal futex_wait futex_wake futex_wait_timeout common_inst op label labelled pair params handler head_rest head result results more_results body_rest body typedef funcsig constant global_cell funcdecl funcdef item bundle
is_grammar = record { decided = refl; decided_in_full = refl; some = refl; own = refl; ends = refl }
