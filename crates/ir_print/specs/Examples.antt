-- Worked examples. Types, constants and bundles, as they are written and in canonical text.
use Rattle.std.specs.Prelude.{◌≡◌, Ok, codes, refl}
use Rattle.std.specs.Fmt.{digits}
use Rattle.text_forms.specs.Reading.{elements}
use Rattle.ir_lex.specs.WordTable.{words, directives, common_names}
use Rattle.ir_lex.specs.Scanner.{gap_len, next_of}
use Rattle.ir_lex.specs.Walk.{tokens_within, tokens_from}
use Rattle.ir_lex.specs.TokenForms.{mark, name, numeral}
use Rattle.ir_tree.specs.Words.{order}
use Rattle.ir_tree.specs.Lists.{global, local, bracketed, bracketed_pair, global_list, local_list, type_list, value, values, dest, exc, keep, pass_values, throw_exc, new_stack_clause}
use Rattle.ir_tree.specs.Types.{int_type, some_types, struct_type, array_type, hybrid_type, type_form, literal}
use Rattle.ir_tree.specs.Computations.{binary, compare, convert, refcast, select, bracketed_field, extractvalue, insertvalue, computation}
use Rattle.ir_tree.specs.Control.{branch, branch2, switch_case, switch, call, tailcall, ret, throw, control}
use Rattle.ir_tree.specs.Objects.{new_object, newhybrid, alloca, allocation, getiref, getfieldiref, getelemiref, shiftiref, getvarpartiref, addressing_form}
use Rattle.ir_tree.specs.Accesses.{optional_order, load, store, weak, cmpxchg, atomicrmw, fence, access}
use Rattle.ir_tree.specs.Stacks.{trap, wpexc, watchpoint, wpbranch, trapping_form, returning, killing, swapstack, threadlocal, newthread, stack_switch}
use Rattle.ir_tree.specs.CommonForms.{one_value, two_values, three_values, new_stack, kill_stack, thread_exit, current_stack, set_threadlocal, get_threadlocal, futex_wait, futex_wake, futex_wait_timeout, common_inst}
use Rattle.ir_tree.specs.Instructions.{op, label, labelled}
use Rattle.ir_tree.specs.Blocks.{pair, params, handler, head_rest, head, result}
use Rattle.ir_tree.specs.Bodies.{results, more_results, body_rest, body}
use Rattle.ir_tree.specs.Items.{typedef, funcsig, constant, global_cell, funcdecl, funcdef, item, bundle}
use Rattle.ir_print.specs.Words.{listed}
use Rattle.ir_print.specs.Spellings.{spelling}
use Rattle.ir_print.specs.Lists.{bracketed_words, bracketed_pair_words, bracketed_field_words, global_list_words, local_list_words, type_list_words, value_words, values_words, dest_words, exc_words, keep_words, exc_keep_words, new_stack_clause_words}
use Rattle.ir_print.specs.Types.{type_form_words, literal_words}
use Rattle.ir_print.specs.Computations.{computation_words}
use Rattle.ir_print.specs.Control.{switch_case_words, case_list_words, control_words}
use Rattle.ir_print.specs.Objects.{allocation_words, addressing_words}
use Rattle.ir_print.specs.Accesses.{order_words, weak_words, stored_words, exchanged_words, access_words}
use Rattle.ir_print.specs.Stacks.{wpexc_words, watched_words, trapping_words, threadlocal_words, ret_with_words, stack_switch_words}
use Rattle.ir_print.specs.CommonForms.{one_value_words, two_values_words, three_values_words, common_inst_words}
use Rattle.ir_print.specs.Instructions.{op_words, labelled_words, results_words}
use Rattle.ir_print.specs.Bodies.{pair_words, handler_words, head_words, block_words, body_words}
use Rattle.ir_print.specs.Items.{typedef_words, funcsig_words, constant_words, global_cell_words, funcdecl_words, funcdef_words, item_words}
use Rattle.ir_print.specs.Samples.{type_again, literal_again, bundle_again}

types_are_written :
    (type_again (codes "int < 0x40 >") ≡ Ok (codes "int<64>"))
    × (type_again (codes "struct< @a @b >") ≡ Ok (codes "struct<@a @b>"))
    × (type_again (codes "array<@a 3>") ≡ Ok (codes "array<@a 3>"))
    × (type_again (codes "hybrid<@a @b @c>") ≡ Ok (codes "hybrid<@a @b @c>"))
    × (type_again (codes "hybrid<@a>") ≡ Ok (codes "hybrid<@a>"))
    × (type_again (codes "void") ≡ Ok (codes "void"))
    × (type_again (codes "ref <@a>") ≡ Ok (codes "ref<@a>"))
    × (type_again (codes "iref<@a>") ≡ Ok (codes "iref<@a>"))
    × (type_again (codes "funcref<@s>") ≡ Ok (codes "funcref<@s>"))
    × (type_again (codes "stackref") ≡ Ok (codes "stackref"))
    × (type_again (codes "threadref") ≡ Ok (codes "threadref"))
unfolding tokens_from tokens_within next_of gap_len words directives common_names elements mark name numeral global bracketed int_type some_types struct_type array_type hybrid_type type_form listed bracketed_words type_list_words type_form_words spelling digits
types_are_written = (refl, refl, refl, refl, refl, refl, refl, refl, refl, refl, refl)

constants_are_written :
    (literal_again (codes "-0") ≡ Ok (codes "0"))
    × (literal_again (codes "+17") ≡ Ok (codes "17"))
    × (literal_again (codes "-0x11") ≡ Ok (codes "-17"))
    × (literal_again (codes "NULL") ≡ Ok (codes "NULL"))
    × (literal_again (codes "{@a @b}") ≡ Ok (codes "{ @a @b }"))
    × (literal_again (codes "{}") ≡ Ok (codes "{ }"))
unfolding tokens_from tokens_within next_of gap_len words directives common_names elements mark name numeral global bracketed literal literal_words spelling digits
constants_are_written = (refl, refl, refl, refl, refl, refl)

bundles_are_written :
    (bundle_again (codes ".typedef @i64 = int<64> .funcsig @mi = () -> (@i64) .const @a <@i64> = 40 .const @b <@i64> = 2 .funcdef @main VERSION %v <@mi> { %e(): %c = ADD <@i64> @a @b RET %c }") ≡ Ok (codes ".typedef @i64 = int<64>\n.funcsig @mi = () -> (@i64)\n.const @a <@i64> = 40\n.const @b <@i64> = 2\n.funcdef @main VERSION %v <@mi> {\n%e():\n  %c = ADD <@i64> @a @b\n  RET (%c)\n}\n"))
    × (bundle_again (codes ".global @g<@t>.funcdecl @f<@s>") ≡ Ok (codes ".global @g <@t>\n.funcdecl @f <@s>\n"))
    × (bundle_again (codes "") ≡ Ok (codes ""))
    × (bundle_again (codes ".funcdef@f VERSION%v<@s>{%a:(%x %y)=[%l]CALL<@s>@f() %b(<@t>%x<@u>%y)[%h]:()=COMMINST@uvm.thread_exit(%z)=[%m]COMMINST@uvm.current_stack}") ≡ Ok (codes ".funcdef @f VERSION %v <@s> {\n%a():\n  (%x %y) = [%l] CALL <@s> @f ()\n%b(<@t> %x <@u> %y) [%h]:\n  COMMINST @uvm.thread_exit ()\n  %z = [%m] COMMINST @uvm.current_stack ()\n}\n"))
unfolding tokens_from tokens_within next_of gap_len words directives common_names elements mark name numeral order global local bracketed bracketed_pair global_list local_list type_list value values dest exc keep pass_values throw_exc new_stack_clause int_type some_types struct_type array_type hybrid_type type_form literal binary compare convert refcast select bracketed_field extractvalue insertvalue computation branch branch2 switch_case switch call tailcall ret throw control new_object newhybrid alloca allocation getiref getfieldiref getelemiref shiftiref getvarpartiref addressing_form optional_order load store weak cmpxchg atomicrmw fence access trap wpexc watchpoint wpbranch trapping_form returning killing swapstack threadlocal newthread stack_switch one_value two_values three_values new_stack kill_stack thread_exit current_stack set_threadlocal get_threadlocal futex_wait futex_wake futex_wait_timeout common_inst op label labelled pair params handler head_rest head result results more_results body_rest body typedef funcsig constant global_cell funcdecl funcdef item bundle listed bracketed_words bracketed_pair_words bracketed_field_words global_list_words local_list_words type_list_words value_words values_words dest_words exc_words keep_words exc_keep_words new_stack_clause_words type_form_words literal_words computation_words switch_case_words case_list_words control_words allocation_words addressing_words order_words weak_words stored_words exchanged_words access_words wpexc_words watched_words trapping_words threadlocal_words ret_with_words stack_switch_words one_value_words two_values_words three_values_words common_inst_words op_words labelled_words results_words pair_words handler_words head_words block_words body_words typedef_words funcsig_words constant_words global_cell_words funcdecl_words funcdef_words item_words spelling digits
bundles_are_written = (refl, refl, refl, refl)
