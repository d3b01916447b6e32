-- Worked examples. Instructions, as they are written and in canonical text.
use Rattle.std.specs.Prelude.{◌≡◌, Ok, codes, refl}
use Rattle.std.specs.Fmt.{digits}
use Rattle.text_forms.specs.Reading.{elements}
use Rattle.ir_lex.specs.WordTable.{words, directives, common_names}
use Rattle.ir_lex.specs.Scanner.{gap_len, next_of}
use Rattle.ir_lex.specs.Walk.{tokens_within, tokens_from}
use Rattle.ir_lex.specs.TokenForms.{mark, name, numeral}
use Rattle.ir_tree.specs.Words.{order}
use Rattle.ir_tree.specs.Lists.{global, local, bracketed, bracketed_pair, global_list, local_list, type_list, value, values, dest, exc, keep, pass_values, throw_exc, new_stack_clause}
use Rattle.ir_tree.specs.Computations.{binary, compare, convert, refcast, select, bracketed_field, extractvalue, insertvalue, computation}
use Rattle.ir_tree.specs.Control.{branch, branch2, switch_case, switch, call, tailcall, ret, throw, control}
use Rattle.ir_tree.specs.Objects.{new_object, newhybrid, alloca, allocation, getiref, getfieldiref, getelemiref, shiftiref, getvarpartiref, addressing_form}
use Rattle.ir_tree.specs.Accesses.{optional_order, load, store, weak, cmpxchg, atomicrmw, fence, access}
use Rattle.ir_tree.specs.Stacks.{trap, wpexc, watchpoint, wpbranch, trapping_form, returning, killing, swapstack, threadlocal, newthread, stack_switch}
use Rattle.ir_tree.specs.CommonForms.{one_value, two_values, three_values, new_stack, kill_stack, thread_exit, current_stack, set_threadlocal, get_threadlocal, futex_wait, futex_wake, futex_wait_timeout, common_inst}
use Rattle.ir_tree.specs.Instructions.{op, label, labelled}
use Rattle.ir_print.specs.Words.{listed}
use Rattle.ir_print.specs.Spellings.{spelling}
use Rattle.ir_print.specs.Lists.{bracketed_words, bracketed_pair_words, bracketed_field_words, global_list_words, local_list_words, type_list_words, value_words, values_words, dest_words, exc_words, keep_words, exc_keep_words, new_stack_clause_words}
use Rattle.ir_print.specs.Computations.{computation_words}
use Rattle.ir_print.specs.Control.{switch_case_words, case_list_words, control_words}
use Rattle.ir_print.specs.Objects.{allocation_words, addressing_words}
use Rattle.ir_print.specs.Accesses.{order_words, weak_words, stored_words, exchanged_words, access_words}
use Rattle.ir_print.specs.Stacks.{wpexc_words, watched_words, trapping_words, threadlocal_words, ret_with_words, stack_switch_words}
use Rattle.ir_print.specs.CommonForms.{one_value_words, two_values_words, three_values_words, common_inst_words}
use Rattle.ir_print.specs.Instructions.{op_words, labelled_words, results_words}
use Rattle.ir_print.specs.Samples.{op_again}

computations_are_written :
    (op_again (codes "ADD<@t>%a @b") ≡ Ok (codes "ADD <@t> %a @b"))
    × (op_again (codes "SHL <@t> %a %b EXC(%n(%a)%x())") ≡ Ok (codes "SHL <@t> %a %b EXC(%n(%a) %x())"))
    × (op_again (codes "ULE<@t>%a%b") ≡ Ok (codes "ULE <@t> %a %b"))
    × (op_again (codes "SEXT<@t @u>%a") ≡ Ok (codes "SEXT <@t @u> %a"))
    × (op_again (codes "REFCAST<@t @u> @g") ≡ Ok (codes "REFCAST <@t @u> @g"))
    × (op_again (codes "SELECT<@c @t>%c %a %b") ≡ Ok (codes "SELECT <@c @t> %c %a %b"))
    × (op_again (codes "EXTRACTVALUE <@t 0x10> %a") ≡ Ok (codes "EXTRACTVALUE <@t 16> %a"))
    × (op_again (codes "INSERTVALUE <@t -010> %a %b") ≡ Ok (codes "INSERTVALUE <@t -8> %a %b"))
unfolding tokens_from tokens_within next_of gap_len words directives common_names elements mark name numeral order global local bracketed bracketed_pair global_list local_list type_list value values dest exc keep pass_values throw_exc new_stack_clause binary compare convert refcast select bracketed_field extractvalue insertvalue computation branch branch2 switch_case switch call tailcall ret throw control new_object newhybrid alloca allocation getiref getfieldiref getelemiref shiftiref getvarpartiref addressing_form optional_order load store weak cmpxchg atomicrmw fence access trap wpexc watchpoint wpbranch trapping_form returning killing swapstack threadlocal newthread stack_switch one_value two_values three_values new_stack kill_stack thread_exit current_stack set_threadlocal get_threadlocal futex_wait futex_wake futex_wait_timeout common_inst op label labelled listed bracketed_words bracketed_pair_words bracketed_field_words global_list_words local_list_words type_list_words value_words values_words dest_words exc_words keep_words exc_keep_words new_stack_clause_words computation_words switch_case_words case_list_words control_words allocation_words addressing_words order_words weak_words stored_words exchanged_words access_words wpexc_words watched_words trapping_words threadlocal_words ret_with_words stack_switch_words one_value_words two_values_words three_values_words common_inst_words op_words labelled_words results_words spelling digits
computations_are_written = (refl, refl, refl, refl, refl, refl, refl, refl)

control_flow_are_written :
    (op_again (codes "BRANCH %b ( )") ≡ Ok (codes "BRANCH %b()"))
    × (op_again (codes "BRANCH2 %c %a(%x @y) %b()") ≡ Ok (codes "BRANCH2 %c %a(%x @y) %b()"))
    × (op_again (codes "SWITCH<@t>%a %d(){@c %x() @e %y(%z)}") ≡ Ok (codes "SWITCH <@t> %a %d() { @c %x() @e %y(%z) }"))
    × (op_again (codes "SWITCH<@t>%a %d(){}") ≡ Ok (codes "SWITCH <@t> %a %d() { }"))
    × (op_again (codes "CALL<@s>@f(%a %b)EXC(%n() %x())KEEPALIVE(%k %l)") ≡ Ok (codes "CALL <@s> @f (%a %b) EXC(%n() %x()) KEEPALIVE(%k %l)"))
    × (op_again (codes "CALL<@s>@f()KEEPALIVE()") ≡ Ok (codes "CALL <@s> @f () KEEPALIVE()"))
    × (op_again (codes "TAILCALL<@s>%f(%a)") ≡ Ok (codes "TAILCALL <@s> %f (%a)"))
    × (op_again (codes "RET %a") ≡ Ok (codes "RET (%a)"))
    × (op_again (codes "RET()") ≡ Ok (codes "RET ()"))
    × (op_again (codes "THROW%e") ≡ Ok (codes "THROW %e"))
unfolding tokens_from tokens_within next_of gap_len words directives common_names elements mark name numeral order global local bracketed bracketed_pair global_list local_list type_list value values dest exc keep pass_values throw_exc new_stack_clause binary compare convert refcast select bracketed_field extractvalue insertvalue computation branch branch2 switch_case switch call tailcall ret throw control new_object newhybrid alloca allocation getiref getfieldiref getelemiref shiftiref getvarpartiref addressing_form optional_order load store weak cmpxchg atomicrmw fence access trap wpexc watchpoint wpbranch trapping_form returning killing swapstack threadlocal newthread stack_switch one_value two_values three_values new_stack kill_stack thread_exit current_stack set_threadlocal get_threadlocal futex_wait futex_wake futex_wait_timeout common_inst op label labelled listed bracketed_words bracketed_pair_words bracketed_field_words global_list_words local_list_words type_list_words value_words values_words dest_words exc_words keep_words exc_keep_words new_stack_clause_words computation_words switch_case_words case_list_words control_words allocation_words addressing_words order_words weak_words stored_words exchanged_words access_words wpexc_words watched_words trapping_words threadlocal_words ret_with_words stack_switch_words one_value_words two_values_words three_values_words common_inst_words op_words labelled_words results_words spelling digits
control_flow_are_written = (refl, refl, refl, refl, refl, refl, refl, refl, refl, refl)

objects_are_written :
    (op_again (codes "NEW<@t>") ≡ Ok (codes "NEW <@t>"))
    × (op_again (codes "NEWHYBRID<@h @i>%n EXC(%n() %x())") ≡ Ok (codes "NEWHYBRID <@h @i> %n EXC(%n() %x())"))
    × (op_again (codes "ALLOCA<@t>") ≡ Ok (codes "ALLOCA <@t>"))
    × (op_again (codes "GETIREF<@t>%r") ≡ Ok (codes "GETIREF <@t> %r"))
    × (op_again (codes "GETFIELDIREF<@t 3>%p") ≡ Ok (codes "GETFIELDIREF <@t 3> %p"))
    × (op_again (codes "GETELEMIREF<@t @i>%p %i") ≡ Ok (codes "GETELEMIREF <@t @i> %p %i"))
    × (op_again (codes "SHIFTIREF<@t @i>%p @i") ≡ Ok (codes "SHIFTIREF <@t @i> %p @i"))
    × (op_again (codes "GETVARPARTIREF<@h>%p") ≡ Ok (codes "GETVARPARTIREF <@h> %p"))
unfolding tokens_from tokens_within next_of gap_len words directives common_names elements mark name numeral order global local bracketed bracketed_pair global_list local_list type_list value values dest exc keep pass_values throw_exc new_stack_clause binary compare convert refcast select bracketed_field extractvalue insertvalue computation branch branch2 switch_case switch call tailcall ret throw control new_object newhybrid alloca allocation getiref getfieldiref getelemiref shiftiref getvarpartiref addressing_form optional_order load store weak cmpxchg atomicrmw fence access trap wpexc watchpoint wpbranch trapping_form returning killing swapstack threadlocal newthread stack_switch one_value two_values three_values new_stack kill_stack thread_exit current_stack set_threadlocal get_threadlocal futex_wait futex_wake futex_wait_timeout common_inst op label labelled listed bracketed_words bracketed_pair_words bracketed_field_words global_list_words local_list_words type_list_words value_words values_words dest_words exc_words keep_words exc_keep_words new_stack_clause_words computation_words switch_case_words case_list_words control_words allocation_words addressing_words order_words weak_words stored_words exchanged_words access_words wpexc_words watched_words trapping_words threadlocal_words ret_with_words stack_switch_words one_value_words two_values_words three_values_words common_inst_words op_words labelled_words results_words spelling digits
objects_are_written = (refl, refl, refl, refl, refl, refl, refl, refl)

accesses_are_written :
    (op_again (codes "LOAD<@t>@g") ≡ Ok (codes "LOAD NOT_ATOMIC <@t> @g"))
    × (op_again (codes "LOAD ACQUIRE<@t>%p EXC(%n() %x())") ≡ Ok (codes "LOAD ACQUIRE <@t> %p EXC(%n() %x())"))
    × (op_again (codes "STORE<@t>@g %a") ≡ Ok (codes "STORE NOT_ATOMIC <@t> @g %a"))
    × (op_again (codes "STORE SEQ_CST<@t>@g %a") ≡ Ok (codes "STORE SEQ_CST <@t> @g %a"))
    × (op_again (codes "CMPXCHG WEAK ACQ_REL RELAXED<@t>%p %e %d") ≡ Ok (codes "CMPXCHG WEAK ACQ_REL RELAXED <@t> %p %e %d"))
    × (op_again (codes "CMPXCHG SEQ_CST CONSUME<@t>%p %e %d") ≡ Ok (codes "CMPXCHG SEQ_CST CONSUME <@t> %p %e %d"))
    × (op_again (codes "ATOMICRMW RELEASE UMIN<@t>%p %a") ≡ Ok (codes "ATOMICRMW RELEASE UMIN <@t> %p %a"))
    × (op_again (codes "FENCE ACQUIRE") ≡ Ok (codes "FENCE ACQUIRE"))
unfolding tokens_from tokens_within next_of gap_len words directives common_names elements mark name numeral order global local bracketed bracketed_pair global_list local_list type_list value values dest exc keep pass_values throw_exc new_stack_clause binary compare convert refcast select bracketed_field extractvalue insertvalue computation branch branch2 switch_case switch call tailcall ret throw control new_object newhybrid alloca allocation getiref getfieldiref getelemiref shiftiref getvarpartiref addressing_form optional_order load store weak cmpxchg atomicrmw fence access trap wpexc watchpoint wpbranch trapping_form returning killing swapstack threadlocal newthread stack_switch one_value two_values three_values new_stack kill_stack thread_exit current_stack set_threadlocal get_threadlocal futex_wait futex_wake futex_wait_timeout common_inst op label labelled listed bracketed_words bracketed_pair_words bracketed_field_words global_list_words local_list_words type_list_words value_words values_words dest_words exc_words keep_words exc_keep_words new_stack_clause_words computation_words switch_case_words case_list_words control_words allocation_words addressing_words order_words weak_words stored_words exchanged_words access_words wpexc_words watched_words trapping_words threadlocal_words ret_with_words stack_switch_words one_value_words two_values_words three_values_words common_inst_words op_words labelled_words results_words spelling digits
accesses_are_written = (refl, refl, refl, refl, refl, refl, refl, refl)

stacks_are_written :
    (op_again (codes "TRAP<@t @u>EXC(%n() %x())KEEPALIVE(%k)") ≡ Ok (codes "TRAP <@t @u> EXC(%n() %x()) KEEPALIVE(%k)"))
    × (op_again (codes "TRAP<>") ≡ Ok (codes "TRAP <>"))
    × (op_again (codes "WATCHPOINT 7<@t>%a() %b(%x)WPEXC(%c())KEEPALIVE()") ≡ Ok (codes "WATCHPOINT 7 <@t> %a() %b(%x) WPEXC(%c()) KEEPALIVE()"))
    × (op_again (codes "WPBRANCH 7%a()%b()") ≡ Ok (codes "WPBRANCH 7 %a() %b()"))
    × (op_again (codes "SWAPSTACK%s RET_WITH<@t>PASS_VALUES<@i64>(@c1)EXC(%n() %x())") ≡ Ok (codes "SWAPSTACK %s RET_WITH<@t> PASS_VALUES<@i64> (@c1) EXC(%n() %x())"))
    × (op_again (codes "SWAPSTACK%s KILL_OLD PASS_VALUES<>()") ≡ Ok (codes "SWAPSTACK %s KILL_OLD PASS_VALUES<> ()"))
    × (op_again (codes "SWAPSTACK%s KILL_OLD THROW_EXC(%e)") ≡ Ok (codes "SWAPSTACK %s KILL_OLD THROW_EXC %e"))
    × (op_again (codes "NEWTHREAD%s THREADLOCAL(%r)THROW_EXC%e EXC(%n() %x())") ≡ Ok (codes "NEWTHREAD %s THREADLOCAL(%r) THROW_EXC %e EXC(%n() %x())"))
unfolding tokens_from tokens_within next_of gap_len words directives common_names elements mark name numeral order global local bracketed bracketed_pair global_list local_list type_list value values dest exc keep pass_values throw_exc new_stack_clause binary compare convert refcast select bracketed_field extractvalue insertvalue computation branch branch2 switch_case switch call tailcall ret throw control new_object newhybrid alloca allocation getiref getfieldiref getelemiref shiftiref getvarpartiref addressing_form optional_order load store weak cmpxchg atomicrmw fence access trap wpexc watchpoint wpbranch trapping_form returning killing swapstack threadlocal newthread stack_switch one_value two_values three_values new_stack kill_stack thread_exit current_stack set_threadlocal get_threadlocal futex_wait futex_wake futex_wait_timeout common_inst op label labelled listed bracketed_words bracketed_pair_words bracketed_field_words global_list_words local_list_words type_list_words value_words values_words dest_words exc_words keep_words exc_keep_words new_stack_clause_words computation_words switch_case_words case_list_words control_words allocation_words addressing_words order_words weak_words stored_words exchanged_words access_words wpexc_words watched_words trapping_words threadlocal_words ret_with_words stack_switch_words one_value_words two_values_words three_values_words common_inst_words op_words labelled_words results_words spelling digits
stacks_are_written = (refl, refl, refl, refl, refl, refl, refl, refl)

common_instructions_are_written :
    (op_again (codes "COMMINST@uvm.new_stack<[@s]>(@f)") ≡ Ok (codes "COMMINST @uvm.new_stack <[@s]> (@f)"))
    × (op_again (codes "COMMINST@uvm.kill_stack(%s)") ≡ Ok (codes "COMMINST @uvm.kill_stack (%s)"))
    × (op_again (codes "COMMINST @uvm.thread_exit") ≡ Ok (codes "COMMINST @uvm.thread_exit ()"))
    × (op_again (codes "COMMINST @uvm.set_threadlocal(%r)") ≡ Ok (codes "COMMINST @uvm.set_threadlocal (%r)"))
    × (op_again (codes "COMMINST @uvm.futex.wait<@t>(%p %v)") ≡ Ok (codes "COMMINST @uvm.futex.wait <@t> (%p %v)"))
    × (op_again (codes "COMMINST @uvm.futex.wake<@t>(%p %n)") ≡ Ok (codes "COMMINST @uvm.futex.wake <@t> (%p %n)"))
    × (op_again (codes "COMMINST @uvm.futex.wait_timeout<@t>(%p %v %n)") ≡ Ok (codes "COMMINST @uvm.futex.wait_timeout <@t> (%p %v %n)"))
unfolding tokens_from tokens_within next_of gap_len words directives common_names elements mark name numeral order global local bracketed bracketed_pair global_list local_list type_list value values dest exc keep pass_values throw_exc new_stack_clause binary compare convert refcast select bracketed_field extractvalue insertvalue computation branch branch2 switch_case switch call tailcall ret throw control new_object newhybrid alloca allocation getiref getfieldiref getelemiref shiftiref getvarpartiref addressing_form optional_order load store weak cmpxchg atomicrmw fence access trap wpexc watchpoint wpbranch trapping_form returning killing swapstack threadlocal newthread stack_switch one_value two_values three_values new_stack kill_stack thread_exit current_stack set_threadlocal get_threadlocal futex_wait futex_wake futex_wait_timeout common_inst op label labelled listed bracketed_words bracketed_pair_words bracketed_field_words global_list_words local_list_words type_list_words value_words values_words dest_words exc_words keep_words exc_keep_words new_stack_clause_words computation_words switch_case_words case_list_words control_words allocation_words addressing_words order_words weak_words stored_words exchanged_words access_words wpexc_words watched_words trapping_words threadlocal_words ret_with_words stack_switch_words one_value_words two_values_words three_values_words common_inst_words op_words labelled_words results_words spelling digits
common_instructions_are_written = (refl, refl, refl, refl, refl, refl, refl)
