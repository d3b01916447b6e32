-- Worked examples. Instructions that ask the client, enter another stack or start a thread.
use Rattle.std.specs.Prelude.{◌≡◌, refl, codes}
use Rattle.text_forms.specs.Reading.{elements}
use Rattle.ir_lex.specs.WordTable.{words, directives, common_names}
use Rattle.ir_lex.specs.Scanner.{gap_len, next_of}
use Rattle.ir_lex.specs.Walk.{tokens_within, tokens_from}
use Rattle.ir_lex.specs.TokenForms.{mark, name, numeral}
use Rattle.ir_tree.specs.Words.{order}
use Rattle.ir_tree.specs.Lists.{global, bracketed, local, bracketed_pair, local_list, type_list, value, values, dest, exc, keep, pass_values, throw_exc, new_stack_clause}
use Rattle.ir_tree.specs.Computations.{binary, compare, convert, refcast, select, bracketed_field, extractvalue, insertvalue, computation}
use Rattle.ir_tree.specs.Control.{branch, branch2, switch_case, switch, call, tailcall, ret, throw, control}
use Rattle.ir_tree.specs.Objects.{new_object, newhybrid, alloca, allocation, getiref, getfieldiref, getelemiref, shiftiref, getvarpartiref, addressing_form}
use Rattle.ir_tree.specs.Accesses.{optional_order, load, store, weak, cmpxchg, atomicrmw, fence, access}
use Rattle.ir_tree.specs.Stacks.{trap, wpexc, watchpoint, wpbranch, trapping_form, returning, killing, swapstack, threadlocal, newthread, stack_switch}
use Rattle.ir_tree.specs.CommonForms.{one_value, two_values, three_values, new_stack, kill_stack, thread_exit, current_stack, set_threadlocal, get_threadlocal, futex_wait, futex_wake, futex_wait_timeout, common_inst}
use Rattle.ir_tree.specs.Instructions.{op}
use Rattle.ir_tree.specs.Samples.{meaning}
use Rattle.bundle_names.specs.Verdicts.{op_verdict, good, unknown, wrong_kind}

stacks_use_names :
    (op_verdict (meaning op (codes "TRAP <@t @t> EXC(%n(%a) %n()) KEEPALIVE(%a)")) ≡ good)
    × (op_verdict (meaning op (codes "TRAP <@t @u> KEEPALIVE(%b)")) ≡ unknown 9)
    × (op_verdict (meaning op (codes "WATCHPOINT 7 <@t> %n() %n(%a) WPEXC(%n()) KEEPALIVE(%a)")) ≡ good)
    × (op_verdict (meaning op (codes "WATCHPOINT 7 <@t> %n() %n() WPEXC(%m()) KEEPALIVE(%b)")) ≡ unknown 34)
    × (op_verdict (meaning op (codes "WATCHPOINT 7 <@t> %n() %n() KEEPALIVE(%b)")) ≡ unknown 38)
    × (op_verdict (meaning op (codes "WPBRANCH 7 %n() %n()")) ≡ good)
    × (op_verdict (meaning op (codes "WPBRANCH 7 %n() %m()")) ≡ unknown 16)
    × (op_verdict (meaning op (codes "SWAPSTACK %a RET_WITH<@t> PASS_VALUES<@t>(@k) EXC(%n() %n()) KEEPALIVE(%a)")) ≡ good)
    × (op_verdict (meaning op (codes "SWAPSTACK %a RET_WITH<@t> PASS_VALUES<@s>(@x)")) ≡ wrong_kind 38)
    × (op_verdict (meaning op (codes "SWAPSTACK %a RET_WITH<@t> THROW_EXC %b")) ≡ unknown 36)
    × (op_verdict (meaning op (codes "SWAPSTACK %a KILL_OLD THROW_EXC(%a)")) ≡ good)
    × (op_verdict (meaning op (codes "SWAPSTACK %b KILL_OLD PASS_VALUES<@u>()")) ≡ unknown 10)
    × (op_verdict (meaning op (codes "NEWTHREAD %a THREADLOCAL(@g) PASS_VALUES<>() EXC(%n() %n())")) ≡ good)
    × (op_verdict (meaning op (codes "NEWTHREAD %a THREADLOCAL(%b) PASS_VALUES<@u>()")) ≡ unknown 25)
unfolding tokens_from tokens_within next_of gap_len words directives common_names elements mark name numeral order global local bracketed bracketed_pair local_list type_list value values dest exc keep pass_values throw_exc new_stack_clause binary compare convert refcast select bracketed_field extractvalue insertvalue computation branch branch2 switch_case switch call tailcall ret throw control new_object newhybrid alloca allocation getiref getfieldiref getelemiref shiftiref getvarpartiref addressing_form optional_order load store weak cmpxchg atomicrmw fence access trap wpexc watchpoint wpbranch trapping_form returning killing swapstack threadlocal newthread stack_switch one_value two_values three_values new_stack kill_stack thread_exit current_stack set_threadlocal get_threadlocal futex_wait futex_wake futex_wait_timeout common_inst op
stacks_use_names = (refl, refl, refl, refl, refl, refl, refl, refl, refl, refl, refl, refl, refl, refl)
