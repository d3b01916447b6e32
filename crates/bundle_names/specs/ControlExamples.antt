-- Worked examples. Instructions that say where the function goes on.
use Rattle.std.specs.Prelude.{◌≡◌, refl, codes}
use Rattle.text_forms.specs.Reading.{elements}
use Rattle.ir_lex.specs.WordTable.{words, directives, common_names}
use Rattle.ir_lex.specs.Scanner.{gap_len, next_of}
use Rattle.ir_lex.specs.Walk.{tokens_within, tokens_from}
use Rattle.ir_lex.specs.TokenForms.{mark, name, numeral}
use Rattle.ir_tree.specs.Words.{order}
use Rattle.ir_tree.specs.Lists.{global, bracketed, local, bracketed_pair, local_list, type_list, value, values, dest, exc, keep, pass_values, throw_exc, new_stack_clause}
use Rattle.ir_tree.specs.Computations.{binary, compare, convert, refcast, select, bracketed_field, extractvalue, insertvalue, computation}
use Rattle.ir_tree.specs.Control.{branch, branch2, switch_case, switch, call, tailcall, ret, throw, control}
use Rattle.ir_tree.specs.Objects.{new_object, newhybrid, alloca, allocation, getiref, getfieldiref, getelemiref, shiftiref, getvarpartiref, addressing_form}
use Rattle.ir_tree.specs.Accesses.{optional_order, load, store, weak, cmpxchg, atomicrmw, fence, access}
use Rattle.ir_tree.specs.Stacks.{trap, wpexc, watchpoint, wpbranch, trapping_form, returning, killing, swapstack, threadlocal, newthread, stack_switch}
use Rattle.ir_tree.specs.CommonForms.{one_value, two_values, three_values, new_stack, kill_stack, thread_exit, current_stack, set_threadlocal, get_threadlocal, futex_wait, futex_wake, futex_wait_timeout, common_inst}
use Rattle.ir_tree.specs.Instructions.{op}
use Rattle.ir_tree.specs.Samples.{meaning}
use Rattle.bundle_names.specs.Verdicts.{op_verdict, good, unknown, wrong_kind}

controls_use_names :
    (op_verdict (meaning op (codes "BRANCH %n()")) ≡ good)
    × (op_verdict (meaning op (codes "BRANCH %a(%b)")) ≡ unknown 7)
    × (op_verdict (meaning op (codes "BRANCH %n(%a %b)")) ≡ unknown 13)
    × (op_verdict (meaning op (codes "BRANCH2 @k %n() %n()")) ≡ good)
    × (op_verdict (meaning op (codes "BRANCH2 @k %n() %m()")) ≡ unknown 16)
    × (op_verdict (meaning op (codes "SWITCH <@t> %a %n() { @k %n() @k %n() }")) ≡ good)
    × (op_verdict (meaning op (codes "SWITCH <@t> %a %n() { @k %n() @g %m() }")) ≡ wrong_kind 30)
    × (op_verdict (meaning op (codes "SWITCH <@t> %a %n() { @k %n(%b) @g %m() }")) ≡ unknown 28)
    × (op_verdict (meaning op (codes "CALL <@s> @f (%a) EXC(%n() %n()) KEEPALIVE(%a)")) ≡ good)
    × (op_verdict (meaning op (codes "CALL <@t> @f (%b)")) ≡ wrong_kind 6)
    × (op_verdict (meaning op (codes "CALL <@s> @f (%a @x) KEEPALIVE(%b)")) ≡ unknown 17)
    × (op_verdict (meaning op (codes "CALL <@s> @f (%a) KEEPALIVE(%a %b)")) ≡ unknown 31)
    × (op_verdict (meaning op (codes "TAILCALL <@s> %a ()")) ≡ good)
    × (op_verdict (meaning op (codes "TAILCALL <@s> @t ()")) ≡ wrong_kind 14)
    × (op_verdict (meaning op (codes "RET (%a @k)")) ≡ good)
    × (op_verdict (meaning op (codes "RET (%a %n)")) ≡ unknown 8)
    × (op_verdict (meaning op (codes "THROW @g")) ≡ good)
    × (op_verdict (meaning op (codes "THROW @x")) ≡ unknown 6)
unfolding tokens_from tokens_within next_of gap_len words directives common_names elements mark name numeral order global local bracketed bracketed_pair local_list type_list value values dest exc keep pass_values throw_exc new_stack_clause binary compare convert refcast select bracketed_field extractvalue insertvalue computation branch branch2 switch_case switch call tailcall ret throw control new_object newhybrid alloca allocation getiref getfieldiref getelemiref shiftiref getvarpartiref addressing_form optional_order load store weak cmpxchg atomicrmw fence access trap wpexc watchpoint wpbranch trapping_form returning killing swapstack threadlocal newthread stack_switch one_value two_values three_values new_stack kill_stack thread_exit current_stack set_threadlocal get_threadlocal futex_wait futex_wake futex_wait_timeout common_inst op
controls_use_names = (refl, refl, refl, refl, refl, refl, refl, refl, refl, refl, refl, refl, refl, refl, refl, refl, refl, refl)
