-- Worked examples. Instructions that read and write memory.
use Rattle.std.specs.Prelude.{◌≡◌, refl, codes}
use Rattle.text_forms.specs.Reading.{elements}
use Rattle.ir_lex.specs.WordTable.{words, directives, common_names}
use Rattle.ir_lex.specs.Scanner.{gap_len, next_of}
use Rattle.ir_lex.specs.Walk.{tokens_within, tokens_from}
use Rattle.ir_lex.specs.TokenForms.{mark, name, numeral}
use Rattle.ir_tree.specs.Words.{order}
use Rattle.ir_tree.specs.Lists.{global, bracketed, local, bracketed_pair, local_list, type_list, value, values, dest, exc, keep, pass_values, throw_exc, new_stack_clause}
use Rattle.ir_tree.specs.Computations.{binary, compare, convert, refcast, select, bracketed_field, extractvalue, insertvalue, computation}
use Rattle.ir_tree.specs.Control.{branch, branch2, switch_case, switch, call, tailcall, ret, throw, control}
use Rattle.ir_tree.specs.Objects.{new_object, newhybrid, alloca, allocation, getiref, getfieldiref, getelemiref, shiftiref, getvarpartiref, addressing_form}
use Rattle.ir_tree.specs.Accesses.{optional_order, load, store, weak, cmpxchg, atomicrmw, fence, access}
use Rattle.ir_tree.specs.Stacks.{trap, wpexc, watchpoint, wpbranch, trapping_form, returning, killing, swapstack, threadlocal, newthread, stack_switch}
use Rattle.ir_tree.specs.CommonForms.{one_value, two_values, three_values, new_stack, kill_stack, thread_exit, current_stack, set_threadlocal, get_threadlocal, futex_wait, futex_wake, futex_wait_timeout, common_inst}
use Rattle.ir_tree.specs.Instructions.{op}
use Rattle.ir_tree.specs.Samples.{meaning}
use Rattle.bundle_names.specs.Verdicts.{op_verdict, good, unknown, wrong_kind}

accesses_use_names :
    (op_verdict (meaning op (codes "LOAD <@t> @g EXC(%n() %n())")) ≡ good)
    × (op_verdict (meaning op (codes "LOAD ACQUIRE <@t> @x")) ≡ unknown 18)
    × (op_verdict (meaning op (codes "STORE <@t> @g %a")) ≡ good)
    × (op_verdict (meaning op (codes "STORE RELAXED <@t> @g %x")) ≡ unknown 22)
    × (op_verdict (meaning op (codes "CMPXCHG WEAK SEQ_CST RELAXED <@t> @g @k %a")) ≡ good)
    × (op_verdict (meaning op (codes "CMPXCHG SEQ_CST RELAXED <@t> @g @k %x")) ≡ unknown 35)
    × (op_verdict (meaning op (codes "ATOMICRMW RELAXED ADD <@t> @g @k")) ≡ good)
    × (op_verdict (meaning op (codes "ATOMICRMW RELAXED ADD <@t> @g @t EXC(%m() %m())")) ≡ wrong_kind 30)
    × (op_verdict (meaning op (codes "FENCE RELEASE")) ≡ good)
unfolding tokens_from tokens_within next_of gap_len words directives common_names elements mark name numeral order global local bracketed bracketed_pair local_list type_list value values dest exc keep pass_values throw_exc new_stack_clause binary compare convert refcast select bracketed_field extractvalue insertvalue computation branch branch2 switch_case switch call tailcall ret throw control new_object newhybrid alloca allocation getiref getfieldiref getelemiref shiftiref getvarpartiref addressing_form optional_order load store weak cmpxchg atomicrmw fence access trap wpexc watchpoint wpbranch trapping_form returning killing swapstack threadlocal newthread stack_switch one_value two_values three_values new_stack kill_stack thread_exit current_stack set_threadlocal get_threadlocal futex_wait futex_wake futex_wait_timeout common_inst op
accesses_use_names = (refl, refl, refl, refl, refl, refl, refl, refl, refl)
