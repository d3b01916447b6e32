-- Worked examples. Instructions that make objects or find places in them.
use Rattle.std.specs.Prelude.{◌≡◌, refl, codes}
use Rattle.text_forms.specs.Reading.{elements}
use Rattle.ir_lex.specs.WordTable.{words, directives, common_names}
use Rattle.ir_lex.specs.Scanner.{gap_len, next_of}
use Rattle.ir_lex.specs.Walk.{tokens_within, tokens_from}
use Rattle.ir_lex.specs.TokenForms.{mark, name, numeral}
use Rattle.ir_tree.specs.Words.{order}
use Rattle.ir_tree.specs.Lists.{global, bracketed, local, bracketed_pair, local_list, type_list, value, values, dest, exc, keep, pass_values, throw_exc, new_stack_clause}
use Rattle.ir_tree.specs.Computations.{binary, compare, convert, refcast, select, bracketed_field, extractvalue, insertvalue, computation}
use Rattle.ir_tree.specs.Control.{branch, branch2, switch_case, switch, call, tailcall, ret, throw, control}
use Rattle.ir_tree.specs.Objects.{new_object, newhybrid, alloca, allocation, getiref, getfieldiref, getelemiref, shiftiref, getvarpartiref, addressing_form}
use Rattle.ir_tree.specs.Accesses.{optional_order, load, store, weak, cmpxchg, atomicrmw, fence, access}
use Rattle.ir_tree.specs.Stacks.{trap, wpexc, watchpoint, wpbranch, trapping_form, returning, killing, swapstack, threadlocal, newthread, stack_switch}
use Rattle.ir_tree.specs.CommonForms.{one_value, two_values, three_values, new_stack, kill_stack, thread_exit, current_stack, set_threadlocal, get_threadlocal, futex_wait, futex_wake, futex_wait_timeout, common_inst}
use Rattle.ir_tree.specs.Instructions.{op}
use Rattle.ir_tree.specs.Samples.{meaning}
use Rattle.bundle_names.specs.Verdicts.{op_verdict, good, unknown, wrong_kind}

objects_use_names :
    (op_verdict (meaning op (codes "NEW <@t> EXC(%n() %n())")) ≡ good)
    × (op_verdict (meaning op (codes "NEW <@s>")) ≡ wrong_kind 5)
    × (op_verdict (meaning op (codes "NEWHYBRID <@t @t> %a")) ≡ good)
    × (op_verdict (meaning op (codes "NEWHYBRID <@t @u> %b")) ≡ unknown 14)
    × (op_verdict (meaning op (codes "ALLOCA <@t>")) ≡ good)
    × (op_verdict (meaning op (codes "ALLOCA <@t> EXC(%m() %n())")) ≡ unknown 16)
    × (op_verdict (meaning op (codes "GETIREF <@t> @g")) ≡ good)
    × (op_verdict (meaning op (codes "GETIREF <@t> %x")) ≡ unknown 13)
    × (op_verdict (meaning op (codes "GETFIELDIREF <@t 0> @g")) ≡ good)
    × (op_verdict (meaning op (codes "GETFIELDIREF <@u 0> @g")) ≡ unknown 14)
    × (op_verdict (meaning op (codes "GETELEMIREF <@t @t> @g %a")) ≡ good)
    × (op_verdict (meaning op (codes "GETELEMIREF <@t @t> @g %x")) ≡ unknown 23)
    × (op_verdict (meaning op (codes "SHIFTIREF <@t @t> @g %a")) ≡ good)
    × (op_verdict (meaning op (codes "SHIFTIREF <@t @k> @h %x")) ≡ wrong_kind 14)
    × (op_verdict (meaning op (codes "GETVARPARTIREF <@t> %a")) ≡ good)
    × (op_verdict (meaning op (codes "GETVARPARTIREF <@t> @s")) ≡ wrong_kind 20)
unfolding tokens_from tokens_within next_of gap_len words directives common_names elements mark name numeral order global local bracketed bracketed_pair local_list type_list value values dest exc keep pass_values throw_exc new_stack_clause binary compare convert refcast select bracketed_field extractvalue insertvalue computation branch branch2 switch_case switch call tailcall ret throw control new_object newhybrid alloca allocation getiref getfieldiref getelemiref shiftiref getvarpartiref addressing_form optional_order load store weak cmpxchg atomicrmw fence access trap wpexc watchpoint wpbranch trapping_form returning killing swapstack threadlocal newthread stack_switch one_value two_values three_values new_stack kill_stack thread_exit current_stack set_threadlocal get_threadlocal futex_wait futex_wake futex_wait_timeout common_inst op
objects_use_names = (refl, refl, refl, refl, refl, refl, refl, refl, refl, refl, refl, refl, refl, refl, refl, refl)
