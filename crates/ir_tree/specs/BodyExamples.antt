-- Worked examples. Bodies: where a name or a bracket does not tell at once what begins there.
use Rattle.std.specs.Prelude.{◌≡◌, refl, [], ◌∷◌, Some, None, Ok, codes}
use Rattle.text_forms.specs.Reading.{elements}
use Rattle.ir_lex.specs.WordTable.{words, directives, common_names}
use Rattle.ir_lex.specs.Scanner.{gap_len, next_of}
use Rattle.ir_lex.specs.Walk.{tokens_within, tokens_from}
use Rattle.ir_lex.specs.TokenForms.{mark, name, numeral}
use Rattle.ir_tree.specs.declared.flow.ControlFlow.TheVariants as flows
use Rattle.ir_tree.specs.declared.common.CommonInst.TheVariants as commons
use Rattle.ir_tree.specs.declared.code.Op.TheVariants as ops
use Rattle.ir_tree.specs.Words.{order}
use Rattle.ir_tree.specs.Lists.{global, local, bracketed, bracketed_pair, local_list, type_list, value, values, dest, exc, keep, pass_values, throw_exc, new_stack_clause}
use Rattle.ir_tree.specs.Computations.{binary, compare, convert, refcast, select, bracketed_field, extractvalue, insertvalue, computation}
use Rattle.ir_tree.specs.Control.{branch, branch2, switch_case, switch, call, tailcall, ret, throw, control}
use Rattle.ir_tree.specs.Objects.{new_object, newhybrid, alloca, allocation, getiref, getfieldiref, getelemiref, shiftiref, getvarpartiref, addressing_form}
use Rattle.ir_tree.specs.Accesses.{optional_order, load, store, weak, cmpxchg, atomicrmw, fence, access}
use Rattle.ir_tree.specs.Stacks.{trap, wpexc, watchpoint, wpbranch, trapping_form, returning, killing, swapstack, threadlocal, newthread, stack_switch}
use Rattle.ir_tree.specs.CommonForms.{one_value, two_values, three_values, new_stack, kill_stack, thread_exit, current_stack, set_threadlocal, get_threadlocal, futex_wait, futex_wake, futex_wait_timeout, common_inst}
use Rattle.ir_tree.specs.Instructions.{op, label, labelled}
use Rattle.ir_tree.specs.Blocks.{pair, params, handler, head_rest, head, result}
use Rattle.ir_tree.specs.Bodies.{results, more_results, body_rest, body}
use Rattle.ir_tree.specs.Samples.{named, meaning, local_at}

-- a local name before = begins an instruction, and before (, [ or : a block
heads_are_read :
    (meaning body (codes "{ %e(): %a = THROW %x %n(<@t> %p)[%h]: %m[%h]: %o: }") ≡ Ok (record { head = record { name = (named 2 (codes "%e")); parameters = []; handler = None }; insts = record { place = 8; results = (named 8 (codes "%a")) ∷ []; label = None; op = ops.ControlFlow (flows.Throw (local_at 19 (codes "%x"))) } ∷ [] } ∷ record { head = record { name = (named 22 (codes "%n")); parameters = record { of_type = (named 26 (codes "@t")); name = (named 30 (codes "%p")) } ∷ []; handler = Some (named 34 (codes "%h")) }; insts = [] } ∷ record { head = record { name = (named 39 (codes "%m")); parameters = []; handler = Some (named 42 (codes "%h")) }; insts = [] } ∷ record { head = record { name = (named 47 (codes "%o")); parameters = []; handler = None }; insts = [] } ∷ []))
unfolding tokens_from tokens_within next_of gap_len words directives common_names elements mark name numeral order global local bracketed bracketed_pair local_list type_list value values dest exc keep pass_values throw_exc new_stack_clause binary compare convert refcast select bracketed_field extractvalue insertvalue computation branch branch2 switch_case switch call tailcall ret throw control new_object newhybrid alloca allocation getiref getfieldiref getelemiref shiftiref getvarpartiref addressing_form optional_order load store weak cmpxchg atomicrmw fence access trap wpexc watchpoint wpbranch trapping_form returning killing swapstack threadlocal newthread stack_switch one_value two_values three_values new_stack kill_stack thread_exit current_stack set_threadlocal get_threadlocal futex_wait futex_wake futex_wait_timeout common_inst op label labelled pair params handler head_rest head result results more_results body_rest body
heads_are_read = refl

-- results in brackets, none among them, and labels: an instruction stands at its first token
results_are_read :
    (meaning body (codes "{ %e(): (%a %b) = [%l] THROW %x [%k] THROW %y () = THROW %z }") ≡ Ok (record { head = record { name = (named 2 (codes "%e")); parameters = []; handler = None }; insts = record { place = 8; results = (named 9 (codes "%a")) ∷ (named 12 (codes "%b")) ∷ []; label = Some (named 19 (codes "%l")); op = ops.ControlFlow (flows.Throw (local_at 29 (codes "%x"))) } ∷ record { place = 32; results = []; label = Some (named 33 (codes "%k")); op = ops.ControlFlow (flows.Throw (local_at 43 (codes "%y"))) } ∷ record { place = 46; results = []; label = None; op = ops.ControlFlow (flows.Throw (local_at 57 (codes "%z"))) } ∷ [] } ∷ []))
unfolding tokens_from tokens_within next_of gap_len words directives common_names elements mark name numeral order global local bracketed bracketed_pair local_list type_list value values dest exc keep pass_values throw_exc new_stack_clause binary compare convert refcast select bracketed_field extractvalue insertvalue computation branch branch2 switch_case switch call tailcall ret throw control new_object newhybrid alloca allocation getiref getfieldiref getelemiref shiftiref getvarpartiref addressing_form optional_order load store weak cmpxchg atomicrmw fence access trap wpexc watchpoint wpbranch trapping_form returning killing swapstack threadlocal newthread stack_switch one_value two_values three_values new_stack kill_stack thread_exit current_stack set_threadlocal get_threadlocal futex_wait futex_wake futex_wait_timeout common_inst op label labelled pair params handler head_rest head result results more_results body_rest body
results_are_read = refl

-- ( ) behind a common instruction is its list, save before =
empty_lists_are_read :
    (meaning body (codes "{ %e(): COMMINST @uvm.thread_exit () COMMINST @uvm.thread_exit () = COMMINST @uvm.thread_exit (%a) = COMMINST @uvm.current_stack }") ≡ Ok (record { head = record { name = (named 2 (codes "%e")); parameters = []; handler = None }; insts = record { place = 8; results = []; label = None; op = ops.Common commons.ThreadExit } ∷ record { place = 37; results = []; label = None; op = ops.Common commons.ThreadExit } ∷ record { place = 63; results = []; label = None; op = ops.Common commons.ThreadExit } ∷ record { place = 94; results = (named 95 (codes "%a")) ∷ []; label = None; op = ops.Common commons.CurrentStack } ∷ [] } ∷ []))
unfolding tokens_from tokens_within next_of gap_len words directives common_names elements mark name numeral order global local bracketed bracketed_pair local_list type_list value values dest exc keep pass_values throw_exc new_stack_clause binary compare convert refcast select bracketed_field extractvalue insertvalue computation branch branch2 switch_case switch call tailcall ret throw control new_object newhybrid alloca allocation getiref getfieldiref getelemiref shiftiref getvarpartiref addressing_form optional_order load store weak cmpxchg atomicrmw fence access trap wpexc watchpoint wpbranch trapping_form returning killing swapstack threadlocal newthread stack_switch one_value two_values three_values new_stack kill_stack thread_exit current_stack set_threadlocal get_threadlocal futex_wait futex_wake futex_wait_timeout common_inst op label labelled pair params handler head_rest head result results more_results body_rest body
empty_lists_are_read = refl
