-- Worked examples. Instructions that ask the client or go to another stack, and common instructions.
use Rattle.std.specs.Prelude.{◌≡◌, refl, [], ◌∷◌, Some, None, Ok, codes}
use Rattle.text_forms.specs.Reading.{elements}
use Rattle.ir_lex.specs.WordTable.{words, directives, common_names}
use Rattle.ir_lex.specs.Scanner.{gap_len, next_of}
use Rattle.ir_lex.specs.Walk.{tokens_within, tokens_from}
use Rattle.ir_lex.specs.TokenForms.{mark, name, numeral}
use Rattle.ir_tree.specs.declared.operands.NewStackClause.TheVariants as news
use Rattle.ir_tree.specs.declared.trapping.Trapping.TheVariants as trappings
use Rattle.ir_tree.specs.declared.switching.StackSwitch.TheVariants as switches
use Rattle.ir_tree.specs.declared.common.CommonInst.TheVariants as commons
use Rattle.ir_tree.specs.declared.code.Op.TheVariants as ops
use Rattle.ir_tree.specs.Lists.{global, local, bracketed, local_list, type_list, value, values, dest, exc, keep, pass_values, throw_exc, new_stack_clause}
use Rattle.ir_tree.specs.Stacks.{trap, wpexc, watchpoint, wpbranch, trapping_form, returning, killing, swapstack, threadlocal, newthread, stack_switch}
use Rattle.ir_tree.specs.CommonForms.{one_value, two_values, three_values, new_stack, kill_stack, thread_exit, current_stack, set_threadlocal, get_threadlocal, futex_wait, futex_wake, futex_wait_timeout, common_inst}
use Rattle.ir_tree.specs.Instructions.{op}
use Rattle.ir_tree.specs.Samples.{named, plain, meaning, local_at, global_at, listed, goes, exc_to}

stacks_are_read :
    (meaning op (codes "TRAP <@t @u> EXC (%n() %x()) KEEPALIVE (%a)") ≡ Ok (0, ops.Trapping (trappings.Trap ((named 6 (codes "@t")) ∷ (named 9 (codes "@u")) ∷ []) (exc_to (goes 18 (codes "%n") 20 []) (goes 23 (codes "%x") 25 [])) (Some ((named 40 (codes "%a")) ∷ [])))))
    × (meaning op (codes "WATCHPOINT 7 <@t> %d() %e(%r) WPEXC (%x()) KEEPALIVE ()") ≡ Ok (0, ops.Trapping (trappings.Watchpoint (plain 11 7) ((named 14 (codes "@t")) ∷ []) (goes 18 (codes "%d") 20 []) (goes 23 (codes "%e") 25 ((local_at 26 (codes "%r")) ∷ [])) (Some (goes 37 (codes "%x") 39 [])) (Some []))))
    × (meaning op (codes "WPBRANCH 7 %d() %e()") ≡ Ok (0, ops.Trapping (trappings.Wpbranch (plain 9 7) (goes 11 (codes "%d") 13 []) (goes 16 (codes "%e") 18 []))))
    × (meaning op (codes "SWAPSTACK %s RET_WITH <@t> PASS_VALUES <@u> (%a)") ≡ Ok (0, ops.StackSwitch (switches.SwapReturning (local_at 10 (codes "%s")) ((named 23 (codes "@t")) ∷ []) (news.PassValues ((named 40 (codes "@u")) ∷ []) (listed 44 ((local_at 45 (codes "%a")) ∷ []))) None None)))
    × (meaning op (codes "SWAPSTACK %s KILL_OLD THROW_EXC (%e)") ≡ Ok (0, ops.StackSwitch (switches.SwapKilling (local_at 10 (codes "%s")) (news.ThrowExc (local_at 33 (codes "%e"))))))
    × (meaning op (codes "NEWTHREAD %s THREADLOCAL (%r) THROW_EXC %e EXC (%n() %x())") ≡ Ok (0, ops.StackSwitch (switches.Newthread (local_at 10 (codes "%s")) (Some (local_at 26 (codes "%r"))) (news.ThrowExc (local_at 40 (codes "%e"))) (exc_to (goes 48 (codes "%n") 50 []) (goes 53 (codes "%x") 55 [])))))
    × (meaning op (codes "COMMINST @uvm.new_stack <[@s]> (@f)") ≡ Ok (0, ops.Common (commons.NewStack (named 26 (codes "@s")) (global_at 32 (codes "@f")))))
    × (meaning op (codes "COMMINST @uvm.kill_stack (%s)") ≡ Ok (0, ops.Common (commons.KillStack (local_at 26 (codes "%s")))))
    × (meaning op (codes "COMMINST @uvm.thread_exit") ≡ Ok (0, ops.Common (commons.ThreadExit)))
    × (meaning op (codes "COMMINST @uvm.current_stack ()") ≡ Ok (0, ops.Common (commons.CurrentStack)))
    × (meaning op (codes "COMMINST @uvm.set_threadlocal (%r)") ≡ Ok (0, ops.Common (commons.SetThreadlocal (local_at 31 (codes "%r")))))
    × (meaning op (codes "COMMINST @uvm.get_threadlocal") ≡ Ok (0, ops.Common (commons.GetThreadlocal)))
    × (meaning op (codes "COMMINST @uvm.futex.wait <@t> (%p %v)") ≡ Ok (0, ops.Common (commons.FutexWait (named 26 (codes "@t")) (local_at 31 (codes "%p")) (local_at 34 (codes "%v")))))
    × (meaning op (codes "COMMINST @uvm.futex.wake <@t> (%p %n)") ≡ Ok (0, ops.Common (commons.FutexWake (named 26 (codes "@t")) (local_at 31 (codes "%p")) (local_at 34 (codes "%n")))))
    × (meaning op (codes "COMMINST @uvm.futex.wait_timeout <@t> (%p %v %n)") ≡ Ok (0, ops.Common (commons.FutexWaitTimeout (named 34 (codes "@t")) (local_at 39 (codes "%p")) (local_at 42 (codes "%v")) (local_at 45 (codes "%n")))))
unfolding tokens_from tokens_within next_of gap_len words directives common_names elements mark name numeral global local bracketed local_list type_list value values dest exc keep pass_values throw_exc new_stack_clause trap wpexc watchpoint wpbranch trapping_form returning killing swapstack threadlocal newthread stack_switch one_value two_values three_values new_stack kill_stack thread_exit current_stack set_threadlocal get_threadlocal futex_wait futex_wake futex_wait_timeout common_inst op
stacks_are_read = (refl, refl, refl, refl, refl, refl, refl, refl, refl, refl, refl, refl, refl, refl, refl)
