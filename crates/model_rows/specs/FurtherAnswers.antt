-- Runs of bundles: stacks that a client gives to a thread or leaves, and a thread that is not there.
use Rattle.std.specs.Prelude.{None, codes, ◌≡◌, refl, ◌++◌, [], ◌∷◌, ℕ, decimal, zero, suc, ◌+◌, false}
use Rattle.std.specs.Fmt.{digits}
use Rattle.mu_model.specs.Clients.{Pass, Rebind, Exit, KeptValue}
use Rattle.run_texts.specs.Texts.{Text}
use Rattle.model_rows.specs.Running.{definitions, plain, run_text}
use Rattle.model_rows.specs.ThreadLimit.{made_from}

-- a 65th thread is asked for at an instruction with a destination for exceptions; later each of the others ends
abbrev many_threads : Text
many_threads = definitions ++ codes ".funcdef @t VERSION %v <@m> { %e(): RET () } .funcdef @main VERSION %v <@mi> { %e(): %s = COMMINST @uvm.new_stack <[@m]> (@t) %r = NEWTHREAD %s PASS_VALUES<>() EXC(%e() %x()) %x() [%q]: %z = EQ <@rv> %q @nul %k = ZEXT <@i1 @i64> %z RET (%k) }"

abbrev returned_from : ℕ → ℕ → Text
returned_from zero k = []
returned_from (suc n) k = codes "returned t" ++ decimal k ++ codes "\n" ++ returned_from n (k + 1)

full_threads_go_to_the_exceptional_destination : run_text plain many_threads ≡ made_from 63 1 0 ++ codes "189 t0 stack s64\nreturned t0 1\n" ++ returned_from 63 1 ++ codes "done\n"
unfolding run_text digits
full_threads_go_to_the_exceptional_destination = refl

-- the thread goes on with another stack than the one that trapped
abbrev another_stack : Text
another_stack = definitions ++ codes ".funcdef @t VERSION %v <@m> { %e(): RET () } .funcdef @main VERSION %v <@mi> { %e(): %s = COMMINST @uvm.new_stack <[@m]> (@t) TRAP <> KEEPALIVE(%s) RET (@c0) }"

thread_gets_another_stack : run_text (record plain { client = record { entries = record { actions = []; pop = 0; push = None; reply = Rebind (KeptValue 0 0) (Pass []) } ∷ []; auto = false } }) another_stack ≡ codes "0 t0 stack s1\n1 t0 leave s0\ntrap t0 @main.v.e 1\n2 t0 enter s1\nreturned t0\ndone\n"
unfolding run_text
thread_gets_another_stack = refl

-- a thread ends at a trap, and another one enters the stack that it left
abbrev left_stack : Text
left_stack = definitions ++ codes ".funcdef @co VERSION %v <@gs> { %e(<@st> %m): SWAPSTACK %m KILL_OLD PASS_VALUES<>() } .funcdef @main VERSION %v <@mi> { %e(): %m = COMMINST @uvm.current_stack () %s = COMMINST @uvm.new_stack <[@gs]> (@co) %t = NEWTHREAD %s PASS_VALUES<@st>(%m) TRAP <> RET (@c1) }"

stack_of_an_ended_thread_is_entered : run_text (record plain { client = record { entries = record { actions = []; pop = 0; push = None; reply = Exit } ∷ []; auto = false } }) left_stack ≡ codes "0 t0 stack s1\n1 t0 thread t1\n2 t1 enter s1\n3 t0 leave s0\ntrap t0 @main.v.e 3\nexited t0\n4 t1 enter s0\nreturned t1 1\ndone\n"
unfolding run_text
stack_of_an_ended_thread_is_entered = refl
