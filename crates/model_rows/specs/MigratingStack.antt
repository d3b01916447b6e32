-- Runs of bundles: a stack that moves to another thread with its own object.
use Rattle.std.specs.Prelude.{codes, ◌≡◌, refl, ◌++◌, [], ◌∷◌}
use Rattle.run_texts.specs.Texts.{Text}
use Rattle.model_rows.specs.Running.{definitions, plain, run_text, run_pieces}

abbrev made_before : Text
made_before = definitions ++ codes ".global @q <@i64> .funcdef @co VERSION %v <@gs> { %e(<@st> %m): %a = ALLOCA <@i64> STORE NOT_ATOMIC <@i64> %a @c40 SWAPSTACK %m RET_WITH<> PASS_VALUES<>() %b = LOAD NOT_ATOMIC <@i64> %a %w = COMMINST @uvm.futex.wait <@i64> (@q @c0) RET () } .funcdef @main VERSION %v <@mi> { %e(): %s = COMMINST @uvm.new_stack <[@gs]> (@co) %m = COMMINST @uvm.current_stack () SWAPSTACK %s RET_WITH<> PASS_VALUES<@st>(%m) %t = NEWTHREAD %s PASS_VALUES<>() %w = COMMINST @uvm.futex.wait <@i64> (@q @c0) RET (@c0) }"

abbrev to_an_older_thread : Text
to_an_older_thread = definitions ++ codes ".global @h <@st> .funcdef @co VERSION %v <@gs> { %e(<@st> %m): %a = ALLOCA <@i64> STORE NOT_ATOMIC <@i64> %a @c40 SWAPSTACK %m RET_WITH<> PASS_VALUES<>() %b = LOAD NOT_ATOMIC <@i64> %a COMMINST @uvm.thread_exit () } .funcdef @g VERSION %v <@mi> { %e(): %s = LOAD RELAXED <@st> @h SWAPSTACK %s KILL_OLD PASS_VALUES<>() } .funcdef @main VERSION %v <@mi> { %e(): %k = COMMINST @uvm.new_stack <[@mi]> (@g) %t = NEWTHREAD %k PASS_VALUES<>() %s = COMMINST @uvm.new_stack <[@gs]> (@co) %m = COMMINST @uvm.current_stack () SWAPSTACK %s RET_WITH<> PASS_VALUES<@st>(%m) STORE RELAXED <@st> @h %s RET (@c0) }"

all_threads_wait : run_text (record plain { budget = 10 }) made_before ≡ codes "0 t0 stack s1\n1 t0 leave s0\n2 t0 enter s1\n3 t0 write NOT_ATOMIC #1+0 1 40\n4 t0 leave s1\n5 t0 enter s0\n6 t0 thread t1\n7 t1 enter s1\n8 t0 read RELAXED #0+0 0 0\n9 t1 read NOT_ATOMIC #1+0 1 40\n10 t1 read RELAXED #0+0 0 0\nall waiting t0 t1\n"
unfolding run_text
all_threads_wait = refl

nine_steps_are_too_few : run_text (record plain { budget = 9 }) made_before ≡ codes "0 t0 stack s1\n1 t0 leave s0\n2 t0 enter s1\n3 t0 write NOT_ATOMIC #1+0 1 40\n4 t0 leave s1\n5 t0 enter s0\n6 t0 thread t1\n7 t1 enter s1\n8 t0 read RELAXED #0+0 0 0\n9 t1 read NOT_ATOMIC #1+0 1 40\nbudget 9\n"
unfolding run_text
nine_steps_are_too_few = refl

its_own_cell_does_not_race : run_text plain to_an_older_thread ≡ codes "0 t0 stack s1\n1 t0 thread t1\n2 t1 enter s1\n3 t0 stack s2\n4 t0 leave s0\n5 t0 enter s2\n6 t0 write NOT_ATOMIC #1+0 1 40\n7 t0 leave s2\n8 t0 enter s0\n9 t0 write RELAXED #0+0 1 s2\nreturned t0 0\n10 t1 read RELAXED #0+0 1 s2\n11 t1 enter s2\n12 t1 read NOT_ATOMIC #1+0 1 40\nexited t1\ndone\n"
unfolding run_text
its_own_cell_does_not_race = refl

-- each step that has lines puts them in one piece
nine_pieces : run_pieces (record plain { budget = 10 }) made_before ≡ codes "0 t0 stack s1\n" ∷ codes "1 t0 leave s0\n2 t0 enter s1\n" ∷ codes "3 t0 write NOT_ATOMIC #1+0 1 40\n" ∷ codes "4 t0 leave s1\n5 t0 enter s0\n" ∷ codes "6 t0 thread t1\n7 t1 enter s1\n" ∷ codes "8 t0 read RELAXED #0+0 0 0\n" ∷ codes "9 t1 read NOT_ATOMIC #1+0 1 40\n" ∷ codes "10 t1 read RELAXED #0+0 0 0\n" ∷ codes "all waiting t0 t1\n" ∷ []
unfolding run_pieces
nine_pieces = refl
