-- Runs of bundles: a stack that is entered with an exception, and one that is killed.
use Rattle.std.specs.Prelude.{codes, ◌≡◌, refl, ◌++◌}
use Rattle.run_texts.specs.Texts.{Text}
use Rattle.model_rows.specs.Running.{definitions, plain, run_text}

abbrev thrown : Text
thrown = definitions ++ codes ".funcdef @co VERSION %v <@gs> { %e(<@st> %m): SWAPSTACK %m RET_WITH<> PASS_VALUES<>() EXC(%n() %x(%m)) %n(): RET () %x(<@st> %m) [%q]: %z = NE <@rv> %q @nul %k = ZEXT <@i1 @i64> %z SWAPSTACK %m KILL_OLD PASS_VALUES<@i64>(%k) } .funcdef @main VERSION %v <@mi> { %e(): %s = COMMINST @uvm.new_stack <[@gs]> (@co) %m = COMMINST @uvm.current_stack () SWAPSTACK %s RET_WITH<> PASS_VALUES<@st>(%m) %o = NEW <@void> %r = SWAPSTACK %s RET_WITH<@i64> THROW_EXC %o RET (%r) }"

abbrev killed : Text
killed = definitions ++ codes ".funcdef @g VERSION %v <@mi> { %e(): RET (@c0) } .funcdef @main VERSION %v <@mi> { %e(): %s = COMMINST @uvm.new_stack <[@mi]> (@g) COMMINST @uvm.kill_stack (%s) COMMINST @uvm.kill_stack (%s) RET (@c0) }"

left_frame_catches_it : run_text plain thrown ≡ codes "0 t0 stack s1\n1 t0 leave s0\n2 t0 enter s1\n3 t0 leave s1\n4 t0 enter s0\n5 t0 leave s0\n6 t0 enter s1\n7 t0 enter s0\nreturned t0 1\ndone\n"
unfolding run_text
left_frame_catches_it = refl

dead_stack_is_not_killed_again : run_text plain killed ≡ codes "0 t0 stack s1\nundefined StackNotReady t0 @main.v.e 2\n"
unfolding run_text
dead_stack_is_not_killed_again = refl
