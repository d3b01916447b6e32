-- Runs of bundles: stacks that are not entered, and not killed.
use Rattle.std.specs.Prelude.{codes, ◌≡◌, refl, ◌++◌}
use Rattle.run_texts.specs.Texts.{Text}
use Rattle.model_rows.specs.Running.{definitions, plain, run_text}

abbrev other_types : Text
other_types = definitions ++ codes ".funcdef @co VERSION %v <@gs> { %e(<@st> %m): RET () } .funcdef @main VERSION %v <@mi> { %e(): %s = COMMINST @uvm.new_stack <[@gs]> (@co) SWAPSTACK %s RET_WITH<> PASS_VALUES<@i64>(@c1) RET (@c0) }"

abbrev own_stack : Text
own_stack = definitions ++ codes ".funcdef @main VERSION %v <@mi> { %e(): %m = COMMINST @uvm.current_stack () SWAPSTACK %m RET_WITH<> PASS_VALUES<>() RET (@c0) }"

abbrev own_stack_killed : Text
own_stack_killed = definitions ++ codes ".funcdef @main VERSION %v <@mi> { %e(): %m = COMMINST @uvm.current_stack () COMMINST @uvm.kill_stack (%m) RET (@c0) }"

abbrev null_killed : Text
null_killed = definitions ++ codes ".const @ns <@st> = NULL .funcdef @main VERSION %v <@mi> { %e(): COMMINST @uvm.kill_stack (@ns) RET (@c0) }"

abbrev thrown_into_a_new_one : Text
thrown_into_a_new_one = definitions ++ codes ".funcdef @co VERSION %v <@gs> { %e(<@st> %m): RET () } .funcdef @main VERSION %v <@mi> { %e(): %s = COMMINST @uvm.new_stack <[@gs]> (@co) %o = NEW <@void> SWAPSTACK %s RET_WITH<> THROW_EXC %o RET (@c0) }"

values_of_other_types_are_refused : run_text plain other_types ≡ codes "0 t0 stack s1\nundefined StackTypes t0 @main.v.e 1\n"
unfolding run_text
values_of_other_types_are_refused = refl

own_stack_is_not_ready : run_text plain own_stack ≡ codes "undefined StackNotReady t0 @main.v.e 1\n"
unfolding run_text
own_stack_is_not_ready = refl

own_stack_is_not_killed : run_text plain own_stack_killed ≡ codes "undefined StackNotReady t0 @main.v.e 1\n"
unfolding run_text
own_stack_is_not_killed = refl

null_is_not_killed : run_text plain null_killed ≡ codes "undefined StackNotReady t0 @main.v.e 0\n"
unfolding run_text
null_is_not_killed = refl

new_stack_catches_nothing : run_text plain thrown_into_a_new_one ≡ codes "0 t0 stack s1\nundefined Uncaught t0 @main.v.e 2\n"
unfolding run_text
new_stack_catches_nothing = refl
