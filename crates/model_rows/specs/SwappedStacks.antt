-- Runs of bundles: a stack that gives values, and ends.
use Rattle.std.specs.Prelude.{codes, ◌≡◌, refl, ◌++◌}
use Rattle.run_texts.specs.Texts.{Text}
use Rattle.model_rows.specs.Running.{definitions, plain, run_text}

abbrev bundle : Text
bundle = definitions ++ codes ".funcdef @gen VERSION %v <@gs> { %e(<@st> %m): SWAPSTACK %m RET_WITH<> PASS_VALUES<@i64>(@c1) SWAPSTACK %m KILL_OLD PASS_VALUES<@i64>(@c2) } .funcdef @main VERSION %v <@mi> { %e(): %s = COMMINST @uvm.new_stack <[@gs]> (@gen) %m = COMMINST @uvm.current_stack () %a = SWAPSTACK %s RET_WITH<@i64> PASS_VALUES<@st>(%m) %b = SWAPSTACK %s RET_WITH<@i64> PASS_VALUES<>() SWAPSTACK %s RET_WITH<> PASS_VALUES<>() RET (%a) }"

killed_stack_is_not_ready : run_text plain bundle ≡ codes "0 t0 stack s1\n1 t0 leave s0\n2 t0 enter s1\n3 t0 leave s1\n4 t0 enter s0\n5 t0 leave s0\n6 t0 enter s1\n7 t0 enter s0\nundefined StackNotReady t0 @main.v.e 4\n"
unfolding run_text
killed_stack_is_not_ready = refl
