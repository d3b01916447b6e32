-- Runs of bundles: a thread that waits and is woken.
use Rattle.std.specs.Prelude.{codes, ◌≡◌, refl, ◌++◌, [], ◌∷◌}
use Rattle.run_texts.specs.Texts.{Text}
use Rattle.model_rows.specs.Running.{definitions, plain, run_text}

abbrev bundle : Text
bundle = definitions ++ codes ".global @q <@i64> .funcdef @g VERSION %v <@mi> { %e(): %w = COMMINST @uvm.futex.wait <@i64> (@q @c0) %z = ZEXT <@i32 @i64> %w RET (%z) } .funcdef @main VERSION %v <@mi> { %e(): %s = COMMINST @uvm.new_stack <[@mi]> (@g) %t = NEWTHREAD %s PASS_VALUES<>() %n = COMMINST @uvm.futex.wake <@i64> (@q @w1) RET (@c0) }"

woken_thread_goes_on : run_text (record plain { picks = 1 ∷ [] }) bundle ≡ codes "0 t0 stack s1\n1 t0 thread t1\n2 t1 enter s1\n3 t1 read RELAXED #0+0 0 0\n4 t0 wake #0+0 1\n5 t1 woken 4\nreturned t0 0\nreturned t1 0\ndone\n"
unfolding run_text
woken_thread_goes_on = refl
