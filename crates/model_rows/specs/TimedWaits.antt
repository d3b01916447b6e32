-- Runs of bundles: waits with a limit.
use Rattle.std.specs.Prelude.{codes, ◌≡◌, refl, ◌++◌, [], ◌∷◌}
use Rattle.run_texts.specs.Texts.{Text}
use Rattle.model_rows.specs.Running.{definitions, plain, run_text}

abbrev one_thread : Text
one_thread = definitions ++ codes ".global @q <@i64> .funcdef @main VERSION %v <@mi> { %e(): %w = COMMINST @uvm.futex.wait_timeout <@i64> (@q @c0 @c10) %z = ZEXT <@i32 @i64> %w RET (%z) }"

abbrev another_value : Text
another_value = definitions ++ codes ".global @q <@i64> .funcdef @main VERSION %v <@mi> { %e(): %w = COMMINST @uvm.futex.wait_timeout <@i64> (@q @c1 @c10) %z = ZEXT <@i32 @i64> %w RET (%z) }"

abbrev two_threads : Text
two_threads = definitions ++ codes ".global @q <@i64> .funcdef @g VERSION %v <@mi> { %e(): %w = COMMINST @uvm.futex.wait_timeout <@i64> (@q @c0 @c10) %z = ZEXT <@i32 @i64> %w RET (%z) } .funcdef @main VERSION %v <@mi> { %e(): %s = COMMINST @uvm.new_stack <[@mi]> (@g) %t = NEWTHREAD %s PASS_VALUES<>() %n = COMMINST @uvm.futex.wake <@i64> (@q @w1) RET (@c0) }"

abbrev plain_and_timed : Text
plain_and_timed = definitions ++ codes ".global @q <@i64> .funcdef @g VERSION %v <@mi> { %e(): %w = COMMINST @uvm.futex.wait_timeout <@i64> (@q @c0 @c10) %z = ZEXT <@i32 @i64> %w RET (%z) } .funcdef @main VERSION %v <@mi> { %e(): %s = COMMINST @uvm.new_stack <[@mi]> (@g) %t = NEWTHREAD %s PASS_VALUES<>() %w = COMMINST @uvm.futex.wait <@i64> (@q @c0) RET (@c0) }"

plain_wait_does_not_end : run_text plain plain_and_timed ≡ codes "0 t0 stack s1\n1 t0 thread t1\n2 t1 enter s1\n3 t0 read RELAXED #0+0 0 0\n4 t1 read RELAXED #0+0 0 0\ntimed out t1 #0+0\nreturned t1 4294967293\nall waiting t0\n"
unfolding run_text
plain_wait_does_not_end = refl

wait_ends_by_itself : run_text plain one_thread ≡ codes "0 t0 read RELAXED #0+0 0 0\ntimed out t0 #0+0\nreturned t0 4294967293\ndone\n"
unfolding run_text
wait_ends_by_itself = refl

end_of_a_wait_is_a_step : run_text (record plain { budget = 1 }) one_thread ≡ codes "0 t0 read RELAXED #0+0 0 0\nbudget 1\n"
unfolding run_text
end_of_a_wait_is_a_step = refl

another_value_does_not_wait : run_text plain another_value ≡ codes "0 t0 read RELAXED #0+0 0 0\nreturned t0 4294967295\ndone\n"
unfolding run_text
another_value_does_not_wait = refl

timed_thread_is_woken : run_text (record plain { picks = 1 ∷ [] }) two_threads ≡ codes "0 t0 stack s1\n1 t0 thread t1\n2 t1 enter s1\n3 t1 read RELAXED #0+0 0 0\n4 t0 wake #0+0 1\n5 t1 woken 4\nreturned t0 0\nreturned t1 0\ndone\n"
unfolding run_text
timed_thread_is_woken = refl

wake_comes_too_late : run_text (record plain { picks = 1 ∷ 1 ∷ [] }) two_threads ≡ codes "0 t0 stack s1\n1 t0 thread t1\n2 t1 enter s1\n3 t1 read RELAXED #0+0 0 0\ntimed out t1 #0+0\n4 t0 wake #0+0 0\nreturned t0 0\nreturned t1 4294967293\ndone\n"
unfolding run_text
wake_comes_too_late = refl
