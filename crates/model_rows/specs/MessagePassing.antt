-- Runs of bundles: message passing.
use Rattle.std.specs.Prelude.{codes, ◌≡◌, refl, ◌++◌}
use Rattle.run_texts.specs.Texts.{Text}
use Rattle.model_rows.specs.Running.{definitions, plain, run_text}

abbrev released : Text
released = definitions ++ codes ".global @d <@i64> .global @f <@i64> .funcdef @g VERSION %v <@mi> { %e(): %a = LOAD ACQUIRE <@i64> @f %b = LOAD NOT_ATOMIC <@i64> @d RET (%b) } .funcdef @main VERSION %v <@mi> { %e(): %s = COMMINST @uvm.new_stack <[@mi]> (@g) %t = NEWTHREAD %s PASS_VALUES<>() STORE NOT_ATOMIC <@i64> @d @c40 STORE RELEASE <@i64> @f @c1 RET (@c0) }"

abbrev not_released : Text
not_released = definitions ++ codes ".global @d <@i64> .global @f <@i64> .funcdef @g VERSION %v <@mi> { %e(): %a = LOAD ACQUIRE <@i64> @f %b = LOAD NOT_ATOMIC <@i64> @d RET (%b) } .funcdef @main VERSION %v <@mi> { %e(): %s = COMMINST @uvm.new_stack <[@mi]> (@g) %t = NEWTHREAD %s PASS_VALUES<>() STORE NOT_ATOMIC <@i64> @d @c40 STORE NOT_ATOMIC <@i64> @f @c1 RET (@c0) }"

abbrev updated : Text
updated = definitions ++ codes ".global @d <@i64> .global @f <@i64> .funcdef @g VERSION %v <@mi> { %e(): %a = LOAD ACQUIRE <@i64> @f %b = LOAD NOT_ATOMIC <@i64> @d RET (%b) } .funcdef @u VERSION %v <@mi> { %e(): %o = ATOMICRMW RELAXED ADD <@i64> @f @c1 RET (%o) } .funcdef @main VERSION %v <@mi> { %e(): %s = COMMINST @uvm.new_stack <[@mi]> (@u) %r = COMMINST @uvm.new_stack <[@mi]> (@g) %t = NEWTHREAD %s PASS_VALUES<>() %w = NEWTHREAD %r PASS_VALUES<>() STORE NOT_ATOMIC <@i64> @d @c40 STORE RELEASE <@i64> @f @c1 RET (@c0) }"

acquire_sees_what_was_released : run_text plain released ≡ codes "0 t0 stack s1\n1 t0 thread t1\n2 t1 enter s1\n3 t0 write NOT_ATOMIC #0+0 1 40\n4 t0 write RELEASE #1+0 1 1\nreturned t0 0\n5 t1 read ACQUIRE #1+0 1 1\n6 t1 read NOT_ATOMIC #0+0 1 40\nreturned t1 40\ndone\n"
unfolding run_text
acquire_sees_what_was_released = refl

plain_flag_races : run_text plain not_released ≡ codes "0 t0 stack s1\n1 t0 thread t1\n2 t1 enter s1\n3 t0 write NOT_ATOMIC #0+0 1 40\n4 t0 write NOT_ATOMIC #1+0 1 1\nreturned t0 0\nundefined DataRace t1 @g.v.e 0 read ACQUIRE #1+0 1 1 with 4\n"
unfolding run_text
plain_flag_races = refl

update_goes_on_the_release_sequence : run_text plain updated ≡ codes "0 t0 stack s1\n1 t0 stack s2\n2 t0 thread t1\n3 t1 enter s1\n4 t0 thread t2\n5 t2 enter s2\n6 t0 write NOT_ATOMIC #0+0 1 40\n7 t0 write RELEASE #1+0 1 1\nreturned t0 0\n8 t1 update RELAXED #1+0 2 2\nreturned t1 1\n9 t2 read ACQUIRE #1+0 2 2\n10 t2 read NOT_ATOMIC #0+0 1 40\nreturned t2 40\ndone\n"
unfolding run_text
update_goes_on_the_release_sequence = refl
