-- Runs of bundles: store buffering with a fence between store and load.
use Rattle.std.specs.Prelude.{codes, ◌≡◌, refl, ◌++◌, [], ◌∷◌}
use Rattle.run_texts.specs.Texts.{Text}
use Rattle.model_rows.specs.Running.{definitions, plain, run_text}

abbrev sequentially_consistent : Text
sequentially_consistent = definitions ++ codes ".global @x <@i64> .global @y <@i64> .funcdef @g VERSION %v <@mi> { %e(): STORE RELAXED <@i64> @y @c1 FENCE SEQ_CST %b = LOAD RELAXED <@i64> @x RET (%b) } .funcdef @main VERSION %v <@mi> { %e(): %s = COMMINST @uvm.new_stack <[@mi]> (@g) %t = NEWTHREAD %s PASS_VALUES<>() STORE RELAXED <@i64> @x @c1 FENCE SEQ_CST %a = LOAD RELAXED <@i64> @y RET (%a) }"

abbrev acquire_and_release : Text
acquire_and_release = definitions ++ codes ".global @x <@i64> .global @y <@i64> .funcdef @g VERSION %v <@mi> { %e(): STORE RELAXED <@i64> @y @c1 FENCE ACQ_REL %b = LOAD RELAXED <@i64> @x RET (%b) } .funcdef @main VERSION %v <@mi> { %e(): %s = COMMINST @uvm.new_stack <[@mi]> (@g) %t = NEWTHREAD %s PASS_VALUES<>() STORE RELAXED <@i64> @x @c1 FENCE ACQ_REL %a = LOAD RELAXED <@i64> @y RET (%a) }"

second_load_sees_the_store : run_text (record plain { picks = 0 ∷ 0 ∷ 0 ∷ 0 ∷ 1 ∷ [] }) sequentially_consistent ≡ codes "0 t0 stack s1\n1 t0 thread t1\n2 t1 enter s1\n3 t0 write RELAXED #0+0 1 1\n4 t0 fence SEQ_CST\n5 t0 read RELAXED #1+0 0 0\nreturned t0 0\n6 t1 write RELAXED #1+0 1 1\n7 t1 fence SEQ_CST\n8 t1 read RELAXED #0+0 1 1\nreturned t1 1\ndone\n"
unfolding run_text
second_load_sees_the_store = refl

second_load_may_miss : run_text (record plain { picks = 0 ∷ 0 ∷ 0 ∷ 0 ∷ 1 ∷ [] }) acquire_and_release ≡ codes "0 t0 stack s1\n1 t0 thread t1\n2 t1 enter s1\n3 t0 write RELAXED #0+0 1 1\n4 t0 fence ACQ_REL\n5 t0 read RELAXED #1+0 0 0\nreturned t0 0\n6 t1 write RELAXED #1+0 1 1\n7 t1 fence ACQ_REL\n8 t1 read RELAXED #0+0 0 0\nreturned t1 0\ndone\n"
unfolding run_text
second_load_may_miss = refl
