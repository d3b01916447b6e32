-- Runs of bundles: store buffering.
use Rattle.std.specs.Prelude.{codes, ◌≡◌, refl, ◌++◌, [], ◌∷◌}
use Rattle.run_texts.specs.Texts.{Text}
use Rattle.model_rows.specs.Running.{definitions, plain, run_text}

abbrev relaxed : Text
relaxed = definitions ++ codes ".global @x <@i64> .global @y <@i64> .funcdef @g VERSION %v <@mi> { %e(): STORE RELAXED <@i64> @y @c1 %b = LOAD RELAXED <@i64> @x RET (%b) } .funcdef @main VERSION %v <@mi> { %e(): %s = COMMINST @uvm.new_stack <[@mi]> (@g) %t = NEWTHREAD %s PASS_VALUES<>() STORE RELAXED <@i64> @x @c1 %a = LOAD RELAXED <@i64> @y RET (%a) }"

abbrev sequentially_consistent : Text
sequentially_consistent = definitions ++ codes ".global @x <@i64> .global @y <@i64> .funcdef @g VERSION %v <@mi> { %e(): STORE SEQ_CST <@i64> @y @c1 %b = LOAD SEQ_CST <@i64> @x RET (%b) } .funcdef @main VERSION %v <@mi> { %e(): %s = COMMINST @uvm.new_stack <[@mi]> (@g) %t = NEWTHREAD %s PASS_VALUES<>() STORE SEQ_CST <@i64> @x @c1 %a = LOAD SEQ_CST <@i64> @y RET (%a) }"

both_relaxed_loads_may_miss : run_text (record plain { picks = 0 ∷ 1 ∷ 0 ∷ 1 ∷ 1 ∷ 1 ∷ 0 ∷ [] }) relaxed ≡ codes "0 t0 stack s1\n1 t0 thread t1\n2 t1 enter s1\n3 t0 write RELAXED #0+0 1 1\n4 t1 write RELAXED #1+0 1 1\n5 t0 read RELAXED #1+0 0 0\n6 t1 read RELAXED #0+0 0 0\nreturned t0 0\nreturned t1 0\ndone\n"
unfolding run_text
both_relaxed_loads_may_miss = refl

sequentially_consistent_loads_have_one_option : run_text (record plain { picks = 0 ∷ 1 ∷ 0 ∷ 1 ∷ 1 ∷ 1 ∷ 0 ∷ [] }) sequentially_consistent ≡ codes "0 t0 stack s1\n1 t0 thread t1\n2 t1 enter s1\n3 t0 write SEQ_CST #0+0 1 1\n4 t1 write SEQ_CST #1+0 1 1\n5 t0 read SEQ_CST #1+0 1 1\n6 t1 read SEQ_CST #0+0 1 1\nreturned t1 1\nreturned t0 1\ndone\n"
unfolding run_text
sequentially_consistent_loads_have_one_option = refl
