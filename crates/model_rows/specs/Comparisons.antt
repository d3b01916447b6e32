-- Runs of bundles: comparisons that fail.
use Rattle.std.specs.Prelude.{codes, ◌≡◌, refl, ◌++◌, [], ◌∷◌}
use Rattle.run_texts.specs.Texts.{Text}
use Rattle.model_rows.specs.Running.{definitions, plain, run_text}

abbrev weak : Text
weak = definitions ++ codes ".global @x <@i64> .funcdef @g VERSION %v <@mi> { %e(): (%o %k) = CMPXCHG WEAK RELAXED RELAXED <@i64> @x @c0 @c2 RET (%o) } .funcdef @main VERSION %v <@mi> { %e(): %s = COMMINST @uvm.new_stack <[@mi]> (@g) %t = NEWTHREAD %s PASS_VALUES<>() STORE RELAXED <@i64> @x @c1 RET (@c0) }"

abbrev strong : Text
strong = definitions ++ codes ".global @x <@i64> .funcdef @g VERSION %v <@mi> { %e(): (%o %k) = CMPXCHG RELAXED RELAXED <@i64> @x @c0 @c2 RET (%o) } .funcdef @main VERSION %v <@mi> { %e(): %s = COMMINST @uvm.new_stack <[@mi]> (@g) %t = NEWTHREAD %s PASS_VALUES<>() STORE RELAXED <@i64> @x @c1 RET (@c0) }"

weak_one_may_fail_on_an_older_equal_value : run_text (record plain { picks = 0 ∷ 0 ∷ 1 ∷ [] }) weak ≡ codes "0 t0 stack s1\n1 t0 thread t1\n2 t1 enter s1\n3 t0 write RELAXED #0+0 1 1\nreturned t0 0\n4 t1 read RELAXED #0+0 0 0\nreturned t1 0\ndone\n"
unfolding run_text
weak_one_may_fail_on_an_older_equal_value = refl

strong_one_has_one_option : run_text (record plain { picks = 0 ∷ 0 ∷ 1 ∷ [] }) strong ≡ codes "0 t0 stack s1\n1 t0 thread t1\n2 t1 enter s1\n3 t0 write RELAXED #0+0 1 1\nreturned t0 0\n4 t1 read RELAXED #0+0 1 1\nreturned t1 1\ndone\n"
unfolding run_text
strong_one_has_one_option = refl
