-- Runs of bundles: a store of the same thread behind a release.
use Rattle.std.specs.Prelude.{codes, ◌≡◌, refl, ◌++◌}
use Rattle.mem_axioms.specs.declared.types.Rule.TheVariants.{Rmw}
use Rattle.run_texts.specs.Texts.{Text}
use Rattle.model_rows.specs.Running.{definitions, plain, run_text}

abbrev bundle : Text
bundle = definitions ++ codes ".global @d <@i64> .global @f <@i64> .funcdef @g VERSION %v <@mi> { %e(): %a = LOAD ACQUIRE <@i64> @f %b = LOAD NOT_ATOMIC <@i64> @d RET (%b) } .funcdef @main VERSION %v <@mi> { %e(): %s = COMMINST @uvm.new_stack <[@mi]> (@g) %t = NEWTHREAD %s PASS_VALUES<>() STORE NOT_ATOMIC <@i64> @d @c40 STORE RELEASE <@i64> @f @c1 STORE RELAXED <@i64> @f @c2 RET (@c0) }"

own_store_goes_on_the_sequence : run_text plain bundle ≡ codes "0 t0 stack s1\n1 t0 thread t1\n2 t1 enter s1\n3 t0 write NOT_ATOMIC #0+0 1 40\n4 t0 write RELEASE #1+0 1 1\n5 t0 write RELAXED #1+0 2 2\nreturned t0 0\n6 t1 read ACQUIRE #1+0 2 2\n7 t1 read NOT_ATOMIC #0+0 1 40\nreturned t1 40\ndone\n"
unfolding run_text
own_store_goes_on_the_sequence = refl

by_the_other_rule_it_ends_it : run_text (record plain { rule = Rmw }) bundle ≡ codes "0 t0 stack s1\n1 t0 thread t1\n2 t1 enter s1\n3 t0 write NOT_ATOMIC #0+0 1 40\n4 t0 write RELEASE #1+0 1 1\n5 t0 write RELAXED #1+0 2 2\nreturned t0 0\n6 t1 read ACQUIRE #1+0 2 2\nundefined DataRace t1 @g.v.e 1 read NOT_ATOMIC #0+0 1 40 with 3\n"
unfolding run_text
by_the_other_rule_it_ends_it = refl
