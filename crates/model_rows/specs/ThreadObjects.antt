-- Runs of bundles: the object of a thread.
use Rattle.std.specs.Prelude.{codes, ◌≡◌, refl, ◌++◌}
use Rattle.run_texts.specs.Texts.{Text}
use Rattle.model_rows.specs.Running.{definitions, plain, run_text}

abbrev bundle : Text
bundle = definitions ++ codes ".funcdef @g VERSION %v <@mi> { %e(): %o = COMMINST @uvm.get_threadlocal () %z = EQ <@rv> %o @nul %k = ZEXT <@i1 @i64> %z RET (%k) } .funcdef @main VERSION %v <@mi> { %e(): %o = NEW <@void> %s = COMMINST @uvm.new_stack <[@mi]> (@g) %t = NEWTHREAD %s THREADLOCAL(%o) PASS_VALUES<>() %p = COMMINST @uvm.get_threadlocal () COMMINST @uvm.set_threadlocal (%o) %q = COMMINST @uvm.get_threadlocal () %z = EQ <@rv> %p %q %k = ZEXT <@i1 @i64> %z RET (%k) }"

it_is_null_until_it_is_set : run_text plain bundle ≡ codes "0 t0 stack s1\n1 t0 thread t1\n2 t1 enter s1\nreturned t0 0\nreturned t1 0\ndone\n"
unfolding run_text
it_is_null_until_it_is_set = refl
