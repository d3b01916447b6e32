-- Runs of bundles: waking at cells, and at what is none.
use Rattle.std.specs.Prelude.{codes, ◌≡◌, refl, ◌++◌}
use Rattle.run_texts.specs.Texts.{Text}
use Rattle.model_rows.specs.Running.{definitions, plain, run_text}

abbrev none_woken : Text
none_woken = definitions ++ codes ".global @q <@i64> .const @w0 <@i32> = 0 .funcdef @main VERSION %v <@mi> { %e(): %n = COMMINST @uvm.futex.wake <@i64> (@q @w0) RET (@c0) }"

abbrev at_null : Text
at_null = definitions ++ codes ".typedef @ip = iref<@i64> .const @np <@ip> = NULL .funcdef @main VERSION %v <@mi> { %e(): %n = COMMINST @uvm.futex.wake <@i64> (@np @w1) RET (@c0) }"

abbrev at_the_end : Text
at_the_end = definitions ++ codes ".global @q <@i64> .funcdef @main VERSION %v <@mi> { %e(): %p = SHIFTIREF <@i64 @i64> @q @c1 %w = COMMINST @uvm.futex.wait <@i64> (%p @c0) RET (@c0) }"

waking_none_is_logged : run_text plain none_woken ≡ codes "0 t0 wake #0+0 0\nreturned t0 0\ndone\n"
unfolding run_text
waking_none_is_logged = refl

null_has_no_cell : run_text plain at_null ≡ codes "undefined NullAccess t0 @main.v.e 0\n"
unfolding run_text
null_has_no_cell = refl

end_has_no_cell : run_text plain at_the_end ≡ codes "undefined OutOfRange t0 @main.v.e 1\n"
unfolding run_text
end_has_no_cell = refl
