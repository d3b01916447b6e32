-- Runs of bundles: objects of frames.
use Rattle.std.specs.Prelude.{codes, ◌≡◌, refl, ◌++◌}
use Rattle.run_texts.specs.Texts.{Text}
use Rattle.model_rows.specs.Running.{definitions, plain, run_text}

abbrev bundle : Text
bundle = definitions ++ codes ".typedef @ip = iref<@i64> .funcsig @p = () -> (@ip) .funcdef @g VERSION %v <@p> { %e(): %a = ALLOCA <@i64> RET (%a) } .funcdef @main VERSION %v <@mi> { %e(): %r = CALL <@p> @g () %x = LOAD <@i64> %r RET (%x) }"

abbrev thrown : Text
thrown = definitions ++ codes ".typedef @ip = iref<@i64> .global @h <@ip> .funcdef @t VERSION %v <@m> { %e(): %a = ALLOCA <@i64> STORE <@ip> @h %a %o = NEW <@void> THROW %o } .funcdef @main VERSION %v <@mi> { %e(): CALL <@m> @t () EXC(%n() %x()) %n(): RET (@c0) %x(): %p = LOAD <@ip> @h %r = LOAD <@i64> %p RET (%r) }"

cells_die_with_a_frame_that_is_unwound : run_text plain thrown ≡ codes "0 t0 write NOT_ATOMIC #0+0 1 #1+0\n1 t0 read NOT_ATOMIC #0+0 1 #1+0\nundefined DeadCell t0 @main.v.x 1\n"
unfolding run_text
cells_die_with_a_frame_that_is_unwound = refl

cells_die_with_the_frame : run_text plain bundle ≡ codes "undefined DeadCell t0 @main.v.e 1\n"
unfolding run_text
cells_die_with_the_frame = refl
