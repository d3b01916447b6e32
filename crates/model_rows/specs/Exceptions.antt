-- Runs of bundles: an exception of a function that was called.
use Rattle.std.specs.Prelude.{codes, ◌≡◌, refl, ◌++◌}
use Rattle.run_texts.specs.Texts.{Text}
use Rattle.model_rows.specs.Running.{definitions, plain, run_text}

abbrev with_destination : Text
with_destination = definitions ++ codes ".funcdef @t VERSION %v <@m> { %e(): %o = NEW <@void> THROW %o } .funcdef @main VERSION %v <@mi> { %e(): CALL <@m> @t () EXC(%n() %x()) %n(): RET (@c0) %x() [%q]: %z = NE <@rv> %q @nul %k = ZEXT <@i1 @i64> %z RET (%k) }"

abbrev without : Text
without = definitions ++ codes ".funcdef @t VERSION %v <@m> { %e(): %o = NEW <@void> THROW %o } .funcdef @main VERSION %v <@mi> { %e(): CALL <@m> @t () RET (@c0) }"

handler_gets_the_exception : run_text (record plain { cells = 0 }) with_destination ≡ codes "returned t0 1\ndone\n"
unfolding run_text
handler_gets_the_exception = refl

no_frame_catches_it : run_text (record plain { cells = 0 }) without ≡ codes "undefined Uncaught t0 @t.v.e 1\n"
unfolding run_text
no_frame_catches_it = refl
