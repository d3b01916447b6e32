-- Runs of bundles: a zero divisor, with an exceptional destination and without.
use Rattle.std.specs.Prelude.{codes, ◌≡◌, refl, ◌++◌}
use Rattle.run_texts.specs.Texts.{Text}
use Rattle.model_rows.specs.Running.{definitions, plain, run_text}

abbrev with_destination : Text
with_destination = definitions ++ codes ".funcdef @main VERSION %v <@mi> { %e(): %q = SDIV <@i64> @c1 @c0 EXC(%n(%q) %x()) %n(<@i64> %r): RET (%r) %x() [%t]: %k = EQ <@rv> %t @nul %z = ZEXT <@i1 @i64> %k RET (%z) }"

abbrev without : Text
without = definitions ++ codes ".funcdef @main VERSION %v <@mi> { %e(): %q = SDIV <@i64> @c1 @c0 RET (%q) }"

zero_divisor_goes_to_its_destination_with_null : run_text plain with_destination ≡ codes "returned t0 1\ndone\n"
unfolding run_text
zero_divisor_goes_to_its_destination_with_null = refl

zero_divisor_is_undefined : run_text plain without ≡ codes "undefined DivideByZero t0 @main.v.e 0\n"
unfolding run_text
zero_divisor_is_undefined = refl
