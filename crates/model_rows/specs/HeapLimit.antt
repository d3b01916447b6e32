-- Runs of bundles: cells that are asked and left.
use Rattle.std.specs.Prelude.{codes, ◌≡◌, refl, ◌++◌}
use Rattle.run_texts.specs.Texts.{Text}
use Rattle.model_rows.specs.Running.{definitions, plain, run_text}

abbrev two_objects : Text
two_objects = definitions ++ codes ".typedef @p = struct<@i64 @i64> .funcdef @main VERSION %v <@mi> { %e(): %a = NEW <@p> %b = NEW <@i64> RET (@c0) }"

abbrev great_hybrid : Text
great_hybrid = definitions ++ codes ".typedef @hy = hybrid<@i64> .funcdef @main VERSION %v <@mi> { %e(): %h = NEWHYBRID <@hy @i64> @n2 RET (@c0) }"

abbrev with_destination : Text
with_destination = definitions ++ codes ".funcdef @main VERSION %v <@mi> { %e(): %o = NEW <@i64> EXC(%n() %x()) %n(): RET (@c0) %x() [%q]: %z = EQ <@rv> %q @nul %k = ZEXT <@i1 @i64> %z RET (%k) }"

three_cells_are_enough : run_text (record plain { cells = 3 }) two_objects ≡ codes "returned t0 0\ndone\n"
unfolding run_text
three_cells_are_enough = refl

two_cells_are_too_few : run_text (record plain { cells = 2 }) two_objects ≡ codes "heap full t0 asked 1 left 0\n"
unfolding run_text
two_cells_are_too_few = refl

length_is_unsigned : run_text plain great_hybrid ≡ codes "heap full t0 asked 18446744073709551614 left 100000\n"
unfolding run_text
length_is_unsigned = refl

full_heap_goes_to_its_destination : run_text (record plain { cells = 0 }) with_destination ≡ codes "returned t0 1\ndone\n"
unfolding run_text
full_heap_goes_to_its_destination = refl
