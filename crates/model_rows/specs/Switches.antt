-- Runs of bundles: cases.
use Rattle.std.specs.Prelude.{codes, ◌≡◌, refl, ◌++◌}
use Rattle.run_texts.specs.Texts.{Text}
use Rattle.model_rows.specs.Running.{definitions, plain, run_text}

abbrev equal_twice : Text
equal_twice = definitions ++ codes ".const @one <@i64> = 1 .funcdef @main VERSION %v <@mi> { %e(): SWITCH <@i64> @c1 %d() { @c0 %a() @c1 %b() @one %a() } %a(): RET (@c10) %b(): RET (@c40) %d(): RET (@c2) }"

abbrev equal_to_none : Text
equal_to_none = definitions ++ codes ".funcdef @main VERSION %v <@mi> { %e(): SWITCH <@i64> @c2 %d() { @c0 %a() @c1 %b() } %a(): RET (@c10) %b(): RET (@c40) %d(): RET (@c2) }"

first_equal_case_counts : run_text plain equal_twice ≡ codes "returned t0 40\ndone\n"
unfolding run_text
first_equal_case_counts = refl

default_where_none_is_equal : run_text plain equal_to_none ≡ codes "returned t0 2\ndone\n"
unfolding run_text
default_where_none_is_equal = refl
