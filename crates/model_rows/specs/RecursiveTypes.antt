-- Runs of bundles: two names of one recursive type.
use Rattle.std.specs.Prelude.{codes, ◌≡◌, refl, ◌++◌}
use Rattle.run_texts.specs.Texts.{Text}
use Rattle.model_rows.specs.Running.{definitions, plain, run_text}

abbrev bundle : Text
bundle = definitions ++ codes ".typedef @la = struct<@i64 @ra> .typedef @ra = ref<@la> .typedef @lb = struct<@i64 @rb> .typedef @rb = ref<@lb> .funcsig @f = (@ra) -> (@i64) .const @n <@rb> = NULL .funcdef @g VERSION %v <@f> { %e(<@ra> %p): %q = EQ <@rb> %p @n %z = ZEXT <@i1 @i64> %q RET (%z) } .funcdef @main VERSION %v <@mi> { %e(): %r = CALL <@f> @g (@n) RET (%r) }"

two_names_of_one_type_compare : run_text plain bundle ≡ codes "returned t0 1\ndone\n"
unfolding run_text
two_names_of_one_type_compare = refl
