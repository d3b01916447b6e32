-- Runs of bundles: references that are cast.
use Rattle.std.specs.Prelude.{codes, ◌≡◌, refl, ◌++◌}
use Rattle.run_texts.specs.Texts.{Text}
use Rattle.model_rows.specs.Running.{definitions, plain, run_text}

abbrev bundle : Text
bundle = definitions ++ codes ".typedef @p = struct<@i64 @i64> .typedef @rp = ref<@p> .typedef @h = struct<@i64> .typedef @rh = ref<@h> .typedef @k = struct<@i32> .typedef @rk = ref<@k> .funcdef @main VERSION %v <@mi> { %e(): %a = NEW <@p> %b = REFCAST <@rp @rv> %a %c = REFCAST <@rv @rh> %b %d = REFCAST <@rv @rk> %b RET (@c0) }"

abbrev of_a_function : Text
of_a_function = definitions ++ codes ".funcsig @f = () -> () .typedef @a = funcref<@mi> .typedef @b = funcref<@f> .funcdef @main VERSION %v <@mi> { %e(): %x = REFCAST <@a @a> @main %y = REFCAST <@a @b> %x RET (@c0) }"

another_first_leaf_is_a_bad_cast : run_text plain bundle ≡ codes "undefined BadCast t0 @main.v.e 3\n"
unfolding run_text
another_first_leaf_is_a_bad_cast = refl

another_signature_is_a_bad_cast : run_text plain of_a_function ≡ codes "undefined BadCast t0 @main.v.e 1\n"
unfolding run_text
another_signature_is_a_bad_cast = refl
