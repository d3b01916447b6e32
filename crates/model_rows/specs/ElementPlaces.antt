-- Runs of bundles: places of elements.
use Rattle.std.specs.Prelude.{codes, ◌≡◌, refl, ◌++◌}
use Rattle.run_texts.specs.Texts.{Text}
use Rattle.model_rows.specs.Running.{definitions, plain, run_text}

abbrev of_a_global : Text
of_a_global = definitions ++ codes ".typedef @row = array<@i64 3> .typedef @ir = iref<@row> .const @np <@ir> = NULL .global @g <@row> .funcdef @main VERSION %v <@mi> { %e(): %p = GETELEMIREF <@row @i64> @g @c2 STORE <@i64> %p @c40 %x = LOAD <@i64> %p %q = GETELEMIREF <@row @i64> @g @n2 RET (%x) }"

abbrev of_null : Text
of_null = definitions ++ codes ".typedef @row = array<@i64 3> .typedef @ir = iref<@row> .const @np <@ir> = NULL .global @g <@row> .funcdef @main VERSION %v <@mi> { %e(): %q = GETELEMIREF <@row @i64> @np @n2 RET (@c0) }"

abbrev accessed_null : Text
accessed_null = definitions ++ codes ".typedef @ip = iref<@i64> .const @np <@ip> = NULL .funcdef @main VERSION %v <@mi> { %e(): %x = LOAD <@i64> @np EXC(%n(%x) %c()) %n(<@i64> %r): RET (%r) %c(): RET (@c1) }"

index_before_the_first_is_out_of_range : run_text plain of_a_global ≡ codes "0 t0 write NOT_ATOMIC #0+2 1 40\n1 t0 read NOT_ATOMIC #0+2 1 40\nundefined OutOfRange t0 @main.v.e 3\n"
unfolding run_text
index_before_the_first_is_out_of_range = refl

null_comes_before_the_index : run_text plain of_null ≡ codes "undefined NullAccess t0 @main.v.e 0\n"
unfolding run_text
null_comes_before_the_index = refl

access_through_null_goes_to_its_destination : run_text plain accessed_null ≡ codes "returned t0 1\ndone\n"
unfolding run_text
access_through_null_goes_to_its_destination = refl
