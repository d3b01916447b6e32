-- Runs of bundles: functions that are called.
use Rattle.std.specs.Prelude.{codes, ◌≡◌, refl, ◌++◌}
use Rattle.run_texts.specs.Texts.{Text}
use Rattle.model_rows.specs.Running.{definitions, plain, run_text}

abbrev defined : Text
defined = definitions ++ codes ".funcsig @f = (@i64) -> (@i64) .typedef @fr = funcref<@f> .const @nf <@fr> = NULL .funcdecl @n <@f> .funcdef @g VERSION %v <@f> { %e(<@i64> %x): %y = ADD <@i64> %x @c2 RET (%y) } .funcdef @h VERSION %v <@f> { %e(<@i64> %x): TAILCALL <@f> @g (%x) } .funcdef @main VERSION %v <@mi> { %e(): %r = CALL <@f> @h (@c40) RET (%r) }"

abbrev declared : Text
declared = definitions ++ codes ".funcsig @f = (@i64) -> (@i64) .typedef @fr = funcref<@f> .const @nf <@fr> = NULL .funcdecl @n <@f> .funcdef @g VERSION %v <@f> { %e(<@i64> %x): %y = ADD <@i64> %x @c2 RET (%y) } .funcdef @h VERSION %v <@f> { %e(<@i64> %x): TAILCALL <@f> @g (%x) } .funcdef @main VERSION %v <@mi> { %e(): %r = CALL <@f> @n (@c1) RET (%r) }"

abbrev null : Text
null = definitions ++ codes ".funcsig @f = (@i64) -> (@i64) .typedef @fr = funcref<@f> .const @nf <@fr> = NULL .funcdecl @n <@f> .funcdef @g VERSION %v <@f> { %e(<@i64> %x): %y = ADD <@i64> %x @c2 RET (%y) } .funcdef @h VERSION %v <@f> { %e(<@i64> %x): TAILCALL <@f> @g (%x) } .funcdef @main VERSION %v <@mi> { %e(): %r = CALL <@f> @nf (@c1) RET (%r) }"

called_in_place_of_the_caller : run_text plain defined ≡ codes "returned t0 42\ndone\n"
unfolding run_text
called_in_place_of_the_caller = refl

only_declared : run_text plain declared ≡ codes "undefined NoBody t0 @main.v.e 0\n"
unfolding run_text
only_declared = refl

none_at_all : run_text plain null ≡ codes "undefined NullCall t0 @main.v.e 0\n"
unfolding run_text
none_at_all = refl
