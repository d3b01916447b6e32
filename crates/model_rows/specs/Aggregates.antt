-- Runs of bundles: structs and a choice.
use Rattle.std.specs.Prelude.{codes, ◌≡◌, refl, ◌++◌}
use Rattle.run_texts.specs.Texts.{Text}
use Rattle.model_rows.specs.Running.{definitions, plain, run_text}

abbrev bundle : Text
bundle = definitions ++ codes ".typedef @p = struct<@i64 @i32> .typedef @q = struct<@i8 @p @i64> .funcsig @t = () -> (@q @i64 @i64) .const @b <@i8> = 7 .const @x <@p> = {@c1 @w1} .const @y <@q> = {@b @x @c2} .const @z <@p> = {@c10 @w1} .const @on <@i1> = 1 .funcdef @main VERSION %v <@t> { %e(): %a = INSERTVALUE <@q 1> @y @z %d = EXTRACTVALUE <@q 2> %a %f = EXTRACTVALUE <@q 1> %a %g = EXTRACTVALUE <@p 0> %f %h = SELECT <@i1 @i64> @on %d %g RET (%a %h %g) }"

field_is_replaced_and_read : run_text plain bundle ≡ codes "returned t0 {7 10 1 2} 2 10\ndone\n"
unfolding run_text
field_is_replaced_and_read = refl
