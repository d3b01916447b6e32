-- Runs of bundles: the least number by -1, and a shift by the width.
use Rattle.std.specs.Prelude.{codes, ◌≡◌, refl, ◌++◌}
use Rattle.run_texts.specs.Texts.{Text}
use Rattle.model_rows.specs.Running.{definitions, plain, run_text}

abbrev bundle : Text
bundle = definitions ++ codes ".funcsig @t = () -> (@i8 @i8 @i8) .const @l <@i8> = -128 .const @n <@i8> = -1 .const @w <@i8> = 8 .funcdef @main VERSION %v <@t> { %e(): %a = SDIV <@i8> @l @n %b = SREM <@i8> @l @n %c = SHL <@i8> @n @w RET (%a %b %c) }"

least_by_minus_one_is_itself : run_text plain bundle ≡ codes "returned t0 128 0 255\ndone\n"
unfolding run_text
least_by_minus_one_is_itself = refl
