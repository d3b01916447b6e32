-- Runs of bundles: integers of 128 bits.
use Rattle.std.specs.Prelude.{codes, ◌≡◌, refl, ◌++◌}
use Rattle.run_texts.specs.Texts.{Text}
use Rattle.model_rows.specs.Running.{definitions, plain, run_text}

abbrev bundle : Text
bundle = definitions ++ codes ".typedef @w = int<128> .funcsig @q = () -> (@w @w @w) .const @a <@w> = -1 .const @l <@w> = -170141183460469231731687303715884105728 .funcdef @main VERSION %v <@q> { %e(): %c = ADD <@w> @a @a %d = MUL <@w> @a @a %s = SDIV <@w> @l @a RET (%c %d %s) }"

results_wrap_at_128_bits : run_text plain bundle ≡ codes "returned t0 340282366920938463463374607431768211454 1 170141183460469231731687303715884105728\ndone\n"
unfolding run_text
results_wrap_at_128_bits = refl
