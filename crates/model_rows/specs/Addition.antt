-- Runs of bundles: a constant sum that is returned.
use Rattle.std.specs.Prelude.{codes, ◌≡◌, refl}
use Rattle.run_texts.specs.Texts.{Text}
use Rattle.model_rows.specs.Running.{plain, run_text}

abbrev bundle : Text
bundle = codes ".typedef @i64 = int<64> .funcsig @mi = () -> (@i64) .const @a <@i64> = 40 .const @b <@i64> = 2 .funcdef @main VERSION %v <@mi> { %e(): %c = ADD <@i64> @a @b RET (%c) }"

adds_40_and_2 : run_text plain bundle ≡ codes "returned t0 42\ndone\n"
unfolding run_text
adds_40_and_2 = refl
