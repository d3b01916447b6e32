-- Runs of bundles: places in the elements of a hybrid.
use Rattle.std.specs.Prelude.{codes, ◌≡◌, refl, ◌++◌}
use Rattle.run_texts.specs.Texts.{Text}
use Rattle.model_rows.specs.Running.{definitions, plain, run_text}

abbrev bundle : Text
bundle = definitions ++ codes ".typedef @hy = hybrid<@i64> .funcdef @main VERSION %v <@mi> { %e(): %h = NEWHYBRID <@hy @i64> @c2 %i = GETIREF <@hy> %h %a = GETVARPARTIREF <@hy> %i %b = SHIFTIREF <@i64 @i64> %a @c2 %c = SHIFTIREF <@i64 @i64> %b @n2 %d = LOAD NOT_ATOMIC <@i64> %c %f = LOAD NOT_ATOMIC <@i64> %b RET (%d) }"

end_is_a_place_without_a_cell : run_text plain bundle ≡ codes "0 t0 read NOT_ATOMIC #0+0 0 0\nundefined OutOfRange t0 @main.v.e 6\n"
unfolding run_text
end_is_a_place_without_a_cell = refl
