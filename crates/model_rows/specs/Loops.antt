-- Runs of bundles: a loop, and budgets.
use Rattle.std.specs.Prelude.{codes, ◌≡◌, refl, ◌++◌}
use Rattle.run_texts.specs.Texts.{Text}
use Rattle.model_rows.specs.Running.{definitions, plain, run_text}

abbrev bundle : Text
bundle = definitions ++ codes ".funcdef @main VERSION %v <@mi> { %e(): BRANCH %l(@c0 @c10) %l(<@i64> %s <@i64> %n): %z = EQ <@i64> %n @c0 BRANCH2 %z %d(%s) %k(%s %n) %k(<@i64> %s <@i64> %n): %t = ADD <@i64> %s %n %o = SUB <@i64> %n @c1 BRANCH %l(%t %o) %d(<@i64> %s): RET (%s) }"

sum_takes_54_steps : run_text (record plain { budget = 54 }) bundle ≡ codes "returned t0 55\ndone\n"
unfolding run_text
sum_takes_54_steps = refl

steps_53_are_too_few : run_text (record plain { budget = 53 }) bundle ≡ codes "budget 53\n"
unfolding run_text
steps_53_are_too_few = refl

no_step_may_be_made : run_text (record plain { budget = 0 }) bundle ≡ codes "budget 0\n"
unfolding run_text
no_step_may_be_made = refl
