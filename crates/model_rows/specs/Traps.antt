-- Runs of bundles: traps with a script and without.
use Rattle.std.specs.Prelude.{None, codes, ◌≡◌, refl, ◌++◌, [], ◌∷◌, true, false}
use Rattle.mu_model.specs.Clients.{TellFrames, TellKept, Pass, Resume, KeptValue}
use Rattle.run_texts.specs.Texts.{Text}
use Rattle.model_rows.specs.Running.{definitions, plain, run_text}

abbrev bundle : Text
bundle = definitions ++ codes ".funcdef @main VERSION %v <@mi> { %e(): %k = ADD <@i64> @c40 @c2 %a = TRAP <@i64> KEEPALIVE(%k) %b = TRAP <@i64> RET (%a) }"

script_tells_frames_and_kept_values : run_text (record plain { client = record { entries = record { actions = TellFrames ∷ TellKept 0 ∷ []; pop = 0; push = None; reply = Resume (Pass (KeptValue 0 0 ∷ [])) } ∷ []; auto = false } }) bundle ≡ codes "0 t0 leave s0\ntrap t0 @main.v.e 1\nframe 0 @main.v.e 1\nkept 0 42\n1 t0 enter s0\n2 t0 leave s0\ntrap t0 @main.v.e 2\nstop\n"
unfolding run_text
script_tells_frames_and_kept_values = refl

zero_is_passed_after_the_script : run_text (record plain { client = record { entries = record { actions = TellFrames ∷ TellKept 0 ∷ []; pop = 0; push = None; reply = Resume (Pass (KeptValue 0 0 ∷ [])) } ∷ []; auto = true } }) bundle ≡ codes "0 t0 leave s0\ntrap t0 @main.v.e 1\nframe 0 @main.v.e 1\nkept 0 42\n1 t0 enter s0\n2 t0 leave s0\ntrap t0 @main.v.e 2\n3 t0 enter s0\nreturned t0 42\ndone\n"
unfolding run_text
zero_is_passed_after_the_script = refl

zero_is_passed_without_a_script : run_text (record plain { client = record { entries = []; auto = true } }) bundle ≡ codes "0 t0 leave s0\ntrap t0 @main.v.e 1\n1 t0 enter s0\n2 t0 leave s0\ntrap t0 @main.v.e 2\n3 t0 enter s0\nreturned t0 0\ndone\n"
unfolding run_text
zero_is_passed_without_a_script = refl
