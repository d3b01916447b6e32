-- Runs of bundles: what global names of a client's script stand for.
use Rattle.std.specs.Prelude.{codes, ◌≡◌, refl, ◌++◌, [], ◌∷◌, Option, Some, None, false}
use Rattle.ir_text.specs.TextAnswers.{text_answer}
use Rattle.mu_model.specs.Clients.{Classed, TellKept, Pass, Resume, Argument, Told}
use Rattle.mu_model.specs.Answers.{global_told}
use Rattle.run_texts.specs.Texts.{Text}
use Rattle.model_rows.specs.Running.{definitions, plain, bundle_in, run_text}

abbrev bundle : Text
bundle = definitions ++ codes ".typedef @ii = iref<@i64> .typedef @fr = funcref<@mi> .global @g <@i64> .funcdef @main VERSION %v <@mi> { %e(): (%a %p %f) = TRAP <@i64 @ii @fr> TRAP <> KEEPALIVE(%a %p %f) RET (%a) }"

abbrev argument : Option Classed → Argument
argument (Some v) = Told v
argument None = Told (0, [])

-- a global name of the bundle, in a script
abbrev told : Text → Argument
told text = argument (global_told (bundle_in (text_answer bundle)) (record { place = 0; text = text }))

constants_globals_and_functions_are_passed : run_text (record plain { client = record { entries = record { actions = []; pop = 0; push = None; reply = Resume (Pass (told (codes "@c40") ∷ told (codes "@g") ∷ told (codes "@main") ∷ [])) } ∷ record { actions = TellKept 0 ∷ []; pop = 0; push = None; reply = Resume (Pass []) } ∷ []; auto = false } }) bundle ≡ codes "0 t0 leave s0\ntrap t0 @main.v.e 0\n1 t0 enter s0\n2 t0 leave s0\ntrap t0 @main.v.e 1\nkept 0 40 #0+0 @main\n3 t0 enter s0\nreturned t0 40\ndone\n"
unfolding run_text
constants_globals_and_functions_are_passed = refl
