-- Runs of bundles: a watchpoint that is enabled or not.
use Rattle.std.specs.Prelude.{None, codes, ◌≡◌, refl, ◌++◌, [], ◌∷◌, true, false}
use Rattle.mu_values.specs.declared.scalars.Scalar.TheVariants.{Int, Null}
use Rattle.mu_model.specs.Clients.{Watch, Pass, Throw, Resume, Told}
use Rattle.run_texts.specs.Texts.{Text}
use Rattle.model_rows.specs.Running.{definitions, plain, run_text}

abbrev bundle : Text
bundle = definitions ++ codes ".funcdef @main VERSION %v <@mi> { %e(): TRAP <> %w = WATCHPOINT 7 <@i64> %d() %n(%w) %d(): RET (@c0) %n(<@i64> %r): RET (%r) }"

enabled_one_asks : run_text (record plain { client = record { entries = record { actions = Watch 7 true ∷ []; pop = 0; push = None; reply = Resume (Pass []) } ∷ record { actions = []; pop = 0; push = None; reply = Resume (Pass (Told (3, Int 64 40 ∷ []) ∷ [])) } ∷ []; auto = false } }) bundle ≡ codes "0 t0 leave s0\ntrap t0 @main.v.e 0\n1 t0 enter s0\n2 t0 leave s0\nwatchpoint t0 @main.v.e 1 7\n3 t0 enter s0\nreturned t0 40\ndone\n"
unfolding run_text
enabled_one_asks = refl

disabled_one_goes_on : run_text (record plain { client = record { entries = record { actions = []; pop = 0; push = None; reply = Resume (Pass []) } ∷ []; auto = false } }) bundle ≡ codes "0 t0 leave s0\ntrap t0 @main.v.e 0\n1 t0 enter s0\nreturned t0 0\ndone\n"
unfolding run_text
disabled_one_goes_on = refl

abbrev with_exception : Text
with_exception = definitions ++ codes ".funcdef @main VERSION %v <@mi> { %e(): TRAP <> WATCHPOINT 7 <> %d() %d() WPEXC(%x()) %d(): RET (@c0) %x() [%q]: RET (@c1) }"

exception_goes_to_its_destination : run_text (record plain { client = record { entries = record { actions = Watch 7 true ∷ []; pop = 0; push = None; reply = Resume (Pass []) } ∷ record { actions = []; pop = 0; push = None; reply = Resume (Throw (Told (5, Null ∷ []))) } ∷ []; auto = false } }) with_exception ≡ codes "0 t0 leave s0\ntrap t0 @main.v.e 0\n1 t0 enter s0\n2 t0 leave s0\nwatchpoint t0 @main.v.e 1 7\n3 t0 enter s0\nreturned t0 1\ndone\n"
unfolding run_text
exception_goes_to_its_destination = refl
