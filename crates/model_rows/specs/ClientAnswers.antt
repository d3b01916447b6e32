-- Runs of bundles: what a client may answer.
use Rattle.std.specs.Prelude.{None, codes, ◌≡◌, refl, ◌++◌, [], ◌∷◌, true, false}
use Rattle.mu_values.specs.declared.scalars.Scalar.TheVariants.{Int, Null}
use Rattle.mu_model.specs.Clients.{TellFrames, TellKept, Watch, Pass, Throw, Resume, Rebind, Exit, Stop, KeptValue, Told}
use Rattle.run_texts.specs.Texts.{Text}
use Rattle.model_rows.specs.Running.{definitions, plain, run_text}

abbrev bundle : Text
bundle = definitions ++ codes ".funcdef @main VERSION %v <@mi> { %e(): %m = COMMINST @uvm.current_stack () %a = TRAP <@i64> EXC(%n(%a) %x()) KEEPALIVE(%m) %n(<@i64> %r): RET (%r) %x() [%q]: %z = EQ <@rv> %q @nul %k = ZEXT <@i1 @i64> %z RET (%k) }"

abbrev branching : Text
branching = definitions ++ codes ".funcdef @main VERSION %v <@mi> { %e(): TRAP <> WPBRANCH 7 %d() %n() %d(): RET (@c0) %n(): RET (@c1) }"

values_of_its_types_are_passed : run_text (record plain { client = record { entries = record { actions = []; pop = 0; push = None; reply = Resume (Pass (Told (3, Int 64 40 ∷ []) ∷ [])) } ∷ []; auto = false } }) bundle ≡ codes "0 t0 leave s0\ntrap t0 @main.v.e 1\n1 t0 enter s0\nreturned t0 40\ndone\n"
unfolding run_text
values_of_its_types_are_passed = refl

values_of_other_types_are_refused : run_text (record plain { client = record { entries = record { actions = TellKept 0 ∷ []; pop = 0; push = None; reply = Resume (Pass (Told (2, Int 32 1 ∷ []) ∷ [])) } ∷ []; auto = false } }) bundle ≡ codes "0 t0 leave s0\ntrap t0 @main.v.e 1\nkept 0 s0\nundefined StackTypes t0 @main.v.e 1\n"
unfolding run_text
values_of_other_types_are_refused = refl

exceptions_are_caught : run_text (record plain { client = record { entries = record { actions = []; pop = 0; push = None; reply = Resume (Throw (Told (5, Null ∷ []))) } ∷ []; auto = false } }) bundle ≡ codes "0 t0 leave s0\ntrap t0 @main.v.e 1\n1 t0 enter s0\nreturned t0 1\ndone\n"
unfolding run_text
exceptions_are_caught = refl

other_exceptions_are_refused : run_text (record plain { client = record { entries = record { actions = []; pop = 0; push = None; reply = Resume (Throw (Told (3, Int 64 40 ∷ []))) } ∷ []; auto = false } }) bundle ≡ codes "0 t0 leave s0\ntrap t0 @main.v.e 1\nundefined StackTypes t0 @main.v.e 1\n"
unfolding run_text
other_exceptions_are_refused = refl

trapped_stack_may_be_entered_by_name : run_text (record plain { client = record { entries = record { actions = []; pop = 0; push = None; reply = Rebind (KeptValue 0 0) (Pass (Told (3, Int 64 40 ∷ []) ∷ [])) } ∷ []; auto = false } }) bundle ≡ codes "0 t0 leave s0\ntrap t0 @main.v.e 1\n1 t0 enter s0\nreturned t0 40\ndone\n"
unfolding run_text
trapped_stack_may_be_entered_by_name = refl

what_is_no_stack_is_misuse : run_text (record plain { client = record { entries = record { actions = TellFrames ∷ []; pop = 0; push = None; reply = Rebind (Told (3, Int 64 40 ∷ [])) (Pass []) } ∷ []; auto = false } }) bundle ≡ codes "0 t0 leave s0\ntrap t0 @main.v.e 1\nundefined ClientMisuse t0 @main.v.e 1\n"
unfolding run_text
what_is_no_stack_is_misuse = refl

frame_that_is_not_there_is_misuse : run_text (record plain { client = record { entries = record { actions = TellFrames ∷ TellKept 5 ∷ []; pop = 0; push = None; reply = Exit } ∷ []; auto = false } }) bundle ≡ codes "0 t0 leave s0\ntrap t0 @main.v.e 1\nundefined ClientMisuse t0 @main.v.e 1\n"
unfolding run_text
frame_that_is_not_there_is_misuse = refl

thread_ends : run_text (record plain { client = record { entries = record { actions = TellFrames ∷ []; pop = 0; push = None; reply = Exit } ∷ []; auto = false } }) bundle ≡ codes "0 t0 leave s0\ntrap t0 @main.v.e 1\nframe 0 @main.v.e 1\nexited t0\ndone\n"
unfolding run_text
thread_ends = refl

watchpoint_is_enabled_once : run_text (record plain { client = record { entries = record { actions = Watch 7 true ∷ Watch 7 true ∷ Watch 7 false ∷ []; pop = 0; push = None; reply = Resume (Pass []) } ∷ []; auto = false } }) branching ≡ codes "0 t0 leave s0\ntrap t0 @main.v.e 0\n1 t0 enter s0\nreturned t0 0\ndone\n"
unfolding run_text
watchpoint_is_enabled_once = refl

enabled_watchpoint_takes_the_second_way : run_text (record plain { client = record { entries = record { actions = Watch 7 true ∷ []; pop = 0; push = None; reply = Resume (Pass []) } ∷ []; auto = false } }) branching ≡ codes "0 t0 leave s0\ntrap t0 @main.v.e 0\n1 t0 enter s0\nreturned t0 1\ndone\n"
unfolding run_text
enabled_watchpoint_takes_the_second_way = refl

records_stand_before_a_stop : run_text (record plain { client = record { entries = record { actions = TellFrames ∷ []; pop = 0; push = None; reply = Stop } ∷ []; auto = false } }) bundle ≡ codes "0 t0 leave s0\ntrap t0 @main.v.e 1\nframe 0 @main.v.e 1\nstop\n"
unfolding run_text
records_stand_before_a_stop = refl
