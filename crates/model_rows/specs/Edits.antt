-- Runs of bundles: a client pops and pushes frames of the trapped stack.
use Rattle.std.specs.Prelude.{ℕ, codes, ◌≡◌, refl, ◌++◌, List, [], ◌∷◌, Option, Some, None, option_map, true, false, Bool}
use Rattle.mu_values.specs.declared.scalars.Scalar.TheVariants.{Int, Null}
use Rattle.mu_model.specs.Clients.{ScriptEntry, Action, TellFrames, TellKept, Watch, Pass, Throw, Reply, Resume, Rebind, Exit, Stop, Argument, Told, KeptValue}
use Rattle.run_texts.specs.Texts.{Text}
use Rattle.model_rows.specs.Running.{Given, definitions, plain, run_text}

-- numbers of functions in text order
abbrev slow : ℕ
slow = 0

abbrev fast : ℕ
fast = 1

abbrev main : ℕ
main = 2

abbrev c2 : Argument
c2 = Told (3, Int 64 2 ∷ [])

abbrev nul : Argument
nul = Told (5, Null ∷ [])

-- what is pushed does not depend on the class that is told with it
abbrev entry : List Action → ℕ → Option ℕ → Reply (List Argument) Argument → ScriptEntry
entry acts n f r = record { actions = acts; pop = n; push = option_map (λ (f : ℕ). (7, f)) f; reply = r }

abbrev by : Bool → List ScriptEntry → Given
by auto es = record plain { client = record { entries = es; auto = auto } }

abbrev bundle : Text
bundle = definitions ++ codes ".funcdef @slow VERSION %v <@mi> { %e(): TRAP <> RET (@c1) } .funcdef @fast VERSION %v <@mi> { %e(): RET (@c40) } .funcdef @main VERSION %v <@mi> { %e(): %r = CALL <@mi> @slow () RET (%r) }"

a_frame_stands_in_for_another : run_text (by false (entry [] 1 (Some fast) (Resume (Pass [])) ∷ [])) bundle ≡ codes "0 t0 leave s0\ntrap t0 @slow.v.e 0\n1 t0 enter s0\nreturned t0 40\ndone\n"
unfolding run_text
a_frame_stands_in_for_another = refl

a_frame_is_popped : run_text (by false (entry [] 1 None (Resume (Pass (c2 ∷ []))) ∷ [])) bundle ≡ codes "0 t0 leave s0\ntrap t0 @slow.v.e 0\n1 t0 enter s0\nreturned t0 2\ndone\n"
unfolding run_text
a_frame_is_popped = refl

results_have_to_fit : run_text (by false (entry [] 0 (Some main) (Resume (Pass [])) ∷ [])) bundle ≡ codes "0 t0 leave s0\ntrap t0 @slow.v.e 0\nundefined StackTypes t0 @slow.v.e 0\n"
unfolding run_text
results_have_to_fit = refl

a_frame_has_to_be_there : run_text (by false (entry [] 2 None (Resume (Pass [])) ∷ [])) bundle ≡ codes "0 t0 leave s0\ntrap t0 @slow.v.e 0\nundefined ClientMisuse t0 @slow.v.e 0\n"
unfolding run_text
a_frame_has_to_be_there = refl

-- the records stand, whatever the reply is
also_before_stop : run_text (by false (entry (TellFrames ∷ []) 2 None Stop ∷ [])) bundle ≡ codes "0 t0 leave s0\ntrap t0 @slow.v.e 0\nframe 0 @slow.v.e 0\nframe 1 @main.v.e 0\nundefined ClientMisuse t0 @slow.v.e 0\n"
unfolding run_text
also_before_stop = refl

-- but not where the reply is misuse itself
misuse_comes_first : run_text (by false (entry (TellFrames ∷ []) 9 None (Resume (Pass (KeptValue 7 0 ∷ []))) ∷ [])) bundle ≡ codes "0 t0 leave s0\ntrap t0 @slow.v.e 0\nundefined ClientMisuse t0 @slow.v.e 0\n"
unfolding run_text
misuse_comes_first = refl

-- both the script and then zero and NULL
abbrev two_traps : Text
two_traps = definitions ++ codes ".funcdef @main VERSION %v <@mi> { %e(): %k = ADD <@i64> @c40 @c2 %a = TRAP <@i64> KEEPALIVE(%k) %b = TRAP <@i64> RET (%a) }"

zero_is_passed_after_the_script : run_text (by true (entry (TellFrames ∷ TellKept 0 ∷ []) 0 None (Resume (Pass (KeptValue 0 0 ∷ []))) ∷ [])) two_traps ≡ codes "0 t0 leave s0\ntrap t0 @main.v.e 1\nframe 0 @main.v.e 1\nkept 0 42\n1 t0 enter s0\n2 t0 leave s0\ntrap t0 @main.v.e 2\n3 t0 enter s0\nreturned t0 42\ndone\n"
unfolding run_text
zero_is_passed_after_the_script = refl

-- an exception passes a frame that stands before its first instruction, and the trap's own EXC catches it
abbrev throwing : Text
throwing = definitions ++ codes ".funcdef @slow VERSION %v <@mi> { %e(): TRAP <> EXC(%n() %x()) %n(): RET (@c1) %x() [%q]: RET (@c10) } .funcdef @em VERSION %v <@m> { %e(): RET () } .funcdef @main VERSION %v <@mi> { %e(): %r = CALL <@mi> @slow () EXC(%n(%r) %x()) %n(<@i64> %r): RET (%r) %x() [%q]: RET (@n2) }"

pushed_frame_catches_nothing : run_text (by false (entry [] 0 (Some 1) (Resume (Throw nul)) ∷ [])) throwing ≡ codes "0 t0 leave s0\ntrap t0 @slow.v.e 0\n1 t0 enter s0\nreturned t0 10\ndone\n"
unfolding run_text
pushed_frame_catches_nothing = refl

caller_catches_where_its_callee_was_popped : run_text (by false (entry [] 1 None (Resume (Throw nul)) ∷ [])) throwing ≡ codes "0 t0 leave s0\ntrap t0 @slow.v.e 0\n1 t0 enter s0\nreturned t0 18446744073709551614\ndone\n"
unfolding run_text
caller_catches_where_its_callee_was_popped = refl

-- cells of a frame that was popped are dead, and kept values are those of the stack as it was trapped
abbrev loading : Text
loading = definitions ++ codes ".typedef @ii = iref<@i64> .funcsig @ri = (@ii) -> (@i64) .funcdef @slow VERSION %v <@mi> { %e(): %a = ALLOCA <@i64> TRAP <> KEEPALIVE(%a) RET (@c1) } .funcdef @ld VERSION %v <@ri> { %e(<@ii> %p): %z = LOAD <@i64> %p RET (%z) } .funcdef @main VERSION %v <@mi> { %e(): %r = CALL <@mi> @slow () RET (%r) }"

popped_cells_are_dead : run_text (by false (entry (TellKept 0 ∷ []) 1 (Some 1) (Resume (Pass (KeptValue 0 0 ∷ []))) ∷ [])) loading ≡ codes "0 t0 leave s0\ntrap t0 @slow.v.e 1\nkept 0 #0+0\n1 t0 enter s0\nundefined DeadCell t0 @ld.v.e 0\n"
unfolding run_text
popped_cells_are_dead = refl

-- a function that is only declared: whatever it gives
abbrev declared : Text
declared = definitions ++ codes ".funcdecl @decm <@m> .funcdef @slow VERSION %v <@mi> { %e(): TRAP <> RET (@c1) } .funcdef @main VERSION %v <@mi> { %e(): %r = CALL <@mi> @slow () RET (%r) }"

a_body_has_to_be_there : run_text (by false (entry [] 1 (Some 0) (Resume (Pass [])) ∷ [])) declared ≡ codes "0 t0 leave s0\ntrap t0 @slow.v.e 0\nundefined NoBody t0 @slow.v.e 0\n"
unfolding run_text
a_body_has_to_be_there = refl

-- where the pushed frame returns to a watchpoint, that goes on by its second destination
abbrev watching : Text
watching = definitions ++ codes ".funcdef @fast VERSION %v <@mi> { %e(): RET (@c40) } .funcdef @main VERSION %v <@mi> { %e(): TRAP <> %w = WATCHPOINT 7 <@i64> %d() %n(%w) %d(): RET (@c0) %n(<@i64> %r): RET (%r) }"

watchpoint_goes_on_with_results : run_text (by false (entry (Watch 7 true ∷ []) 0 None (Resume (Pass [])) ∷ entry [] 0 (Some 0) (Resume (Pass [])) ∷ [])) watching ≡ codes "0 t0 leave s0\ntrap t0 @main.v.e 0\n1 t0 enter s0\n2 t0 leave s0\nwatchpoint t0 @main.v.e 1 7\n3 t0 enter s0\nreturned t0 40\ndone\n"
unfolding run_text
watchpoint_goes_on_with_results = refl

-- a rebind to the trapped stack enters it as it was edited, and after an exit it is left so
abbrev own_stack : Text
own_stack = definitions ++ codes ".funcdef @fast VERSION %v <@gs> { %e(<@st> %q): COMMINST @uvm.thread_exit () } .funcdef @main VERSION %v <@mi> { %e(): %s = COMMINST @uvm.current_stack () TRAP <> KEEPALIVE(%s) RET (@c1) }"

rebind_enters_the_edited_stack : run_text (by false (entry [] 0 (Some 0) (Rebind (KeptValue 0 0) (Pass (KeptValue 0 0 ∷ []))) ∷ [])) own_stack ≡ codes "0 t0 leave s0\ntrap t0 @main.v.e 1\n1 t0 enter s0\nexited t0\ndone\n"
unfolding run_text
rebind_enters_the_edited_stack = refl

exit_leaves_it_edited : run_text (by false (entry [] 0 (Some 0) Exit ∷ [])) own_stack ≡ codes "0 t0 leave s0\ntrap t0 @main.v.e 1\nexited t0\ndone\n"
unfolding run_text
exit_leaves_it_edited = refl
