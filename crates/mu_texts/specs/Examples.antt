-- Worked examples.
use Rattle.std.specs.Prelude.{◌≡◌, [], ◌∷◌, Ok, Err, codes, refl}
use Rattle.std.specs.Fmt.{digits}
use Rattle.mu_base.specs.declared.status.Status.TheVariants.{Done, Budget as OutOfSteps, Refused, No}
use Rattle.mem_axioms.specs.declared.types.Kind.TheVariants.{NewStack, NewThread}
use Rattle.mem_axioms.specs.declared.types.Rule.TheVariants.{C11}
use Rattle.verdicts.specs.declared.types.Verdict.TheVariants.{Yes, Form, Axiom1, Axiom3, Race}
use Rattle.mu_model.specs.declared.lines.Line.TheVariants.{Event, Note}
use Rattle.mu_model.specs.declared.lines.Note.TheVariants.{Exited}
use Rattle.mu_model.specs.declared.endings.Ending.TheVariants.{Done as Ended, Budget}
use Rattle.mu_model.specs.Run.{Ends}
use Rattle.mu_texts.specs.declared.what.What.TheVariants.{Bundle, Hail, Client, Log, Joined}
use Rattle.mu_texts.specs.Answer.{run_answer, trial_answer, refused, scheduled, verdict_answer, for_judge}

-- the run of a thread that exits in its second step
exits : run_answer [] (Ends ([] ∷ (Note (Exited 0) ∷ []) ∷ []) [] Ended) ≡ record { pieces = codes "exited t0\n" ∷ codes "done\n" ∷ []; status = Done }
unfolding digits
exits = refl

-- a run that may make two steps
stops_short : run_answer [] (Ends ([] ∷ [] ∷ []) [] (Budget 2)) ≡ record { pieces = codes "budget 2\n" ∷ []; status = OutOfSteps }
unfolding digits
stops_short = refl

-- a run of three steps, with two events; the thread exits in the third
one_line : trial_answer 7 []
    (Ends ((Event 0 (record { thread = 0; kind = NewStack 1 }) ∷ []) ∷ (Event 1 (record { thread = 0; kind = NewThread 1 }) ∷ []) ∷ (Note (Exited 0) ∷ []) ∷ []) [] Ended)
    ≡ record { pieces = codes "trial 7 steps 3 events 2 done\n" ∷ []; status = Done }
unfolding digits
one_line = refl

ends_too_early : refused Bundle 39 (codes "Unexpected") ≡ record { pieces = codes "refused bundle 39 Unexpected\n" ∷ []; status = Refused }
unfolding digits
ends_too_early = refl

wrong_source : refused Hail 27 (codes "WrongType") ≡ record { pieces = codes "refused hail 27 WrongType\n" ∷ []; status = Refused }
unfolding digits
wrong_source = refl

wrong_name : refused Client 7 (codes "Unknown") ≡ record { pieces = codes "refused client 7 Unknown\n" ∷ []; status = Refused }
unfolding digits
wrong_name = refl

-- a schedule, and what it is refused for
two_picks : scheduled (codes "1 // picks\n0") ≡ Ok (1 ∷ 0 ∷ [])
two_picks = refl

no_number : scheduled (codes "1 x2") ≡ Err (record { pieces = codes "refused schedule 2 BadToken\n" ∷ []; status = Refused })
unfolding digits
no_number = refl

-- a bundle that is joined
another_type : refused (Joined 1) 9 (codes "OtherType") ≡ record { pieces = codes "refused bundle 1 9 OtherType\n" ∷ []; status = Refused }
unfolding digits
another_type = refl

-- the lines of verdicts
seven_events : verdict_answer (Yes 7) ≡ record { pieces = codes "yes 7\n" ∷ []; status = Done }
unfolding digits
seven_events = refl

no_form : verdict_answer (Form 0) ≡ record { pieces = codes "no form 0\n" ∷ []; status = No }
unfolding digits
no_form = refl

not_coherent : verdict_answer (Axiom1 1 4) ≡ record { pieces = codes "no axiom 1 1 4\n" ∷ []; status = No }
unfolding digits
not_coherent = refl

not_ordered : verdict_answer (Axiom3 3 2) ≡ record { pieces = codes "no axiom 3 3 2\n" ∷ []; status = No }
unfolding digits
not_ordered = refl

a_race : verdict_answer (Race 1 2) ≡ record { pieces = codes "no race 1 2\n" ∷ []; status = No }
unfolding digits
a_race = refl

-- a text that is no log
no_order : for_judge C11 (codes "0 t0 fence RELEASED") ≡ Err (record { pieces = codes "refused log 11 Unexpected\n" ∷ []; status = Refused })
unfolding digits
no_order = refl

no_count : for_judge C11 (codes "1 t0 fence ACQUIRE") ≡ Err (record { pieces = codes "refused log 0 BadNumber\n" ∷ []; status = Refused })
unfolding digits
no_count = refl
