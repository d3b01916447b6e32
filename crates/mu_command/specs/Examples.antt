-- Worked examples.
use Rattle.std.specs.Prelude.{◌≡◌, true, false, ℕ, List, [], ◌∷◌, ◌++◌, Some, None, codes, refl}
use Rattle.std.specs.Fmt.{digits}
use Rattle.mu_base.specs.declared.status.Status.TheVariants.{Done, Usage, ReadFault, TooLong}
use Rattle.mu_base.specs.Outcome.{got, failed, too_long}
use Rattle.mem_axioms.specs.declared.types.Rule.TheVariants.{C11, Rmw}
use Rattle.mu_texts.specs.declared.what.What.TheVariants.{Bundle, Hail, Client, Schedule, Joined}
use Rattle.mu_command.specs.declared.job.Job.TheVariants.{Run, Trial, Judge, Join}
use Rattle.mu_command.specs.declared.job.RunJob.{RunJob}
use Rattle.mu_command.specs.Job.{job_of, file_of}
use Rattle.mu_command.specs.Answer.{answer_of}

-- the words of a run, whose file is the second and whose entry is the fourth
abbrev words : List (List ℕ)
words = codes "run" ∷ codes "b" ∷ codes "--entry" ∷ codes "@main" ∷ []

-- a run of the second word, without the other files
abbrev plain : ℕ → ℕ → ℕ → RunJob
plain entry budget cells = record { file = 1; entry = entry; hail = None; client = None; auto = false; schedule = None; rule = C11; budget = budget; cells = cells }

a_run : job_of words ≡ Some (Run (plain 3 200000 100000))
unfolding job_of
a_run = refl

fewer_steps : job_of (codes "run" ∷ codes "b" ∷ codes "--steps" ∷ codes "007" ∷ codes "--entry" ∷ codes "@main" ∷ []) ≡ Some (Run (plain 5 7 100000))
unfolding job_of
fewer_steps = refl

too_many_steps : job_of (codes "run" ∷ codes "b" ∷ codes "--entry" ∷ codes "@main" ∷ codes "--steps" ∷ codes "1000001" ∷ []) ≡ None
unfolding job_of
too_many_steps = refl

fewer_cells : job_of (codes "run" ∷ codes "b" ∷ codes "--cells" ∷ codes "0" ∷ codes "--entry" ∷ codes "@main" ∷ codes "--steps" ∷ codes "12" ∷ []) ≡ Some (Run (plain 5 12 0))
unfolding job_of
fewer_cells = refl

more_cells : job_of (codes "run" ∷ codes "b" ∷ codes "--entry" ∷ codes "@main" ∷ codes "--cells" ∷ codes "1000000" ∷ []) ≡ Some (Run (plain 3 200000 1000000))
unfolding job_of
more_cells = refl

too_many_cells : job_of (codes "run" ∷ codes "b" ∷ codes "--entry" ∷ codes "@main" ∷ codes "--cells" ∷ codes "1000001" ∷ []) ≡ None
unfolding job_of
too_many_cells = refl

-- the value of an option is the next word, whatever it is
a_name_like_an_option : job_of (codes "run" ∷ codes "b" ∷ codes "--entry" ∷ codes "--cells" ∷ codes "--cells" ∷ codes "3" ∷ []) ≡ Some (Run (plain 3 200000 3))
unfolding job_of
a_name_like_an_option = refl

twice : job_of (codes "run" ∷ codes "b" ∷ codes "--cells" ∷ codes "3" ∷ codes "--entry" ∷ codes "@main" ∷ codes "--cells" ∷ codes "3" ∷ []) ≡ None
unfolding job_of
twice = refl

no_value : job_of (codes "run" ∷ codes "b" ∷ codes "--entry" ∷ codes "@main" ∷ codes "--cells" ∷ []) ≡ None
unfolding job_of
no_value = refl

no_entry : job_of (codes "run" ∷ codes "b" ∷ []) ≡ None
unfolding job_of
no_entry = refl

another_command : job_of (codes "list" ∷ codes "b" ∷ codes "--entry" ∷ codes "@main" ∷ []) ≡ None
unfolding job_of
another_command = refl

a_log : job_of (codes "judge" ∷ codes "l" ∷ []) ≡ Some (Judge 1 C11)
unfolding job_of
a_log = refl

a_log_by_rmw : job_of (codes "judge" ∷ codes "l" ∷ codes "--release-sequences" ∷ codes "rmw" ∷ []) ≡ Some (Judge 1 Rmw)
unfolding job_of
a_log_by_rmw = refl

a_log_by_another_rule : job_of (codes "judge" ∷ codes "l" ∷ codes "--release-sequences" ∷ codes "c20" ∷ []) ≡ None
unfolding job_of
a_log_by_another_rule = refl

a_log_with_an_entry : job_of (codes "judge" ∷ codes "b" ∷ codes "--entry" ∷ codes "@main" ∷ []) ≡ None
unfolding job_of
a_log_with_an_entry = refl

two_rules : job_of (codes "judge" ∷ codes "l" ∷ codes "--release-sequences" ∷ codes "c11" ∷ codes "--release-sequences" ∷ codes "c11" ∷ []) ≡ None
unfolding job_of
two_rules = refl

one_bundle : job_of (codes "join" ∷ codes "a" ∷ []) ≡ Some (Join 1 1)
unfolding job_of
one_bundle = refl

-- each word after the first names a file, whatever it is
two_bundles : job_of (codes "join" ∷ codes "a" ∷ codes "--auto" ∷ []) ≡ Some (Join 1 2)
unfolding job_of
two_bundles = refl

no_bundle : job_of (codes "join" ∷ []) ≡ None
unfolding job_of
no_bundle = refl

abbrev four : List (List ℕ)
four = codes "a" ∷ codes "b" ∷ codes "c" ∷ codes "d" ∷ []

sixteen_bundles : job_of (codes "join" ∷ four ++ four ++ four ++ four) ≡ Some (Join 1 16)
unfolding job_of
sixteen_bundles = refl

seventeen_bundles : job_of (codes "join" ∷ codes "e" ∷ four ++ four ++ four ++ four) ≡ None
unfolding job_of
seventeen_bundles = refl

a_trial : job_of (codes "trial" ∷ codes "1000" ∷ []) ≡ Some (Trial 1000)
unfolding job_of
a_trial = refl

no_pairs : job_of (codes "trial" ∷ codes "0" ∷ []) ≡ None
unfolding job_of
no_pairs = refl

too_many_pairs : job_of (codes "trial" ∷ codes "1001" ∷ []) ≡ None
unfolding job_of
too_many_pairs = refl

usage : answer_of words None (λ _. got []) ≡ record { pieces = codes "usage\n" ∷ []; status = Usage }
usage = refl

no_such_file : answer_of words (Some (Run (plain 3 200000 100000))) (λ _. failed) ≡ record { pieces = codes "read fault bundle\n" ∷ []; status = ReadFault }
no_such_file = refl

a_long_file : answer_of words (Some (Run (plain 3 200000 100000))) (λ _. too_long) ≡ record { pieces = codes "too long bundle\n" ∷ []; status = TooLong }
a_long_file = refl

-- the first of two files is not there
no_first_file : answer_of words (Some (Join 1 2)) (λ _. failed) ≡ record { pieces = codes "read fault bundle 0\n" ∷ []; status = ReadFault }
unfolding digits
no_first_file = refl

a_long_log : answer_of words (Some (Judge 1 C11)) (λ _. too_long) ≡ record { pieces = codes "too long log\n" ∷ []; status = TooLong }
a_long_log = refl

no_event : answer_of words (Some (Judge 1 C11)) (λ _. got (codes "done\n")) ≡ record { pieces = codes "yes 0\n" ∷ []; status = Done }
unfolding digits
no_event = refl

-- the other files, and the rule of release sequences
all_files : job_of (codes "run" ∷ codes "b" ∷ codes "--schedule" ∷ codes "s" ∷ codes "--release-sequences" ∷ codes "rmw" ∷ codes "--hail" ∷ codes "h" ∷ codes "--entry" ∷ codes "@main" ∷ codes "--client" ∷ codes "k" ∷ [])
    ≡ Some (Run (record { file = 1; entry = 9; hail = Some 7; client = Some 11; auto = false; schedule = Some 3; rule = Rmw; budget = 200000; cells = 100000 }))
unfolding job_of
all_files = refl

another_rule : job_of (codes "run" ∷ codes "b" ∷ codes "--entry" ∷ codes "@main" ∷ codes "--release-sequences" ∷ codes "c20" ∷ []) ≡ None
unfolding job_of
another_rule = refl

two_scripts : job_of (codes "run" ∷ codes "b" ∷ codes "--entry" ∷ codes "@main" ∷ codes "--hail" ∷ codes "h" ∷ codes "--hail" ∷ codes "h" ∷ []) ≡ None
unfolding job_of
two_scripts = refl

-- `--auto` has no value
auto_is_one_word : job_of (codes "run" ∷ codes "b" ∷ codes "--auto" ∷ codes "--entry" ∷ codes "@main" ∷ []) ≡ Some (Run (record (plain 4 200000 100000) { auto = true }))
unfolding job_of
auto_is_one_word = refl

auto_is_last : job_of (codes "run" ∷ codes "b" ∷ codes "--entry" ∷ codes "@main" ∷ codes "--auto" ∷ []) ≡ Some (Run (record (plain 3 200000 100000) { auto = true }))
unfolding job_of
auto_is_last = refl

-- but it may be one
auto_is_a_value : job_of (codes "run" ∷ codes "b" ∷ codes "--entry" ∷ codes "--auto" ∷ codes "--auto" ∷ []) ≡ Some (Run (record (plain 3 200000 100000) { auto = true }))
unfolding job_of
auto_is_a_value = refl

auto_twice : job_of (codes "run" ∷ codes "b" ∷ codes "--auto" ∷ codes "--entry" ∷ codes "@main" ∷ codes "--auto" ∷ []) ≡ None
unfolding job_of
auto_twice = refl

-- it may stand with a script of a client, whichever comes first
auto_then_client : job_of (codes "run" ∷ codes "b" ∷ codes "--entry" ∷ codes "@main" ∷ codes "--auto" ∷ codes "--client" ∷ codes "k" ∷ [])
    ≡ Some (Run (record (plain 3 200000 100000) { auto = true; client = Some 6 }))
unfolding job_of
auto_then_client = refl

client_then_auto : job_of (codes "run" ∷ codes "b" ∷ codes "--entry" ∷ codes "@main" ∷ codes "--client" ∷ codes "k" ∷ codes "--auto" ∷ [])
    ≡ Some (Run (record (plain 3 200000 100000) { auto = true; client = Some 5 }))
unfolding job_of
client_then_auto = refl

no_client : file_of (Run (plain 3 200000 100000)) Client ≡ None
no_client = refl

the_last_bundle : file_of (Join 1 2) (Joined 1) ≡ Some 2
the_last_bundle = refl

no_third_bundle : file_of (Join 1 2) (Joined 2) ≡ None
no_third_bundle = refl

no_script : file_of (Run (plain 3 200000 100000)) Hail ≡ None
no_script = refl
