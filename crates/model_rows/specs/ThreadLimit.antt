-- Runs of bundles: threads that are made until no more may be.
use Rattle.std.specs.Prelude.{codes, ◌≡◌, refl, ◌++◌, [], ℕ, decimal, zero, suc, ◌+◌}
use Rattle.std.specs.Fmt.{digits}
use Rattle.run_texts.specs.Texts.{Text}
use Rattle.model_rows.specs.Running.{definitions, plain, run_text}

abbrev bundle : Text
bundle = definitions ++ codes ".funcdef @t VERSION %v <@m> { %e(): RET () } .funcdef @main VERSION %v <@mi> { %e(): %s = COMMINST @uvm.new_stack <[@m]> (@t) %r = NEWTHREAD %s PASS_VALUES<>() BRANCH %e() }"

-- stack and thread k are made by three events, of which the first has number e
abbrev pub made : ℕ → ℕ → Text
made k e =
    decimal e ++ codes " t0 stack s" ++ decimal k ++ codes "\n" ++ decimal (e + 1) ++ codes " t0 thread t" ++ decimal k ++ codes "\n"
    ++ decimal (e + 2) ++ codes " t" ++ decimal k ++ codes " enter s" ++ decimal k ++ codes "\n"

-- the next ones, from k on
abbrev pub made_from : ℕ → ℕ → ℕ → Text
made_from zero k e = []
made_from (suc n) k e = made k e ++ made_from n (k + 1) (e + 3)

threads_64_may_be_made : run_text plain bundle ≡ made_from 63 1 0 ++ codes "189 t0 stack s64\nthreads full t0\n"
unfolding run_text digits
threads_64_may_be_made = refl
