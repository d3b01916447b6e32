-- Worked examples: what texts of conditions mean, what holds in outcomes, and the answers.
use Rattle.std.specs.Prelude.{◌≡◌, refl, true, false, List, [], ◌∷◌, Some, None, codes}
use Rattle.std.specs.Fmt.{digits}
use Rattle.text_forms.specs.Reading.{elements}
use Rattle.ir_lex.specs.WordTable.{words, directives, common_names}
use Rattle.ir_lex.specs.Scanner.{gap_len, next_of}
use Rattle.ir_lex.specs.Walk.{tokens_within, tokens_from}
use Rattle.ir_lex.specs.TokenForms.{mark, numeral}
use Rattle.mu_base.specs.declared.status.Status.TheVariants as statuses
use Rattle.conditions.specs.declared.tree.Claim.{Claim}
use Rattle.conditions.specs.declared.tree.Claim.TheVariants as claims
use Rattle.conditions.specs.declared.tree.Value.TheVariants as values
use Rattle.conditions.specs.declared.tree.Ending.{Ending}
use Rattle.conditions.specs.declared.tree.Ending.TheVariants as endings
use Rattle.conditions.specs.declared.tree.Atom.{Atom}
use Rattle.conditions.specs.declared.tree.Atom.TheVariants as atoms
use Rattle.conditions.specs.declared.tree.Condition.{Condition}
use Rattle.conditions.specs.declared.answering.Answer.TheVariants as answers
use Rattle.conditions.specs.Words.{thread_of}
use Rattle.conditions.specs.Grammar.{value, told, telling, word, worded, global, last, atom, list, lists, claim, condition, conditions}
use Rattle.conditions.specs.Texts.{conditions_in}
use Rattle.conditions.specs.Meaning.{satisfies}
use Rattle.conditions.specs.Answers.{answer_of, status_of}
use Rattle.conditions.specs.Printed.{answer_text}
use Rattle.conditions.specs.Samples.{sample, both_returned, one_waits, raced, gave}

abbrev says : Claim → List (List Atom) → Condition
says claim lists = record { claim = claim; lists = lists }

texts_mean :
    (conditions_in sample (codes "exists { (t0 0 = 0 t1 0 = 0) } // both") ≡ says claims.Exists ((gave 0 0 ∷ gave 1 0 ∷ []) ∷ []) ∷ [])
    × (conditions_in sample (codes "never{(DataRace)(stop @y=NULL)}always{()}") ≡ says claims.Never ((atoms.Ends endings.DataRace ∷ []) ∷ (atoms.Ends endings.Stop ∷ atoms.Final 1 values.Null ∷ []) ∷ []) ∷ says claims.Always ([] ∷ []) ∷ [])
    × (conditions_in sample (codes "always { (@x = 0x10 t63 4294967295 = 010) }") ≡ says claims.Always ((atoms.Final 0 (values.Number 16) ∷ atoms.Returned 63 4294967295 (values.Number 8) ∷ []) ∷ []) ∷ [])
unfolding tokens_from tokens_within next_of gap_len words directives common_names elements mark numeral value told telling word worded global last atom list lists claim condition conditions
texts_mean = (refl, refl, refl)

-- each ending by its word
abbrev ending : Ending → List Atom
ending e = atoms.Ends e ∷ []

endings_mean : conditions_in sample (codes "always { (done) (waiting) (stop) (HeapFull) (ThreadsFull) (DivideByZero) (NullAccess) (OutOfRange) (BadCast) (DeadCell) (DataRace) (StackNotReady) (StackTypes) (Uncaught) (NullCall) (NoBody) (ClientMisuse) }") ≡
    says claims.Always (ending endings.Done ∷ ending endings.Waiting ∷ ending endings.Stop ∷ ending endings.HeapFull ∷ ending endings.ThreadsFull ∷ ending endings.DivideByZero ∷ ending endings.NullAccess ∷ ending endings.OutOfRange ∷ ending endings.BadCast ∷ ending endings.DeadCell ∷ ending endings.DataRace ∷ ending endings.StackNotReady ∷ ending endings.StackTypes ∷ ending endings.Uncaught ∷ ending endings.NullCall ∷ ending endings.NoBody ∷ ending endings.ClientMisuse ∷ []) ∷ []
unfolding tokens_from tokens_within next_of gap_len words directives common_names elements mark numeral value told telling word worded global last atom list lists claim condition conditions
endings_mean = refl

threads : (thread_of (codes "t0") ≡ Some 0) × (thread_of (codes "t63") ≡ Some 63) × (thread_of (codes "t64") ≡ None) × (thread_of (codes "t00") ≡ None) × (thread_of (codes "t") ≡ None) × (thread_of (codes "t012") ≡ None)
threads = (refl, refl, refl, refl, refl, refl)

-- values are compared as they are printed, NULL is no number, and what was not returned is nothing
lists_hold :
    (satisfies ((gave 0 0 ∷ gave 1 1 ∷ []) ∷ []) (both_returned 0 1) ≡ true)
    × (satisfies ((gave 0 0 ∷ gave 1 0 ∷ []) ∷ []) (both_returned 0 1) ≡ false)
    × (satisfies ((gave 0 7 ∷ []) ∷ (atoms.Ends endings.Done ∷ []) ∷ []) (both_returned 0 1) ≡ true)
    × (satisfies ((atoms.Final 0 (values.Number 1) ∷ atoms.Final 1 values.Null ∷ []) ∷ []) (both_returned 0 1) ≡ true)
    × (satisfies ((atoms.Final 1 (values.Number 0) ∷ []) ∷ []) (both_returned 0 1) ≡ false)
    × (satisfies ((atoms.Final 1 values.Null ∷ []) ∷ []) one_waits ≡ false)
    × (satisfies ((gave 0 0 ∷ []) ∷ []) one_waits ≡ false)
    × (satisfies ((atoms.Ends endings.Waiting ∷ []) ∷ []) one_waits ≡ true)
    × (satisfies ((atoms.Ends endings.Done ∷ []) ∷ []) one_waits ≡ false)
    × (satisfies ((gave 0 0 ∷ []) ∷ (atoms.Ends endings.DataRace ∷ []) ∷ []) raced ≡ true)
    × (satisfies ([] ∷ []) raced ≡ true)
    × (satisfies [] raced ≡ false)
lists_hold = (refl, refl, refl, refl, refl, refl, refl, refl, refl, refl, refl, refl)

-- store buffering: both threads read 0, or one of them, or none
answered :
    (answer_of (says claims.Exists ((gave 0 0 ∷ gave 1 0 ∷ []) ∷ [])) (both_returned 0 0 ∷ both_returned 0 1 ∷ []) true ≡ answers.Yes (Some 0))
    × (answer_of (says claims.Exists ((gave 0 0 ∷ gave 1 0 ∷ []) ∷ [])) (both_returned 0 1 ∷ both_returned 1 0 ∷ []) true ≡ answers.No None)
    × (answer_of (says claims.Exists ((gave 0 0 ∷ gave 1 0 ∷ []) ∷ [])) (both_returned 0 1 ∷ both_returned 1 0 ∷ []) false ≡ answers.Unknown)
    × (answer_of (says claims.Never ((gave 1 0 ∷ []) ∷ (atoms.Ends endings.DataRace ∷ []) ∷ [])) (both_returned 0 1 ∷ both_returned 1 0 ∷ []) false ≡ answers.No (Some 1))
    × (answer_of (says claims.Never ((gave 1 7 ∷ []) ∷ [])) (both_returned 0 1 ∷ both_returned 1 0 ∷ []) true ≡ answers.Yes None)
    × (answer_of (says claims.Never ((gave 1 7 ∷ []) ∷ [])) (both_returned 0 1 ∷ both_returned 1 0 ∷ []) false ≡ answers.Unknown)
    × (answer_of (says claims.Always ((gave 0 1 ∷ []) ∷ (gave 1 1 ∷ []) ∷ [])) (both_returned 0 1 ∷ both_returned 1 0 ∷ []) true ≡ answers.Yes None)
    × (answer_of (says claims.Always ((gave 0 1 ∷ []) ∷ (gave 1 1 ∷ []) ∷ [])) (both_returned 0 1 ∷ both_returned 1 0 ∷ []) false ≡ answers.Unknown)
    × (answer_of (says claims.Always ((atoms.Ends endings.Done ∷ []) ∷ [])) (both_returned 0 1 ∷ raced ∷ []) false ≡ answers.No (Some 1))
answered = (refl, refl, refl, refl, refl, refl, refl, refl, refl)

statuses_follow :
    (status_of [] ≡ statuses.Done)
    × (status_of (answers.Yes None ∷ answers.Yes (Some 3) ∷ []) ≡ statuses.Done)
    × (status_of (answers.Yes None ∷ answers.Unknown ∷ []) ≡ statuses.Budget)
    × (status_of (answers.Unknown ∷ answers.No (Some 0) ∷ []) ≡ statuses.No)
statuses_follow = (refl, refl, refl, refl)

lines_are_printed :
    (answer_text claims.Exists (answers.Yes (Some 0)) ≡ codes "exists yes 0\n")
    × (answer_text claims.Never (answers.No (Some 13)) ≡ codes "never no 13\n")
    × (answer_text claims.Always (answers.Yes None) ≡ codes "always yes\n")
    × (answer_text claims.Exists answers.Unknown ≡ codes "exists unknown\n")
unfolding digits
lines_are_printed = (refl, refl, refl, refl)
