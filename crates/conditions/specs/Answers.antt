-- The answer to a condition over the outcomes that were found, in their order, of a search that is complete or not.
use Rattle.std.specs.Prelude.{ℕ, Bool, true, false, not, List, Option, Some, None, if◌then◌else◌}
use Rattle.std.specs.List.{position, list_any}
use Rattle.mu_base.specs.declared.status.Status.{Status}
use Rattle.mu_base.specs.declared.status.Status.TheVariants as statuses
use Rattle.conditions.specs.declared.tree.Claim.{Claim}
use Rattle.conditions.specs.declared.tree.Claim.TheVariants as claims
use Rattle.conditions.specs.declared.tree.Atom.{Atom}
use Rattle.conditions.specs.declared.tree.Condition.{Condition}
use Rattle.conditions.specs.declared.holding.Outcome.{Outcome}
use Rattle.conditions.specs.declared.answering.Answer.{Answer}
use Rattle.conditions.specs.declared.answering.Answer.TheVariants as answers
use Rattle.conditions.specs.Meaning.{satisfies}

-- the outcome alone gives the answer: it shows what `exists` asks for, or what `never` or `always` excludes
abbrev pub decides : Claim → List (List Atom) → Outcome → Bool
decides claims.Always lists o = not (satisfies lists o)
decides _ lists o = satisfies lists o

-- by the first outcome that gives the answer, if there is one, and whether the search is complete
abbrev pub answer_by : Claim → Option ℕ → Bool → Answer
answer_by claims.Exists (Some n) complete = answers.Yes (Some n)
answer_by claims.Exists None true = answers.No None
answer_by claims.Exists None false = answers.Unknown
answer_by _ (Some n) complete = answers.No (Some n)
answer_by _ None true = answers.Yes None
answer_by _ None false = answers.Unknown

abbrev pub answer_of : Condition → List Outcome → Bool → Answer
answer_of c found complete = answer_by c.claim (position (decides c.claim c.lists) found) complete

-- ---- the status after some answers

abbrev pub is_no : Answer → Bool
is_no (answers.No n) = true
is_no _ = false

abbrev pub is_unknown : Answer → Bool
is_unknown answers.Unknown = true
is_unknown _ = false

abbrev pub status_of : List Answer → Status
status_of rs = if list_any is_no rs then statuses.No else (if list_any is_unknown rs then statuses.Budget else statuses.Done)
