-- What holds of the answers.
use Rattle.std.specs.Prelude.{◌≡◌, ◌<◌, ◌↔◌, ◌++◌, ℕ, Bool, true, false, List, Option, Some, None, All, IsSomeAnd, slice_get, codes, decimal}
use Rattle.std.specs.List.{Contains}
use Rattle.conditions.specs.declared.tree.Claim.{Claim}
use Rattle.conditions.specs.declared.tree.Claim.TheVariants as claims
use Rattle.conditions.specs.declared.tree.Atom.{Atom}
use Rattle.conditions.specs.declared.tree.Condition.{Condition}
use Rattle.conditions.specs.declared.holding.Outcome.{Outcome}
use Rattle.conditions.specs.declared.answering.Answer.{Answer}
use Rattle.conditions.specs.declared.answering.Answer.TheVariants as answers
use Rattle.conditions.specs.Words.{thread_of}
use Rattle.conditions.specs.Meaning.{satisfies}
use Rattle.conditions.specs.Answers.{decides, answer_of, is_unknown}

-- ---- of a search, whatever its outcomes are of

-- each of those found is an outcome of the search, and where it is complete there are no others
pub record Covers (Shows : Outcome → Type 0) (found : List Outcome) (complete : Bool) : Type 0 where
  pub each : All Shows found
  pub whole : complete ≡ true → (o : Outcome) → Shows o → Contains found o

-- some outcome in which one of the lists holds (`true`) or none does (`false`); and so each outcome
abbrev pub InSome : (Outcome → Type 0) → List (List Atom) → Bool → Type 0
InSome Shows lists b = (o : Outcome) × Shows o × (satisfies lists o ≡ b)

abbrev pub InEach : (Outcome → Type 0) → List (List Atom) → Bool → Type 0
InEach Shows lists b = (o : Outcome) → Shows o → satisfies lists o ≡ b

abbrev pub IsTrueOf : (Outcome → Type 0) → Claim → List (List Atom) → Type 0
IsTrueOf Shows claims.Exists lists = InSome Shows lists true
IsTrueOf Shows claims.Never lists = InEach Shows lists false
IsTrueOf Shows claims.Always lists = InEach Shows lists true

abbrev pub IsFalseOf : (Outcome → Type 0) → Claim → List (List Atom) → Type 0
IsFalseOf Shows claims.Exists lists = InEach Shows lists false
IsFalseOf Shows claims.Never lists = InSome Shows lists true
IsFalseOf Shows claims.Always lists = InSome Shows lists false

-- what an answer says
abbrev pub Says : Type 0 → Type 0 → Answer → Type 0
Says is is_not (answers.Yes n) = is
Says is is_not (answers.No n) = is_not
Says is is_not answers.Unknown = Unit {0}

-- the answer is yes only for a true condition, and no only for a false one
abbrev pub AnswersAreTrue : (Outcome → Type 0) → Type 0
AnswersAreTrue Shows = (found : List Outcome) (complete : Bool) (c : Condition) → Covers Shows found complete → Says (IsTrueOf Shows c.claim c.lists) (IsFalseOf Shows c.claim c.lists) (answer_of c found complete)

-- where the search is complete there is an answer
abbrev pub CompleteIsAnswered : Type 0
CompleteIsAnswered = (c : Condition) (found : List Outcome) → is_unknown (answer_of c found true) ≡ false

-- ---- the outcome that an answer names

abbrev pub named : Answer → Option ℕ
named (answers.Yes n) = n
named (answers.No n) = n
named answers.Unknown = None

pub record IsFirst (c : Condition) (found : List Outcome) (n : ℕ) : Type 0 where
  pub here : IsSomeAnd (slice_get found n) (λ o. decides c.claim c.lists o ≡ true)
  pub none_before : (k : ℕ) → k < n → IsSomeAnd (slice_get found k) (λ o. decides c.claim c.lists o ≡ false)

-- it gives the answer, and none before it does
abbrev pub DecidingOutcomesAreFirst : Type 0
DecidingOutcomesAreFirst = (c : Condition) (found : List Outcome) (complete : Bool) (n : ℕ) → named (answer_of c found complete) ≡ Some n → IsFirst c found n

-- ---- names of threads

-- the name of a thread is the one that outcomes print, and no other word is a name
abbrev pub ThreadsAreNamed : Type 0
ThreadsAreNamed = (word : List ℕ) (n : ℕ) → (thread_of word ≡ Some n) ↔ ((n < 64) × (word ≡ codes "t" ++ decimal n))
