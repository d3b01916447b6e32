-- The line of an answer.
use Rattle.std.specs.Prelude.{ℕ, List, [], ◌++◌, Option, Some, None, codes, decimal}
use Rattle.conditions.specs.declared.tree.Claim.{Claim}
use Rattle.conditions.specs.declared.tree.Claim.TheVariants as claims
use Rattle.conditions.specs.declared.answering.Answer.{Answer}
use Rattle.conditions.specs.declared.answering.Answer.TheVariants as answers

abbrev pub claim_text : Claim → List ℕ
claim_text claims.Exists = codes "exists"
claim_text claims.Never = codes "never"
claim_text claims.Always = codes "always"

-- the number of the outcome that gives the answer
abbrev pub number_text : Option ℕ → List ℕ
number_text None = []
number_text (Some n) = codes " " ++ decimal n

abbrev pub said : Answer → List ℕ
said (answers.Yes n) = codes "yes" ++ number_text n
said (answers.No n) = codes "no" ++ number_text n
said answers.Unknown = codes "unknown"

abbrev pub answer_text : Claim → Answer → List ℕ
answer_text claim answer = claim_text claim ++ codes " " ++ said answer ++ codes "\n"
