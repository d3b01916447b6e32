-- The words of conditions.
use Rattle.std.specs.Prelude.{ℕ, ◌+◌, ◌*◌, ◌-◌, ◌==◌, ◌&&◌, nat_lt, not, List, [], ◌∷◌, Option, Some, None, codes, if◌then◌else◌}
use Rattle.std.specs.Char.{is_digit}
use Rattle.name_scopes.specs.Names.{Names, found}
use Rattle.conditions.specs.declared.tree.Claim.{Claim}
use Rattle.conditions.specs.declared.tree.Claim.TheVariants as claims
use Rattle.conditions.specs.declared.tree.Ending.{Ending}
use Rattle.conditions.specs.declared.tree.Ending.TheVariants as endings

abbrev pub claim_words : Names Claim
claim_words = (codes "exists", claims.Exists) ∷ (codes "never", claims.Never) ∷ (codes "always", claims.Always) ∷ []

-- the undefined cases have the names that a run prints
abbrev pub ending_words : Names Ending
ending_words =
    (codes "done", endings.Done) ∷ (codes "waiting", endings.Waiting) ∷ (codes "stop", endings.Stop) ∷ (codes "HeapFull", endings.HeapFull) ∷ (codes "ThreadsFull", endings.ThreadsFull) ∷
    (codes "DivideByZero", endings.DivideByZero) ∷ (codes "NullAccess", endings.NullAccess) ∷ (codes "OutOfRange", endings.OutOfRange) ∷ (codes "BadCast", endings.BadCast) ∷
    (codes "DeadCell", endings.DeadCell) ∷ (codes "DataRace", endings.DataRace) ∷ (codes "StackNotReady", endings.StackNotReady) ∷ (codes "StackTypes", endings.StackTypes) ∷
    (codes "Uncaught", endings.Uncaught) ∷ (codes "NullCall", endings.NullCall) ∷ (codes "NoBody", endings.NoBody) ∷ (codes "ClientMisuse", endings.ClientMisuse) ∷ []

abbrev pub claim_of : List ℕ → Option Claim
claim_of word = found claim_words word

abbrev pub ending_of : List ℕ → Option Ending
ending_of word = found ending_words word

-- ---- threads: `t` and a number below 64, without a nought before it

-- a decimal digit
abbrev pub unit_of : ℕ → Option ℕ
unit_of b = if is_digit b 10 then Some (b - 48) else None

abbrev pub two_digits : Option ℕ → Option ℕ → Option ℕ
two_digits (Some ten) (Some unit) = if not (ten == 0) && nat_lt (ten * 10 + unit) 64 then Some (ten * 10 + unit) else None
two_digits _ _ = None

abbrev pub digits_of : ℕ → ℕ → Option ℕ
digits_of first second = two_digits (unit_of first) (unit_of second)

abbrev pub thread_of : List ℕ → Option ℕ
thread_of (t ∷ unit ∷ []) = if t == 116 then unit_of unit else None
thread_of (t ∷ ten ∷ unit ∷ []) = if t == 116 then digits_of ten unit else None
thread_of _ = None
