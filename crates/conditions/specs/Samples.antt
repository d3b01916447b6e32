-- What the worked examples are written with.
use Rattle.std.specs.Prelude.{ℕ, List, [], ◌∷◌, Option, Some, codes}
use Rattle.demands.specs.declared.fault.Fault.{Fault}
use Rattle.demands.specs.declared.fault.Fault.TheVariants.{At}
use Rattle.demands.specs.Demands.{first_unmet}
use Rattle.name_scopes.specs.Names.{Names}
use Rattle.conditions.specs.declared.fault.ConditionKind.{ConditionKind}
use Rattle.conditions.specs.declared.tree.Value.TheVariants as values
use Rattle.conditions.specs.declared.tree.Ending.TheVariants as endings
use Rattle.conditions.specs.declared.tree.Atom.{Atom}
use Rattle.conditions.specs.declared.tree.Atom.TheVariants as atoms
use Rattle.conditions.specs.declared.holding.Outcome.{Outcome}
use Rattle.conditions.specs.Texts.{condition_demands}

-- two globals of one cell
abbrev pub sample : Names ℕ
sample = (codes "@x", 0) ∷ (codes "@y", 1) ∷ []

-- the first fault of a text
abbrev pub text_fault : List ℕ → Option (Fault ConditionKind)
text_fault text = first_unmet (condition_demands sample text)

abbrev pub stands : ConditionKind → ℕ → Option (Fault ConditionKind)
stands kind place = Some (At kind place)

-- ---- outcomes

-- returned t0 A / returned t1 B / final @x 1 / final @y NULL / done
abbrev pub both_returned : ℕ → ℕ → Outcome
both_returned a b =
    record { returned = record { thread = 0; values = values.Number a ∷ [] } ∷ record { thread = 1; values = values.Number b ∷ [] } ∷ []; finals = values.Number 1 ∷ values.Null ∷ []; ending = endings.Done }

-- returned t0 / final @x 1 / final @y #0+0 / all waiting t1
abbrev pub one_waits : Outcome
one_waits = record { returned = record { thread = 0; values = [] } ∷ []; finals = values.Number 1 ∷ values.Other ∷ []; ending = endings.Waiting }

-- undefined DataRace ..
abbrev pub raced : Outcome
raced = record { returned = []; finals = []; ending = endings.DataRace }

-- tT 0 = N
abbrev pub gave : ℕ → ℕ → Atom
gave thread n = atoms.Returned thread 0 (values.Number n)
