-- What a sink tells after a call, beside an answer.
use Rattle.std.specs.Prelude.{◌≡◌, ◌≢◌, ℕ, ◌+◌, List, [], ◌∷◌, ◌++◌, length, Option, None, Some, ⊤}
use Rattle.std.specs.List.{concat}
use Rattle.std.specs.Io.KnownBytes.{Appends}
use Rattle.mu_base.specs.declared.status.Status.{Status}
use Rattle.mu_base.specs.declared.status.Status.TheVariants.{SinkFault, Memory}
use Rattle.mu_base.specs.declared.sink.PutFault.{PutFault}
use Rattle.mu_base.specs.declared.sink.PutFault.TheVariants.{Fault, Memory as NoMemory}
use Rattle.mu_base.specs.Files.{IsPrefix}
use Rattle.mu_texts.specs.Answer.{Answer}

-- where the pieces end, the first of which begins at n
abbrev pub cuts_from : ℕ → List (List ℕ) → List ℕ
cuts_from n [] = []
cuts_from n (piece ∷ pieces) = (n + length piece) ∷ cuts_from (n + length piece) pieces

-- where bytes and ends are told, the ends grow by those of these pieces, which were written after those bytes
abbrev pub AppendsEnds : Option (List ℕ) → Option (List ℕ) → Option (List ℕ) → List (List ℕ) → Type 0
AppendsEnds None ends new pieces = ⊤
AppendsEnds (Some bytes) None new pieces = ⊤
AppendsEnds (Some bytes) (Some ends) None pieces = ⊥
AppendsEnds (Some bytes) (Some ends) (Some new) pieces = new ≡ ends ++ cuts_from (length bytes) pieces

-- these pieces were written, each whole, and nothing else
pub record Wrote (pieces : List (List ℕ)) (written new_written marks new_marks : Option (List ℕ)) : Type 0 where
  pub bytes : Appends written new_written (concat pieces)
  pub ends : AppendsEnds written marks new_marks pieces

-- the first pieces were written whole, and then at most a part of what follows them
pub record WrotePart (pieces : List (List ℕ)) (written new_written marks new_marks : Option (List ℕ)) : Type 0 where
  pub done : List (List ℕ)
  pub left : List (List ℕ)
  pub is : pieces ≡ done ++ left
  pub part : List ℕ
  pub begins : IsPrefix part (concat left)
  pub bytes : Appends written new_written (concat done ++ part)
  pub ends : AppendsEnds written marks new_marks done

-- neither the sink nor memory failed
abbrev pub IsWhole : Status → Type 0
IsWhole status = (status ≢ SinkFault) × (status ≢ Memory)

-- After every status a part of the text was written, in its pieces; but for a fault of the sink and out of memory it is
-- the whole text, and the status is the one that goes with it.
pub record Writes (answer : Answer) (written new_written marks new_marks : Option (List ℕ)) (status : Status) : Type 0 where
  pub part : WrotePart answer.pieces written new_written marks new_marks
  pub whole : IsWhole status → Wrote answer.pieces written new_written marks new_marks
  pub status_of : IsWhole status → status ≡ answer.status

-- the status of a put that failed
abbrev pub stopped : PutFault → Status
stopped Fault = SinkFault
stopped NoMemory = Memory
