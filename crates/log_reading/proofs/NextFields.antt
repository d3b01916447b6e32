-- The next field of a line.
use Rattle.std.proofs.Common.{◌≡◌, ℕ, ◌<◌, List, [], ◌∷◌, length, refl, sym, ap, subst, ◌∙◌, arith}
use Rattle.std.specs.Prelude.{Result, Ok, Err}
use Rattle.demands.specs.declared.fault.Fault.{Fault}
use Rattle.demands.specs.declared.fault.Fault.TheVariants.{At}
use Rattle.log_lines.specs.Fields.{Text, Judged, parts}
use Rattle.log_lines.specs.Lines.{placed, field, of_field, finished}
use Rattle.log_lines.specs.declared.types.LogKind.{LogKind}
use Rattle.log_lines.specs.declared.types.LogKind.TheVariants.{Unexpected}
use Rattle.log_reading.proofs.Splitting.{parts_some}
use Rattle.log_reading.specs.Inner.{LineRest, Reads, at_place}

-- ---- no field is left

some_left : (at : ℕ) (ps : List Text) → 0 < length ps → finished (tt {0}) (placed at ps) ≡ Err (At Unexpected at)
some_left at [] h = absurd (omega arith)
some_left at (p ∷ ps) h = refl

pub field_left : (at : ℕ) (bytes : Text) → finished (tt {0}) (placed at (parts 32 bytes)) ≡ Err (At Unexpected at)
field_left at bytes = some_left at (parts 32 bytes) (parts_some 32 bytes)

-- ---- the next field is judged

read_step : {A : Type 0} (end : ℕ) (judge : Text → Judged A) (old new : LineRest) (place : ℕ) (bytes : Text) (j : Judged A) → old.fields ≡ (place, bytes) ∷ new.fields → new.end ≡ old.end → judge bytes ≡ j
    → Reads (field end judge) old new (at_place place j)
read_step end judge old new place bytes (Ok a) e f h = (ap (field end judge) e ∙ ap (of_field place new.fields) h, f)
read_step end judge old new place bytes (Err k) e f h = ap (field end judge) e ∙ ap (of_field place new.fields) h

pub read_next : {A : Type 0} (end : ℕ) (judge : Text → Judged A) (old new : LineRest) (place : ℕ) (bytes : Text) (judged : Judged A) (result : Result A (Fault LogKind)) → old.fields ≡ (place, bytes) ∷ new.fields → new.end ≡ old.end
    → judged ≡ judge bytes → result ≡ at_place place judged → Reads (field end judge) old new result
read_next end judge old new place bytes judged result e f h r = subst (Reads (field end judge) old new) (sym r) (read_step end judge old new place bytes judged e f (sym h))

pub read_none : {A : Type 0} (judge : Text → Judged A) (old new : LineRest) (fault : Fault LogKind) → old.fields ≡ [] → fault ≡ At Unexpected old.end → Reads (field old.end judge) old new (Err fault)
read_none judge old new fault e f = ap (field old.end judge) e ∙ ap (λ (g : Fault LogKind). Err g) (sym f)
