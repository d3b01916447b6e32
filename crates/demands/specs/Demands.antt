-- Demands: they stand in an order, and the first that is not met is the fault. K are the kinds of faults.
use Rattle.std.specs.Prelude.{◌≡◌, ℕ, Bool, true, List, [], ◌∷◌, ◌++◌, Option, Some, None, Result, Ok, Err, if◌then◌else◌}
use Rattle.demands.specs.declared.fault.Fault.{Fault}
use Rattle.demands.specs.declared.fault.Fault.TheVariants.{Memory, At}

infixr 20 ◌⨾◌
-- demands, in order from left to right
pub data Demands (K : Type 0) : Type 0 where
  -- no demand
  none : Demands K
  -- one demand: its place, the fault where it is not met, and whether it is met
  demand : ℕ → K → Bool → Demands K
  -- the demands on the left, then those on the right
  ◌⨾◌ : Demands K → Demands K → Demands K

-- the first of two, where it is there, else the second
abbrev pub or_else : {F : Type 0} → Option F → Option F → Option F
or_else (Some fault) later = Some fault
or_else None later = later

-- the fault of the first demand that is not met
abbrev pub first_unmet : {K : Type 0} → Demands K → Option (Fault K)
first_unmet none = None
first_unmet (demand place kind met) = if met then None else Some (At kind place)
first_unmet (a ⨾ b) = or_else (first_unmet a) (first_unmet b)

-- every demand is met
abbrev pub AllMet : {K : Type 0} → Demands K → Type 0
AllMet none = Unit {0}
AllMet (demand place kind met) = met ≡ true
AllMet (a ⨾ b) = AllMet a × AllMet b

-- the same demands as one plain list, and the fault of the first of that list that is not met
pub record Demand (K : Type 0) : Type 0 where
  pub place : ℕ
  pub kind : K
  pub met : Bool

abbrev pub listed : {K : Type 0} → Demands K → List (Demand K)
listed none = []
listed (demand place kind met) = record { place = place; kind = kind; met = met } ∷ []
listed (a ⨾ b) = listed a ++ listed b

abbrev pub first_of : {K : Type 0} → List (Demand K) → Option (Fault K)
first_of [] = None
first_of (d ∷ ds) = if d.met then first_of ds else Some (At d.kind d.place)

-- the same demands with faults of other kinds
abbrev pub as_kind : {K L : Type 0} → (K → L) → Demands K → Demands L
as_kind f none = none
as_kind f (demand place kind met) = demand place (f kind) met
as_kind f (a ⨾ b) = as_kind f a ⨾ as_kind f b

-- what a judging function answers: what was made where all demands are met, else the first fault; out of memory says nothing
abbrev pub Judges : {K A : Type 0} → Demands K → A → Result A (Fault K) → Type 0
Judges ds made (Ok x) = (first_unmet ds ≡ None) × (x ≡ made)
Judges ds made (Err Memory) = Unit {0}
Judges ds made (Err (At kind place)) = first_unmet ds ≡ Some (At kind place)

-- the same for a function that makes nothing
abbrev pub Meets : {K A : Type 0} → Demands K → Result A (Fault K) → Type 0
Meets ds (Ok x) = first_unmet ds ≡ None
Meets ds (Err Memory) = Unit {0}
Meets ds (Err (At kind place)) = first_unmet ds ≡ Some (At kind place)

-- a refusal is out of memory
abbrev pub IsMemory : {K A : Type 0} → Result A (Fault K) → Type 0
IsMemory (Ok x) = Unit {0}
IsMemory (Err Memory) = Unit {0}
IsMemory (Err (At kind place)) = ⊥
