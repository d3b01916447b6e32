-- Laws of demands.
use Rattle.std.specs.Prelude.{◌≡◌, ℕ, true, false, List, [], ◌∷◌, ◌++◌, Option, Some, None}
use Rattle.demands.specs.declared.fault.Fault.{Fault}
use Rattle.demands.specs.declared.fault.Fault.TheVariants.{Memory, At}
use Rattle.demands.specs.Demands.{Demands, Demand, first_unmet, first_of, listed, AllMet, as_kind}

-- the first unmet of some demands is the first in their list that is not met
abbrev pub FirstIsOfTheList : Type 0 → Type 0
FirstIsOfTheList K = (ds : Demands K) → first_unmet ds ≡ first_of (listed ds)

-- where none is first, all are met
abbrev pub MetWhereNoneIsFirst : Type 0 → Type 0
MetWhereNoneIsFirst K = (ds : Demands K) → first_unmet ds ≡ None → AllMet ds

-- each of the list is met
abbrev pub EachMet : {K : Type 0} → List (Demand K) → Type 0
EachMet [] = Unit {0}
EachMet (d ∷ ds) = (d.met ≡ true) × EachMet ds

-- a list of demands of which one is not met, and all before it are met
pub record StandsBehindMet {K : Type 0} (ds : List (Demand K)) (kind : K) (place : ℕ) : Type 0 where
  pub before : List (Demand K)
  pub after : List (Demand K)
  pub whole : ds ≡ before ++ record { place = place; kind = kind; met = false } ∷ after
  pub met : EachMet before

abbrev pub UnmetStandsBehindMetOnes : Type 0 → Type 0
UnmetStandsBehindMetOnes K = (ds : Demands K) (kind : K) (place : ℕ) → first_unmet ds ≡ Some (At kind place) → StandsBehindMet (listed ds) kind place

-- the same fault of another kind
abbrev pub fault_as : {K L : Type 0} → (K → L) → Option (Fault K) → Option (Fault L)
fault_as f None = None
fault_as f (Some Memory) = Some Memory
fault_as f (Some (At kind place)) = Some (At (f kind) place)

-- demands of other kinds have the same first fault, of that kind
abbrev pub KindsAreCarried : Type 0 → Type 0 → Type 0
KindsAreCarried K L = (f : K → L) (ds : Demands K) → first_unmet (as_kind f ds) ≡ fault_as f (first_unmet ds)
