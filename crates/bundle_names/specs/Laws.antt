-- Laws of the demands on names.
use Rattle.std.specs.Prelude.{◌≡◌, ℕ, List, Some, None}
use Rattle.demands.specs.declared.fault.Fault.TheVariants.{At}
use Rattle.demands.specs.Demands.{first_unmet, first_of, listed, AllMet}
use Rattle.demands.specs.Laws.{StandsBehindMet}
use Rattle.ir_tree.specs.declared.items.Item.{Item}
use Rattle.bundle_names.specs.declared.fault.NameKind.{NameKind}
use Rattle.bundle_names.specs.Naming.{name_demands}

-- the fault is the first of one ordered list
abbrev pub FaultIsOfOneList : Type 0
FaultIsOfOneList = (bundle : List Item) → first_unmet (name_demands bundle) ≡ first_of (listed (name_demands bundle))

-- it stands in that list behind demands that are all met
abbrev pub FaultStandsBehindMetOnes : Type 0
FaultStandsBehindMetOnes = (bundle : List Item) (kind : NameKind) (place : ℕ) → first_unmet (name_demands bundle) ≡ Some (At kind place) → StandsBehindMet (listed (name_demands bundle)) kind place

-- where there is none, every demand is met
abbrev pub AcceptedMeetAll : Type 0
AcceptedMeetAll = (bundle : List Item) → first_unmet (name_demands bundle) ≡ None → AllMet (name_demands bundle)
