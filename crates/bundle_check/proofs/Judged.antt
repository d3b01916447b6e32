-- Demands behind others that are met.
use Rattle.std.proofs.Common.{◌≡◌, Err, List, None}
use Rattle.demands.specs.declared.fault.Fault.{Fault}
use Rattle.demands.specs.declared.fault.Fault.TheVariants.{Memory, At}
use Rattle.demands.specs.Demands.{Demands, ◌⨾◌, first_unmet, Judges}
use Rattle.demands.specs.Lemmas.Meeting as meeting
use Rattle.ir_tree.specs.declared.items.Item.{Item}
use Rattle.bundle_names.specs.Globals.{globals_of}
use Rattle.checked_code.specs.Rules.{item_demands}
use Rattle.checked_code.specs.Functions.{functions_demands}
use Rattle.checked_code.specs.Checking.{check_demands, bundle_tables}

pub met_and_unmet : {K A B : Type 0} (a b : Demands K) (made : A) (other : B) (fault : Fault K) → first_unmet a ≡ None → Judges b made (Err fault) → Judges (a ⨾ b) other (Err fault)
met_and_unmet a b made other Memory h k = tt
met_and_unmet a b made other (At kind place) h k = rw h k

pub both_met : {K : Type 0} (a b : Demands K) → first_unmet a ≡ None → first_unmet b ≡ None → first_unmet (a ⨾ b) ≡ None
both_met a b h k = rw h k

-- the demands on the items that are no functions are met where all are
pub items_met : (bundle : List Item) → first_unmet (check_demands bundle) ≡ None → first_unmet (item_demands (globals_of bundle) bundle) ≡ None
unfolding check_demands
items_met bundle h = (meeting.both_met (first_unmet (item_demands (globals_of bundle) bundle)) (first_unmet (functions_demands (bundle_tables bundle) 0 bundle)) h).0
