-- What a step of the joining answers.
use Rattle.std.specs.Prelude.{◌≡◌, List, Result, Ok, Err}
use Rattle.ir_tree.specs.declared.items.Item.{Item}
use Rattle.bundle_join.specs.declared.fault.JoinFault.{JoinFault}
use Rattle.bundle_join.specs.declared.fault.JoinFault.TheVariants.{Memory, At}

-- after an Ok the items that are kept are those that are meant, a fault is the one that is meant, and no memory may be found at any time
abbrev pub Goes : {T : Type 0} → Result (List Item) JoinFault → Result T JoinFault → List Item → Type 0
Goes meant (Ok x) kept = meant ≡ Ok kept
Goes meant (Err Memory) kept = Unit {0}
Goes meant (Err (At kind n place)) kept = meant ≡ Err (At kind n place)
