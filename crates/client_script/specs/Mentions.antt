-- What a global name of a script stands for, as it is kept, and the constants that mentions share.
-- Contracts inside the crate cite this; no public one does, so no reader of those needs it.
use Rattle.std.specs.Prelude.{◌≡◌, ℕ, List, [], ◌∷◌, Some, slice_get, IfSome}
use Rattle.std.specs.Ordering.{nat_cmp}
use Rattle.std.specs.BTreeMap.{get}
use Rattle.std.specs.Rc.{rc_slice_items}
use Rattle.ir_tree.specs.declared.items.Item.{Item}
use Rattle.mu_values.specs.declared.scalars.Scalar.{Scalar}
use Rattle.mu_values.specs.declared.scalars.Scalar.TheVariants.{Place, Func}
use Rattle.checked_code.specs.Constants.{constant_values}
use Rattle.checked_code.specs.Checking.{bundle_tables}
use Rattle.client_script.specs.declared.mentions.Mentioned.{Mentioned}
use Rattle.client_script.specs.declared.mentions.Mentioned.TheVariants.{Constant, GlobalCell, Function, Nothing}

abbrev pub mentioned : Mentioned → List Scalar
mentioned (Constant scalars) = rc_slice_items scalars
mentioned (GlobalCell object) = Place object 0 ∷ []
mentioned (Function n) = Func n ∷ []
mentioned Nothing = []
