-- The demands on the names of a bundle: all definitions, then all uses, each in text order.
use Rattle.std.specs.Prelude.{List}
use Rattle.demands.specs.Demands.{Demands, ◌⨾◌}
use Rattle.ir_tree.specs.declared.items.Item.{Item}
use Rattle.bundle_names.specs.declared.fault.NameKind.{NameKind}
use Rattle.bundle_names.specs.Definitions.{definition_demands}
use Rattle.bundle_names.specs.ItemUses.{use_demands}

abbrev pub name_demands : List Item → Demands NameKind
name_demands bundle = definition_demands bundle ⨾ use_demands bundle
