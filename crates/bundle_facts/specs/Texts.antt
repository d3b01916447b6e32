-- Bundles that are read from text.
use Rattle.std.specs.Prelude.{List}
use Rattle.text_forms.specs.Tokens.{Tok}
use Rattle.text_forms.specs.Derives.{Derives}
use Rattle.ir_tree.specs.declared.items.Item.{Item}
use Rattle.ir_tree.specs.Items.{bundle as bundle_form}
use Rattle.bundle_facts.specs.Facts.{HaveBlocks}

-- each function that is defined in a bundle that the grammar derives has a block
abbrev pub DerivedHaveBlocks : Type 0
DerivedHaveBlocks = (tokens : List Tok) (bundle : List Item) → Derives bundle_form tokens bundle → HaveBlocks bundle
