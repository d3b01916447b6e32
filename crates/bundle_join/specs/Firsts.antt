-- How the first item of a name is found: what a scope has of a key is the number of the first item with it.
use Rattle.std.specs.Prelude.{◌≡◌, ℕ, List, ◌∷◌, map}
use Rattle.name_scopes.specs.Names.{Names, found}
use Rattle.name_scopes.specs.Numbered.{number_in}
use Rattle.ir_tree.specs.declared.items.Item.{Item}
use Rattle.ir_tree.specs.declared.items.Item.TheVariants as items
use Rattle.bundle_join.specs.declared.kept.Kept.{Kept}
use Rattle.bundle_join.specs.Joined.{name_of}

-- ---- the keys of an item

abbrev pub text_of : Item → List ℕ
text_of i = (name_of i).text

-- one number for each directive
abbrev pub tag : Item → ℕ
tag (items.Typedef d) = 0
tag (items.Funcsig d) = 1
tag (items.Const d) = 2
tag (items.GlobalCell d) = 3
tag (items.Funcdecl d) = 4
tag (items.Funcdef d) = 5

abbrev pub tagged : Item → List ℕ
tagged i = tag i ∷ text_of i

-- ---- the first item of a key

abbrev pub keyed : (Item → List ℕ) → List Item → Names Item
keyed key_of = map (λ i. (key_of i, i))

-- what is found of a key is the number of the first item with it
abbrev pub HasFirsts : (Item → List ℕ) → Names ℕ → List Item → Type 0
HasFirsts key_of numbers is = (key : List ℕ) → found numbers key ≡ number_in (keyed key_of is) key

-- so it is of the names, and of the directives with their names
pub record HasItems (k : Kept) : Type 0 where
  pub names : HasFirsts text_of k.names k.items
  pub tagged_names : HasFirsts tagged k.tagged_names k.items
