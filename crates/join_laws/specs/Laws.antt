-- What holds of joined bundles.
use Rattle.std.specs.Prelude.{◌≡◌, ◌↔◌, ℕ, ◌+◌, ◌≤◌, List, [], ◌∷◌, None, Ok, true, length}
use Rattle.ir_tree.specs.declared.items.Item.{Item}
use Rattle.ir_tree.specs.declared.items.Item.TheVariants as items
use Rattle.check_tables.specs.declared.tables.Tables.{Tables}
use Rattle.demands.specs.Demands.{first_unmet}
use Rattle.check_tables.specs.Lookups.{leaves_named}
use Rattle.bundle_names.specs.Naming.{name_demands}
use Rattle.checked_code.specs.Checking.{bundle_tables, check_demands}
use Rattle.ir_tree.specs.declared.definitions.Typedef.{Typedef}
use Rattle.ir_tree.specs.declared.definitions.Funcsig.{Funcsig}
use Rattle.ir_tree.specs.declared.definitions.Const.{Const}
use Rattle.ir_tree.specs.declared.definitions.Funcdecl.{Funcdecl}
use Rattle.ir_print.specs.Items.{bundle_text}
use Rattle.ir_print.specs.Laws.{Reads, Alike}
use Rattle.ir_print.specs.Placeless.{bare_typedef, bare_funcsig, bare_constant, bare_funcdecl}
use Rattle.bundle_join.specs.Alike.{alike_types, alike_signatures, alike_constants, alike_declarations}
use Rattle.bundle_join.specs.Joined.{joined}

-- two items are alike exactly where they are equal once each place is 0
pub record AlikeAreEqualSaveForPlaces : Type 0 where
  pub types : (d e : Typedef) → (alike_types d e ≡ true) ↔ (bare_typedef d ≡ bare_typedef e)
  pub signatures : (d e : Funcsig) → (alike_signatures d e ≡ true) ↔ (bare_funcsig d ≡ bare_funcsig e)
  pub constants : (d e : Const) → (alike_constants d e ≡ true) ↔ (bare_constant d ≡ bare_constant e)
  pub declarations : (d e : Funcdecl) → (alike_declarations d e ≡ true) ↔ (bare_funcdecl d ≡ bare_funcdecl e)

-- the bundle meets all demands: checking answers Ok exactly for such a bundle
abbrev pub Accepted : List Item → Type 0
Accepted b = (first_unmet (name_demands b) ≡ None) × (first_unmet (check_demands b) ≡ None)

-- each of the bundles meets all demands by itself
abbrev pub AllAccepted : List (List Item) → Type 0
AllAccepted [] = Unit {0}
AllAccepted (b ∷ bs) = Accepted b × AllAccepted bs

-- how many leaves the globals of a bundle have together
abbrev pub leaves_of_globals : Tables → List Item → ℕ
leaves_of_globals p [] = 0
leaves_of_globals p (items.GlobalCell d ∷ is) = length (leaves_named p d.of_type) + leaves_of_globals p is
leaves_of_globals p (_ ∷ is) = leaves_of_globals p is

-- where each bundle meets all demands by itself, and the globals of the joined bundle have at most 65,536 leaves together, the joined
-- bundle meets all demands
abbrev pub JoinedAreAccepted : Type 0
JoinedAreAccepted = (bundles : List (List Item)) (j : List Item) → AllAccepted bundles → joined bundles ≡ Ok j → leaves_of_globals (bundle_tables j) j ≤ 65536 → Accepted j

-- ---- the joined text

-- bundles that are equal save for places meet all demands or do not, alike
abbrev pub PlacesAreNotSeen : Type 0
PlacesAreNotSeen = (b c : List Item) → Alike b c → Accepted b ↔ Accepted c

-- each bundle is what a text means
abbrev pub AreTexts : List (List Item) → Type 0
AreTexts [] = Unit {0}
AreTexts (b ∷ bs) = ((text : List ℕ) × Reads text b) × AreTexts bs

-- the canonical text of the joined bundle of some texts means a bundle that is equal to the joined one save for places; so it meets all
-- demands exactly where the joined bundle does
abbrev pub JoinedTextsReadBack : Type 0
JoinedTextsReadBack = (bundles : List (List Item)) (j : List Item) → AreTexts bundles → joined bundles ≡ Ok j →
    (c : List Item) × Reads (bundle_text j) c × Alike j c × (Accepted j ↔ Accepted c)
