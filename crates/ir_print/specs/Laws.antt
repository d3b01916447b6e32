-- What holds of the canonical text.
use Rattle.std.specs.Prelude.{◌≡◌, ◌≤◌, ℕ, List, [], ◌∷◌, ◌++◌, length}
use Rattle.text_forms.specs.Derives.{Derives}
use Rattle.ir_lex.specs.Walk.{tokens_from}
use Rattle.ir_tree.specs.declared.items.Item.{Item}
use Rattle.ir_tree.specs.Items.{bundle}
use Rattle.ir_print.specs.Items.{bundle_text}
use Rattle.ir_print.specs.Placeless.{bare_bundle}

-- the tokens of the text mean the bundle
abbrev pub Reads : List ℕ → List Item → Type 0
Reads text b = Derives bundle (tokens_from text 0) b

-- the two are the same save for places
abbrev pub Alike : List Item → List Item → Type 0
Alike b c = bare_bundle b ≡ bare_bundle c

-- of each bundle that some text means, the canonical text means a bundle
abbrev pub ReadsBack : Type 0
ReadsBack = (text : List ℕ) (b : List Item) → Reads text b → (c : List Item) × Reads (bundle_text b) c × Alike b c

-- and no other one
abbrev pub ReadsBackOnly : Type 0
ReadsBackOnly = (text : List ℕ) (b c : List Item) → Reads text b → Reads (bundle_text b) c → Alike b c

-- the item stands in a bundle that some text means
abbrev pub IsRead : Item → Type 0
IsRead x = (text : List ℕ) × (front : List Item) × (back : List Item) × Reads text (front ++ x ∷ back)

abbrev pub AllRead : List Item → Type 0
AllRead [] = Unit {0}
AllRead (x ∷ xs) = IsRead x × AllRead xs

-- the same of any items that stand in texts, each in its own, where they are no more than a bundle may have
abbrev pub ItemsReadBack : Type 0
ItemsReadBack = (b : List Item) → AllRead b → length b ≤ 16384 → (c : List Item) × Reads (bundle_text b) c × Alike b c
