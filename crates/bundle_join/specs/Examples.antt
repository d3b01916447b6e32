-- Worked examples of joined bundles.
use Rattle.std.specs.Prelude.{◌≡◌, ℕ, ◌+◌, Bool, true, false, List, [], ◌∷◌, Ok, Err, codes, refl}
use Rattle.ir_lex.specs.declared.name.Name.{Name}
use Rattle.ir_lex.specs.declared.name.Numeral.{Numeral}
use Rattle.ir_tree.specs.declared.definitions.TypeForm.TheVariants as forms
use Rattle.ir_tree.specs.declared.definitions.Literal.TheVariants as literals
use Rattle.ir_tree.specs.declared.items.Item.{Item}
use Rattle.ir_tree.specs.declared.items.Item.TheVariants as items
use Rattle.bundle_join.specs.declared.fault.JoinKind.TheVariants.{Duplicate, OtherType, OtherSignature}
use Rattle.bundle_join.specs.declared.fault.JoinFault.TheVariants.{At}
use Rattle.bundle_join.specs.Joined.{joined}

abbrev named : ℕ → List ℕ → Name
named place text = record { place = place; text = text }

abbrev number : ℕ → Bool → ℕ → Numeral
number place negative magnitude = record { place = place; number = record { negative = negative; magnitude = magnitude } }

-- `.typedef @i = int<WIDTH>` with the directive at that place
abbrev int : ℕ → ℕ → Item
int place width = items.Typedef (record { place = place; name = named (place + 9) (codes "@i"); form = forms.Int (number (place + 18) false width) })

-- `.global NAME <@i>`
abbrev cell : ℕ → List ℕ → Item
cell place name = items.GlobalCell (record { place = place; name = named (place + 8) name; of_type = named (place + 12) (codes "@i") })

-- `.const @c <@i> = NUMBER`
abbrev constant : ℕ → Bool → ℕ → Item
constant place negative magnitude = items.Const (record { place = place; name = named (place + 7) (codes "@c"); of_type = named (place + 11) (codes "@i"); literal = literals.Number (number (place + 17) negative magnitude) })

-- `.funcsig NAME = () -> ()`
abbrev signature : ℕ → List ℕ → Item
signature place name = items.Funcsig (record { place = place; name = named (place + 9) name; takes = []; gives = [] })

-- `.funcdecl @f <NAME>`
abbrev declared : ℕ → List ℕ → Item
declared place name = items.Funcdecl (record { place = place; name = named (place + 10) (codes "@f"); signature = named (place + 14) name })

-- `.funcdef @f VERSION %v <NAME> { .. }`, whose blocks are never looked at
abbrev defined : ℕ → List ℕ → Item
defined place name = items.Funcdef (record { place = place; name = named (place + 9) (codes "@f"); version = named (place + 20) (codes "%v"); signature = named (place + 24) name; blocks = [] })

-- `.typedef @i = int<8> .global @g <@i>`
abbrev first : List Item
first = int 0 8 ∷ cell 21 (codes "@g") ∷ []

-- the type is said again, with its number in another spelling, and is left out
said_again : joined (first ∷ (int 0 8 ∷ cell 24 (codes "@h") ∷ []) ∷ []) ≡ Ok (int 0 8 ∷ cell 21 (codes "@g") ∷ cell 24 (codes "@h") ∷ [])
said_again = refl

-- `.typedef @i = int<16>`
another_type : joined (first ∷ (int 0 16 ∷ []) ∷ []) ≡ Err (At OtherType 1 9)
another_type = refl

-- `.global @g <@i>`: a global is never left out
defined_again : joined (first ∷ (cell 0 (codes "@g") ∷ []) ∷ []) ≡ Err (At Duplicate 1 8)
defined_again = refl

-- the constants -1 and 255 are not alike, though they are one value of int<8>
another_constant : joined ((int 0 8 ∷ constant 21 true 1 ∷ []) ∷ (constant 0 false 255 ∷ []) ∷ []) ≡ Err (At Duplicate 1 7)
another_constant = refl

-- `.funcsig @s = () -> () .funcdecl @f <@s>`, and `.funcsig @t = () -> () .funcdef @f VERSION %v <@t> { .. }`: signatures are compared by name
another_signature : joined ((signature 0 (codes "@s") ∷ declared 23 (codes "@s") ∷ []) ∷ (signature 0 (codes "@t") ∷ defined 23 (codes "@t") ∷ []) ∷ []) ≡ Err (At OtherSignature 1 47)
another_signature = refl

-- a declaration and a definition that name one signature are both kept, and what is declared once more is compared with the declaration
abbrev both : List Item
both = signature 0 (codes "@s") ∷ defined 23 (codes "@s") ∷ declared 0 (codes "@s") ∷ []

both_are_kept : joined ((signature 0 (codes "@s") ∷ defined 23 (codes "@s") ∷ []) ∷ (declared 0 (codes "@s") ∷ []) ∷ (declared 0 (codes "@s") ∷ []) ∷ []) ≡ Ok both
both_are_kept = refl

-- items of one bundle are not compared
of_one_bundle : joined ((int 0 8 ∷ int 21 16 ∷ []) ∷ []) ≡ Ok (int 0 8 ∷ int 21 16 ∷ [])
of_one_bundle = refl
