-- What the worked examples are written with.
use Rattle.std.specs.Prelude.{ℕ, false, List, [], ◌∷◌, Option, Some, codes}
use Rattle.demands.specs.declared.fault.Fault.{Fault}
use Rattle.demands.specs.declared.fault.Fault.TheVariants.{At}
use Rattle.demands.specs.Demands.{first_unmet}
use Rattle.ir_lex.specs.declared.name.Name.{Name}
use Rattle.ir_lex.specs.declared.name.Numeral.{Numeral}
use Rattle.ir_tree.specs.declared.definitions.TypeForm.TheVariants as types
use Rattle.ir_tree.specs.declared.definitions.Literal.TheVariants as literals
use Rattle.ir_tree.specs.declared.items.Item.{Item}
use Rattle.ir_tree.specs.declared.items.Item.TheVariants as items
use Rattle.client_script.specs.declared.fault.ScriptKind.{ScriptKind}
use Rattle.client_script.specs.Texts.{script_demands}

abbrev pub named : List ℕ → Name
named text = record { place = 0; text = text }

abbrev pub plain_number : ℕ → Numeral
plain_number n = record { place = 0; number = record { negative = false; magnitude = n } }

-- .typedef @i64 = int<64> .typedef @st = stackref .typedef @ii = iref<@i64> .typedef @fr = funcref<@m> .funcsig @m = () -> ()
-- .const @k <@i64> = 7 .global @g <@i64> .funcdecl @f <@m>
abbrev pub sample : List Item
sample =
    items.Typedef (record { place = 0; name = named (codes "@i64"); form = types.Int (plain_number 64) })
    ∷ items.Typedef (record { place = 0; name = named (codes "@st"); form = types.Stackref })
    ∷ items.Typedef (record { place = 0; name = named (codes "@ii"); form = types.Iref (named (codes "@i64")) })
    ∷ items.Typedef (record { place = 0; name = named (codes "@fr"); form = types.Funcref (named (codes "@m")) })
    ∷ items.Funcsig (record { place = 0; name = named (codes "@m"); takes = []; gives = [] })
    ∷ items.Const (record { place = 0; name = named (codes "@k"); of_type = named (codes "@i64"); literal = literals.Number (plain_number 7) })
    ∷ items.GlobalCell (record { place = 0; name = named (codes "@g"); of_type = named (codes "@i64") })
    ∷ items.Funcdecl (record { place = 0; name = named (codes "@f"); signature = named (codes "@m") })
    ∷ []

-- the first fault of a text
abbrev pub text_fault : List ℕ → Option (Fault ScriptKind)
text_fault text = first_unmet (script_demands sample text)

abbrev pub stands : ScriptKind → ℕ → Option (Fault ScriptKind)
stands kind place = Some (At kind place)
