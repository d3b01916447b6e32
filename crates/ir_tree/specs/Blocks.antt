-- What blocks are made of.
--
--   block   = L params? handler? : inst*
--   inst    = results? label? op
--   results = L = | ( L* ) =
use Rattle.std.specs.Prelude.{List, [], ◌∷◌, Option}
use Rattle.text_forms.specs.declared.symbol.Symbol.TheVariants as symbols
use Rattle.text_forms.specs.Forms.{Form, nothing, both, on, made, up_to, ◌▸◌, ◌◂◌}
use Rattle.ir_lex.specs.declared.name.Name.{Name}
use Rattle.ir_lex.specs.TokenForms.{mark}
use Rattle.ir_tree.specs.declared.code.Inst.{Inst}
use Rattle.ir_tree.specs.declared.code.Parameter.{Parameter}
use Rattle.ir_tree.specs.declared.code.BlockHead.{BlockHead}
use Rattle.ir_tree.specs.Lists.{optional, local, bracketed}
use Rattle.ir_tree.specs.Instructions.{labelled}

-- pair = < G > L
unfoldable pub pair : Form Parameter
pair = made (λ x. record { of_type = x.0; name = x.1 }) (both bracketed local)

-- params = ( pair* )
unfoldable pub params : Form (List Parameter)
params = mark symbols.Open ▸ up_to 256 (symbols.Close ∷ []) pair

-- handler = [ L ]
unfoldable pub handler : Form Name
handler = mark symbols.SquareOpen ▸ local ◂ mark symbols.SquareClose

-- params? handler? :
abbrev pub HeadRest : Type 0
HeadRest = List Parameter × Option Name

unfoldable pub head_rest : Form HeadRest
head_rest = both (on (symbols.Open ∷ []) params (nothing [])) (optional symbols.SquareOpen handler ◂ mark symbols.Colon)

-- L params? handler? :
abbrev pub head_of : Name → HeadRest → BlockHead
head_of n h = record { name = n; parameters = h.0; handler = h.1 }

unfoldable pub head : Form BlockHead
head = made (λ x. head_of x.0 x.1) (both local head_rest)

-- = label? op
unfoldable pub result : Form Inst
result = mark symbols.Equals ▸ labelled
