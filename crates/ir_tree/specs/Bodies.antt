-- The body of a function as it is read: line by line. `Written` has it as the rules say it.
--
-- A local name begins an instruction where `=` follows and a block where `(`, `[` or `:` follows. Behind a common instruction
-- whose list of values may be left out, `( )` is that list, save where `=` follows: then the next instruction begins there.
use Rattle.std.specs.Prelude.{ℕ, suc, Bool, true, false, List, [], ◌∷◌, Option, Some, None, nat_le, ◌⊎◌}
use mathlib.Core.Logic.{inl, inr}
use Rattle.text_forms.specs.declared.symbol.Symbol.TheVariants as symbols
use Rattle.text_forms.specs.Forms.{Form, nothing, both, on, made, lines, within, up_to, up_to_from, three_flags, ◌▸◌}
use Rattle.ir_lex.specs.declared.name.Name.{Name}
use Rattle.ir_lex.specs.TokenForms.{mark}
use Rattle.ir_tree.specs.declared.code.Inst.{Inst}
use Rattle.ir_tree.specs.declared.code.BlockHead.{BlockHead}
use Rattle.ir_tree.specs.declared.code.Block.{Block}
use Rattle.ir_tree.specs.declared.code.Line.{Line}
use Rattle.ir_tree.specs.declared.code.Line.TheVariants as body_lines
use Rattle.ir_tree.specs.Lists.{local}
use Rattle.ir_tree.specs.Instructions.{labelled, with_results, leaves_out}
use Rattle.ir_tree.specs.Blocks.{HeadRest, head_rest, head_of, head, result}

-- ---- a line that begins with a local name

abbrev pub named_line : Name → Inst ⊎ HeadRest → Line
named_line n (inl i) = body_lines.Inst (with_results n.place (n ∷ []) i)
named_line n (inr h) = body_lines.Head (head_of n h)

abbrev pub named : Bool → Bool → Form Line
named full crowded =
    made (λ x. named_line x.0 x.1)
    (both local (on (symbols.Equals ∷ []) (made inl (within result full)) (made inr (within head_rest crowded))))

-- ---- a line that begins with (

-- ( L* ) = label? op
unfoldable pub results : Form Line
results =
    made (λ x. body_lines.Inst (with_results x.0 x.1.0 x.1.1))
    (both (mark symbols.Open) (both (up_to 256 (symbols.Close ∷ []) local) result))

-- the same behind its (, where at least one name stands
unfoldable pub more_results : Form (List Name × Inst)
more_results = made (λ x. (x.0 ∷ x.1.0, x.1.1)) (both local (both (up_to_from 1 256 (symbols.Close ∷ []) local) result))

abbrev pub opened_line : ℕ → Option (List Name × Inst) → Line
opened_line place None = body_lines.EmptyList
opened_line place (Some r) = body_lines.Inst (with_results place r.0 r.1)

abbrev pub opened : Bool → Bool → Form Line
opened full false = within results full
opened full true =
    made (λ x. opened_line x.0 x.1)
    (both (mark symbols.Open)
    (on (symbols.Close ∷ []) (mark symbols.Close ▸ on (symbols.Equals ∷ []) (made (λ i. Some ([], i)) (within result full)) (nothing None))
    (made Some (within more_results full))))

-- ---- all lines of a body

-- whether the block has all its instructions, the function all its blocks, and ( ) may still belong to the last instruction
abbrev pub line : Bool × Bool × Bool → Form Line
line (full, crowded, open_list) =
    on (symbols.Local ∷ []) (named full crowded)
    (on (symbols.Open ∷ []) (opened full open_list)
    (made body_lines.Inst (within labelled full)))

-- how many instructions the block has, how many blocks the function has, and whether ( ) may still belong to the last instruction
pub record Body : Type 0 where
  pub insts : ℕ
  pub blocks : ℕ
  pub open_list : Bool

abbrev pub step : Body → Line → Body
step b (body_lines.Inst i) = record b { insts = suc b.insts; open_list = leaves_out i.op }
step b (body_lines.Head h) = record { insts = 0; blocks = suc b.blocks; open_list = false }
step b body_lines.EmptyList = record b { open_list = false }

-- a block has at most 4,096 instructions, and a function at most 4,096 blocks
abbrev pub flags : Body → Bool × Bool × Bool
flags b = (nat_le 4096 b.insts, nat_le 4096 b.blocks, b.open_list)

-- the first head is read
abbrev pub begun : Body
begun = record { insts = 0; blocks = 1; open_list = false }

unfoldable pub body_rest : Form (List Line × ℕ)
body_rest = lines three_flags flags step line (symbols.BraceClose ∷ []) (mark symbols.BraceClose) begun

-- ---- what lines mean

-- the instructions before the first head, and the blocks from there on
abbrev pub parted : List Line → List Inst × List Block
parted [] = ([], [])
parted (body_lines.Inst i ∷ ls) = (i ∷ (parted ls).0, (parted ls).1)
parted (body_lines.Head h ∷ ls) = ([], record { head = h; insts = (parted ls).0 } ∷ (parted ls).1)
parted (body_lines.EmptyList ∷ ls) = parted ls

abbrev pub blocks_of : BlockHead → List Line → List Block
blocks_of h ls = record { head = h; insts = (parted ls).0 } ∷ (parted ls).1

-- { block block* }
unfoldable pub body : Form (List Block)
body = made (λ x. blocks_of x.0 x.1.0) (mark symbols.BraceOpen ▸ both head body_rest)
