-- The body of a function as it is read, line by line, against the body as the rules are written.
use Rattle.std.specs.Prelude.{◌≤◌, List, length, ◌↔◌}
use Rattle.std.specs.List.{All}
use Rattle.text_forms.specs.Tokens.{Tok}
use Rattle.text_forms.specs.Derives.{Derives}
use Rattle.ir_tree.specs.declared.code.Inst.{Inst}
use Rattle.ir_tree.specs.declared.code.Block.{Block}
use Rattle.ir_tree.specs.Bodies.{body}
use Rattle.ir_tree.specs.Written.{written_body}

-- the limits that the rules as written do not have: at most 256 results of an instruction, 4,096 instructions of a block and
-- 4,096 blocks
abbrev pub FitsInst : Inst → Type 0
FitsInst i = length i.results ≤ 256

abbrev pub FitsBlock : Block → Type 0
FitsBlock b = (length b.insts ≤ 4096) × All FitsInst b.insts

abbrev pub FitsBody : List Block → Type 0
FitsBody bs = (length bs ≤ 4096) × All FitsBlock bs

-- the two have the same texts with the same meanings, within the limits
abbrev pub BodyIsWritten : Type 0
BodyIsWritten = (ts : List Tok) (bs : List Block) → Derives body ts bs ↔ (Derives written_body ts bs × FitsBody bs)
