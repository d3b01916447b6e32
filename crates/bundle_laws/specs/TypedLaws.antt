-- Laws of demands on code: where they are met, the code is well typed.
use Rattle.std.specs.Prelude.{◌≡◌, ℕ, ◌+◌, ◌<◌, Bool, true, false, List, [], ◌∷◌, ◌++◌, Option, Some, None, IsSomeAnd, slice_get, length}
use Rattle.demands.specs.Demands.{AllMet}
use Rattle.ir_lex.specs.declared.name.Name.{Name}
use Rattle.ir_tree.specs.declared.operands.Operand.{Operand}
use Rattle.ir_tree.specs.declared.operands.Arguments.{Arguments}
use Rattle.ir_tree.specs.declared.operands.Destination.{Destination}
use Rattle.ir_tree.specs.declared.code.Op.{Op}
use Rattle.ir_tree.specs.declared.code.Inst.{Inst}
use Rattle.check_tables.specs.declared.fault.CheckKind.{CheckKind}
use Rattle.check_tables.specs.declared.tables.Tables.{Tables}
use Rattle.checked_code.specs.declared.code.Code.{Code}
use Rattle.checked_code.specs.declared.scopes.Locals.{Locals}
use Rattle.checked_code.specs.declared.scopes.Body.{Body}
use Rattle.checked_code.specs.Operands.{operand_demands, argument_demands, source_of, sources_of}
use Rattle.checked_code.specs.Destinations.{exceptional_demands, normal_demands, target_of}
use Rattle.checked_code.specs.Instructions.{no_locals, bound, op_demands, gives, form_of, inst_demands, inst_code, after, insts_demands, insts_code, after_all, ends}
use Rattle.bundle_laws.specs.Typed.{SourceFits, SourcesFit, Blocks, TargetFits, NormalFits, FormFits, CodeFits, CodesFit, CodeAt, EndsAtLast, BlockFits, code_ends, joined, LocalsFit, BodyFits, TablesFit}

-- the class that is wanted of an operand is there, and the operand has it
abbrev pub OperandsFit : Type 0
OperandsFit = (p : Tables) (ls : Locals) (kind : CheckKind) (o : Operand) (wanted : Option ℕ) → LocalsFit ls →
    AllMet (operand_demands p ls kind o wanted) → IsSomeAnd wanted (λ c. SourceFits p ls.classes (source_of p ls o) c)

-- the classes that are wanted of arguments are there, and the arguments have them
abbrev pub ArgumentsFit : Type 0
ArgumentsFit = (p : Tables) (ls : Locals) (a : Arguments) (wanted : Option (List ℕ)) → LocalsFit ls →
    AllMet (argument_demands p ls a wanted) → IsSomeAnd wanted (λ cs. SourcesFit p ls.classes (sources_of p ls a.values) cs)

-- destinations fit: those of exceptions, and all others
abbrev pub DestinationsFit : Type 0
DestinationsFit = (p : Tables) (blocks : Blocks) (f : Body) (ls : Locals) (d : Destination) → BodyFits blocks f → LocalsFit ls →
    (AllMet (exceptional_demands p f ls d) → TargetFits p blocks ls.classes (target_of p f ls d))
    × (AllMet (normal_demands p f ls d) → NormalFits p blocks ls.classes (target_of p f ls d))

-- a block without variables is known, and so is one with one more, which has the class that it was given
abbrev pub NoLocalsFit : Type 0
NoLocalsFit = LocalsFit no_locals

abbrev pub BoundFits : Type 0
BoundFits = (ls : Locals) (n : Name) (c : ℕ) → LocalsFit ls → LocalsFit (bound ls n c)

-- the form of an instruction fits the variables before it, and gives what the instruction gives
abbrev pub FormsFit : Type 0
FormsFit = (p : Tables) (blocks : Blocks) (f : Body) (ls : Locals) (i : Op) → TablesFit p → BodyFits blocks f → LocalsFit ls →
    AllMet (op_demands p f ls i) → FormFits p blocks f.gives ls.classes (form_of p f ls i) (gives p i)

-- so does the instruction, with what stands behind its form
abbrev pub InstructionsFit : Type 0
InstructionsFit = (p : Tables) (blocks : Blocks) (f : Body) (ls : Locals) (ended : Bool) (i : Inst) → TablesFit p → BodyFits blocks f → LocalsFit ls →
    AllMet (inst_demands p f ls ended i) → CodeFits p blocks f.gives ls.classes (inst_code p f ls i) (gives p i.op)

-- the variables behind an instruction are those before it and its results
abbrev pub VariablesFit : Type 0
VariablesFit = (p : Tables) (f : Body) (ls : Locals) (ended : Bool) (i : Inst) → LocalsFit ls →
    AllMet (inst_demands p f ls ended i) → LocalsFit (after p ls i) × ((after p ls i).classes ≡ ls.classes ++ gives p i.op)

-- what each of some instructions gives: the classes of its results
abbrev pub all_gives : Tables → List Inst → List (List ℕ)
all_gives p [] = []
all_gives p (i ∷ is) = gives p i.op ∷ all_gives p is

-- each instruction of a list fits the variables before it, and those behind all of them are known
abbrev pub ListsFit : Type 0
ListsFit = (p : Tables) (blocks : Blocks) (f : Body) (ls : Locals) (ended : Bool) (is : List Inst) → TablesFit p → BodyFits blocks f → LocalsFit ls →
    AllMet (insts_demands p f ls ended is) →
    CodesFit p blocks f.gives ls.classes (insts_code p f ls is) (all_gives p is) × LocalsFit (after_all p ls is)
    × ((after_all p ls is).classes ≡ ls.classes ++ joined (all_gives p is))

-- a block that ends is well typed code: each instruction fits the variables before it, the last ends the block, and no other does
abbrev pub BlocksFit : Type 0
BlocksFit = (p : Tables) (blocks : Blocks) (f : Body) (ls : Locals) (is : List Inst) → TablesFit p → BodyFits blocks f → LocalsFit ls →
    AllMet (insts_demands p f ls false is) → ends false is ≡ true → BlockFits p blocks f.gives ls.classes (insts_code p f ls is)

-- the instruction at a place of well typed code fits the variables before it
abbrev pub FitsAtItsPlace : Type 0
FitsAtItsPlace = (p : Tables) (blocks : Blocks) (returns ks : List ℕ) (is : List Code) (gss : List (List ℕ)) (at : ℕ) (i : Code) →
    CodesFit p blocks returns ks is gss → slice_get is at ≡ Some i → CodeAt p blocks returns ks gss at i

-- behind one that does not end its block there is another one
abbrev pub GoesOn : Type 0
GoesOn = (is : List Code) (at : ℕ) (i : Code) → EndsAtLast is → slice_get is at ≡ Some i → code_ends i ≡ false → at + 1 < length is

-- an instruction that ends its block, and is not told where it goes on with its results, gives nothing
abbrev pub EndingsGiveNothing : Type 0
EndingsGiveNothing = (p : Tables) (blocks : Blocks) (returns ks gs : List ℕ) (i : Code) → CodeFits p blocks returns ks i gs → code_ends i ≡ true → i.normal ≡ None → gs ≡ []
