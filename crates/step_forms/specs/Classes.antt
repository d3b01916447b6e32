-- Nothing that a reader believes of a run rests on this. It is where the classes that an act names, or asks a client for values
-- of, are those of types of the graph.
use Rattle.std.specs.Prelude.{◌≡◌, ℕ, ◌<◌, List, Some, length, slice_get}
use Rattle.std.specs.List.{All}
use Rattle.type_definitions.specs.declared.definition.TypeDef.{TypeDef}
use Rattle.checked_code.specs.declared.code.ComputationForm.{ComputationForm}
use Rattle.checked_code.specs.declared.code.ComputationForm.TheVariants as computing
use Rattle.checked_code.specs.declared.code.AllocationForm.{AllocationForm}
use Rattle.checked_code.specs.declared.code.AllocationForm.TheVariants as making
use Rattle.checked_code.specs.declared.code.AddressingForm.{AddressingForm}
use Rattle.checked_code.specs.declared.code.AddressingForm.TheVariants as finding
use Rattle.checked_code.specs.declared.code.TrappingForm.{TrappingForm}
use Rattle.checked_code.specs.declared.code.TrappingForm.TheVariants as asking
use Rattle.checked_code.specs.declared.code.Form.{Form}
use Rattle.checked_code.specs.declared.code.Form.TheVariants as forms
use Rattle.checked_code.specs.declared.code.Code.{Code}
use Rattle.checked_code.specs.declared.blocks.BlockCode.{BlockCode}
use Rattle.checked_code.specs.Checking.{bundle_tables, bundle_blocks}
use Rattle.model_numbers.specs.Laws.{OfAccepted}
use Rattle.step_forms.specs.declared.act.Act.{Act}
use Rattle.step_forms.specs.declared.act.Act.TheVariants as made
use Rattle.step_forms.specs.Asked.{Lists}
use Rattle.step_forms.specs.declared.way.Way.{Way}
use Rattle.step_forms.specs.declared.way.Way.TheVariants as ways

-- ---- of an act

abbrev pub class_of_way : Way → ℕ
class_of_way (ways.Field c n) = c
class_of_way (ways.Element c i) = c
class_of_way (ways.Shift c i) = c
class_of_way (ways.VarPart c) = c

abbrev pub AreThere : List TypeDef → List ℕ → Type 0
AreThere graph cs = All (λ c. c < length graph) cs

abbrev pub ActIsThere : List TypeDef → Lists → Act → Type 0
ActIsThere graph ls (made.Casts c s) = c < length graph
ActIsThere graph ls (made.Finds w s) = class_of_way w < length graph
ActIsThere graph ls (made.Makes c) = c < length graph
ActIsThere graph ls (made.MakesHybrid c n) = c < length graph
ActIsThere graph ls (made.MakesOwn c) = c < length graph
ActIsThere graph ls made.Traps = AreThere graph ls.waits
ActIsThere graph ls (made.Watches n block) = AreThere graph ls.waits
ActIsThere graph ls _ = Unit {0}

-- ---- of an instruction

abbrev pub ComputationIsThere : List TypeDef → ComputationForm → Type 0
ComputationIsThere graph (computing.Refcast c d a) = d < length graph
ComputationIsThere graph _ = Unit {0}

abbrev pub AllocationIsThere : List TypeDef → AllocationForm → Type 0
AllocationIsThere graph (making.New c) = c < length graph
AllocationIsThere graph (making.Newhybrid c d n) = c < length graph
AllocationIsThere graph (making.Alloca c) = c < length graph

-- GETIREF finds the place 0, whatever the class
abbrev pub AddressingIsThere : List TypeDef → AddressingForm → Type 0
AddressingIsThere graph (finding.Getiref c r) = Unit {0}
AddressingIsThere graph (finding.Getfieldiref c n l) = c < length graph
AddressingIsThere graph (finding.Getelemiref c d l x) = c < length graph
AddressingIsThere graph (finding.Shiftiref c d l x) = c < length graph
AddressingIsThere graph (finding.Getvarpartiref c l) = c < length graph

abbrev pub TrappingIsThere : List TypeDef → TrappingForm → Type 0
TrappingIsThere graph (asking.Trap cs) = AreThere graph cs
TrappingIsThere graph (asking.Watchpoint n cs t) = AreThere graph cs
TrappingIsThere graph (asking.Wpbranch n t u) = Unit {0}

abbrev pub FormIsThere : List TypeDef → Form → Type 0
FormIsThere graph (forms.Computation f) = ComputationIsThere graph f
FormIsThere graph (forms.Allocation f) = AllocationIsThere graph f
FormIsThere graph (forms.Addressing f) = AddressingIsThere graph f
FormIsThere graph (forms.Trapping f) = TrappingIsThere graph f
FormIsThere graph _ = Unit {0}

-- so it is of each instruction of a bundle that meets its demands
abbrev pub FormsAreThere : Type 0
FormsAreThere = OfAccepted (λ bundle. (block at : ℕ) (b : BlockCode) (code : Code) → slice_get (bundle_blocks bundle) block ≡ Some b → slice_get b.code at ≡ Some code →
    FormIsThere (bundle_tables bundle).types.definitions code.form)
