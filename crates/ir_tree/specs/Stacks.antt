-- Instructions that ask the client, or that go from one stack to another. Each form gives the place of its word, too.
use Rattle.std.specs.Prelude.{ℕ, List, [], ◌∷◌, Option, ◌⊎◌}
use mathlib.Core.Logic.{inl, inr}
use Rattle.text_forms.specs.declared.symbol.Symbol.{Symbol}
use Rattle.text_forms.specs.declared.symbol.Symbol.TheVariants as symbols
use Rattle.text_forms.specs.Forms.{Form, both, on, made, ◌▸◌, ◌◂◌}
use Rattle.ir_lex.specs.declared.name.Name.{Name}
use Rattle.ir_lex.specs.TokenForms.{mark, numeral}
use Rattle.ir_tree.specs.declared.operands.Operand.{Operand}
use Rattle.ir_tree.specs.declared.operands.Destination.{Destination}
use Rattle.ir_tree.specs.declared.operands.ExceptionClause.{ExceptionClause}
use Rattle.ir_tree.specs.declared.operands.NewStackClause.{NewStackClause}
use Rattle.ir_tree.specs.declared.trapping.Trapping.{Trapping}
use Rattle.ir_tree.specs.declared.trapping.Trapping.TheVariants as trappings
use Rattle.ir_tree.specs.declared.switching.StackSwitch.{StackSwitch}
use Rattle.ir_tree.specs.declared.switching.StackSwitch.TheVariants as switches
use Rattle.ir_tree.specs.Lists.{optional, type_list, value, dest, exc, keep, new_stack_clause}

-- TRAP < T* > exc? keep?
unfoldable pub trap : Form (ℕ × Trapping)
trap =
    made (λ x. (x.0, trappings.Trap x.1.0 x.1.1.0 x.1.1.1))
    (both (mark symbols.Trap) (both type_list (both (optional symbols.Exc exc) (optional symbols.Keepalive keep))))

-- wpexc = WPEXC ( dest )
unfoldable pub wpexc : Form Destination
wpexc = mark symbols.Wpexc ▸ mark symbols.Open ▸ dest ◂ mark symbols.Close

-- WATCHPOINT n < T* > dest dest wpexc? keep?
unfoldable pub watchpoint : Form (ℕ × Trapping)
watchpoint =
    made (λ x. (x.0, trappings.Watchpoint x.1.0 x.1.1.0 x.1.1.1.0 x.1.1.1.1.0 x.1.1.1.1.1.0 x.1.1.1.1.1.1))
    (both (mark symbols.Watchpoint)
    (both numeral (both type_list (both dest (both dest (both (optional symbols.Wpexc wpexc) (optional symbols.Keepalive keep)))))))

-- WPBRANCH n dest dest
unfoldable pub wpbranch : Form (ℕ × Trapping)
wpbranch = made (λ x. (x.0, trappings.Wpbranch x.1.0 x.1.1.0 x.1.1.1)) (both (mark symbols.Wpbranch) (both numeral (both dest dest)))

abbrev pub trapping_words : List Symbol
trapping_words = symbols.Trap ∷ symbols.Watchpoint ∷ symbols.Wpbranch ∷ []

unfoldable pub trapping_form : Form (ℕ × Trapping)
trapping_form = on (symbols.Trap ∷ []) trap (on (symbols.Watchpoint ∷ []) watchpoint wpbranch)

-- RET_WITH < T* > new exc? keep?
abbrev pub Returning : Type 0
Returning = List Name × (NewStackClause × (Option ExceptionClause × Option (List Name)))

unfoldable pub returning : Form Returning
returning = mark symbols.RetWith ▸ both type_list (both new_stack_clause (both (optional symbols.Exc exc) (optional symbols.Keepalive keep)))

-- KILL_OLD new
unfoldable pub killing : Form NewStackClause
killing = mark symbols.KillOld ▸ new_stack_clause

-- SWAPSTACK s RET_WITH < T* > new exc? keep? | SWAPSTACK s KILL_OLD new
abbrev pub swap_of : Operand → Returning ⊎ NewStackClause → StackSwitch
swap_of s (inl r) = switches.SwapReturning s r.0 r.1.0 r.1.1.0 r.1.1.1
swap_of s (inr n) = switches.SwapKilling s n

unfoldable pub swapstack : Form (ℕ × StackSwitch)
swapstack =
    made (λ x. (x.0, swap_of x.1.0 x.1.1))
    (both (mark symbols.Swapstack) (both value (on (symbols.RetWith ∷ []) (made inl returning) (made inr killing))))

-- tl = THREADLOCAL ( value )
unfoldable pub threadlocal : Form Operand
threadlocal = mark symbols.Threadlocal ▸ mark symbols.Open ▸ value ◂ mark symbols.Close

-- NEWTHREAD s tl? new exc?
unfoldable pub newthread : Form (ℕ × StackSwitch)
newthread =
    made (λ x. (x.0, switches.Newthread x.1.0 x.1.1.0 x.1.1.1.0 x.1.1.1.1))
    (both (mark symbols.Newthread) (both value (both (optional symbols.Threadlocal threadlocal) (both new_stack_clause (optional symbols.Exc exc)))))

abbrev pub stack_words : List Symbol
stack_words = symbols.Swapstack ∷ symbols.Newthread ∷ []

unfoldable pub stack_switch : Form (ℕ × StackSwitch)
stack_switch = on (symbols.Swapstack ∷ []) swapstack newthread
