-- Worked examples. Instructions that say where the function goes on.
use Rattle.std.specs.Prelude.{◌≡◌, refl, [], ◌∷◌, Some, None, Ok, codes}
use Rattle.text_forms.specs.Reading.{elements}
use Rattle.ir_lex.specs.WordTable.{words, directives, common_names}
use Rattle.ir_lex.specs.Scanner.{gap_len, next_of}
use Rattle.ir_lex.specs.Walk.{tokens_within, tokens_from}
use Rattle.ir_lex.specs.TokenForms.{mark, name}
use Rattle.ir_tree.specs.declared.flow.ControlFlow.TheVariants as flows
use Rattle.ir_tree.specs.declared.code.Op.TheVariants as ops
use Rattle.ir_tree.specs.Lists.{global, local, bracketed, local_list, value, values, dest, exc, keep}
use Rattle.ir_tree.specs.Control.{branch, branch2, switch_case, switch, call, tailcall, ret, throw, control}
use Rattle.ir_tree.specs.Instructions.{op}
use Rattle.ir_tree.specs.Samples.{named, meaning, local_at, global_at, listed, goes, exc_to}

controls_are_read :
    (meaning op (codes "BRANCH %n(%a @b)") ≡ Ok (0, ops.ControlFlow (flows.Branch (goes 7 (codes "%n") 9 ((local_at 10 (codes "%a")) ∷ (global_at 13 (codes "@b")) ∷ [])))))
    × (meaning op (codes "BRANCH2 %c %n() %m()") ≡ Ok (0, ops.ControlFlow (flows.Branch2 (local_at 8 (codes "%c")) (goes 11 (codes "%n") 13 []) (goes 16 (codes "%m") 18 []))))
    × (meaning op (codes "SWITCH <@t> %a %d() { @k %n() @l %m(%a) }") ≡ Ok (0, ops.ControlFlow (flows.Switch (named 8 (codes "@t")) (local_at 12 (codes "%a")) (goes 15 (codes "%d") 17 []) (record { constant = (named 22 (codes "@k")); destination = (goes 25 (codes "%n") 27 []) } ∷ record { constant = (named 30 (codes "@l")); destination = (goes 33 (codes "%m") 35 ((local_at 36 (codes "%a")) ∷ [])) } ∷ []))))
    × (meaning op (codes "CALL <@s> @f (%a %b) EXC (%n() %x()) KEEPALIVE (%c)") ≡ Ok (0, ops.ControlFlow (flows.Call (named 6 (codes "@s")) (global_at 10 (codes "@f")) (listed 13 ((local_at 14 (codes "%a")) ∷ (local_at 17 (codes "%b")) ∷ [])) (exc_to (goes 26 (codes "%n") 28 []) (goes 31 (codes "%x") 33 [])) (Some ((named 48 (codes "%c")) ∷ [])))))
    × (meaning op (codes "CALL <@s> %f ()") ≡ Ok (0, ops.ControlFlow (flows.Call (named 6 (codes "@s")) (local_at 10 (codes "%f")) (listed 13 []) None None)))
    × (meaning op (codes "TAILCALL <@s> @f (%a)") ≡ Ok (0, ops.ControlFlow (flows.Tailcall (named 10 (codes "@s")) (global_at 14 (codes "@f")) (listed 17 ((local_at 18 (codes "%a")) ∷ [])))))
    × (meaning op (codes "RET (%a @b)") ≡ Ok (0, ops.ControlFlow (flows.Ret (listed 4 ((local_at 5 (codes "%a")) ∷ (global_at 8 (codes "@b")) ∷ [])))))
    × (meaning op (codes "RET @b") ≡ Ok (0, ops.ControlFlow (flows.Ret (listed 4 ((global_at 4 (codes "@b")) ∷ [])))))
    × (meaning op (codes "THROW %e") ≡ Ok (0, ops.ControlFlow (flows.Throw (local_at 6 (codes "%e")))))
unfolding tokens_from tokens_within next_of gap_len words directives common_names elements mark name global local bracketed local_list value values dest exc keep branch branch2 switch_case switch call tailcall ret throw control op
controls_are_read = (refl, refl, refl, refl, refl, refl, refl, refl, refl)
