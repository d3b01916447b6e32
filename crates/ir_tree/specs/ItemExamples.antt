-- Worked examples. Types, constants and items.
use Rattle.std.specs.Prelude.{◌≡◌, refl, [], ◌∷◌, None, Ok, codes}
use Rattle.text_forms.specs.Reading.{elements}
use Rattle.ir_lex.specs.WordTable.{words, directives, common_names}
use Rattle.ir_lex.specs.Scanner.{gap_len, next_of}
use Rattle.ir_lex.specs.Walk.{tokens_within, tokens_from}
use Rattle.ir_lex.specs.TokenForms.{mark, name, numeral}
use Rattle.ir_tree.specs.declared.flow.ControlFlow.TheVariants as flows
use Rattle.ir_tree.specs.declared.code.Op.TheVariants as ops
use Rattle.ir_tree.specs.declared.definitions.TypeForm.TheVariants as types
use Rattle.ir_tree.specs.declared.definitions.Literal.TheVariants as literals
use Rattle.ir_tree.specs.declared.items.Item.TheVariants as items
use Rattle.ir_tree.specs.Words.{order}
use Rattle.ir_tree.specs.Lists.{global, bracketed, local, bracketed_pair, global_list, local_list, type_list, value, values, dest, exc, keep, pass_values, throw_exc, new_stack_clause}
use Rattle.ir_tree.specs.Types.{int_type, some_types, struct_type, array_type, hybrid_type, type_form, literal}
use Rattle.ir_tree.specs.Computations.{binary, compare, convert, refcast, select, bracketed_field, extractvalue, insertvalue, computation}
use Rattle.ir_tree.specs.Control.{branch, branch2, switch_case, switch, call, tailcall, ret, throw, control}
use Rattle.ir_tree.specs.Objects.{new_object, newhybrid, alloca, allocation, getiref, getfieldiref, getelemiref, shiftiref, getvarpartiref, addressing_form}
use Rattle.ir_tree.specs.Accesses.{optional_order, load, store, weak, cmpxchg, atomicrmw, fence, access}
use Rattle.ir_tree.specs.Stacks.{trap, wpexc, watchpoint, wpbranch, trapping_form, returning, killing, swapstack, threadlocal, newthread, stack_switch}
use Rattle.ir_tree.specs.CommonForms.{one_value, two_values, three_values, new_stack, kill_stack, thread_exit, current_stack, set_threadlocal, get_threadlocal, futex_wait, futex_wake, futex_wait_timeout, common_inst}
use Rattle.ir_tree.specs.Instructions.{op, label, labelled}
use Rattle.ir_tree.specs.Blocks.{pair, params, handler, head_rest, head, result}
use Rattle.ir_tree.specs.Bodies.{results, more_results, body_rest, body}
use Rattle.ir_tree.specs.Items.{typedef, funcsig, constant, global_cell, funcdecl, funcdef, item}
use Rattle.ir_tree.specs.Samples.{named, plain, meaning, listed}

types_are_read :
    (meaning type_form (codes "int<64>") ≡ Ok (types.Int (plain 4 64)))
    × (meaning type_form (codes "struct<@a @b>") ≡ Ok (types.Struct ((named 7 (codes "@a")) ∷ (named 10 (codes "@b")) ∷ [])))
    × (meaning type_form (codes "array<@a 3>") ≡ Ok (types.Array (named 6 (codes "@a")) (plain 9 3)))
    × (meaning type_form (codes "hybrid<@a @b @c>") ≡ Ok (types.Hybrid ((named 7 (codes "@a")) ∷ (named 10 (codes "@b")) ∷ []) (named 13 (codes "@c"))))
    × (meaning type_form (codes "hybrid<@a>") ≡ Ok (types.Hybrid [] (named 7 (codes "@a"))))
    × (meaning type_form (codes "void") ≡ Ok (types.Void))
    × (meaning type_form (codes "ref<@a>") ≡ Ok (types.Ref (named 4 (codes "@a"))))
    × (meaning type_form (codes "iref<@a>") ≡ Ok (types.Iref (named 5 (codes "@a"))))
    × (meaning type_form (codes "funcref<@s>") ≡ Ok (types.Funcref (named 8 (codes "@s"))))
    × (meaning type_form (codes "stackref") ≡ Ok (types.Stackref))
    × (meaning type_form (codes "threadref") ≡ Ok (types.Threadref))
unfolding tokens_from tokens_within next_of gap_len words directives common_names elements mark name numeral global bracketed int_type some_types struct_type array_type hybrid_type type_form
types_are_read = (refl, refl, refl, refl, refl, refl, refl, refl, refl, refl, refl)

literals_are_read :
    (meaning literal (codes "0x10") ≡ Ok (literals.Number (plain 0 16)))
    × (meaning literal (codes "NULL") ≡ Ok (literals.Null 0))
    × (meaning literal (codes " { @a @b }") ≡ Ok (literals.Members 1 ((named 3 (codes "@a")) ∷ (named 6 (codes "@b")) ∷ [])))
    × (meaning literal (codes "{}") ≡ Ok (literals.Members 0 []))
unfolding tokens_from tokens_within next_of gap_len words directives common_names elements mark name numeral global literal
literals_are_read = (refl, refl, refl, refl)

items_are_read :
    (meaning item (codes ".typedef @uvm.futex.wake = void") ≡ Ok (items.Typedef (record { place = 0; name = (named 9 (codes "@uvm.futex.wake")); form = types.Void })))
    × (meaning item (codes ".funcsig @s = (@a @b) -> (@c)") ≡ Ok (items.Funcsig (record { place = 0; name = (named 9 (codes "@s")); takes = ((named 15 (codes "@a")) ∷ (named 18 (codes "@b")) ∷ []); gives = ((named 26 (codes "@c")) ∷ []) })))
    × (meaning item (codes ".const @k <@t> = 1") ≡ Ok (items.Const (record { place = 0; name = (named 7 (codes "@k")); of_type = (named 11 (codes "@t")); literal = literals.Number (plain 17 1) })))
    × (meaning item (codes ".global @g <@t>") ≡ Ok (items.GlobalCell (record { place = 0; name = (named 8 (codes "@g")); of_type = (named 12 (codes "@t")) })))
    × (meaning item (codes ".funcdecl @f <@s>") ≡ Ok (items.Funcdecl (record { place = 0; name = (named 10 (codes "@f")); signature = (named 14 (codes "@s")) })))
    × (meaning item (codes ".funcdef @f VERSION %v <@s> { %e(): RET () }") ≡ Ok (items.Funcdef (record { place = 0; name = (named 9 (codes "@f")); version = (named 20 (codes "%v")); signature = (named 24 (codes "@s")); blocks = record { head = record { name = (named 30 (codes "%e")); parameters = []; handler = None }; insts = record { place = 36; results = []; label = None; op = ops.ControlFlow (flows.Ret (listed 40 [])) } ∷ [] } ∷ [] })))
unfolding tokens_from tokens_within next_of gap_len words directives common_names elements mark name numeral order global local bracketed bracketed_pair global_list local_list type_list value values dest exc keep pass_values throw_exc new_stack_clause int_type some_types struct_type array_type hybrid_type type_form literal binary compare convert refcast select bracketed_field extractvalue insertvalue computation branch branch2 switch_case switch call tailcall ret throw control new_object newhybrid alloca allocation getiref getfieldiref getelemiref shiftiref getvarpartiref addressing_form optional_order load store weak cmpxchg atomicrmw fence access trap wpexc watchpoint wpbranch trapping_form returning killing swapstack threadlocal newthread stack_switch one_value two_values three_values new_stack kill_stack thread_exit current_stack set_threadlocal get_threadlocal futex_wait futex_wake futex_wait_timeout common_inst op label labelled pair params handler head_rest head result results more_results body_rest body typedef funcsig constant global_cell funcdecl funcdef item
items_are_read = (refl, refl, refl, refl, refl, refl)
