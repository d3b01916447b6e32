-- Worked examples. Instructions that read and write memory.
use Rattle.std.specs.Prelude.{◌≡◌, refl, true, false, [], None, Ok, codes}
use Rattle.text_forms.specs.Reading.{elements}
use Rattle.ir_lex.specs.WordTable.{words, directives, common_names}
use Rattle.ir_lex.specs.Scanner.{gap_len, next_of}
use Rattle.ir_lex.specs.Walk.{tokens_within, tokens_from}
use Rattle.ir_lex.specs.TokenForms.{mark, name}
use Rattle.mu_base.specs.declared.operators.UpdateOp.TheVariants as updates
use Rattle.mu_base.specs.declared.order.Order.TheVariants as orders
use Rattle.ir_tree.specs.declared.accessing.Access.TheVariants as accesses
use Rattle.ir_tree.specs.declared.code.Op.TheVariants as ops
use Rattle.ir_tree.specs.Words.{order}
use Rattle.ir_tree.specs.Lists.{global, local, bracketed, value, values, dest, exc}
use Rattle.ir_tree.specs.Accesses.{optional_order, load, store, weak, cmpxchg, atomicrmw, fence, access}
use Rattle.ir_tree.specs.Instructions.{op}
use Rattle.ir_tree.specs.Samples.{named, meaning, local_at, global_at, goes, exc_to}

accesses_are_read :
    (meaning op (codes "LOAD <@t> @g") ≡ Ok (0, ops.Access (accesses.Load (record { place = 0; order = orders.NotAtomic }) (named 6 (codes "@t")) (global_at 10 (codes "@g")) None)))
    × (meaning op (codes "LOAD ACQUIRE <@t> @g EXC (%n() %x())") ≡ Ok (0, ops.Access (accesses.Load (record { place = 5; order = orders.Acquire }) (named 14 (codes "@t")) (global_at 18 (codes "@g")) (exc_to (goes 26 (codes "%n") 28 []) (goes 31 (codes "%x") 33 [])))))
    × (meaning op (codes "STORE <@t> @g %a") ≡ Ok (0, ops.Access (accesses.Store (record { place = 0; order = orders.NotAtomic }) (named 7 (codes "@t")) (global_at 11 (codes "@g")) (local_at 14 (codes "%a")) None)))
    × (meaning op (codes "STORE CONSUME <@t> @g %a") ≡ Ok (0, ops.Access (accesses.Store (record { place = 6; order = orders.Consume }) (named 15 (codes "@t")) (global_at 19 (codes "@g")) (local_at 22 (codes "%a")) None)))
    × (meaning op (codes "CMPXCHG WEAK ACQ_REL RELAXED <@t> %p %e %d") ≡ Ok (0, ops.Access (accesses.Cmpxchg true (record { place = 13; order = orders.AcqRel }) (record { place = 21; order = orders.Relaxed }) (named 30 (codes "@t")) (local_at 34 (codes "%p")) (local_at 37 (codes "%e")) (local_at 40 (codes "%d")) None)))
    × (meaning op (codes "CMPXCHG SEQ_CST RELEASE <@t> %p %e %d") ≡ Ok (0, ops.Access (accesses.Cmpxchg false (record { place = 8; order = orders.SeqCst }) (record { place = 16; order = orders.Release }) (named 25 (codes "@t")) (local_at 29 (codes "%p")) (local_at 32 (codes "%e")) (local_at 35 (codes "%d")) None)))
    × (meaning op (codes "ATOMICRMW RELAXED UMAX <@t> %p %a") ≡ Ok (0, ops.Access (accesses.Atomicrmw (record { place = 10; order = orders.Relaxed }) updates.Umax (named 24 (codes "@t")) (local_at 28 (codes "%p")) (local_at 31 (codes "%a")) None)))
    × (meaning op (codes "FENCE SEQ_CST") ≡ Ok (0, ops.Access (accesses.Fence (record { place = 6; order = orders.SeqCst }))))
unfolding tokens_from tokens_within next_of gap_len words directives common_names elements mark name order global local bracketed value values dest exc optional_order load store weak cmpxchg atomicrmw fence access op
accesses_are_read = (refl, refl, refl, refl, refl, refl, refl, refl)
