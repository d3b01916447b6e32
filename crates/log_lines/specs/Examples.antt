-- Worked examples: what texts are read as, and the first fault of others.
use Rattle.std.specs.Prelude.{◌≡◌, [], ◌∷◌, codes, Ok, Err, refl}
use Rattle.mu_base.specs.declared.order.Order.TheVariants.{NotAtomic, Acquire}
use Rattle.demands.specs.declared.fault.Fault.TheVariants.{At}
use Rattle.mu_values.specs.declared.scalars.Scalar.TheVariants.{Int, Func, Place, Stack, Thread, Null, Object}
use Rattle.mem_axioms.specs.declared.types.Mode.TheVariants.{Read}
use Rattle.mem_axioms.specs.declared.types.Kind.TheVariants.{NewThread, Access, Fence}
use Rattle.log_lines.specs.Fields.{cell, thread}
use Rattle.log_lines.specs.Values.{scalar}
use Rattle.log_lines.specs.Texts.{text_read, nothing_read}
use Rattle.log_lines.specs.declared.types.LogKind.TheVariants.{Lex, Unexpected, BadNumber}

-- ---- whole texts

-- a record and an ending between event lines; two functions, the first of which is used again
a_log : text_read (codes "0 t0 thread t1\nreturned t0 5\n1 t1 read NOT_ATOMIC #0+3 0 @f\n2 t0 read NOT_ATOMIC #0+4 0 @g.h\n3 t0 read NOT_ATOMIC #0+3 0 @f\n4 t0 read NOT_ATOMIC #1+0 0 7\ndone\n")
    ≡ Ok (record {
      log = record { thread = 0; kind = Access Read (record { object = 1; at = 0 }) NotAtomic 0 (Int 128 7) }
          ∷ record { thread = 0; kind = Access Read (record { object = 0; at = 3 }) NotAtomic 0 (Func 0) }
          ∷ record { thread = 0; kind = Access Read (record { object = 0; at = 4 }) NotAtomic 0 (Func 1) }
          ∷ record { thread = 1; kind = Access Read (record { object = 0; at = 3 }) NotAtomic 0 (Func 0) }
          ∷ record { thread = 0; kind = NewThread 1 } ∷ [];
      names = codes "@f" ∷ codes "@g.h" ∷ [];
    })
a_log = refl

empty : text_read [] ≡ Ok nothing_read
empty = refl

no_line_feed_at_the_end : text_read (codes "0 t0 fence ACQUIRE") ≡ Ok (record { log = record { thread = 0; kind = Fence Acquire } ∷ []; names = [] })
no_line_feed_at_the_end = refl

-- ---- faults

no_such_order : text_read (codes "0 t0 fence RELEASED") ≡ Err (At Unexpected 11)
no_such_order = refl

no_order_of_a_fence : text_read (codes "0 t0 fence RELAXED") ≡ Err (At Unexpected 11)
no_order_of_a_fence = refl

not_the_next_number : text_read (codes "1 t0 fence ACQUIRE") ≡ Err (At BadNumber 0)
not_the_next_number = refl

a_leading_zero : text_read (codes "00 t0 fence ACQUIRE") ≡ Err (At Unexpected 0)
a_leading_zero = refl

a_missing_field : text_read (codes "done\n0 t0 fence\n") ≡ Err (At Unexpected 15)
a_missing_field = refl

a_space_at_the_end : text_read (codes "0 t0 fence ACQUIRE ") ≡ Err (At Unexpected 19)
a_space_at_the_end = refl

two_spaces : text_read (codes "0  t0 fence ACQUIRE") ≡ Err (At Unexpected 2)
two_spaces = refl

-- an unprintable byte comes first, even after a field that is at fault
a_tab : text_read (codes "x\n01 t0 \tfence") ≡ Err (At Lex 8)
a_tab = refl

a_carriage_return : text_read (codes "0 t0 fence ACQUIRE\r\n") ≡ Err (At Lex 18)
a_carriage_return = refl

no_form_before_out_of_range : text_read (codes "0 t0 wake #99999999999+x 0") ≡ Err (At Unexpected 10)
no_form_before_out_of_range = refl

out_of_range : text_read (codes "0 t0 wake #99999999999+0 0") ≡ Err (At BadNumber 10)
out_of_range = refl

-- ---- fields

the_last_thread : thread (codes "t63") ≡ Ok 63
the_last_thread = refl

no_thread : thread (codes "t64") ≡ Err BadNumber
no_thread = refl

the_last_cell : cell (codes "#4294967295+4294967295") ≡ Ok (record { object = 4294967295; at = 4294967295 })
the_last_cell = refl

no_cell : cell (codes "#0+4294967296") ≡ Err BadNumber
no_cell = refl

the_last_value : scalar [] (codes "340282366920938463463374607431768211455") ≡ Ok (Int 128 340282366920938463463374607431768211455)
the_last_value = refl

no_value : scalar [] (codes "340282366920938463463374607431768211456") ≡ Err BadNumber
no_value = refl

other_values : (scalar [] (codes "NULL") ≡ Ok Null) × (scalar [] (codes "#7") ≡ Ok (Object 7)) × (scalar [] (codes "#7+0") ≡ Ok (Place 7 0)) × (scalar [] (codes "s2") ≡ Ok (Stack 2)) × (scalar [] (codes "t2") ≡ Ok (Thread 2))
other_values = (refl, refl, refl, refl, refl)

no_name : scalar [] (codes "@") ≡ Err Unexpected
no_name = refl
