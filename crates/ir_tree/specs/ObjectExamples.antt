-- Worked examples. Instructions that make objects and find places in them.
use Rattle.std.specs.Prelude.{◌≡◌, refl, [], None, Ok, codes}
use Rattle.text_forms.specs.Reading.{elements}
use Rattle.ir_lex.specs.WordTable.{words, directives, common_names}
use Rattle.ir_lex.specs.Scanner.{gap_len, next_of}
use Rattle.ir_lex.specs.Walk.{tokens_within, tokens_from}
use Rattle.ir_lex.specs.TokenForms.{mark, name, numeral}
use Rattle.ir_tree.specs.declared.allocating.Allocation.TheVariants as allocations
use Rattle.ir_tree.specs.declared.addressing.Addressing.TheVariants as addressings
use Rattle.ir_tree.specs.declared.code.Op.TheVariants as ops
use Rattle.ir_tree.specs.Lists.{global, local, bracketed, bracketed_pair, value, values, dest, exc}
use Rattle.ir_tree.specs.Computations.{bracketed_field}
use Rattle.ir_tree.specs.Objects.{new_object, newhybrid, alloca, allocation, getiref, getfieldiref, getelemiref, shiftiref, getvarpartiref, addressing_form}
use Rattle.ir_tree.specs.Instructions.{op}
use Rattle.ir_tree.specs.Samples.{named, plain, meaning, local_at, global_at, goes, exc_to}

objects_are_read :
    (meaning op (codes "NEW <@t> EXC (%n() %x())") ≡ Ok (0, ops.Allocation (allocations.New (named 5 (codes "@t")) (exc_to (goes 14 (codes "%n") 16 []) (goes 19 (codes "%x") 21 [])))))
    × (meaning op (codes "NEWHYBRID <@h @i> %n") ≡ Ok (0, ops.Allocation (allocations.Newhybrid (named 11 (codes "@h")) (named 14 (codes "@i")) (local_at 18 (codes "%n")) None)))
    × (meaning op (codes "ALLOCA <@t>") ≡ Ok (0, ops.Allocation (allocations.Alloca (named 8 (codes "@t")) None)))
    × (meaning op (codes "GETIREF <@t> %r") ≡ Ok (0, ops.Addressing (addressings.Getiref (named 9 (codes "@t")) (local_at 13 (codes "%r")))))
    × (meaning op (codes "GETFIELDIREF <@t 2> %p") ≡ Ok (0, ops.Addressing (addressings.Getfieldiref (named 14 (codes "@t")) (plain 17 2) (local_at 20 (codes "%p")))))
    × (meaning op (codes "GETELEMIREF <@t @i> %p %i") ≡ Ok (0, ops.Addressing (addressings.Getelemiref (named 13 (codes "@t")) (named 16 (codes "@i")) (local_at 20 (codes "%p")) (local_at 23 (codes "%i")))))
    × (meaning op (codes "SHIFTIREF <@t @i> %p @k") ≡ Ok (0, ops.Addressing (addressings.Shiftiref (named 11 (codes "@t")) (named 14 (codes "@i")) (local_at 18 (codes "%p")) (global_at 21 (codes "@k")))))
    × (meaning op (codes "GETVARPARTIREF <@h> %p") ≡ Ok (0, ops.Addressing (addressings.Getvarpartiref (named 16 (codes "@h")) (local_at 20 (codes "%p")))))
unfolding tokens_from tokens_within next_of gap_len words directives common_names elements mark name numeral global local bracketed bracketed_pair value values dest exc bracketed_field new_object newhybrid alloca allocation getiref getfieldiref getelemiref shiftiref getvarpartiref addressing_form op
objects_are_read = (refl, refl, refl, refl, refl, refl, refl, refl)
