-- Worked examples. Instructions that compute a value from values.
use Rattle.std.specs.Prelude.{◌≡◌, refl, [], ◌∷◌, None, Ok, codes}
use Rattle.text_forms.specs.Reading.{elements}
use Rattle.ir_lex.specs.WordTable.{words, directives, common_names}
use Rattle.ir_lex.specs.Scanner.{gap_len, next_of}
use Rattle.ir_lex.specs.Walk.{tokens_within, tokens_from}
use Rattle.ir_lex.specs.TokenForms.{mark, name, numeral}
use Rattle.mu_base.specs.declared.operators.BinaryOp.TheVariants as binaries
use Rattle.mu_base.specs.declared.operators.CompareOp.TheVariants as comparisons
use Rattle.mu_base.specs.declared.operators.ConvertOp.TheVariants as conversions
use Rattle.ir_tree.specs.declared.computing.Computation.TheVariants as computations
use Rattle.ir_tree.specs.declared.code.Op.TheVariants as ops
use Rattle.ir_tree.specs.Lists.{global, local, bracketed, bracketed_pair, value, values, dest, exc}
use Rattle.ir_tree.specs.Computations.{binary, compare, convert, refcast, select, bracketed_field, extractvalue, insertvalue, computation}
use Rattle.ir_tree.specs.Instructions.{op}
use Rattle.ir_tree.specs.Samples.{named, plain, meaning, local_at, global_at, goes, exc_to}

computations_are_read :
    (meaning op (codes "ADD <@t> %a @b") ≡ Ok (0, ops.Computation (computations.Binary binaries.Add (named 5 (codes "@t")) (local_at 9 (codes "%a")) (global_at 12 (codes "@b")) None)))
    × (meaning op (codes "UREM <@t> %a %b EXC (%n(%c) %x())") ≡ Ok (0, ops.Computation (computations.Binary binaries.Urem (named 6 (codes "@t")) (local_at 10 (codes "%a")) (local_at 13 (codes "%b")) (exc_to (goes 21 (codes "%n") 23 ((local_at 24 (codes "%c")) ∷ [])) (goes 28 (codes "%x") 30 [])))))
    × (meaning op (codes "SGE <@t> %a %b") ≡ Ok (0, ops.Computation (computations.Compare comparisons.Sge (named 5 (codes "@t")) (local_at 9 (codes "%a")) (local_at 12 (codes "%b")))))
    × (meaning op (codes "ZEXT <@t @u> %a") ≡ Ok (0, ops.Computation (computations.Convert conversions.Zext (named 6 (codes "@t")) (named 9 (codes "@u")) (local_at 13 (codes "%a")))))
    × (meaning op (codes "REFCAST <@t @u> %a") ≡ Ok (0, ops.Computation (computations.Refcast (named 9 (codes "@t")) (named 12 (codes "@u")) (local_at 16 (codes "%a")))))
    × (meaning op (codes "SELECT <@c @t> %c %a %b") ≡ Ok (0, ops.Computation (computations.Select (named 8 (codes "@c")) (named 11 (codes "@t")) (local_at 15 (codes "%c")) (local_at 18 (codes "%a")) (local_at 21 (codes "%b")))))
    × (meaning op (codes "EXTRACTVALUE <@t 1> %a") ≡ Ok (0, ops.Computation (computations.Extractvalue (named 14 (codes "@t")) (plain 17 1) (local_at 20 (codes "%a")))))
    × (meaning op (codes "INSERTVALUE <@t 0x1f> %a %b") ≡ Ok (0, ops.Computation (computations.Insertvalue (named 13 (codes "@t")) (plain 16 31) (local_at 22 (codes "%a")) (local_at 25 (codes "%b")))))
unfolding tokens_from tokens_within next_of gap_len words directives common_names elements mark name numeral global local bracketed bracketed_pair value values dest exc binary compare convert refcast select bracketed_field extractvalue insertvalue computation op
computations_are_read = (refl, refl, refl, refl, refl, refl, refl, refl)
