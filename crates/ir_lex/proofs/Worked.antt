-- The worked examples.
use Rattle.std.proofs.Common.{ℕ, suc, List, [], ◌∷◌, length, refl, arith}
use Rattle.std.specs.Prelude.{codes}
use Rattle.ir_lex.specs.Numerals.{nought, decimal, octal, hexadecimal, plain, plus, minus}
use Rattle.ir_lex.specs.Examples.{Kinds, Gaps, Refused, Numbers}
use Rattle.ir_lex.specs.Scanner.{gap_len, next_of}
use Rattle.ir_lex.specs.Walk.{tokens_within}
use Rattle.ir_lex.specs.Lemmas.Lists.{LexesAs, lexed}

-- the tokens of a text
here : (text : List ℕ) → LexesAs text 0 (tokens_within (suc (length text)) text 0)
here text = lexed (length text) text 0 (omega arith)

pub kinds : Kinds
unfolding tokens_within next_of gap_len
kinds = (here (codes "@a-1.b %c_ $."), here (codes ".new_a9"), here (codes "SEQ_CST int<8>"), here (codes "(){}[]"), here (codes "=:&->"))

pub gaps : Gaps
unfolding tokens_within next_of gap_len
gaps = (here [], here (codes "12//x"), here (codes " // a \r b\n\t7"), here (codes "@a->"), here (codes "->-1"))

pub refused : Refused
unfolding tokens_within next_of gap_len
refused = (here (codes "@"), here (codes " .9"), here (codes "0x"), here (codes "a 09"), here (codes "1/2"), here (128 ∷ []), here (codes "+"), here (codes "- 1"), here (codes "-340282366920938463463374607431768211456"))

pub numbers : Numbers
numbers = (
  plain (codes "0") 0 nought,
  minus (codes "0") 0 nought,
  plain (codes "00") 0 (octal (codes "0") refl),
  minus (codes "1") 1 (decimal 49 [] refl refl),
  plus (codes "5") 5 (decimal 53 [] refl refl),
  plain (codes "120") 120 (decimal 49 (codes "20") refl refl),
  plain (codes "012") 10 (octal (codes "12") refl),
  minus (codes "0x1f") 31 (hexadecimal (codes "1f") refl),
  plain (codes "0xA0") 160 (hexadecimal (codes "A0") refl),
  plain (codes "340282366920938463463374607431768211455") 340282366920938463463374607431768211455 (decimal 51 (codes "40282366920938463463374607431768211455") refl refl),
  plain (codes "340282366920938463463374607431768211456") 340282366920938463463374607431768211456 (decimal 51 (codes "40282366920938463463374607431768211456") refl refl),
)
