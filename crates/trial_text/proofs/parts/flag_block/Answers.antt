use Rattle.std.proofs.Common.{◌≡◌, ℕ, List, ◌++◌, codes, decimal}
use Rattle.trial_text.proofs.Appended.{last_words, then_number}
use Rattle.trial_text.proofs.parts.flag_block.Goals as goal

pub returns : goal.returns
returns c =
    let old : List ℕ = c.args.out.now.items in
    let number : List ℕ = decimal c.args.i in
    let first : List ℕ = codes "%a" ++ number in
    let second : List ℕ = first ++ codes " ( ) : %x = LOAD ACQUIRE < @i1 > @f" ++ number in
    let third : List ℕ = second ++ codes " BRANCH2 %x %b" ++ number in
    let a : c.numbered-2.new.out.items ≡ old ++ second = then_number old first (codes " ( ) : %x = LOAD ACQUIRE < @i1 > @f") number _ _ c.in_ok-numbered-2.ensures c.in_ok-numbered.ensures in
    let b : c.numbered-3.new.out.items ≡ old ++ third = then_number old second (codes " BRANCH2 %x %b") number _ _ c.in_ok-numbered-3.ensures a in
    last_words _ old third (codes " ( ) %z ( ) ") _ _ c.extend_from_slice.ensures.items b
