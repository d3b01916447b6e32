use Rattle.std.proofs.Common.{◌≡◌, ℕ, List, ◌++◌, codes, decimal}
use Rattle.trial_text.proofs.Appended.{last_words, then_number}
use Rattle.trial_text.proofs.parts.cells_text.Goals as goal

pub returns : goal.returns
returns c =
    let old : List ℕ = c.args.out.now.items in
    let number : List ℕ = decimal c.args.i in
    let first : List ℕ = codes ".const @k" ++ number in
    let second : List ℕ = first ++ codes " < @i64 > = " ++ number in
    let third : List ℕ = second ++ codes " .global @d" ++ number in
    let fourth : List ℕ = third ++ codes " < @i64 > .global @f" ++ number in
    let a : c.numbered-2.new.out.items ≡ old ++ second = then_number old first (codes " < @i64 > = ") number _ _ c.in_ok-numbered-2.ensures c.in_ok-numbered.ensures in
    let b : c.numbered-3.new.out.items ≡ old ++ third = then_number old second (codes " .global @d") number _ _ c.in_ok-numbered-3.ensures a in
    let d : c.numbered-4.new.out.items ≡ old ++ fourth = then_number old third (codes " < @i64 > .global @f") number _ _ c.in_ok-numbered-4.ensures b in
    last_words _ old fourth (codes " < @i1 > ") _ _ c.extend_from_slice.ensures.items d
