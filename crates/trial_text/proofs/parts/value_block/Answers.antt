use Rattle.std.proofs.Common.{◌≡◌, ℕ, List, ◌++◌, codes, decimal}
use Rattle.trial_text.specs.Trial.{next_text}
use Rattle.trial_text.proofs.Appended.{last_words, then_part, then_number}
use Rattle.trial_text.proofs.parts.value_block.Goals as goal

pub returns : goal.returns
returns c =
    let old : List ℕ = c.args.out.now.items in
    let number : List ℕ = decimal c.args.i in
    let first : List ℕ = codes "%b" ++ number in
    let second : List ℕ = first ++ codes " ( ) : %y = LOAD NOT_ATOMIC < @i64 > @d" ++ number in
    let third : List ℕ = second ++ codes " BRANCH " in
    let fourth : List ℕ = third ++ next_text c.args.n c.args.i in
    let a : c.numbered-2.new.out.items ≡ old ++ second = then_number old first (codes " ( ) : %y = LOAD NOT_ATOMIC < @i64 > @d") number _ _ c.in_ok-numbered-2.ensures c.in_ok-numbered.ensures in
    let b : c.extend_from_slice.new.self.items ≡ old ++ third = then_part old second (codes " BRANCH ") _ _ c.in_ok-extend_from_slice.ensures.items a in
    let d : c.next_text.new.out.items ≡ old ++ fourth = then_part old third (next_text c.args.n c.args.i) _ _ c.in_ok-next_text.ensures b in
    last_words _ old fourth (codes " ( ) ") _ _ c.extend_from_slice-2.ensures.items d
