use Rattle.std.proofs.Common.{◌≡◌, sym, ap, subst}
use Rattle.std.specs.Prelude.{is_ok}
use Rattle.ir_lex.specs.declared.token.Number.{Number}
use Rattle.ir_lex.specs.Numerals.{Means}
use Rattle.ir_lex.specs.Texts.{spelling_of}
use Rattle.ir_lex.specs.Lemmas.Meanings.{means_numeral, numeral_ok, one_number}
use Rattle.ir_lex.proofs.next.number.Goals as goal

pub number_of-requires : goal.number_of-requires
number_of-requires c = let n = c.requires.number in ap is_ok (means_numeral (spelling_of c.args.text.now c.args.token.now) n.0 n.1 n.2)

pub returns-clause-means : goal.returns-clause-means
returns-clause-means c =
    let spelling = spelling_of c.args.text.now c.args.token.now in
    let m = c.number_of.result.magnitude in
    subst (λ (n : Number). Means spelling n) (sym c.number_of.ensures.signed) (numeral_ok spelling m c.number_of.ensures.magnitude).0

pub returns-clause-only : goal.returns-clause-only
returns-clause-only c =
    let spelling = spelling_of c.args.text.now c.args.token.now in
    let m = c.number_of.result.magnitude in
    let signed = c.number_of.ensures.signed in
    λ n means. subst (λ (k : Number). n ≡ k) (sym signed) (one_number spelling m c.number_of.ensures.magnitude n means)
