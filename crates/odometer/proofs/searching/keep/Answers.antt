use Rattle.odometer.proofs.FoundLaws.{keeps_new}
use Rattle.odometer.proofs.searching.keep.Goals as goal

pub returns-in_ok-insert : goal.returns-in_ok-insert
returns-in_ok-insert c =
    keeps_new c.args.found.now c.insert.new.self c.in_ok-key.key c.in_ok-value.value c.args.text.now c.args.numbers.now c.in_ok-insert.ensures.updates (c.in_ok-key.ensures.items_if_clones_equal (λ x y e. e)) (c.in_ok-value.ensures.items_if_clones_equal (λ x y e. e))
