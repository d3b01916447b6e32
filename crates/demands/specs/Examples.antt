-- Worked examples.
use Rattle.std.specs.Prelude.{◌≡◌, ℕ, true, false, Some, None, refl}
use Rattle.demands.specs.declared.fault.Fault.TheVariants.{At}
use Rattle.demands.specs.Demands.{Demands, none, demand, ◌⨾◌, first_unmet, first_of, listed}

-- four demands with kinds 1 to 4, of which the second and the fourth are not met
abbrev four : Demands ℕ
four = (demand 10 1 true ⨾ demand 5 2 false) ⨾ none ⨾ demand 7 3 true ⨾ demand 0 4 false

second_is_first : first_unmet four ≡ Some (At 2 5)
second_is_first = refl

second_of_the_list : first_of (listed four) ≡ Some (At 2 5)
second_of_the_list = refl

none_is_first : first_unmet {K = ℕ} (demand 3 1 true ⨾ demand 2 2 true) ≡ None
none_is_first = refl
