-- Schedules and picks: computed.
use Rattle.std.specs.Prelude.{◌≡◌, ℕ, List, [], ◌∷◌, Some, None, codes, refl}
use Rattle.demands.specs.declared.fault.Fault.TheVariants.{At}
use Rattle.demands.specs.Demands.{first_unmet}
use Rattle.mu_threads.specs.declared.reading.ScheduleKind.TheVariants.{BadToken, NumberTooLarge}
use Rattle.mu_threads.specs.ScheduleTexts.{runs, schedule_demands, schedule_numbers}
use Rattle.mu_threads.specs.Picks.{pick}

-- ---- texts

-- a text whose runs are all numbers stands for these
abbrev Spells : List ℕ → List ℕ → Type 0
Spells text ns = (first_unmet (schedule_demands text) ≡ None) × (schedule_numbers text ≡ ns)

numbers_between_blanks : Spells (codes "0 1\t010\r\n4294967295") (0 ∷ 1 ∷ 10 ∷ 4294967295 ∷ [])
numbers_between_blanks = (refl, refl)

comment_ends_a_run : Spells (codes "12//x") (12 ∷ [])
comment_ends_a_run = (refl, refl)

comment_goes_to_its_line_feed : Spells (codes "//1 2\n3// 4\r5\n6") (3 ∷ 6 ∷ [])
comment_goes_to_its_line_feed = (refl, refl)

runs_have_places : runs (codes " 7  1/2//") ≡ record { place = 1; bytes = codes "7" } ∷ record { place = 4; bytes = codes "1/2" } ∷ []
runs_have_places = refl

letter_is_no_number : first_unmet (schedule_demands (codes "0 x")) ≡ Some (At BadToken 2)
letter_is_no_number = refl

sign_is_no_digit : first_unmet (schedule_demands (codes "+5")) ≡ Some (At BadToken 0)
sign_is_no_digit = refl

two_to_the_32_is_too_large : first_unmet (schedule_demands (codes "4294967296")) ≡ Some (At NumberTooLarge 0)
two_to_the_32_is_too_large = refl

first_fault_counts : first_unmet (schedule_demands (codes "1 4294967296 x")) ≡ Some (At NumberTooLarge 2)
first_fault_counts = refl

-- ---- picks

takes_the_next_modulo_n : pick 3 (7 ∷ 1 ∷ []) ≡ (1, 1 ∷ [])
takes_the_next_modulo_n = refl

one_option_takes_nothing : pick 1 (7 ∷ []) ≡ (0, 7 ∷ [])
one_option_takes_nothing = refl

spent_schedule_picks_0 : pick 2 [] ≡ (0, [])
spent_schedule_picks_0 = refl
