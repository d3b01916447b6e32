-- An index of three accesses: number 2 at position 1, number 5 at position 3, number 9 at position 3.
use Rattle.std.specs.Prelude.{◌≡◌, List, [], ◌∷◌, Some, None}
use Rattle.std.proofs.Common.{refl}
use Rattle.write_history.specs.declared.access_index.Entry.{Entry}
use Rattle.write_history.specs.Indexes.{last_position, first_after}

abbrev three : List Entry
three = record { event = 9; position = 3 } ∷ record { event = 5; position = 3 } ∷ record { event = 2; position = 1 } ∷ []

-- the number itself counts for the last, and not for the first after it
last_at_5 : last_position 5 three ≡ Some 3
last_at_5 = refl

last_at_4 : last_position 4 three ≡ Some 1
last_at_4 = refl

last_at_1 : last_position 1 three ≡ None
last_at_1 = refl

first_after_5 : first_after 5 three ≡ Some 9
first_after_5 = refl

first_after_0 : first_after 0 three ≡ Some 2
first_after_0 = refl

first_after_9 : first_after 9 three ≡ None
first_after_9 = refl
