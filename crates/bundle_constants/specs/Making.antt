-- Which values of constants are made. Internal: no public contract cites it.
use Rattle.std.specs.Prelude.{◌≡◌, ℕ, ◌<◌, Bool, true, false, List, length}
use Rattle.std.specs.List.{All, Contains}
use Rattle.type_definitions.specs.declared.definition.TypeDef.{TypeDef}
use Rattle.mu_values.specs.Constants.{value_at}
use Rattle.bundle_constants.specs.declared.making.Making.{Making}
use Rattle.checked_code.specs.declared.constants.Constant.{Constant}
use Rattle.checked_code.specs.ConstantMembers.{is_made, value_of}

-- the values of the constants that are made are theirs
pub record IsMaking (g : List TypeDef) (cs : List Constant) (m : Making) : Type 0 where
  pub count : length m.done.items ≡ length cs
  pub told : (n : ℕ) → is_made m.done.items n ≡ true → value_at m.made n ≡ value_of g cs n

-- the constants that are left: each that is not made is one of them
pub record AreLeft (many : ℕ) (done : List Bool) (left : List ℕ) : Type 0 where
  pub within : All (λ n. n < many) left
  pub covers : (n : ℕ) → n < many → is_made done n ≡ false → Contains left n
