-- Names that are found by number: where in the list of definitions each stands.
use Rattle.std.specs.Prelude.{◌≡◌, ℕ, suc, List, [], ◌∷◌, Option, Some, None, if◌then◌else◌}
use Rattle.std.specs.Option.{option_map}
use Rattle.std.specs.Str.{bytes_eq}
use Rattle.std.specs.Global.{Vec}
use Rattle.std.specs.BTreeMap.{BTreeMap}
use Rattle.std.specs.Map.{lookup}
use Rattle.std.specs.Ordering.{is_eq, nat_cmp}
use Rattle.std.specs.Cmp.Lexicographic.{slice_cmp}
use Rattle.name_scopes.specs.Names.{Names}

-- where the first definition of the name stands
abbrev pub number_in : {T : Type 0} → Names T → List ℕ → Option ℕ
number_in [] name = None
number_in (e ∷ es) name = if bytes_eq name e.0 then Some 0 else option_map suc (number_in es name)

-- the number of a name in a map
abbrev pub number_at : BTreeMap (Vec ℕ) ℕ → List ℕ → Option ℕ
number_at m name = lookup (λ k. is_eq (slice_cmp nat_cmp name k.items)) m.entries

-- the map has the number of each name that is defined, and no other
abbrev pub IsNumbered : {T : Type 0} → BTreeMap (Vec ℕ) ℕ → Names T → Type 0
IsNumbered m es = (name : List ℕ) → number_at m name ≡ number_in es name
