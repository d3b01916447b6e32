-- Demands that are met.
use Rattle.std.proofs.Common.{◌≡◌, ℕ, Bool, true, false, List, [], ◌∷◌, ◌++◌, Option, Some, None, if◌then◌else◌, refl, sym, ap}
use Rattle.demands.specs.declared.fault.Fault.{Fault}
use Rattle.demands.specs.declared.fault.Fault.TheVariants.{Memory, At}
use Rattle.demands.specs.Demands.{Demands, Demand, none, demand, ◌⨾◌, or_else, first_unmet, listed, first_of, AllMet, as_kind}
use Rattle.demands.specs.Laws.{StandsBehindMet, fault_as}

first_of-append : {K : Type 0} (a b : List (Demand K)) → first_of (a ++ b) ≡ or_else (first_of a) (first_of b)
first_of-append [] b = refl
first_of-append (d ∷ ds) b = elim d.met as (λ m. (if m then first_of (ds ++ b) else Some (At d.kind d.place)) ≡ or_else (if m then first_of ds else Some (At d.kind d.place)) (first_of b)) [ true ↦ first_of-append ds b | false ↦ refl ]

-- the first unmet is the first of the list
pub first_of_list : {K : Type 0} (ds : Demands K) → first_unmet ds ≡ first_of (listed ds)
first_of_list none = refl
first_of_list (demand place kind met) = refl
first_of_list (a ⨾ b) = rw (first_of_list a, first_of_list b) (sym (first_of-append (listed a) (listed b)))

-- where none is first, both sides are met
pub both_met : {F : Type 0} (a b : Option F) → or_else a b ≡ None → (a ≡ None) × (b ≡ None)
both_met None b h = (refl, h)
both_met (Some f) b h = cc

-- no first unmet one: all are met
pub all_met : {K : Type 0} (ds : Demands K) → first_unmet ds ≡ None → AllMet ds
all_met none h = tt
all_met (demand place kind true) h = refl
all_met (demand place kind false) h = cc
all_met (a ⨾ b) h = let both = both_met (first_unmet a) (first_unmet b) h in (all_met a both.0, all_met b both.1)

behind_one : {K : Type 0} (p : ℕ) (k : K) (m : Bool) (ds : List (Demand K)) (kind : K) (place : ℕ) → (first_of ds ≡ Some (At kind place) → StandsBehindMet ds kind place) →
    first_of (record { place = p; kind = k; met = m } ∷ ds) ≡ Some (At kind place) → StandsBehindMet (record { place = p; kind = k; met = m } ∷ ds) kind place
behind_one p k true ds kind place below h =
    let s = below h in
    record { before = record { place = p; kind = k; met = true } ∷ s.before; after = s.after; whole = ap (λ r. record { place = p; kind = k; met = true } ∷ r) s.whole; met = (refl, s.met) }
behind_one p k false ds kind place below h =
    let same : k ≡ kind = cc in
    let there : p ≡ place = cc in
    record { before = []; after = ds; whole = rw (same, there) refl; met = tt }

-- the first of a list stands behind those that are met
pub behind : {K : Type 0} (ds : List (Demand K)) (kind : K) (place : ℕ) → first_of ds ≡ Some (At kind place) → StandsBehindMet ds kind place
behind [] kind place h = cc
behind (d ∷ ds) kind place h = behind_one d.place d.kind d.met ds kind place (behind ds kind place) h

-- the first unmet one of demands of other kinds
or_else_as : {K L : Type 0} (f : K → L) (a b : Option (Fault K)) → or_else (fault_as f a) (fault_as f b) ≡ fault_as f (or_else a b)
or_else_as f None b = refl
or_else_as f (Some Memory) b = refl
or_else_as f (Some (At kind place)) b = refl

pub carried : {K L : Type 0} (f : K → L) (ds : Demands K) → first_unmet (as_kind f ds) ≡ fault_as f (first_unmet ds)
carried f none = refl
carried f (demand place kind true) = refl
carried f (demand place kind false) = refl
carried f (a ⨾ b) = rw (carried f a, carried f b) (or_else_as f (first_unmet a) (first_unmet b))
