-- Demands without their places: the same kinds, met or not as before.
use Rattle.std.proofs.Common.{◌≡◌, refl, ap₂}
use Rattle.demands.specs.Demands.{Demands, none, demand, ◌⨾◌, AllMet, as_kind}

-- the same demands, each at place 0
abbrev pub nowhere : {K : Type 0} → Demands K → Demands K
nowhere none = none
nowhere (demand place kind met) = demand 0 kind met
nowhere (a ⨾ b) = nowhere a ⨾ nowhere b

-- they are met where the others are
pub nowhere_met : {K : Type 0} (ds : Demands K) → AllMet ds → AllMet (nowhere ds)
nowhere_met none m = tt
nowhere_met (demand place kind met) m = m
nowhere_met (a ⨾ b) m = (nowhere_met a m.0, nowhere_met b m.1)

pub met_nowhere : {K : Type 0} (ds : Demands K) → AllMet (nowhere ds) → AllMet ds
met_nowhere none m = tt
met_nowhere (demand place kind met) m = m
met_nowhere (a ⨾ b) m = (met_nowhere a m.0, met_nowhere b m.1)

pub nowhere_again : {K : Type 0} (ds : Demands K) → nowhere (nowhere ds) ≡ nowhere ds
nowhere_again none = refl
nowhere_again (demand place kind met) = refl
nowhere_again (a ⨾ b) = ap₂ (λ x y. x ⨾ y) (nowhere_again a) (nowhere_again b)

pub nowhere_kind : {K L : Type 0} (f : K → L) (ds : Demands K) → nowhere (as_kind f ds) ≡ as_kind f (nowhere ds)
nowhere_kind f none = refl
nowhere_kind f (demand place kind met) = refl
nowhere_kind f (a ⨾ b) = ap₂ (λ x y. x ⨾ y) (nowhere_kind f a) (nowhere_kind f b)
