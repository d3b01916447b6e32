-- The law of joined bundles, proved.
use Rattle.std.proofs.Common.{◌≡◌, true, false, List, [], ◌∷◌, None, inl, inr, refl, subst, sym}
use Rattle.ir_tree.specs.declared.items.Item.{Item}
use Rattle.demands.specs.Demands.{Demands, none, demand, ◌⨾◌, AllMet, first_unmet}
use Rattle.demands.specs.Lemmas.Meeting.{all_met}
use Rattle.bundle_names.specs.Naming.{name_demands}
use Rattle.checked_code.specs.Checking.{check_demands}
use Rattle.ir_print.specs.Laws.{Alike}
use Rattle.join_laws.specs.Laws.{Accepted, AllAccepted, JoinedAreAccepted, PlacesAreNotSeen}
use Rattle.join_laws.proofs.Joining.{Among}
use Rattle.join_laws.proofs.Meets.{join_meets}
use Rattle.join_laws.proofs.BareItems.{names_met, checks_met}

-- where all demands are met, none is the first that is not
none_unmet : {K : Type 0} (ds : Demands K) → AllMet ds → first_unmet ds ≡ None
none_unmet none m = refl
none_unmet (demand place kind true) m = refl
none_unmet (demand place kind false) m = cc
none_unmet (a ⨾ b) m = rw (none_unmet a m.0, none_unmet b m.1) refl

each : (bundles : List (List Item)) → AllAccepted bundles → (b : List Item) → Among b bundles → Accepted b
each [] a b m = absurd m
each (c ∷ cs) a b (inl e) = subst (λ (x : List Item). Accepted x) (sym e) a.0
each (c ∷ cs) a b (inr m) = each cs a.1 b m

pub joined_are_accepted : JoinedAreAccepted
joined_are_accepted bundles j a h few =
    let met = join_meets bundles j (λ b m. all_met (name_demands b) (each bundles a b m).0) (λ b m. all_met (check_demands b) (each bundles a b m).1) h few in
    (none_unmet (name_demands j) met.0, none_unmet (check_demands j) met.1)

carried : (b c : List Item) → Alike b c → Accepted b → Accepted c
carried b c e a = (
  none_unmet (name_demands c) (names_met b c e (all_met (name_demands b) a.0)),
  none_unmet (check_demands c) (checks_met b c e (all_met (check_demands b) a.1)),
)

pub places_unseen : PlacesAreNotSeen
places_unseen b c e = (carried b c e, carried c b (sym e))
