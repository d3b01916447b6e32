-- The first name or number of some tokens that is not good.
use Rattle.std.proofs.Common.{◌≡◌, ℕ, Bool, true, false, List, [], ◌∷◌, ◌++◌, Option, Some, None, refl, sym, ap, subst, ◌∙◌, append_assoc, inl, inr, arith}
use Rattle.std.specs.Prelude.{◌⊎◌, nat_lt}
use Rattle.std.proofs.lemmas.List.{append-nil}
use Rattle.conditions.specs.declared.before.Before.{Before}
use Rattle.text_forms.specs.declared.fault.Fault.{Fault}
use Rattle.text_forms.specs.Tokens.{Tok}
use Rattle.text_forms.specs.Forms.{Form}
use Rattle.text_forms.specs.Derives.{Derives}
use Rattle.text_forms.specs.Limits.{unlimited, Live}
use Rattle.text_forms.specs.First.{IsDead, IsPast}
use Rattle.text_forms.specs.Lemmas.Unlimited.{derives_unlimited}
use Rattle.demands.specs.declared.fault.Fault as unmet
use Rattle.demands.specs.Demands.{AllMet, first_unmet, or_else}
use Rattle.name_scopes.specs.Names.{Names}
use Rattle.demands.specs.Lemmas.Meeting.{all_met}
use Rattle.conditions.specs.declared.fault.ConditionKind.{ConditionKind}
use Rattle.conditions.specs.Demands.{token_demand, token_demands, after, after_all}
use Rattle.conditions.specs.Texts.{tokens_before}

-- `s` is what stands before them
pub record Unmet (names : Names ℕ) (s : Before) (ts : List Tok) (e : unmet.Fault ConditionKind) : Type 0 where
  pub before : List Tok
  pub here : Tok
  pub after : List Tok
  pub parts : ts ≡ before ++ here ∷ after
  pub good : AllMet (token_demands names s before)
  pub bad : first_unmet (token_demand names (after_all s before) here) ≡ Some e

unmet_later : (names : Names ℕ) (s : Before) (t : Tok) (ts : List Tok) (e : unmet.Fault ConditionKind) → first_unmet (token_demand names s t) ≡ None → Unmet names (after s t) ts e → Unmet names s (t ∷ ts) e
unmet_later names s t ts e met u =
    record { before = t ∷ u.before; here = u.here; after = u.after; parts = ap (λ (x : List Tok). t ∷ x) u.parts; good = (all_met (token_demand names s t) met, u.good); bad = u.bad }

unmet_by : (names : Names ℕ) (s : Before) (t : Tok) (ts : List Tok) (e : unmet.Fault ConditionKind) → (first_unmet (token_demands names (after s t) ts) ≡ Some e → Unmet names (after s t) ts e) → (d : Option (unmet.Fault ConditionKind)) → first_unmet (token_demand names s t) ≡ d
    → or_else d (first_unmet (token_demands names (after s t) ts)) ≡ Some e → Unmet names s (t ∷ ts) e
unmet_by names s t ts e later None met h = unmet_later names s t ts e met (later h)
unmet_by names s t ts e later (Some d) bad h = record { before = []; here = t; after = ts; parts = refl; good = tt; bad = bad ∙ h }

pub unmet_is : (names : Names ℕ) (s : Before) (ts : List Tok) (e : unmet.Fault ConditionKind) → first_unmet (token_demands names s ts) ≡ Some e → Unmet names s ts e
unmet_is names s [] e h = absurd cc
unmet_is names s (t ∷ ts) e h = unmet_by names s t ts e (unmet_is names (after s t) ts e) (first_unmet (token_demand names s t)) refl h

-- ---- fronts of live tokens are live

pub front_live : {A : Type 0} (f : Form A) (x y z : List Tok) → z ≡ x ++ y → Live f z → Live f x
front_live f x y z parts (more, a, d) = (y ++ more, a, subst (λ (ts : List Tok). Derives (unlimited f) ts a) (ap (λ (ts : List Tok). ts ++ more) parts ∙ append_assoc x y more) d)

pub derived_live : {A : Type 0} (f : Form A) (ts : List Tok) (a : A) → Derives f ts a → Live f ts
derived_live f ts a d = ([], a, subst (λ (us : List Tok). Derives (unlimited f) us a) (sym (append-nil ts)) (derives_unlimited f ts a d))

-- ---- the tokens before a fault

pub fault_place : {A : Type 0} (f : Form A) (before after : List Tok) (here : Tok) (e : Fault) → IsDead f before here e ⊎ IsPast f before here after e → e.place ≡ here.place
fault_place f before after here e (inl (dead, inl (is, full))) = ap (λ (x : Fault). x.place) is
fault_place f before after here e (inl (dead, inr (is, full))) = ap (λ (x : Fault). x.place) is
fault_place f before after here e (inr (lead, rest, parts, live, passes, is)) = ap (λ (x : Fault). x.place) is

-- a list split at the place of one of its tokens
pub record Front (place : ℕ) (ts before : List Tok) : Type 0 where
  pub rest : List Tok
  pub is : before ≡ tokens_before place ts ++ rest

front_by : (place : ℕ) (t : Tok) (before us : List Tok) → Front place us before → (b : Bool) → nat_lt t.place place ≡ b → Front place (t ∷ us) (t ∷ before)
front_by place t before us f true h = record { rest = f.rest; is = rw h (ap (λ (x : List Tok). t ∷ x) f.is) }
front_by place t before us f false h = record { rest = t ∷ before; is = rw h refl }

pub not_below : (n : ℕ) → nat_lt n n ≡ false
not_below n = grind arith

pub front_is : (place : ℕ) (before after : List Tok) (here : Tok) → place ≡ here.place → Front place (before ++ here ∷ after) before
front_is place [] after here same = record { rest = []; is = rw (same, not_below here.place) refl }
front_is place (t ∷ before) after here same = front_by place t before (before ++ here ∷ after) (front_is place before after here same) (nat_lt t.place place) refl
