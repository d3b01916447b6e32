-- Judging a text one token after the other.
use Rattle.std.proofs.Common.{◌≡◌, ℕ, Bool, true, false, List, [], ◌∷◌, length, Option, Some, None, Result, Ok, Err, not, refl, sym, ◌∙◌, ◌<◌, arith, inl, inr}
use Rattle.conditions.specs.declared.before.Before.{Before}
use Rattle.text_forms.specs.Tokens.{Tok, has, at, first, rest_of, last_symbols, is_last, goes_on_behind, IsText}
use Rattle.demands.specs.declared.fault.Fault.{Fault}
use Rattle.demands.specs.declared.fault.Fault.TheVariants as faults
use Rattle.demands.specs.Demands.{Demands, demand, ◌⨾◌, Meets, first_unmet}
use Rattle.name_scopes.specs.Names.{Names}
use Rattle.text_forms.specs.declared.symbol.Symbol.TheVariants as symbols
use Rattle.text_forms.specs.declared.fault.FaultKind.TheVariants as kinds
use Rattle.conditions.specs.declared.fault.ConditionKind.{ConditionKind}
use Rattle.conditions.specs.declared.fault.ConditionKind.TheVariants.{Text}
use Rattle.conditions.specs.Demands.{token_demand, token_demands, after, own_demand, number_follows}
use Rattle.conditions.specs.Judged.{is_before, judged_tokens}

-- what is judged from here on
abbrev pub from_here : Names ℕ → Before → Option ℕ → List Tok → Option (Fault ConditionKind)
from_here names before stop ts = first_unmet (token_demands names before (judged_tokens stop ts))

judged_more : (stop : Option ℕ) (t : Tok) (ts : List Tok) → is_before t.place stop ≡ true → judged_tokens stop (t ∷ ts) ≡ t ∷ judged_tokens stop ts
judged_more None t ts before = refl
judged_more (Some stop) t ts before = rw before refl

judged_nothing : (stop : Option ℕ) → judged_tokens stop [] ≡ []
judged_nothing None = refl
judged_nothing (Some stop) = refl

judged_none : (stop : Option ℕ) (t : Tok) (ts : List Tok) → is_before t.place stop ≡ false → judged_tokens stop (t ∷ ts) ≡ []
judged_none None t ts before = absurd cc
judged_none (Some stop) t ts before = rw before refl

-- a token that meets its demand
pub met_more : (names : Names ℕ) (before : Before) (stop : Option ℕ) (ts : List Tok) → goes_on_behind ts ≡ true → is_before (first ts).place stop ≡ true
    → first_unmet (token_demand names before (first ts)) ≡ None → from_here names (after before (first ts)) stop (rest_of ts) ≡ from_here names before stop ts
met_more names before stop [] on here met = absurd cc
met_more names before stop (t ∷ ts) on here met = rw (judged_more stop t ts here, met) refl

-- one that does not is the first
pub unmet_here : (names : Names ℕ) (before : Before) (stop : Option ℕ) (ts : List Tok) (f : Fault ConditionKind) → goes_on_behind ts ≡ true → is_before (first ts).place stop ≡ true
    → first_unmet (token_demand names before (first ts)) ≡ Some f → from_here names before stop ts ≡ Some f
unmet_here names before stop [] f on here unmet = absurd cc
unmet_here names before stop (t ∷ ts) f on here unmet = rw (judged_more stop t ts here, unmet) refl

-- behind the place nothing is judged
pub none_behind : (names : Names ℕ) (before : Before) (stop : Option ℕ) (ts : List Tok) → is_before (first ts).place stop ≡ false → from_here names before stop ts ≡ None
none_behind names before None ts here = absurd cc
none_behind names before (Some stop) [] here = refl
none_behind names before (Some stop) (t ∷ ts) here = rw here refl

-- ---- one token

ordinary : (ts : List Tok) → goes_on_behind ts ≡ true → is_last (first ts).symbol ≡ false
ordinary [] on = absurd cc
ordinary (t ∷ ts) on = unturned (is_last t.symbol) on
  where
    unturned : (b : Bool) → not b ≡ true → b ≡ false
    unturned true e = absurd cc
    unturned false e = refl

-- it does not follow what stands before it
pub not_followed : (names : Names ℕ) (before : Before) (ts : List Tok) → goes_on_behind ts ≡ true → number_follows before (has (symbols.Number ∷ []) (first ts).symbol) ≡ false
    → first_unmet (token_demand names before (first ts)) ≡ Some (faults.At (Text kinds.Unexpected) (first ts).place)
not_followed names before ts on bad = rw (ordinary ts on, bad) refl

-- it does
pub followed : (names : Names ℕ) (before : Before) (ts : List Tok) (r : Result (Unit {0}) (Fault ConditionKind)) → goes_on_behind ts ≡ true → number_follows before (has (symbols.Number ∷ []) (first ts).symbol) ≡ true
    → Meets (own_demand names before (first ts)) r → Meets (token_demand names before (first ts)) r
followed names before ts r on good met = rw (ordinary ts on) (behind_met (first ts).place (own_demand names before (first ts)) (number_follows before (has (symbols.Number ∷ []) (first ts).symbol)) good r met)
  where
    behind_met : (place : ℕ) (ds : Demands ConditionKind) (b : Bool) → b ≡ true → (r : Result (Unit {0}) (Fault ConditionKind)) → Meets ds r → Meets (demand place (Text kinds.Unexpected) b ⨾ ds) r
    behind_met place ds b e (Ok x) met = rw e met
    behind_met place ds b e (Err faults.Memory) met = tt
    behind_met place ds b e (Err (faults.At kind place')) met = rw e met

-- the rest of a text
pub text_behind : (ts : List Tok) → IsText ts → at last_symbols ts ≡ false → IsText (rest_of ts)
unfolding IsText
text_behind [] text off = text
text_behind (t ∷ ts) (inl (last, alone)) off = absurd cc
text_behind (t ∷ ts) (inr (off', rises, text)) off = text

pub goes_on_here : (ts : List Tok) → IsText ts → at last_symbols ts ≡ false → goes_on_behind ts ≡ true
unfolding IsText
goes_on_here [] text off = absurd text
goes_on_here (t ∷ ts) text off = rw off refl

-- the last token has no demand
last_is_judged : (names : Names ℕ) (before : Before) (stop : Option ℕ) (t : Tok) → has last_symbols t.symbol ≡ true → (b : Bool) → is_before t.place stop ≡ b → from_here names before stop (t ∷ []) ≡ None
last_is_judged names before stop t last true here = rw (judged_more stop t [] here, last, judged_nothing stop) refl
last_is_judged names before stop t last false here = rw (judged_none stop t [] here) refl

pub none_at_last : (names : Names ℕ) (before : Before) (stop : Option ℕ) (ts : List Tok) → IsText ts → at last_symbols ts ≡ true → from_here names before stop ts ≡ None
unfolding IsText
none_at_last names before stop [] text last = absurd text
none_at_last names before stop (t ∷ ts) (inl (is, alone)) last = rw alone (last_is_judged names before stop t last (is_before t.place stop) refl)
none_at_last names before stop (t ∷ ts) (inr (off, rises, text)) last = absurd cc

pub rest_shorter : (ts : List Tok) → goes_on_behind ts ≡ true → length (rest_of ts) < length ts
rest_shorter [] on = absurd cc
rest_shorter (t ∷ ts) on = omega arith

-- where a token is refused, so is the text
pub refused_here : (names : Names ℕ) (before : Before) (stop : Option ℕ) (ts : List Tok) (ds : Demands ConditionKind) (e : Fault ConditionKind) → goes_on_behind ts ≡ true → is_before (first ts).place stop ≡ true
    → Meets {A = Unit {0}} (token_demand names before (first ts)) (Err e) → from_here names before stop ts ≡ first_unmet ds → Meets {A = Unit {0}} ds (Err e)
refused_here names before stop ts ds faults.Memory on here unmet so = tt
refused_here names before stop ts ds (faults.At kind place) on here unmet so = sym so ∙ unmet_here names before stop ts (faults.At kind place) on here unmet
