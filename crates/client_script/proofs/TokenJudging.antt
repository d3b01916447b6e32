-- Judging a text one token after the other.
use Rattle.std.proofs.Common.{◌≡◌, ℕ, Bool, true, false, List, [], ◌∷◌, length, Option, Some, None, Err, refl, sym, ◌∙◌, ◌<◌, arith, inl, inr}
use Rattle.text_forms.specs.declared.symbol.Symbol.{Symbol}
use Rattle.text_forms.specs.declared.symbol.Symbol.TheVariants as symbols
use Rattle.text_forms.specs.Tokens.{Tok, has, symbol_ahead, at, first, rest_of, last_symbols, goes_on_behind, IsText}
use Rattle.demands.specs.declared.fault.Fault.{Fault}
use Rattle.demands.specs.declared.fault.Fault.TheVariants as faults
use Rattle.demands.specs.Demands.{Demands, Meets, first_unmet}
use Rattle.name_scopes.specs.Names.{Names}
use Rattle.ir_tree.specs.Lists.{globals}
use Rattle.bundle_names.specs.declared.globals.Sort.{Sort}
use Rattle.client_script.specs.declared.fault.ScriptKind.{ScriptKind}
use Rattle.client_script.specs.Demands.{token_demand, token_demands}
use Rattle.client_script.specs.Judged.{is_before, judged_tokens}

-- what is judged from here on
abbrev pub from_here : Names Sort → Symbol → Option ℕ → List Tok → Option (Fault ScriptKind)
from_here names before stop ts = first_unmet (token_demands names before (judged_tokens stop ts))

judged_more : (stop : Option ℕ) (t : Tok) (ts : List Tok) → is_before t.place stop ≡ true → judged_tokens stop (t ∷ ts) ≡ t ∷ judged_tokens stop ts
judged_more None t ts before = refl
judged_more (Some stop) t ts before = rw before refl

judged_nothing : (stop : Option ℕ) → judged_tokens stop [] ≡ []
judged_nothing None = refl
judged_nothing (Some stop) = refl

judged_none : (stop : Option ℕ) (t : Tok) (ts : List Tok) → is_before t.place stop ≡ false → judged_tokens stop (t ∷ ts) ≡ []
judged_none None t ts before = absurd cc
judged_none (Some stop) t ts before = rw before refl

-- a token that meets its demand
pub met_more : (names : Names Sort) (before : Symbol) (stop : Option ℕ) (ts : List Tok) → goes_on_behind ts ≡ true → is_before (first ts).place stop ≡ true
    → first_unmet (token_demand names before (first ts)) ≡ None → from_here names (first ts).symbol stop (rest_of ts) ≡ from_here names before stop ts
met_more names before stop [] on here met = absurd cc
met_more names before stop (t ∷ ts) on here met = rw (judged_more stop t ts here, met) refl

-- one that does not is the first
pub unmet_here : (names : Names Sort) (before : Symbol) (stop : Option ℕ) (ts : List Tok) (f : Fault ScriptKind) → goes_on_behind ts ≡ true → is_before (first ts).place stop ≡ true
    → first_unmet (token_demand names before (first ts)) ≡ Some f → from_here names before stop ts ≡ Some f
unmet_here names before stop [] f on here unmet = absurd cc
unmet_here names before stop (t ∷ ts) f on here unmet = rw (judged_more stop t ts here, unmet) refl

-- behind the place nothing is judged
pub none_behind : (names : Names Sort) (before : Symbol) (stop : Option ℕ) (ts : List Tok) → is_before (first ts).place stop ≡ false → from_here names before stop ts ≡ None
none_behind names before None ts here = absurd cc
none_behind names before (Some stop) [] here = refl
none_behind names before (Some stop) (t ∷ ts) here = rw here refl

-- the rest of a text
pub text_behind : (ts : List Tok) → IsText ts → at last_symbols ts ≡ false → IsText (rest_of ts)
unfolding IsText
text_behind [] text off = text
text_behind (t ∷ ts) (inl (last, alone)) off = absurd cc
text_behind (t ∷ ts) (inr (off', rises, text)) off = text

pub goes_on_here : (ts : List Tok) → IsText ts → at last_symbols ts ≡ false → goes_on_behind ts ≡ true
unfolding IsText
goes_on_here [] text off = absurd text
goes_on_here (t ∷ ts) text off = rw off refl

-- the last token has no demand
last_has_none : (s : Symbol) → has last_symbols s ≡ true → (has (symbols.Number ∷ []) s ≡ false) × (has globals s ≡ false)
last_has_none symbols.End e = (refl, refl)
last_has_none symbols.BadByte e = (refl, refl)
last_has_none symbols.BadName e = (refl, refl)
last_has_none symbols.NumberTooLarge e = (refl, refl)
last_has_none symbols.TooLong e = (refl, refl)
last_has_none _ e = absurd cc

last_is_judged : (names : Names Sort) (before : Symbol) (stop : Option ℕ) (t : Tok) → has last_symbols t.symbol ≡ true → (b : Bool) → is_before t.place stop ≡ b → from_here names before stop (t ∷ []) ≡ None
last_is_judged names before stop t last true here = let p = last_has_none t.symbol last in rw (judged_more stop t [] here, p.0, p.1, judged_nothing stop) refl
last_is_judged names before stop t last false here = rw (judged_none stop t [] here) refl

pub none_at_last : (names : Names Sort) (before : Symbol) (stop : Option ℕ) (ts : List Tok) → IsText ts → at last_symbols ts ≡ true → from_here names before stop ts ≡ None
unfolding IsText
none_at_last names before stop [] text last = absurd text
none_at_last names before stop (t ∷ ts) (inl (is, alone)) last = rw alone (last_is_judged names before stop t last (is_before t.place stop) refl)
none_at_last names before stop (t ∷ ts) (inr (off, rises, text)) last = absurd cc

pub rest_shorter : (ts : List Tok) → goes_on_behind ts ≡ true → length (rest_of ts) < length ts
rest_shorter [] on = absurd cc
rest_shorter (t ∷ ts) on = omega arith

pub symbol_is : (ts : List Tok) (s : Symbol) → symbol_ahead ts ≡ Some s → s ≡ (first ts).symbol
symbol_is [] s e = cc
symbol_is (t ∷ ts) s e = cc

-- where a token is refused, so is the text
pub refused_here : (names : Names Sort) (before : Symbol) (stop : Option ℕ) (ts : List Tok) (ds : Demands ScriptKind) (e : Fault ScriptKind) → goes_on_behind ts ≡ true → is_before (first ts).place stop ≡ true
    → Meets {A = Unit {0}} (token_demand names before (first ts)) (Err e) → from_here names before stop ts ≡ first_unmet ds → Meets {A = Unit {0}} ds (Err e)
refused_here names before stop ts ds faults.Memory on here unmet so = tt
refused_here names before stop ts ds (faults.At kind place) on here unmet so = sym so ∙ unmet_here names before stop ts (faults.At kind place) on here unmet
