-- The first fault of a text.
use Rattle.std.specs.Prelude.{◌≡◌, ◌≤◌, List, [], ◌∷◌, ◌++◌, length, ◌⊎◌}
use Rattle.text_forms.specs.declared.fault.Fault.{Fault}
use Rattle.text_forms.specs.Tokens.{Tok, fault_at, left_out_at, too_many_at}
use Rattle.text_forms.specs.Forms.{Form}
use Rattle.text_forms.specs.Limits.{Live, LiveInFull}
use Rattle.text_forms.specs.Passing.{Passes}

-- no text goes on so: the tokens up to and with this one are not live. The fault says so where this one is a word that the
-- profile leaves out here; a lexical fault has its own kind
abbrev pub IsDead : {A : Type 0} → Form A → List Tok → Tok → Fault → Type 0
IsDead f before here e =
    (Live f (before ++ here ∷ []) → ⊥)
    × (((e ≡ left_out_at here) × LiveInFull f (before ++ here ∷ [])) ⊎ ((e ≡ fault_at (here ∷ [])) × (LiveInFull f (before ++ here ∷ []) → ⊥)))

-- this token begins an element past a limit. It and the tokens behind it that tell so are live
abbrev pub IsPast : {A : Type 0} → Form A → List Tok → Tok → List Tok → Fault → Type 0
IsPast f before here after e =
    (lead rest : List Tok) × (after ≡ lead ++ rest) × Live f (before ++ here ∷ lead) × Passes f before (here ∷ lead) × (e ≡ too_many_at here.place)

-- the fault stands at the first token, or at the end, where the text does not go on or an element passes a limit
pub record IsFirstFault {A : Type 0} (f : Form A) (ts : List Tok) (e : Fault) : Type 0 where
  pub before : List Tok
  pub here : Tok
  pub after : List Tok
  pub parts : ts ≡ before ++ here ∷ after
  pub fault : IsDead f before here e ⊎ IsPast f before here after e
  -- no token before it is one: all of them together are live, and none begins an element past a limit
  pub live : Live f before
  pub none_past : (b us more : List Tok) → ts ≡ b ++ (us ++ more) → Passes f b us → length before ≤ length b
