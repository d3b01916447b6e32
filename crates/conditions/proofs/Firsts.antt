-- Lists of one member or more: the first one, and then the others.
use Rattle.std.proofs.Common.{◌≡◌, List, [], ◌∷◌, Result, Ok, Err, refl}
use Rattle.text_forms.specs.declared.symbol.Symbol.{Symbol}
use Rattle.text_forms.specs.declared.fault.Fault.{Fault}
use Rattle.text_forms.specs.declared.fault.ReadError.{ReadError}
use Rattle.text_forms.specs.declared.fault.ReadError.TheVariants as errors
use Rattle.text_forms.specs.Tokens.{Tok}
use Rattle.text_forms.specs.Forms.{Form, until}
use Rattle.text_forms.specs.Reading.{read, ◌>>=◌}
use Rattle.text_forms.specs.Answers.{Gives, GivesAll, with_front}
use Rattle.conditions.specs.Grammar.{some_of}

module _ {A : Type 0} (xs : List Symbol) (f : Form A) where
  abbrev joined : A → Result (List A × List Tok) Fault → Result (List A × List Tok) Fault
  joined a r = ◌>>=◌ {A = (A × List A) × List Tok} {B = List A × List Tok} (◌>>=◌ {A = List A × List Tok} {B = (A × List A) × List Tok} r (λ y. Ok ((a, y.0), y.1))) (λ x. Ok (x.0.0 ∷ x.0.1, x.1))

  is_joined : (a : A) (r : Result (List A × List Tok) Fault) → joined a r ≡ with_front (a ∷ []) r
  is_joined a (Ok x) = refl
  is_joined a (Err e) = refl

  -- behind the first one
  pub behind_first : (ts : List Tok) (a : A) (rest : List Tok) → read f ts ≡ Ok (a, rest) → read (some_of xs f) ts ≡ with_front (a ∷ []) (read (until xs f) rest)
  behind_first ts a rest one = rw one (is_joined a (read (until xs f) rest))

  -- where the first one is refused
  pub first_fails : (ts rest : List Tok) (e : ReadError) → Gives {A = A} (Err e) rest (read f ts) → Gives {A = List A} (Err e) rest (read (some_of xs f) ts)
  first_fails ts rest errors.Memory h = tt
  first_fails ts rest (errors.Fault e) h = rw h refl

  pub first_fails_whole : (ts rest : List Tok) (e : ReadError) → Gives {A = A} (Err e) rest (read f ts) → GivesAll {A = List A} (Err e) (read (some_of xs f) ts >>= λ x. Ok x.0)
  first_fails_whole ts rest errors.Memory h = tt
  first_fails_whole ts rest (errors.Fault e) h = rw h refl
