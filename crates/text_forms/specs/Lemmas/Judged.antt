-- The laws of every grammar, from the theorems on whole texts.
use Rattle.std.proofs.Common.{◌≡◌, Result, Ok, Err, List, refl, sym, ◌∙◌, inl, inr}
use Rattle.std.specs.Prelude.{◌⊎◌}
use Rattle.text_forms.specs.declared.fault.Fault.{Fault}
use Rattle.text_forms.specs.Tokens.{Tok}
use Rattle.text_forms.specs.Forms.{Form}
use Rattle.text_forms.specs.Derives.{Derives}
use Rattle.text_forms.specs.Reading.{whole}
use Rattle.text_forms.specs.First.{IsFirstFault}
use Rattle.text_forms.specs.Laws.{ReadIsDerived, FaultIsFirst, IsUnambiguous, HasOneFault, IsJudged, IsNotBoth}
use Rattle.text_forms.specs.Lemmas.Tests.{ok_is, err_is, never_both}
use Rattle.text_forms.specs.Lemmas.Whole.{whole_ok, whole_only, whole_fault, fault_only}

pub read_is_derived : {A : Type 0} (f : Form A) → ReadIsDerived f
read_is_derived f is ts text a = (whole_ok f is ts a text, whole_only f is ts a)

pub fault_is_first : {A : Type 0} (f : Form A) → FaultIsFirst f
fault_is_first f is ts text e = (whole_fault f is ts e text, fault_only f is ts e text)

pub is_unambiguous : {A : Type 0} (f : Form A) → IsUnambiguous f
is_unambiguous f is ts a b d e = ok_is a b (sym (whole_only f is ts a d) ∙ whole_only f is ts b e)

pub has_one_fault : {A : Type 0} (f : Form A) → HasOneFault f
has_one_fault {A} f is ts text d e p q = err_is {A = A} d e (sym (fault_only f is ts d text p) ∙ fault_only f is ts e text q)

answered : {A : Type 0} (f : Form A) (ts : List Tok) (r : Result A Fault) → whole f ts ≡ r → ((a : A) → whole f ts ≡ Ok a → Derives f ts a) → ((e : Fault) → whole f ts ≡ Err e → IsFirstFault f ts e) → ((a : A) × Derives f ts a) ⊎ ((e : Fault) × IsFirstFault f ts e)
answered f ts (Ok a) p h k = inl (a, h a p)
answered f ts (Err e) p h k = inr (e, k e p)

pub is_judged : {A : Type 0} (f : Form A) → IsJudged f
is_judged f is ts text = answered f ts (whole f ts) refl (λ a p. whole_ok f is ts a text p) (λ e p. whole_fault f is ts e text p)

pub is_not_both : {A : Type 0} (f : Form A) → IsNotBoth f
is_not_both f is ts text a e d p = never_both _ a e (whole_only f is ts a d) (fault_only f is ts e text p)
