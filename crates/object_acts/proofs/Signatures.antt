-- The signatures of functions, by class.
use Rattle.std.proofs.Common.{◌≡◌, ℕ, Option, Some, None, slice_get, ◌∙◌, ap}
use Rattle.std.specs.Prelude.{option_map}
use Rattle.std.proofs.lemmas.Option.{slice_get-map}
use Rattle.check_tables.specs.declared.tables.Tables.{Tables}
use Rattle.check_tables.specs.declared.tables.Signature.{Signature}
use Rattle.check_tables.specs.Lookups.{noted_signature}
use Rattle.typed_heap.specs.Fits.{signature_classes}

signature_at : (p : Tables) (f s : ℕ) (o : Option Signature) → slice_get p.functions f ≡ Some s → slice_get p.signatures s ≡ o → slice_get (signature_classes p) f ≡ Some (noted_signature o)
signature_at p f s o e h =
    let of : ℕ → ℕ = λ n. noted_signature (slice_get p.signatures n) in
    slice_get-map of p.functions f ∙ ap (λ (o : Option ℕ). option_map of o) e ∙ ap (λ (o : Option Signature). Some (noted_signature o)) h

pub signature_known : (p : Tables) (f s : ℕ) (r : Signature) → slice_get p.functions f ≡ Some s → slice_get p.signatures s ≡ Some r → slice_get (signature_classes p) f ≡ Some r.class
signature_known p f s r e h = signature_at p f s (Some r) e h

pub signature_unknown : (p : Tables) (f s : ℕ) → slice_get p.functions f ≡ Some s → slice_get p.signatures s ≡ None → slice_get (signature_classes p) f ≡ Some 0
signature_unknown p f s e h = signature_at p f s None e h
