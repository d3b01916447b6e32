-- A log stays without faults where values are replaced so that equal values of one cell stay equal.
use Rattle.std.proofs.Common.{◌≡◌, ℕ, Bool, true, false, ◌&&◌, eqb, leb, List, [], ◌∷◌, map, length, refl, sym, ap, ◌∙◌, arith}
use Rattle.std.specs.Prelude.{Some}
use Rattle.std.proofs.lemmas.Bool.{and_from, and_parts, false≢true, eqb-true, eq-eqb}
use Rattle.mu_values.specs.declared.scalars.Scalar.{Scalar}
use Rattle.mu_values.specs.SameScalar.{same_scalar}
use Rattle.mu_values.specs.ScalarLaws.{same_scalar-true, same_scalar-refl}
use Rattle.mu_values.specs.declared.cells.CellId.{CellId}
use Rattle.mu_values.specs.CellLaws.{same_cell-true, same_cell-refl}
use Rattle.mem_axioms.specs.Events.{is_read, on_one_cell, accesses, modifies, position_of, value_of}
use Rattle.mem_axioms.specs.Logs.{event_at, newest}
use Rattle.mem_axioms.specs.Form.{fits_form_by, fits_form_alone, has_form_alone, is_only_value}
use Rattle.mem_axioms.specs.Axioms.{is_coherent, is_seq_cst_ordered}
use Rattle.mem_axioms.specs.Races.{is_race_free}
use Rattle.mem_axioms.specs.Lemmas.Numbers.{event-newest, event-kept, event-below, event-exists}
use Rattle.mem_axioms.specs.Lemmas.Relations.{where-at, where-from}
use Rattle.mem_axioms.specs.Lemmas.Kept.{one_cell, on_one}
use Rattle.mem_axioms.specs.declared.types.Mode.TheVariants as modes
use Rattle.mem_axioms.specs.declared.types.Kind.{Kind}
use Rattle.mem_axioms.specs.declared.types.Kind.TheVariants as kinds
use Rattle.mem_axioms.specs.declared.types.Event.{Event}
use Rattle.verdicts.specs.Laws.{bare, Revalued, RevaluedIsYes}
use Rattle.verdicts.proofs.Yes.{exact}
use Rattle.verdicts.proofs.Bare.{ev, Blind, blind, coherent-bare, ordered-bare, race_free-bare}

-- ---- the form, but for values

any_value : List Event → CellId → ℕ → Scalar → Bool
any_value past c p v = true

numbered : List Event → Event → Bool
numbered past e = fits_form_by any_value past e

-- a read has the value of each earlier access of its position
Agrees : List Event → Event → Type 0
Agrees past e = (i : ℕ) (ei : Event) → event_at past i ≡ Some ei → is_read e ≡ true → on_one_cell ei e ≡ true → position_of ei ≡ position_of e → value_of ei ≡ value_of e

and_true : (b : Bool) → b ≡ true → (b && true) ≡ true
and_true true h = refl
and_true false h = h

fits-parts : (past : List Event) (t : ℕ) (k : Kind) → fits_form_alone past (ev t k) ≡ true → (numbered past (ev t k) ≡ true) × Agrees past (ev t k)
unfolding numbered any_value Agrees
fits-parts past t (kinds.Access modes.Read c o p v) h =
    let q = and_parts (leb p (newest past c)) (is_only_value past c p v) h in (
      and_true (leb p (newest past c)) q.0,
      λ i ei at r s z.
          let w = one_cell ei (ev t (kinds.Access modes.Read c o p v)) s in
          let a : accesses c ei ≡ true = rw (same_cell-true c w.cell w.of_y) w.of_x in
          same_scalar-true (value_of ei) v (where-at (λ i ei. accesses c ei && eqb (position_of ei) p) (λ i ei. same_scalar (value_of ei) v) past i ei q.1 at (and_from (accesses c ei) (eqb (position_of ei) p) a (eq-eqb (position_of ei) p z))),
    )
fits-parts past t (kinds.Access modes.Write c o p v) h = (h, λ i ei at r s z. absurd (false≢true r))
fits-parts past t (kinds.Access modes.Update c o p v) h = (h, λ i ei at r s z. absurd (false≢true r))
fits-parts past t (kinds.Fence o) h = (refl, λ i ei at r s z. absurd (false≢true r))
fits-parts past t (kinds.NewStack o) h = (refl, λ i ei at r s z. absurd (false≢true r))
fits-parts past t (kinds.NewThread o) h = (refl, λ i ei at r s z. absurd (false≢true r))
fits-parts past t (kinds.Leave o) h = (refl, λ i ei at r s z. absurd (false≢true r))
fits-parts past t (kinds.Enter o) h = (refl, λ i ei at r s z. absurd (false≢true r))
fits-parts past t (kinds.Wake c n) h = (refl, λ i ei at r s z. absurd (false≢true r))
fits-parts past t (kinds.Woken o) h = (refl, λ i ei at r s z. absurd (false≢true r))

fits-from : (past : List Event) (t : ℕ) (k : Kind) → numbered past (ev t k) ≡ true → Agrees past (ev t k) → fits_form_alone past (ev t k) ≡ true
unfolding numbered any_value Agrees
fits-from past t (kinds.Access modes.Read c o p v) h g =
    and_from (leb p (newest past c)) (is_only_value past c p v) (and_parts (leb p (newest past c)) true h).0
    (where-from (λ i ei. accesses c ei && eqb (position_of ei) p) (λ i ei. same_scalar (value_of ei) v) past (λ i ei at w.
    let q = and_parts (accesses c ei) (eqb (position_of ei) p) w in
    let z = g i ei at refl (on_one ei (ev t (kinds.Access modes.Read c o p v)) c q.0 (same_cell-refl c)) (eqb-true (position_of ei) p q.1) in
    rw z (same_scalar-refl v)))
fits-from past t (kinds.Access modes.Write c o p v) h g = h
fits-from past t (kinds.Access modes.Update c o p v) h g = h
fits-from past t (kinds.Fence o) h g = refl
fits-from past t (kinds.NewStack o) h g = refl
fits-from past t (kinds.NewThread o) h g = refl
fits-from past t (kinds.Leave o) h g = refl
fits-from past t (kinds.Enter o) h g = refl
fits-from past t (kinds.Wake c n) h g = refl
fits-from past t (kinds.Woken o) h g = refl

newest-bare : (log : List Event) (c : CellId) → newest (map bare log) c ≡ newest log c
newest-bare [] c = refl
newest-bare (e ∷ past) c = rw (blind (λ (x : Event). modifies c x) (λ t m d o p v. refl) e, newest-bare past c) refl

numbered-bare : (past : List Event) (e : Event) → numbered (map bare past) (bare e) ≡ numbered past e
unfolding numbered any_value
numbered-bare past e = blind (λ (x : Event). fits_form_by any_value (map bare past) x) (λ t m c o p v. refl) e ∙ go e.thread e.kind
  where
    go : (t : ℕ) (k : Kind) → fits_form_by any_value (map bare past) (ev t k) ≡ fits_form_by any_value past (ev t k)
    go t (kinds.Access m c o p v) = rw (newest-bare past c) refl
    go t (kinds.Fence o) = refl
    go t (kinds.NewStack o) = refl
    go t (kinds.NewThread o) = refl
    go t (kinds.Leave o) = refl
    go t (kinds.Enter o) = refl
    go t (kinds.Wake c n) = refl
    go t (kinds.Woken o) = refl

-- ---- two logs that differ in values

-- what does not depend on the value is the same
alike : {A : Type 0} (f : Event → A) → Blind f → (e g : Event) → bare e ≡ bare g → f e ≡ f g
alike f h e g q = sym (blind f h e) ∙ ap f q ∙ blind f h g

one-alike : (x y x' y' : Event) → bare x ≡ bare x' → bare y ≡ bare y' → on_one_cell x y ≡ on_one_cell x' y'
one-alike x y x' y' p q = alike (λ (z : Event). on_one_cell z y) (λ t m c o p v. refl) x x' p ∙ alike (λ (z : Event). on_one_cell x' z) (λ t m c o p v. refl) y y' q

-- the newest events left out
revalued-past : (e f : Event) (past new : List Event) → Revalued (e ∷ past) (f ∷ new) → Revalued past new
revalued-past e f past new r = record {
  long = (let l = r.long in omega arith);
  same = λ i a b x y. r.same i a b (event-kept e past i a x) (event-kept f new i b y);
  equal = λ i j a b c d x y z w. r.equal i j a b c d (event-kept e past i a x) (event-kept e past j b y) (event-kept f new i c z) (event-kept f new j d w);
}

newest-at : (e f : Event) (past new : List Event) → Revalued (e ∷ past) (f ∷ new) → event_at (f ∷ new) (length past) ≡ Some f
newest-at e f past new r = let l = r.long in let n : length past ≡ length new = omega arith in ap (λ (i : ℕ). event_at (f ∷ new) i) n ∙ event-newest f new

heads-alike : (e f : Event) (past new : List Event) → Revalued (e ∷ past) (f ∷ new) → bare e ≡ bare f
heads-alike e f past new r = r.same (length past) e f (event-newest e past) (newest-at e f past new r)

same-bare : (log new : List Event) → Revalued log new → map bare log ≡ map bare new
same-bare [] [] r = refl
same-bare [] (f ∷ new) r = absurd (let l = r.long in omega arith)
same-bare (e ∷ past) [] r = absurd (let l = r.long in omega arith)
same-bare (e ∷ past) (f ∷ new) r = rw (heads-alike e f past new r, same-bare past new (revalued-past e f past new r)) refl

form-stays : (log new : List Event) → Revalued log new → has_form_alone log ≡ true → has_form_alone new ≡ true
unfolding Agrees
form-stays [] [] r h = refl
form-stays [] (f ∷ new) r h = absurd (let l = r.long in omega arith)
form-stays (e ∷ past) [] r h = refl
form-stays (e ∷ past) (f ∷ new) r h =
    let w = and_parts (fits_form_alone past e) (has_form_alone past) h in
    let parts = fits-parts past e.thread e.kind w.0 in
    let q = heads-alike e f past new r in
    let rest = revalued-past e f past new r in
    let numbers : numbered new f ≡ true = sym (numbered-bare new f) ∙ rw (← same-bare past new rest, ← q) (numbered-bare past e) ∙ parts.0 in
    and_from (fits_form_alone new f) (has_form_alone new) (fits-from new f.thread f.kind numbers (values q)) (form-stays past new rest w.1)
  where
    values : bare e ≡ bare f → Agrees new f
    values q i fi at rd one z =
        let ei = event-exists past i (let l = r.long in let b = event-below new i fi at in omega arith) in
        let s = (revalued-past e f past new r).same i ei.0 fi ei.1 at in
        let parts = fits-parts past e.thread e.kind (and_parts (fits_form_alone past e) (has_form_alone past) h).0 in
        let old = parts.1 i ei.0 ei.1 (alike is_read (λ t m c o p v. refl) e f q ∙ rd) (one-alike ei.0 e fi f s q ∙ one)
        (alike position_of (λ t m c o p v. refl) ei.0 fi s ∙ z ∙ sym (alike position_of (λ t m c o p v. refl) e f q)) in
        r.equal i (length past) ei.0 e fi f (event-kept e past i ei.0 ei.1) (event-newest e past) (event-kept f new i fi at) (newest-at e f past new r) (one-alike ei.0 e fi f s q ∙ one) old

pub stays_yes : RevaluedIsYes
stays_yes rule log new r h =
    let w = (exact rule log).0 h in
    let q = same-bare log new r in
    (exact rule new).1 (record {
      form = form-stays log new r w.form;
      coherent = sym (coherent-bare rule new) ∙ ap (is_coherent rule) (sym q) ∙ coherent-bare rule log ∙ w.coherent;
      ordered = sym (ordered-bare rule new) ∙ ap (is_seq_cst_ordered rule) (sym q) ∙ ordered-bare rule log ∙ w.ordered;
      race_free = sym (race_free-bare rule new) ∙ ap (is_race_free rule) (sym q) ∙ race_free-bare rule log ∙ w.race_free;
    })
