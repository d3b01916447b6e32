-- Pieces put one after another.
use Rattle.std.proofs.Common.{◌≡◌, ℕ, ◌+◌, List, [], ◌∷◌, ◌++◌, length, refl, sym, ap, ◌∙◌, Option, Some, None, append_assoc, length-append, add-zero, add_assoc, drop, subst}
use Rattle.std.proofs.lemmas.List.{append-nil, take_at, take-append-drop}
use Rattle.std.proofs.lemmas.List.Folds.{concat-append}
use Rattle.std.specs.List.{concat}
use Rattle.std.specs.Io.KnownBytes.{Appends, Keeps}
use Rattle.mu_base.specs.declared.status.Status.{Status}
use Rattle.mu_base.specs.declared.status.Status.TheVariants.{Memory}
use Rattle.mu_base.specs.Files.{IsPrefix}
use Rattle.mu_base.specs.Sink.{AppendsPrefix, MarksEnd}
use Rattle.verdicts.specs.declared.types.Verdict.{Verdict}
use Rattle.verdicts.specs.declared.types.Verdict.TheVariants as verdicts
use Rattle.mu_texts.specs.Answer.{Answer, in_one_piece, verdict_status}
use Rattle.mu_command.specs.Written.{cuts_from, AppendsEnds, Wrote, IsWhole, Writes, stopped}
use Rattle.mu_base.specs.declared.sink.PutFault.{PutFault}
use Rattle.mu_base.specs.declared.sink.PutFault.TheVariants.{Fault, Memory as NoMemory}

cuts-push : (n : ℕ) (ps : List (List ℕ)) (p : List ℕ) → cuts_from n (ps ++ p ∷ []) ≡ cuts_from n ps ++ (n + length (concat ps) + length p) ∷ []
cuts-push n [] p = rw add-zero refl
cuts-push n (q ∷ ps) p = rw (cuts-push (n + length q) ps p, length-append) (simp add_assoc)

wrote_bytes : (ps : List (List ℕ)) (p : List ℕ) (w0 w1 w2 : Option (List ℕ)) → Appends w0 w1 (concat ps) → Appends w1 w2 p → Appends w0 w2 (concat (ps ++ p ∷ []))
wrote_bytes ps p None w1 w2 a b = tt
wrote_bytes ps p (Some x) None w2 a b = absurd a
wrote_bytes ps p (Some x) (Some y) None a b = absurd b
wrote_bytes ps p (Some x) (Some y) (Some z) a b = rw (b, a, concat-append ps (p ∷ []), append-nil, append_assoc) refl

wrote_ends : (ps : List (List ℕ)) (p : List ℕ) (w0 w1 w2 e0 e1 e2 : Option (List ℕ)) → Appends w0 w1 (concat ps) → AppendsEnds w0 e0 e1 ps →
    Appends w1 w2 p → MarksEnd e1 e2 w2 → AppendsEnds w0 e0 e2 (ps ++ p ∷ [])
wrote_ends ps p None w1 w2 e0 e1 e2 a s b m = tt
wrote_ends ps p (Some x) None w2 e0 e1 e2 a s b m = absurd a
wrote_ends ps p (Some x) (Some y) None e0 e1 e2 a s b m = absurd b
wrote_ends ps p (Some x) (Some y) (Some z) None e1 e2 a s b m = tt
wrote_ends ps p (Some x) (Some y) (Some z) (Some e) None e2 a s b m = absurd s
wrote_ends ps p (Some x) (Some y) (Some z) (Some e) (Some f) None a s b m = absurd m
wrote_ends ps p (Some x) (Some y) (Some z) (Some e) (Some f) (Some g) a s b m = rw (m, b, a, s, cuts-push (length x) ps p, length-append, length-append, append_assoc) refl

pub put_whole : (ps : List (List ℕ)) (p : List ℕ) (w0 w1 w2 e0 e1 e2 : Option (List ℕ)) → Wrote ps w0 w1 e0 e1 → Appends w1 w2 p → MarksEnd e1 e2 w2 → Wrote (ps ++ p ∷ []) w0 w2 e0 e2
put_whole ps p w0 w1 w2 e0 e1 e2 w a m = record { bytes = wrote_bytes ps p w0 w1 w2 w.bytes a; ends = wrote_ends ps p w0 w1 w2 e0 e1 e2 w.bytes w.ends a m }

pub nothing_put : (w e : Option (List ℕ)) → Wrote [] w w e e
nothing_put None e = record { bytes = tt; ends = tt }
nothing_put (Some x) None = record { bytes = rw append-nil refl; ends = tt }
nothing_put (Some x) (Some e) = record { bytes = rw append-nil refl; ends = rw append-nil refl }

-- a put that failed leaves no status that is whole
pub stopped_is : (fault : PutFault) → IsWhole (stopped fault) → ⊥
stopped_is Fault h = h.0 refl
stopped_is NoMemory h = h.1 refl

split_prefix : (b p : List ℕ) → IsPrefix b p → p ≡ b ++ drop (length b) p
split_prefix b p h = sym (take-append-drop (length b) p) ∙ ap (λ x. x ++ drop (length b) p) h

pub prefix_more : (a b p l : List ℕ) → IsPrefix b p → IsPrefix (a ++ b) (a ++ (p ++ l))
prefix_more a b p l h =
    let P : List ℕ → Type 0 = λ t. IsPrefix (a ++ b) (a ++ (t ++ l)) in
    let d = drop (length b) p in
    subst P (sym (split_prefix b p h)) (rw (append_assoc b d l, ← append_assoc a b (d ++ l)) (take_at (a ++ b) (d ++ l) (length (a ++ b)) refl))

pub appends_twice : (p q : List ℕ) (w0 w1 w2 : Option (List ℕ)) → Appends w0 w1 p → Appends w1 w2 q → Appends w0 w2 (p ++ q)
appends_twice p q None w1 w2 a b = tt
appends_twice p q (Some x) None w2 a b = absurd a
appends_twice p q (Some x) (Some y) None a b = absurd b
appends_twice p q (Some x) (Some y) (Some z) a b = rw (b, a, append_assoc) refl

keep_ends : (w0 e0 e1 e2 : Option (List ℕ)) (ps : List (List ℕ)) → AppendsEnds w0 e0 e1 ps → Keeps e1 e2 → AppendsEnds w0 e0 e2 ps
keep_ends None e0 e1 e2 ps s k = tt
keep_ends (Some x) None e1 e2 ps s k = tt
keep_ends (Some x) (Some e) None e2 ps s k = absurd s
keep_ends (Some x) (Some e) (Some f) None ps s k = absurd k
keep_ends (Some x) (Some e) (Some f) (Some g) ps s k = rw (k, s) refl

-- a put that wrote a part of its piece, or nothing
pub put_stops : (done : List (List ℕ)) (p : List ℕ) (left : List (List ℕ)) (answer : Answer) (w0 w1 w2 e0 e1 e2 : Option (List ℕ)) (status : Status) →
    answer.pieces ≡ done ++ p ∷ left → (IsWhole status → ⊥) → Wrote done w0 w1 e0 e1 → AppendsPrefix w1 w2 p → Keeps e1 e2 → Writes answer w0 w2 e0 e2 status
put_stops done p left answer w0 w1 w2 e0 e1 e2 status is fails w a k = record {
  part = record {
    done = done;
    left = p ∷ left;
    is = is;
    part = a.0;
    begins = prefix_more [] a.0 p (concat left) a.1;
    bytes = appends_twice (concat done) a.0 w0 w1 w2 w.bytes a.2;
    ends = keep_ends w0 e0 e1 e2 done w.ends k;
  };
  whole = λ h. absurd (fails h);
  status_of = λ h. absurd (fails h);
}

-- all pieces were put
pub all_put : (answer : Answer) (w0 w1 e0 e1 : Option (List ℕ)) (status : Status) → status ≡ answer.status → Wrote answer.pieces w0 w1 e0 e1 → Writes answer w0 w1 e0 e1 status
all_put answer w0 w1 e0 e1 status is w = record {
  part = record { done = answer.pieces; left = []; is = sym (append-nil answer.pieces); part = []; begins = refl; bytes = rw (append-nil (concat answer.pieces)) w.bytes; ends = w.ends };
  whole = λ h. w;
  status_of = λ h. is;
}

-- the answer's only piece was put
pub only_put : (answer : Answer) (p : List ℕ) (w0 w1 e0 e1 : Option (List ℕ)) (status : Status) → answer.pieces ≡ p ∷ [] → status ≡ answer.status →
    Appends w0 w1 p → MarksEnd e0 e1 w1 → Writes answer w0 w1 e0 e1 status
only_put answer p w0 w1 e0 e1 status is same a m = all_put answer w0 w1 e0 e1 status same (rw is (put_whole [] p w0 w0 w1 e0 e0 e1 (nothing_put w0 e0) a m))

-- the answer's two pieces were put
pub both_put : (answer : Answer) (p q : List ℕ) (w0 w1 w2 e0 e1 e2 : Option (List ℕ)) (status : Status) → answer.pieces ≡ p ∷ q ∷ [] → status ≡ answer.status →
    Appends w0 w1 p → MarksEnd e0 e1 w1 → Appends w1 w2 q → MarksEnd e1 e2 w2 → Writes answer w0 w2 e0 e2 status
both_put answer p q w0 w1 w2 e0 e1 e2 status is same a m b n =
    all_put answer w0 w2 e0 e2 status same (rw is (put_whole (p ∷ []) q w0 w1 w2 e0 e1 e2 (put_whole [] p w0 w0 w1 e0 e0 e1 (nothing_put w0 e0) a m) b n))

-- the first put stopped
pub first_put_stops : (answer : Answer) (p : List ℕ) (left : List (List ℕ)) (w0 w1 e0 e1 : Option (List ℕ)) (fault : PutFault) → answer.pieces ≡ p ∷ left →
    AppendsPrefix w0 w1 p → Keeps e0 e1 → Writes answer w0 w1 e0 e1 (stopped fault)
first_put_stops answer p left w0 w1 e0 e1 fault is a k = put_stops [] p left answer w0 w0 w1 e0 e0 e1 (stopped fault) is (stopped_is fault) (nothing_put w0 e0) a k

-- the second put stopped
pub second_put_stops : (answer : Answer) (p q : List ℕ) (left : List (List ℕ)) (w0 w1 w2 e0 e1 e2 : Option (List ℕ)) (fault : PutFault) → answer.pieces ≡ p ∷ q ∷ left →
    Appends w0 w1 p → MarksEnd e0 e1 w1 → AppendsPrefix w1 w2 q → Keeps e1 e2 → Writes answer w0 w2 e0 e2 (stopped fault)
second_put_stops answer p q left w0 w1 w2 e0 e1 e2 fault is a m b k =
    put_stops (p ∷ []) q left answer w0 w1 w2 e0 e1 e2 (stopped fault) is (stopped_is fault) (put_whole [] p w0 w0 w1 e0 e0 e1 (nothing_put w0 e0) a m) b k

-- where no memory was found nothing was put
pub no_memory : (answer : Answer) (w e : Option (List ℕ)) → Writes answer w w e e Memory
no_memory answer w e = record {
  part = record { done = []; left = answer.pieces; is = refl; part = []; begins = refl; bytes = (nothing_put w e).bytes; ends = (nothing_put w e).ends };
  whole = λ h. absurd (h.1 refl);
  status_of = λ h. absurd (h.1 refl);
}

-- a text that is empty is no piece, and one that is not is one piece
pub no_text : (text : List ℕ) → length text ≡ 0 → in_one_piece text ≡ []
no_text [] none = refl
no_text (b ∷ text) none = cc

pub one_piece : (text : List ℕ) → (length text ≡ 0 → ⊥) → in_one_piece text ≡ text ∷ []
one_piece [] some = absurd (some refl)
one_piece (b ∷ text) some = refl

-- an empty text is put by no piece
pub no_piece : (answer : Answer) (w e : Option (List ℕ)) (status : Status) → answer.pieces ≡ [] → status ≡ answer.status → Writes answer w w e e status
no_piece answer w e status is same = all_put answer w w e e status same (rw is (nothing_put w e))

-- the status of a verdict is that of a whole text
pub whole_verdict : (v : Verdict) → IsWhole (verdict_status v)
whole_verdict (verdicts.Yes n) = ((λ e. cc), (λ e. cc))
whole_verdict (verdicts.Form j) = ((λ e. cc), (λ e. cc))
whole_verdict (verdicts.Axiom1 i j) = ((λ e. cc), (λ e. cc))
whole_verdict (verdicts.Axiom3 a b) = ((λ e. cc), (λ e. cc))
whole_verdict (verdicts.Race i j) = ((λ e. cc), (λ e. cc))

pub ruleset puts = (only_put, both_put, first_put_stops, second_put_stops)
