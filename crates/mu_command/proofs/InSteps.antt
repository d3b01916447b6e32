-- The pieces of a run, step by step.
use Rattle.std.proofs.Common.{◌≡◌, ℕ, zero, suc, ◌+◌, ◌≤◌, List, [], ◌∷◌, ◌++◌, length, reverse, refl, sym, ap, ◌∙◌, subst, arith, Option, Some, None, append_assoc, length-append, add_assoc}
use Rattle.std.proofs.lemmas.List.{reverse-reverse}
use Rattle.std.proofs.lemmas.List.Folds.{concat-append}
use Rattle.std.specs.List.{concat}
use Rattle.std.specs.Prelude.{◌≢◌, IfSome}
use Rattle.std.specs.Io.KnownBytes.{Appends}
use Rattle.mu_base.specs.declared.status.Status.{Status}
use Rattle.mu_base.specs.declared.status.Status.TheVariants.{Memory}
use Rattle.mu_base.specs.Sink.{PutsWhole, PutsPart}
use Rattle.ir_tree.specs.declared.items.Item.{Item}
use Rattle.mu_model.specs.declared.lines.Line.{Line}
use Rattle.mu_model.specs.declared.endings.StepEnd.{StepEnd}
use Rattle.mu_model.specs.declared.endings.StepEnd.TheVariants.{Went}
use Rattle.mu_model.specs.declared.endings.Ending.{Ending}
use Rattle.mu_model.specs.Acts.{Program}
use Rattle.mu_model.specs.Configuration.{Configuration}
use Rattle.mu_model.specs.Outcomes.{Outcome, Next, End, Stuck}
use Rattle.mu_model.specs.Programs.{named}
use Rattle.mu_model.specs.Run.{Run, Ends, Breaks, Unfinished, behind, goes_on, run}
use Rattle.run_texts.specs.Texts.{ending_status}
use Rattle.run_texts.specs.Pieces.{lines_text}
use Rattle.run_state.specs.Outcome.{outcome_of}
use Rattle.mu_texts.specs.Answer.{Answer, run_answer}
use Rattle.model_laws.specs.Bounds.{HasEnding}
use Rattle.mu_command.specs.Written.{cuts_from, AppendsEnds, Wrote, WrotePart, IsWhole, Writes}
use Rattle.mu_command.specs.Steps.{answered_step, own_answer, step_pieces, last_piece, behind_pieces, Goes, IsOver}
use Rattle.mu_command.proofs.Puts.{appends_twice, nothing_put, put_whole, put_stops, only_put, no_memory}

-- ---- pieces behind pieces

cuts_both : (n : ℕ) (ps qs : List (List ℕ)) → cuts_from n (ps ++ qs) ≡ cuts_from n ps ++ cuts_from (n + length (concat ps)) qs
cuts_both n [] qs = let z : n ≡ n + 0 = omega arith in ap (λ (k : ℕ). cuts_from k qs) z
cuts_both n (p ∷ ps) qs =
    ap (λ (cs : List ℕ). (n + length p) ∷ cs)
    (cuts_both (n + length p) ps qs
    ∙ ap (λ (k : ℕ). cuts_from (n + length p) ps ++ cuts_from k qs)
    (add_assoc n (length p) (length (concat ps)) ∙ ap (λ (k : ℕ). n + k) (sym (length-append p (concat ps)))))

both_ends : (ps qs : List (List ℕ)) (w0 w1 e0 e1 e2 : Option (List ℕ)) → Appends w0 w1 (concat ps) → AppendsEnds w0 e0 e1 ps → AppendsEnds w1 e1 e2 qs → AppendsEnds w0 e0 e2 (ps ++ qs)
both_ends ps qs None w1 e0 e1 e2 a s m = tt
both_ends ps qs (Some x) None e0 e1 e2 a s m = absurd a
both_ends ps qs (Some x) (Some y) None e1 e2 a s m = tt
both_ends ps qs (Some x) (Some y) (Some e) None e2 a s m = absurd s
both_ends ps qs (Some x) (Some y) (Some e) (Some f) None a s m = absurd m
both_ends ps qs (Some x) (Some y) (Some e) (Some f) (Some g) a s m = rw (m, s, a, length-append, cuts_both (length x) ps qs, append_assoc) refl

both_wrote : (ps qs : List (List ℕ)) (w0 w1 w2 e0 e1 e2 : Option (List ℕ)) → Wrote ps w0 w1 e0 e1 → Wrote qs w1 w2 e1 e2 → Wrote (ps ++ qs) w0 w2 e0 e2
both_wrote ps qs w0 w1 w2 e0 e1 e2 a b = record {
  bytes = rw (concat-append ps qs) (appends_twice (concat ps) (concat qs) w0 w1 w2 a.bytes b.bytes);
  ends = both_ends ps qs w0 w1 e0 e1 e2 a.bytes a.ends b.ends;
}

part_behind : (ps qs : List (List ℕ)) (w0 w1 w2 e0 e1 e2 : Option (List ℕ)) → Wrote ps w0 w1 e0 e1 → WrotePart qs w1 w2 e1 e2 → WrotePart (ps ++ qs) w0 w2 e0 e2
part_behind ps qs w0 w1 w2 e0 e1 e2 a b = record {
  done = ps ++ b.done;
  left = b.left;
  is = ap (λ (l : List (List ℕ)). ps ++ l) b.is ∙ sym (append_assoc ps b.done b.left);
  part = b.part;
  begins = b.begins;
  bytes = rw (concat-append ps b.done, append_assoc) (appends_twice (concat ps) (concat b.done ++ b.part) w0 w1 w2 a.bytes b.bytes);
  ends = both_ends ps b.done w0 w1 e0 e1 e2 a.bytes a.ends b.ends;
}

pub writes_behind : (ps : List (List ℕ)) (answer : Answer) (w0 w1 w2 e0 e1 e2 : Option (List ℕ)) (status : Status) → Wrote ps w0 w1 e0 e1 → Writes answer w1 w2 e1 e2 status →
    Writes (behind_pieces ps answer) w0 w2 e0 e2 status
writes_behind ps answer w0 w1 w2 e0 e1 e2 status a b = record {
  part = part_behind ps answer.pieces w0 w1 w2 e0 e1 e2 a b.part;
  whole = λ h. both_wrote ps answer.pieces w0 w1 w2 e0 e1 e2 a (b.whole h);
  status_of = b.status_of;
}

-- ---- the lines of a step

pub no_lines : (bundle : List Item) (ls : List Line) (w e : Option (List ℕ)) → length ls ≡ 0 → Wrote (step_pieces bundle ls) w w e e
no_lines bundle [] w e none = nothing_put w e
no_lines bundle (l ∷ ls) w e none = cc

some_lines : (bundle : List Item) (ls : List Line) → (length ls ≡ 0 → ⊥) → step_pieces bundle ls ≡ lines_text bundle ls ∷ []
some_lines bundle [] some = absurd (some refl)
some_lines bundle (l ∷ ls) some = refl

pub lines_put : (bundle : List Item) (ls : List Line) (w0 w1 e0 e1 : Option (List ℕ)) → (length ls ≡ 0 → ⊥) → PutsWhole (lines_text bundle ls) w0 w1 e0 e1 → Wrote (step_pieces bundle ls) w0 w1 e0 e1
lines_put bundle ls w0 w1 e0 e1 some put = rw (some_lines bundle ls some) (put_whole [] (lines_text bundle ls) w0 w0 w1 e0 e0 e1 (nothing_put w0 e0) put.bytes put.mark)

pub lines_stop : (bundle : List Item) (ls : List Line) (answer : Answer) (w0 w1 e0 e1 : Option (List ℕ)) (status : Status) → (length ls ≡ 0 → ⊥) → (IsWhole status → ⊥) →
    PutsPart (lines_text bundle ls) w0 w1 e0 e1 → Writes (behind_pieces (step_pieces bundle ls) answer) w0 w1 e0 e1 status
lines_stop bundle ls answer w0 w1 e0 e1 status some fails put =
    put_stops [] (lines_text bundle ls) answer.pieces (behind_pieces (step_pieces bundle ls) answer) w0 w0 w1 e0 e0 e1 status
    (ap (λ (ps : List (List ℕ)). ps ++ answer.pieces) (some_lines bundle ls some)) fails (nothing_put w0 e0) put.bytes put.mark

-- ---- the last piece

pub last_put : (p : List ℕ) (status answer : Status) (w0 w1 e0 e1 : Option (List ℕ)) → status ≡ answer → PutsWhole p w0 w1 e0 e1 →
    Writes (record { pieces = p ∷ []; status = answer }) w0 w1 e0 e1 status
last_put p status answer w0 w1 e0 e1 same put = only_put (record { pieces = p ∷ []; status = answer }) p w0 w1 e0 e1 status refl same put.bytes put.mark

pub last_stops : (p : List ℕ) (status answer : Status) (w0 w1 e0 e1 : Option (List ℕ)) → (IsWhole status → ⊥) → PutsPart p w0 w1 e0 e1 →
    Writes (record { pieces = p ∷ []; status = answer }) w0 w1 e0 e1 status
last_stops p status answer w0 w1 e0 e1 fails put =
    put_stops [] p [] (record { pieces = p ∷ []; status = answer }) w0 w0 w1 e0 e0 e1 status refl fails (nothing_put w0 e0) put.bytes put.mark

-- ---- a step of the run

pub no_more : (p : Program) (n : ℕ) (c : Configuration) → n ≤ 0 → HasEnding (run p n c) → ⊥
no_more p zero c l h = h
no_more p (suc n) c l h = omega (arith, l)

pub not_stuck : (p : Program) (n : ℕ) (c : Configuration) → HasEnding (run p (suc n) c) → answered_step p c ≢ Stuck
not_stuck p n c ends e = subst (λ (o : Outcome). HasEnding (goes_on (run p n) o)) (sym (own_answer p c) ∙ e) ends

-- lines that were written do not matter
lines_aside : (p : Program) (n : ℕ) (c : Configuration) (ls : List Line) → run p n (record c { lines = ls }) ≡ run p n c
lines_aside p zero c ls = refl
lines_aside p (suc n) c ls = refl

twice : (ls : List Line) → reverse (reverse ls) ≡ ls
twice ls = reverse-reverse ls

pub run_goes : (p : Program) (n : ℕ) (c d : Configuration) (ls : List Line) → answered_step p c ≡ Next (record d { lines = reverse ls }) → run p (suc n) c ≡ behind ls (run p n d)
run_goes p n c d ls e =
    ap (goes_on (run p n)) (sym (own_answer p c) ∙ e)
    ∙ ap (λ (r : Run). behind (reverse (reverse ls)) r) (lines_aside p n d (reverse ls))
    ∙ ap (λ (l : List Line). behind l (run p n d)) (twice ls)

pub run_ends : (p : Program) (n : ℕ) (c : Configuration) (ls : List Line) (e : Ending) → answered_step p c ≡ End ls e → run p (suc n) c ≡ Ends [] ls e
run_ends p n c ls e h = ap (goes_on (run p n)) (sym (own_answer p c) ∙ h)

pub behind_ends : (ls : List Line) (r : Run) → HasEnding (behind ls r) → HasEnding r
behind_ends ls (Ends steps lines e) h = tt
behind_ends ls Breaks h = h
behind_ends ls Unfinished h = h

answer_behind : (bundle : List Item) (ls : List Line) (r : Run) → HasEnding r → run_answer bundle (behind ls r) ≡ behind_pieces (step_pieces bundle ls) (run_answer bundle r)
answer_behind bundle [] (Ends steps lines e) h = refl
answer_behind bundle (l ∷ ls) (Ends steps lines e) h = refl
answer_behind bundle ls Breaks h = absurd h
answer_behind bundle ls Unfinished h = absurd h

module _ (bundle : List Item) (c d : Configuration) (w0 w1 e0 e1 : Option (List ℕ)) where
  -- the step went on, and its lines were put
  pub went : (ls : List Line) → Next (record d { lines = reverse ls }) ≡ answered_step (named bundle) c → Wrote (step_pieces bundle ls) w0 w1 e0 e1 → Goes bundle c d w0 w1 e0 e1
  went ls e wrote = record { lines = ls; is = sym e; wrote = wrote }

  -- it went on, and its lines could not be put
  pub went_over : (ls : List Line) (status : Status) → Next (record d { lines = reverse ls }) ≡ answered_step (named bundle) c →
      ((answer : Answer) → Writes (behind_pieces (step_pieces bundle ls) answer) w0 w1 e0 e1 status) → IsOver bundle c w0 w1 e0 e1 status
  went_over ls status e over n ends =
      let goes : run (named bundle) (suc n) c ≡ behind ls (run (named bundle) n d) = run_goes (named bundle) n c d ls (sym e) in
      let later : HasEnding (run (named bundle) n d) = behind_ends ls (run (named bundle) n d) (subst HasEnding goes ends) in
      subst (λ (a : Answer). Writes a w0 w1 e0 e1 status) (sym (ap (run_answer bundle) goes ∙ answer_behind bundle ls (run (named bundle) n d) later)) (over (run_answer bundle (run (named bundle) n d)))

  pub went_or_over : (ls : List Line) (o : Option Status) → Next (record d { lines = reverse ls }) ≡ answered_step (named bundle) c →
      IfSome o (λ status. (answer : Answer) → Writes (behind_pieces (step_pieces bundle ls) answer) w0 w1 e0 e1 status) → IfSome o (λ status. IsOver bundle c w0 w1 e0 e1 status)
  went_or_over ls None e over = tt
  went_or_over ls (Some status) e over = went_over ls status e over

  -- it gave the ending, and the last piece was put or not
  pub ended : (ls : List Line) (e : Ending) (status : Status) → End ls e ≡ answered_step (named bundle) c →
      Writes (record { pieces = last_piece bundle ls e ∷ []; status = ending_status e }) w0 w1 e0 e1 status → IsOver bundle c w0 w1 e0 e1 status
  ended ls e status h written n ends = subst (λ (a : Answer). Writes a w0 w1 e0 e1 status) (sym (ap (run_answer bundle) (run_ends (named bundle) n c ls e (sym h)))) written

-- no memory was found for it
pub not_made : (bundle : List Item) (c : Configuration) (w e : Option (List ℕ)) → IsOver bundle c w w e e Memory
not_made bundle c w e n ends = no_memory (run_answer bundle (run (named bundle) (suc n) c)) w e

-- the step that was made, by what the machine answered
pub went_is : (bundle code : List Item) (c d : Configuration) (end : StepEnd) (ls ms : List Line) → end ≡ Went ms → ls ≡ ms → bundle ≡ code → outcome_of end d ≡ answered_step (named bundle) c → Next (record d { lines = reverse ls }) ≡ answered_step (named code) c
went_is bundle code c d end ls ms is same one h =
    ap (λ ls. Next (record d { lines = reverse ls })) same ∙ ap (λ end. outcome_of end d) (sym is) ∙ h ∙ ap (λ b. answered_step (named b) c) one

-- a step that was made at once has no lines
pub went_at_once : (bundle code : List Item) (c d : Configuration) (w e : Option (List ℕ)) → bundle ≡ code → outcome_of (Went []) d ≡ answered_step (named bundle) c → Goes code c d w w e e
went_at_once bundle code c d w e one h = went code c d w w e e [] (h ∙ ap (λ b. answered_step (named b) c) one) (no_lines code [] w e refl)

pub ruleset at_once = (went_at_once)

-- ---- what was put so far, and what is left of the run, make the whole

pub record SoFar (bundle : List Item) (whole : Answer) (r : Run) (w0 w1 e0 e1 : Option (List ℕ)) : Type 0 where
  pub done : List (List ℕ)
  pub wrote : Wrote done w0 w1 e0 e1
  pub ends : HasEnding r
  pub is : whole ≡ behind_pieces done (run_answer bundle r)

module _ (bundle : List Item) (whole : Answer) (n : ℕ) (c : Configuration) (w0 w1 w2 e0 e1 e2 : Option (List ℕ)) (far : SoFar bundle whole (run (named bundle) (suc n) c) w0 w1 e0 e1) where
  pub one_more : (d : Configuration) → Goes bundle c d w1 w2 e1 e2 → SoFar bundle whole (run (named bundle) n d) w0 w2 e0 e2
  one_more d goes =
      let is : run (named bundle) (suc n) c ≡ behind goes.lines (run (named bundle) n d) = run_goes (named bundle) n c d goes.lines goes.is in
      let later : HasEnding (run (named bundle) n d) = behind_ends goes.lines (run (named bundle) n d) (subst HasEnding is far.ends) in
      record {
        done = far.done ++ step_pieces bundle goes.lines;
        wrote = both_wrote far.done (step_pieces bundle goes.lines) w0 w1 w2 e0 e1 e2 far.wrote goes.wrote;
        ends = later;
        is =
            far.is
            ∙ ap (λ (a : Answer). behind_pieces far.done a) (ap (run_answer bundle) is ∙ answer_behind bundle goes.lines (run (named bundle) n d) later)
            ∙ ap (λ (ps : List (List ℕ)). record { pieces = ps; status = (run_answer bundle (run (named bundle) n d)).status })
            (sym (append_assoc far.done (step_pieces bundle goes.lines) (run_answer bundle (run (named bundle) n d)).pieces));
      }

  pub is_over : (status : Status) → IsOver bundle c w1 w2 e1 e2 status → Writes whole w0 w2 e0 e2 status
  is_over status over =
      subst (λ (a : Answer). Writes a w0 w2 e0 e2 status) (sym far.is)
      (writes_behind far.done (run_answer bundle (run (named bundle) (suc n) c)) w0 w1 w2 e0 e1 e2 status far.wrote (over n far.ends))

pub ruleset running = (no_lines, lines_put, lines_stop, last_put, last_stops, went, went_over, went_or_over, ended, not_made)
