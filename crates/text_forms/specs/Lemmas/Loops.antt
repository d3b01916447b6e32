-- What a loop that reads a list needs: `until` and `up_to`.
--
-- A reader of `until (symbols.Close ∷ []) f`, where `element` reads one f, is this function and two proof files, in which
-- `f_element : IsPlain f` is `record { element = record { some = refl; decided = refl }; own = refl }` under `unfolding` f.
--
--   fn list(cursor: &mut Cursor, alloc: Global) -> Result<Listing<T>, ReadError>
--       ensures { Gives result cursor.new (read (until (symbols.Close ∷ []) f) cursor.old) }
--   {
--       let mut members = Listing::new(alloc);
--       'each: while !cursor.at(Symbol::Close) {
--           members.push(element(cursor, alloc)?)?;
--       }
--       cursor.bump();
--       Ok(members)
--   }
--
--   invariant-each l = with_front l.members (read (until (symbols.Close ∷ []) f) l.cursor) ≡ read (until (symbols.Close ∷ []) f) l.fn.cursor
--   decreases-each l = length l.cursor
--
--   returns-in_err-element c =
--       let p = err_from_is_err_and c.from_residual.result c.from_residual.ensures.1 in
--       rw (p.1, p.2) (fails_with (symbols.Close ∷ []) f f_element c.each.members c.each.cursor c.element.new.cursor (read (until (symbols.Close ∷ []) f) c.args.cursor.now) c.in_err-element.field-0.0 (sym c.each-test.ensures) c.in_err-element.ensures c.each.invariant)
--   each-smaller c = shorter f f_element.element 0 c.each.cursor c.in_ok-element.field-0 c.element.new.cursor c.in_ok-element.ensures
--   each-preserved c = rw c.in_ok-push.ensures (goes_on (symbols.Close ∷ []) f f_element c.each.members c.each.cursor c.in_ok-element.field-0 c.element.new.cursor (read (until (symbols.Close ∷ []) f) c.args.cursor.now) (sym c.each-test.ensures) c.in_ok-element.ensures c.each.invariant)
--   returns c = rw c.bump.ensures (is_done (symbols.Close ∷ []) f f_element c.each.members c.each.cursor (read (until (symbols.Close ∷ []) f) c.args.cursor.now) (sym c.each-test.ensures) c.each.invariant)
--
-- Of `up_to 256 (symbols.Close ∷ []) f` the loop begins with a test, where `begins` is whether an f begins here, and the
-- invariant counts the members; `unfolding` f stands above the answers that speak of `begins f`.
--
--           if passes_limit(members.len(), 256, begins(cursor)) {
--               return Err(ReadError::Fault(cursor.too_many()));
--           }
--
--   invariant-each l = with_front l.members (read (up_to_from (length l.members) 256 (symbols.Close ∷ []) f) l.cursor) ≡ read (up_to 256 (symbols.Close ∷ []) f) l.fn.cursor
--
--   past : nat_le 256 (length c.each.members) && at (begins f) c.each.cursor ≡ true
--   past = rw (← c.len.ensures, ← c.begins.ensures) (sym c.passes_limit.ensures ∙ c.if-passes_limit.true)
--   fits : the same ≡ false, with c.if-passes_limit.false
--
--   returns-then-passes_limit c = rw c.too_many.ensures (too_many 256 (symbols.Close ∷ []) f f_element (length c.each.members) c.each.members c.each.cursor TOTAL past (sym c.each-test.ensures) c.each.invariant)
--   returns-in_err-element c = .. (fails_up_to 256 (symbols.Close ∷ []) f f_element (length c.each.members) c.each.members c.each.cursor c.element.new.cursor TOTAL c.in_err-element.field-0.0 fits (sym c.each-test.ensures) c.in_err-element.ensures c.each.invariant)
--   each-preserved c = rw c.in_ok-push.ensures (goes_on_counted 256 (symbols.Close ∷ []) f f_element c.each.members c.each.cursor c.in_ok-element.field-0 c.element.new.cursor TOTAL fits (sym c.each-test.ensures) c.in_ok-element.ensures c.each.invariant)
--   returns c = rw c.bump.ensures (is_done_up_to 256 (symbols.Close ∷ []) f f_element (length c.each.members) c.each.members c.each.cursor TOTAL (sym c.each-test.ensures) c.each.invariant)
--
-- Where a list has a state of its own, the lemmas of `Lists` serve in the same way: `goes_on_by`, `is_done_by`, `fails_by` and
-- `close_fails_by`, with k the meaning of the whole list as a function of what is still to be read.
use Rattle.std.proofs.Common.{◌≡◌, ℕ, suc, Bool, true, false, List, [], ◌∷◌, ◌++◌, length, Result, Ok, Err, refl, sym, ap, subst, ◌∙◌, arith, append_assoc}
use Rattle.std.specs.Prelude.{nat_le, ◌&&◌}
use Rattle.std.proofs.lemmas.List.{append-nil, length-append}
use Rattle.text_forms.specs.declared.symbol.Symbol.{Symbol}
use Rattle.text_forms.specs.declared.fault.Fault.{Fault}
use Rattle.text_forms.specs.declared.fault.ReadError.{ReadError}
use Rattle.text_forms.specs.declared.fault.ReadError.TheVariants as errors
use Rattle.text_forms.specs.Tokens.{Tok, at, first, rest_of, too_many_at}
use Rattle.text_forms.specs.Forms.{no_flag, one_flag, Form, token, lines, until, within, up_to_from}
use Rattle.text_forms.specs.Begins.{begins, steady}
use Rattle.text_forms.specs.Reading.{◌>>=◌, token_at, read_from, read}
use Rattle.text_forms.specs.Answers.{Gives, GivesAll, kept, with_front}
use Rattle.text_forms.specs.Lemmas.Tests.{both_true, false_not}
use Rattle.text_forms.specs.Lemmas.Lists.{kept_twice, steady_read, IsElement, fits_read, passes_read, goes_on_by, is_done_by, fails_by}

token_here : (xs : List Symbol) (ts : List Tok) → at xs ts ≡ true → token_at xs ts ≡ Ok (first ts, rest_of ts)
token_here xs ts here = rw here refl

-- an element of a plain list
pub record IsPlain {A : Type 0} (f : Form A) : Type 0 where
  pub element : IsElement f
  pub own : steady f ≡ true

-- ---- any number

module _ {A : Type 0} (xs : List Symbol) (f : Form A) (el : IsPlain f) where
  abbrev plain : Form (List A × Tok)
  plain = lines no_flag (λ (_ : Unit {0}). tt {0}) (λ s _. s) (λ _. f) xs (token xs) (tt {0})

  unfolded : (front : List A) (ts : List Tok) (total : Result (List A × List Tok) Fault) → with_front front (read (until xs f) ts) ≡ total → kept (λ (x : List A × Tok). front ++ x.0) (read plain ts) ≡ total
  unfolded front ts total so_far = sym (kept_twice (λ (ys : List A). front ++ ys) (λ (x : List A × Tok). x.0) (read plain ts)) ∙ so_far

  pub goes_on : (front : List A) (ts : List Tok) (a : A) (rest : List Tok) (total : Result (List A × List Tok) Fault) → at xs ts ≡ false → read f ts ≡ Ok (a, rest)
      → with_front front (read (until xs f) ts) ≡ total → with_front (front ++ a ∷ []) (read (until xs f) rest) ≡ total
  goes_on front ts a rest total off one so_far =
      kept_twice (λ (ys : List A). (front ++ a ∷ []) ++ ys) (λ (x : List A × Tok). x.0) (read plain rest)
      ∙ goes_on_by no_flag (λ (_ : Unit {0}). tt {0}) (λ s _. s) (λ _. f) xs (token xs) (λ _. el.element) 0 (tt {0}) (λ (x : List A × Tok). front ++ x.0) (λ (x : List A × Tok). (front ++ a ∷ []) ++ x.0) ts a rest total
      (λ ys b. sym (append_assoc front (a ∷ []) ys)) off (steady_read f el.own (first ts).place 0 ts ∙ one) (unfolded front ts total so_far)

  pub is_done : (front : List A) (ts : List Tok) (total : Result (List A × List Tok) Fault) → at xs ts ≡ true → with_front front (read (until xs f) ts) ≡ total → total ≡ Ok (front, rest_of ts)
  is_done front ts total here so_far =
      is_done_by no_flag (λ (_ : Unit {0}). tt {0}) (λ s _. s) (λ _. f) xs (token xs) (λ _. el.element) 0 (tt {0}) (λ (x : List A × Tok). front ++ x.0) ts (first ts) (rest_of ts) total here (token_here xs ts here) (unfolded front ts total so_far)
      ∙ ap (λ (l : List A). Ok (l, rest_of ts)) (append-nil front)

  pub fails_with : (front : List A) (ts rest : List Tok) (total : Result (List A × List Tok) Fault) (e : ReadError) → at xs ts ≡ false → Gives {A = A} (Err e) rest (read f ts)
      → with_front front (read (until xs f) ts) ≡ total → Gives {A = List A} (Err e) rest total
  fails_with front ts rest total e off one so_far =
      fails_by no_flag (λ (_ : Unit {0}). tt {0}) (λ s _. s) (λ _. f) xs (token xs) (λ _. el.element) 0 (tt {0}) (λ (x : List A × Tok). front ++ x.0) ts rest total e off
      (subst (λ (r : Result (A × List Tok) Fault). Gives {A = A} (Err e) rest r) (steady_read f el.own 0 (first ts).place ts) one) (unfolded front ts total so_far)

  pub fails_whole : (front : List A) (ts rest : List Tok) (total : Result (List A × List Tok) Fault) (e : ReadError) → at xs ts ≡ false → Gives {A = A} (Err e) rest (read f ts)
      → with_front front (read (until xs f) ts) ≡ total → GivesAll {A = List A} (Err e) (total >>= λ x. Ok x.0)
  fails_whole front ts rest total errors.Memory off one so_far = tt
  fails_whole front ts rest total (errors.Fault e) off one so_far =
      let gone : total ≡ Err e = fails_with front ts rest total (errors.Fault e) off one so_far in
      rw gone refl

-- ---- at most n

within_element : {A : Type 0} (f : Form A) → IsElement f → (full : Bool) → IsElement (within f full)
within_element f el false = el
within_element f el true = record { some = el.some; decided = both_true _ _ el.decided (false_not _ el.some) }

module _ {A : Type 0} (n : ℕ) (xs : List Symbol) (f : Form A) (el : IsPlain f) where
  abbrev limited : ℕ → Form (List A × Tok)
  limited k = lines one_flag (λ k. nat_le n k) (λ k (_ : A). suc k) (within f) xs (token xs) k

  unfolded_up_to : (k : ℕ) (front : List A) (ts : List Tok) (total : Result (List A × List Tok) Fault) → with_front front (read (up_to_from k n xs f) ts) ≡ total → kept (λ (x : List A × Tok). front ++ x.0) (read (limited k) ts) ≡ total
  unfolded_up_to k front ts total so_far = sym (kept_twice (λ (ys : List A). front ++ ys) (λ (x : List A × Tok). x.0) (read (limited k) ts)) ∙ so_far

  pub goes_on_up_to : (k : ℕ) (front : List A) (ts : List Tok) (a : A) (rest : List Tok) (total : Result (List A × List Tok) Fault) → nat_le n k && at (begins f) ts ≡ false → at xs ts ≡ false → read f ts ≡ Ok (a, rest)
      → with_front front (read (up_to_from k n xs f) ts) ≡ total → with_front (front ++ a ∷ []) (read (up_to_from (suc k) n xs f) rest) ≡ total
  goes_on_up_to k front ts a rest total fits off one so_far =
      kept_twice (λ (ys : List A). (front ++ a ∷ []) ++ ys) (λ (x : List A × Tok). x.0) (read (limited (suc k)) rest)
      ∙ goes_on_by one_flag (λ k. nat_le n k) (λ k (_ : A). suc k) (within f) xs (token xs) (within_element f el.element) 0 k (λ (x : List A × Tok). front ++ x.0) (λ (x : List A × Tok). (front ++ a ∷ []) ++ x.0) ts a rest total
      (λ ys b. sym (append_assoc front (a ∷ []) ys)) off (fits_read f el.own (nat_le n k) (first ts).place ts fits ∙ one) (unfolded_up_to k front ts total so_far)

  -- the same where as many stand before as were read
  pub goes_on_counted : (front : List A) (ts : List Tok) (a : A) (rest : List Tok) (total : Result (List A × List Tok) Fault) → nat_le n (length front) && at (begins f) ts ≡ false → at xs ts ≡ false → read f ts ≡ Ok (a, rest)
      → with_front front (read (up_to_from (length front) n xs f) ts) ≡ total → with_front (front ++ a ∷ []) (read (up_to_from (length (front ++ a ∷ [])) n xs f) rest) ≡ total
  goes_on_counted front ts a rest total fits off one so_far =
      let more : suc (length front) ≡ length (front ++ a ∷ []) = omega (arith, length-append front (a ∷ [])) in
      subst (λ (k : ℕ). with_front (front ++ a ∷ []) (read (up_to_from k n xs f) rest) ≡ total) more (goes_on_up_to (length front) front ts a rest total fits off one so_far)

  pub is_done_up_to : (k : ℕ) (front : List A) (ts : List Tok) (total : Result (List A × List Tok) Fault) → at xs ts ≡ true → with_front front (read (up_to_from k n xs f) ts) ≡ total → total ≡ Ok (front, rest_of ts)
  is_done_up_to k front ts total here so_far =
      is_done_by one_flag (λ k. nat_le n k) (λ k (_ : A). suc k) (within f) xs (token xs) (within_element f el.element) 0 k (λ (x : List A × Tok). front ++ x.0) ts (first ts) (rest_of ts) total here (token_here xs ts here) (unfolded_up_to k front ts total so_far)
      ∙ ap (λ (l : List A). Ok (l, rest_of ts)) (append-nil front)

  fails_at : (k : ℕ) (front : List A) (ts rest : List Tok) (total : Result (List A × List Tok) Fault) (e : ReadError) → at xs ts ≡ false → Gives {A = A} (Err e) rest (read_from (within f (nat_le n k)) (first ts).place ts)
      → with_front front (read (up_to_from k n xs f) ts) ≡ total → Gives {A = List A} (Err e) rest total
  fails_at k front ts rest total e off one so_far =
      fails_by one_flag (λ k. nat_le n k) (λ k (_ : A). suc k) (within f) xs (token xs) (within_element f el.element) 0 k (λ (x : List A × Tok). front ++ x.0) ts rest total e off one (unfolded_up_to k front ts total so_far)

  pub fails_up_to : (k : ℕ) (front : List A) (ts rest : List Tok) (total : Result (List A × List Tok) Fault) (e : ReadError) → nat_le n k && at (begins f) ts ≡ false → at xs ts ≡ false → Gives {A = A} (Err e) rest (read f ts)
      → with_front front (read (up_to_from k n xs f) ts) ≡ total → Gives {A = List A} (Err e) rest total
  fails_up_to k front ts rest total e fits off one so_far =
      fails_at k front ts rest total e off (subst (λ (r : Result (A × List Tok) Fault). Gives {A = A} (Err e) rest r) (sym (fits_read f el.own (nat_le n k) (first ts).place ts fits)) one) so_far

  -- an element begins past the limit
  pub too_many : (k : ℕ) (front : List A) (ts : List Tok) (total : Result (List A × List Tok) Fault) → nat_le n k && at (begins f) ts ≡ true → at xs ts ≡ false → with_front front (read (up_to_from k n xs f) ts) ≡ total → total ≡ Err (too_many_at (first ts).place)
  too_many k front ts total past off so_far = fails_at k front ts ts total (errors.Fault (too_many_at (first ts).place)) off (passes_read f (nat_le n k) (first ts).place ts past) so_far
