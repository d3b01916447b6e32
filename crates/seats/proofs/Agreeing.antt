-- Threads and entries agree after one thread and one stack have changed.
use Rattle.std.specs.Prelude.{◌≡◌, ◌≢◌, ℕ, ◌<◌, List, [], ◌∷◌, ◌++◌, Option, Some, None, length, slice_get, IsSomeAnd, refl}
use Rattle.std.proofs.Common.{sym, ◌∙◌, ap, subst, inl, inr, arith, set}
use Rattle.std.proofs.lemmas.Bool.{cases_eq}
use Rattle.std.proofs.lemmas.Option.{slice_get_within, same_Some}
use Rattle.frames.specs.Chains.{StoredChain}
use Rattle.stacks.specs.Stacks.{Bound}
use Rattle.stacks.specs.Directories.{Entry, Ready, Active, Dead}
use Rattle.stacks.specs.Lemmas.Writes.{get_written, get_unwritten, map_written, get_last}
use Rattle.mu_threads.specs.Threads.{there}
use Rattle.mu_model.specs.Configuration as stacks
use Rattle.seats.proofs.Lists.{get_more}
use Rattle.seats.specs.Kept.{frames_there, stack_seen, stacks_seen, Agree}

-- no other stack is on this thread, and no other thread on this stack
pub record IsAlone (bs : List (Option Bound)) (es : List Entry) (i n : ℕ) : Type 0 where
  pub stacks : (m : ℕ) → slice_get es m ≡ Some (Active i) → m ≡ n
  pub threads : (j : ℕ) (b : Bound) → there (slice_get bs j) ≡ Some b → b.number ≡ n → j ≡ i

-- all threads but one hold what they held
abbrev pub SameElsewhere : List (Option Bound) → List (Option Bound) → ℕ → Type 0
SameElsewhere old new i = (j : ℕ) → j ≢ i → slice_get new j ≡ slice_get old j

-- what a thread holds now fits the entry of the stack
pub record IsPair (b : Option Bound) (x : Entry) (i n : ℕ) : Type 0 where
  pub bound : (c : Bound) → b ≡ Some c → (c.thread ≡ i) × (c.number ≡ n) × (x ≡ Active i)
  pub active : (j : ℕ) → x ≡ Active j → (j ≡ i) × IsSomeAnd b (λ c. c.number ≡ n)
  pub ready : (c : StoredChain) (waits : List ℕ) → x ≡ Ready c waits → waits ≡ c.top.waits

number_is : (o : Option Bound) (b : Bound) (n : ℕ) → o ≡ Some b → IsSomeAnd o (λ c. c.number ≡ n) → b.number ≡ n
number_is None b n e h = absurd h
number_is (Some c) b n e h = ap (λ (x : Bound). x.number) (sym (same_Some c b e)) ∙ h

active_is : (i j : ℕ) → Some (Active i) ≡ Some (Active j) → i ≡ j
active_is i j e = cc

pub alone_held : (bs : List (Option Bound)) (es : List Entry) (i : ℕ) (b : Bound) → Agree bs es → there (slice_get bs i) ≡ Some b → IsAlone bs es i b.number
alone_held bs es i b a at =
    record {
      stacks = λ m h. sym (number_is (there (slice_get bs i)) b m at (a.active m i h));
      threads = λ j c h e.
          let P : ℕ → Type 0 = λ k. slice_get es k ≡ Some (Active j) in
          active_is j i (sym (subst P e ((a.bound j c h).1)) ∙ (a.bound i b at).1);
    }

none_there : (o : Option Bound) (P : Bound → Type 0) → o ≡ None → IsSomeAnd o P → ⊥
none_there None P e h = h
none_there (Some b) P e h = cc

pub alone_free : (bs : List (Option Bound)) (es : List Entry) (i n : ℕ) → Agree bs es → there (slice_get bs i) ≡ None → ((j : ℕ) → slice_get es n ≢ Some (Active j)) → IsAlone bs es i n
alone_free bs es i n a free apart =
    record {
      stacks = λ m h. absurd (none_there (there (slice_get bs i)) (λ c. c.number ≡ m) free (a.active m i h));
      threads = λ j c h e.
          let P : ℕ → Type 0 = λ k. slice_get es k ≡ Some (Active j) in
          absurd (apart j (subst P e ((a.bound j c h).1)));
    }

-- ---- the entry of the stack is written

entry_elsewhere : (es : List Entry) (n m : ℕ) (x y : Entry) → m ≢ n → slice_get (set es n x) m ≡ Some y → slice_get es m ≡ Some y
entry_elsewhere es n m x y apart at = sym (get_unwritten es n m x apart) ∙ at

entry_here : (es : List Entry) (n m : ℕ) (x y : Entry) → n < length es → m ≡ n → slice_get (set es n x) m ≡ Some y → x ≡ y
entry_here es n m x y within e at =
    let P : ℕ → Type 0 = λ k. slice_get (set es n x) k ≡ Some y in
    same_Some x y (sym (get_written es n x within) ∙ subst P e at)

bound_written : (bs new : List (Option Bound)) (es : List Entry) (i n : ℕ) (x : Entry) → Agree bs es → IsAlone bs es i n → n < length es → SameElsewhere bs new i → IsPair (there (slice_get new i)) x i n → (j : ℕ) (b : Bound) → there (slice_get new j) ≡ Some b → (b.thread ≡ j) × (slice_get (set es n x) b.number ≡ Some (Active j))
bound_written bs new es i n x a alone within same pair j b at =
    elim (cases_eq j i) as (λ _. (b.thread ≡ j) × (slice_get (set es n x) b.number ≡ Some (Active j))) [
      | inl e ↦
          let P : ℕ → Type 0 = λ k. there (slice_get new k) ≡ Some b in
          let p = pair.bound b (subst P e at) in
          (p.0 ∙ sym e, ap (slice_get (set es n x)) p.1 ∙ get_written es n x within ∙ ap Some p.2 ∙ ap (λ k. Some (Active k)) (sym e))
      | inr apart ↦
          let was = sym (ap there (same j apart)) ∙ at in
          let p = a.bound j b was in
          (p.0, get_unwritten es n b.number x (λ e. apart (alone.threads j b was e)) ∙ p.1)
    ]

active_written : (bs new : List (Option Bound)) (es : List Entry) (i n : ℕ) (x : Entry) → Agree bs es → IsAlone bs es i n → n < length es → SameElsewhere bs new i → IsPair (there (slice_get new i)) x i n → (m j : ℕ) → slice_get (set es n x) m ≡ Some (Active j) → IsSomeAnd (there (slice_get new j)) (λ b. b.number ≡ m)
active_written bs new es i n x a alone within same pair m j at =
    elim (cases_eq m n) as (λ _. IsSomeAnd (there (slice_get new j)) (λ b. b.number ≡ m)) [
      | inl e ↦
          let p = pair.active j (entry_here es n m x (Active j) within e at) in
          let P : ℕ → Type 0 = λ k. IsSomeAnd (there (slice_get new k)) (λ b. b.number ≡ m) in
          let Q : ℕ → Type 0 = λ k. IsSomeAnd (there (slice_get new i)) (λ b. b.number ≡ k) in
          subst P (sym p.0) (subst Q (sym e) p.1)
      | inr apart ↦
          let was = entry_elsewhere es n m x (Active j) apart at in
          let P : ℕ → Type 0 = λ k. slice_get es m ≡ Some (Active k) in
          let Q : Option Bound → Type 0 = λ o. IsSomeAnd o (λ b. b.number ≡ m) in
          subst Q (sym (ap there (same j (λ e. apart (alone.stacks m (subst P e was)))))) (a.active m j was)
    ]

pub agree_written : (bs new : List (Option Bound)) (es : List Entry) (i n : ℕ) (x : Entry) → Agree bs es → IsAlone bs es i n → n < length es → SameElsewhere bs new i → IsPair (there (slice_get new i)) x i n → Agree new (set es n x)
agree_written bs new es i n x a alone within same pair =
    record {
      bound = bound_written bs new es i n x a alone within same pair;
      active = active_written bs new es i n x a alone within same pair;
      ready = λ m c waits at.
          elim (cases_eq m n) as (λ _. waits ≡ c.top.waits) [
            | inl e ↦ pair.ready c waits (entry_here es n m x (Ready c waits) within e at)
            | inr apart ↦ a.ready m c waits (entry_elsewhere es n m x (Ready c waits) apart at)
          ];
    }

seen_elsewhere : (bs new : List (Option Bound)) (es : List Entry) (i n : ℕ) → IsAlone bs es i n → SameElsewhere bs new i → (m : ℕ) (y : Entry) → m ≢ n → slice_get es m ≡ Some y → stack_seen new y ≡ stack_seen bs y
seen_elsewhere bs new es i n alone same m (Ready c waits) apart at = refl
seen_elsewhere bs new es i n alone same m Dead apart at = refl
seen_elsewhere bs new es i n alone same m (Active j) apart at =
    let P : ℕ → Type 0 = λ k. slice_get es m ≡ Some (Active k) in
    ap (λ (o : Option (Option Bound)). stacks.Active j (frames_there (there o))) (same j (λ e. apart (alone.stacks m (subst P e at))))

pub stacks_written : (bs new : List (Option Bound)) (es : List Entry) (i n : ℕ) (x : Entry) → IsAlone bs es i n → SameElsewhere bs new i → stacks_seen new (set es n x) ≡ set (stacks_seen bs es) n (stack_seen new x)
stacks_written bs new es i n x alone same = map_written (stack_seen new) (stack_seen bs) es n x (seen_elsewhere bs new es i n alone same)

-- ---- one stack more

before : {A : Type 0} (xs : List A) (n : ℕ) (x : A) → slice_get xs n ≡ Some x → n ≢ length xs
before xs n x at e = absurd (omega (arith, slice_get_within xs n x at, e))

last_is : (es : List Entry) (x y : Entry) (n : ℕ) → n ≡ length es → slice_get (es ++ x ∷ []) n ≡ Some y → x ≡ y
last_is es x y n e at =
    let P : ℕ → Type 0 = λ k. slice_get (es ++ x ∷ []) k ≡ Some y in
    same_Some x y (sym (get_last es x) ∙ subst P e at)

fits_at_top : (c d : StoredChain) (waits ws : List ℕ) → Ready c waits ≡ Ready d ws → waits ≡ c.top.waits → ws ≡ d.top.waits
fits_at_top c d waits ws e top =
    let same : c ≡ d = cc in
    let these : waits ≡ ws = cc in
    sym these ∙ top ∙ ap (λ (k : StoredChain). k.top.waits) same

ready_or_active : (c : StoredChain) (waits : List ℕ) (i : ℕ) → Ready c waits ≡ Active i → ⊥
ready_or_active c waits i e = cc

pub agree_more : (bs : List (Option Bound)) (es : List Entry) (c : StoredChain) (waits : List ℕ) → Agree bs es → waits ≡ c.top.waits → Agree bs (es ++ Ready c waits ∷ [])
agree_more bs es c waits a top =
    record {
      bound = λ i b at. let p = a.bound i b at in (p.0, get_more es (Ready c waits) b.number (before es b.number (Active i) p.1) ∙ p.1);
      active = λ n i at.
          elim (cases_eq n (length es)) as (λ _. IsSomeAnd (there (slice_get bs i)) (λ b. b.number ≡ n)) [
            | inl e ↦ absurd (ready_or_active c waits i (last_is es (Ready c waits) (Active i) n e at))
            | inr apart ↦ a.active n i (sym (get_more es (Ready c waits) n apart) ∙ at)
          ];
      ready = λ n d ws at.
          elim (cases_eq n (length es)) as (λ _. ws ≡ d.top.waits) [
            | inl e ↦ fits_at_top c d waits ws (last_is es (Ready c waits) (Ready d ws) n e at) top
            | inr apart ↦ a.ready n d ws (sym (get_more es (Ready c waits) n apart) ∙ at)
          ];
    }
