-- What a directory keeps stays sound, and is seen as its contract says, when a stack is made, taken, put back or ended.
use Rattle.std.specs.Prelude.{◌≡◌, ◌≢◌, ℕ, ◌+◌, ◌-◌, ◌<◌, ◌≤◌, List, [], ◌∷◌, ◌++◌, Option, Some, None, map, length, count_by, cond, slice_get, IsSome, IsSomeAnd, option_map, refl}
use Rattle.std.proofs.Common.{sym, ◌∙◌, ap, subst, inl, inr, arith, set, get_or}
use Rattle.std.proofs.lemmas.Bool.{cases_eq}
use Rattle.std.proofs.lemmas.List.{length-set, length_push, map-set}
use Rattle.std.proofs.lemmas.List.Sums.{sum_by-set, sum_by-append}
use Rattle.std.proofs.lemmas.Option.{slice_get-map, slice_get_within, get_or_from_slice_get, same_Some}
use Rattle.slab.specs.Slab.{Slab, get, slab_len, Updates}
use Rattle.stacks.specs.Stacks.{Unbound}
use Rattle.stacks.specs.Directories.{Entry, IsTaken, state_of}
use Rattle.stacks.specs.Directories as entries
use Rattle.stacks.specs.Kept.{entry_of, entry_of_body, state_kept, is_active, HasBodies, IsSound}
use Rattle.stacks.specs.declared.state.StackState.{StackState}
use Rattle.stacks.specs.declared.directory.Kept.{Kept}
use Rattle.stacks.specs.declared.directory.Kept.TheVariants.{Ready, Active, Dead}
use Rattle.stacks.specs.Lemmas.Writes.{get_written, get_unwritten, map_written, map_pushed, get_pushed, get_last}

-- no stack but n has its body under the key
abbrev IsFree : List Kept → ℕ → ℕ → Type 0
IsFree kept n key = (m k : ℕ) → m ≢ n → slice_get kept m ≡ Some (Ready k) → k ≢ key

one_number : (o : Option Unbound) (m n : ℕ) → IsSomeAnd o (λ s. s.number ≡ m) → IsSomeAnd o (λ s. s.number ≡ n) → m ≡ n
one_number None m n a b = absurd a
one_number (Some s) m n a b = sym a ∙ b

own_is_free : (kept : List Kept) (bodies : Slab Unbound) (n key : ℕ) → HasBodies kept bodies → slice_get kept n ≡ Some (Ready key) → IsFree kept n key
own_is_free kept bodies n key has at m k apart there same =
    let P : ℕ → Type 0 = λ j. IsSomeAnd (get bodies j) (λ s. s.number ≡ m) in
    apart (one_number (get bodies key) m n (subst P same (has m k there)) (has n key at))

vacant_is_free : (kept : List Kept) (bodies : Slab Unbound) (n key : ℕ) → HasBodies kept bodies → get bodies key ≡ None → IsFree kept n key
vacant_is_free kept bodies n key has vacant m k apart there same =
    let P : ℕ → Type 0 = λ j. IsSomeAnd (get bodies j) (λ s. s.number ≡ m) in
    let Q : Option Unbound → Type 0 = λ o. IsSomeAnd o (λ s. s.number ≡ m) in
    subst Q vacant (subst P same (has m k there))

-- the others are seen as they were
others_seen : (kept : List Kept) (old new : Slab Unbound) (n key : ℕ) (slot : Option Unbound) → IsFree kept n key → Updates old new key slot → (m : ℕ) (x : Kept) → m ≢ n → slice_get kept m ≡ Some x → entry_of new x ≡ entry_of old x
others_seen kept old new n key slot free updates m (Ready k) apart at = ap entry_of_body (updates.others k (free m k apart at))
others_seen kept old new n key slot free updates m (Active thread) apart at = refl
others_seen kept old new n key slot free updates m Dead apart at = refl

seen_written : (kept : List Kept) (old new : Slab Unbound) (n key : ℕ) (slot : Option Unbound) (x : Kept) → IsFree kept n key → Updates old new key slot → map (entry_of new) (set kept n x) ≡ set (map (entry_of old) kept) n (entry_of new x)
seen_written kept old new n key slot x free updates =
    map_written (entry_of new) (entry_of old) kept n x (others_seen kept old new n key slot free updates)

others_bodied : (kept : List Kept) (old new : Slab Unbound) (n key : ℕ) (slot : Option Unbound) → HasBodies kept old → IsFree kept n key → Updates old new key slot → (m k : ℕ) → m ≢ n → slice_get kept m ≡ Some (Ready k) → IsSomeAnd (get new k) (λ s. s.number ≡ m)
others_bodied kept old new n key slot has free updates m k apart at =
    let P : Option Unbound → Type 0 = λ o. IsSomeAnd o (λ s. s.number ≡ m) in
    subst P (sym (updates.others k (free m k apart at))) (has m k at)

bodied_written : (kept : List Kept) (old new : Slab Unbound) (n key : ℕ) (slot : Option Unbound) (x : Kept) → n < length kept → HasBodies kept old → IsFree kept n key → Updates old new key slot → ((k : ℕ) → x ≡ Ready k → IsSomeAnd (get new k) (λ s. s.number ≡ n)) → HasBodies (set kept n x) new
bodied_written kept old new n key slot x within has free updates here m k at =
    elim (cases_eq m n) as (λ _. IsSomeAnd (get new k) (λ s. s.number ≡ m)) [
      | inl same ↦
          let P : ℕ → Type 0 = λ j. IsSomeAnd (get new k) (λ s. s.number ≡ j) in
          let Q : ℕ → Type 0 = λ j. slice_get (set kept n x) j ≡ Some (Ready k) in
          subst P (sym same) (here k (same_Some x (Ready k) (sym (get_written kept n x within) ∙ subst Q same at)))
      | inr apart ↦ others_bodied kept old new n key slot has free updates m k apart (sym (get_unwritten kept n m x apart) ∙ at)
    ]

-- how many were taken, once stack n is kept as x and no longer as y
active_written : (kept : List Kept) (n : ℕ) (x y : Kept) → slice_get kept n ≡ Some y → count_by is_active (set kept n x) + cond (is_active y) 1 0 ≡ count_by is_active kept + cond (is_active x) 1 0
active_written kept n x y at =
    let read : get_or kept n y ≡ y = get_or_from_slice_get kept n y y at in
    let sums = sum_by-set (λ k. cond (is_active k) 1 0) kept n x y (slice_get_within kept n y at) in
    let P : Kept → Type 0 = λ k. count_by is_active (set kept n x) + cond (is_active k) 1 0 ≡ count_by is_active kept + cond (is_active x) 1 0 in
    subst P read sums

-- a body leaves, and its stack is kept as x, which has none
left_sound : (kept : List Kept) (old new : Slab Unbound) (active more n key : ℕ) (x : Kept) → IsSound kept old active → slice_get kept n ≡ Some (Ready key) → Updates old new key None → slab_len new + 1 ≡ slab_len old → new.capacity ≡ old.capacity → ((k : ℕ) → x ≢ Ready k) → cond (is_active x) 1 0 ≡ more → more ≤ 1 → IsSound (set kept n x) new (active + more)
left_sound kept old new active more n key x sound at updates len capacity bodiless is_more one =
    record {
      bodied = bodied_written kept old new n key None x (slice_get_within kept n _ at) sound.bodied (own_is_free kept old n key sound.bodied at) updates (λ k e. absurd (bodiless k e));
      counted = let counts = active_written kept n x (Ready key) at in omega (arith, sound.counted);
      room = omega (arith, sound.room);
      few = rw (length-set kept n x) sound.few;
    }

pub taken_sound : (kept : List Kept) (old new : Slab Unbound) (active n key thread : ℕ) → IsSound kept old active → slice_get kept n ≡ Some (Ready key) → Updates old new key None → slab_len new + 1 ≡ slab_len old → new.capacity ≡ old.capacity → IsSound (set kept n (Active thread)) new (active + 1)
taken_sound kept old new active n key thread sound at updates len capacity =
    left_sound kept old new active 1 n key (Active thread) sound at updates len capacity (λ k e. cc) refl (omega arith)

pub taken_seen : (kept : List Kept) (old new : Slab Unbound) (active n key thread : ℕ) → IsSound kept old active → slice_get kept n ≡ Some (Ready key) → Updates old new key None → map (entry_of new) (set kept n (Active thread)) ≡ set (map (entry_of old) kept) n (entries.Active thread)
taken_seen kept old new active n key thread sound at updates =
    seen_written kept old new n key None (Active thread) (own_is_free kept old n key sound.bodied at) updates

pub killed_sound : (kept : List Kept) (old new : Slab Unbound) (active n key : ℕ) → IsSound kept old active → slice_get kept n ≡ Some (Ready key) → Updates old new key None → slab_len new + 1 ≡ slab_len old → new.capacity ≡ old.capacity → IsSound (set kept n Dead) new active
killed_sound kept old new active n key sound at updates len capacity =
    let P : ℕ → Type 0 = λ k. IsSound (set kept n Dead) new k in
    let same : active + 0 ≡ active = omega arith in
    subst P same (left_sound kept old new active 0 n key Dead sound at updates len capacity (λ k e. cc) refl (omega arith))

pub killed_seen : (kept : List Kept) (old new : Slab Unbound) (active n key : ℕ) → IsSound kept old active → slice_get kept n ≡ Some (Ready key) → Updates old new key None → map (entry_of new) (set kept n Dead) ≡ set (map (entry_of old) kept) n entries.Dead
killed_seen kept old new active n key sound at updates =
    seen_written kept old new n key None Dead (own_is_free kept old n key sound.bodied at) updates

-- the new body is that of stack n
own_body : (new : Slab Unbound) (n key : ℕ) (s : Unbound) → get new key ≡ Some s → s.number ≡ n → (k : ℕ) → Ready key ≡ Ready k → IsSomeAnd (get new k) (λ b. b.number ≡ n)
own_body new n key s changed number k e =
    let P : ℕ → Type 0 = λ j. IsSomeAnd (get new j) (λ b. b.number ≡ n) in
    let same : key ≡ k = cc in
    let Q : Option Unbound → Type 0 = λ o. IsSomeAnd o (λ b. b.number ≡ n) in
    subst P same (subst Q (sym changed) number)

pub put_sound : (kept : List Kept) (old new : Slab Unbound) (active n key thread : ℕ) (s : Unbound) → IsSound kept old active → slice_get kept n ≡ Some (Active thread) → get old key ≡ None → Updates old new key (Some s) → s.number ≡ n → slab_len new ≡ slab_len old + 1 → new.capacity ≡ old.capacity → IsSound (set kept n (Ready key)) new (active - 1)
put_sound kept old new active n key thread s sound at vacant updates number len capacity =
    let counts = active_written kept n (Ready key) (Active thread) at in
    record {
      bodied =
          bodied_written kept old new n key (Some s) (Ready key) (slice_get_within kept n _ at) sound.bodied (vacant_is_free kept old n key sound.bodied vacant) updates
          (own_body new n key s updates.changed number);
      counted = omega (arith, sound.counted);
      room = omega (arith, sound.room, sound.counted);
      few = rw (length-set kept n (Ready key)) sound.few;
    }

pub put_seen : (kept : List Kept) (old new : Slab Unbound) (active n key : ℕ) (s : Unbound) → IsSound kept old active → get old key ≡ None → Updates old new key (Some s) → map (entry_of new) (set kept n (Ready key)) ≡ set (map (entry_of old) kept) n (entries.Ready s.frames s.waits)
put_seen kept old new active n key s sound vacant updates =
    seen_written kept old new n key (Some s) (Ready key) (vacant_is_free kept old n key sound.bodied vacant) updates
    ∙ ap (λ o. set (map (entry_of old) kept) n (entry_of_body o)) updates.changed

pub made_sound : (kept : List Kept) (old new : Slab Unbound) (active key : ℕ) (s : Unbound) → IsSound kept old active → get old key ≡ None → Updates old new key (Some s) → s.number ≡ length kept → slab_len old + (active + 1) ≤ old.capacity → slab_len new ≡ slab_len old + 1 → new.capacity ≡ old.capacity → length kept < 4294967295 → IsSound (kept ++ Ready key ∷ []) new active
made_sound kept old new active key s sound vacant updates number had_room len capacity few =
    let free = vacant_is_free kept old (length kept) key sound.bodied vacant in
    record {
      bodied =
          λ m k at.
          elim (cases_eq m (length kept)) as (λ _. IsSomeAnd (get new k) (λ b. b.number ≡ m)) [
            | inl same ↦
                let P : ℕ → Type 0 = λ j. IsSomeAnd (get new k) (λ b. b.number ≡ j) in
                let Q : ℕ → Type 0 = λ j. slice_get (kept ++ Ready key ∷ []) j ≡ Some (Ready k) in
                let here : Ready key ≡ Ready k = same_Some (Ready key) (Ready k) (sym (get_last kept (Ready key)) ∙ subst Q same at) in
                subst P (sym same) (own_body new (length kept) key s updates.changed number k here)
            | inr apart ↦ others_bodied kept old new (length kept) key (Some s) sound.bodied free updates m k apart (get_pushed kept (Ready key) (Ready k) m apart at)
          ];
      counted = let sums = sum_by-append (λ k. cond (is_active k) 1 0) kept (Ready key ∷ []) in omega (arith, sound.counted);
      room = omega arith;
      few = omega (arith, length_push kept (Ready key));
    }

-- bodies for which room was made
pub roomy_sound : (kept : List Kept) (old new : Slab Unbound) (active : ℕ) → IsSound kept old active → new ≡ record old { capacity = new.capacity } → old.capacity ≤ new.capacity → IsSound kept new active
roomy_sound kept old new active sound same more =
    let P : Slab Unbound → Type 0 = λ b. IsSound kept b active in
    let roomy : IsSound kept (record old { capacity = new.capacity }) active =
    record { bodied = sound.bodied; counted = sound.counted; room = omega (arith, sound.room); few = sound.few } in
    subst P (sym same) roomy

pub made_seen : (kept : List Kept) (old new : Slab Unbound) (active key : ℕ) (s : Unbound) → IsSound kept old active → get old key ≡ None → Updates old new key (Some s) → map (entry_of new) (kept ++ Ready key ∷ []) ≡ map (entry_of old) kept ++ entries.Ready s.frames s.waits ∷ []
made_seen kept old new active key s sound vacant updates =
    let free = vacant_is_free kept old (length kept) key sound.bodied vacant in
    let others =
    λ (m : ℕ) (x : Kept) (at : slice_get kept m ≡ Some x).
    let within : m < length kept = slice_get_within kept m x at in
    others_seen kept old new (length kept) key (Some s) free updates m x (omega arith) at in
    map_pushed (entry_of new) (entry_of old) kept (Ready key) others
    ∙ ap (λ o. map (entry_of old) kept ++ entry_of_body o ∷ []) updates.changed

-- a stack that was taken ends; the bodies stay
pub ended_sound : (kept : List Kept) (bodies : Slab Unbound) (active n thread : ℕ) → IsSound kept bodies active → slice_get kept n ≡ Some (Active thread) → IsSound (set kept n Dead) bodies (active - 1)
ended_sound kept bodies active n thread sound at =
    let counts = active_written kept n Dead (Active thread) at in
    let within : n < length kept = slice_get_within kept n (Active thread) at in
    record {
      bodied =
          λ m k there.
          elim (cases_eq m n) as (λ _. IsSomeAnd (get bodies k) (λ b. b.number ≡ m)) [
            | inl same ↦
                let Q : ℕ → Type 0 = λ j. slice_get (set kept n Dead) j ≡ Some (Ready k) in
                let dead : Dead ≡ Ready k = same_Some Dead (Ready k) (sym (get_written kept n Dead within) ∙ subst Q same there) in
                absurd (cc)
            | inr apart ↦ sound.bodied m k (sym (get_unwritten kept n m Dead apart) ∙ there)
          ];
      counted = omega (arith, sound.counted);
      room = omega (arith, sound.room);
      few = rw (length-set kept n Dead) sound.few;
    }

pub ended_seen : (kept : List Kept) (bodies : Slab Unbound) (n : ℕ) → map (entry_of bodies) (set kept n Dead) ≡ set (map (entry_of bodies) kept) n entries.Dead
ended_seen kept bodies n = map-set (entry_of bodies) kept n Dead

-- what a look-up of the entry tells of what is kept
no_body_is_taken : (o : Option Unbound) → IsTaken (Some (entry_of_body o)) → ⊥
no_body_is_taken None taken = taken
no_body_is_taken (Some s) taken = taken

taken_option : (bodies : Slab Unbound) (o : Option Kept) → IsTaken (option_map (entry_of bodies) o) → (thread : ℕ) × (o ≡ Some (Active thread))
taken_option bodies None taken = absurd taken
taken_option bodies (Some (Ready key)) taken = absurd (no_body_is_taken (get bodies key) taken)
taken_option bodies (Some (Active thread)) taken = (thread, refl)
taken_option bodies (Some Dead) taken = absurd taken

pub taken_kept : (kept : List Kept) (bodies : Slab Unbound) (all : List Entry) (n : ℕ) → map (entry_of bodies) kept ≡ all → IsTaken (slice_get all n) → (thread : ℕ) × (slice_get kept n ≡ Some (Active thread))
taken_kept kept bodies all n seen taken =
    let P : Option Entry → Type 0 = λ o. IsTaken o in
    let look : slice_get all n ≡ option_map (entry_of bodies) (slice_get kept n) =
    ap (λ (es : List Entry). slice_get es n) (sym seen) ∙ slice_get-map (entry_of bodies) kept n in
    taken_option bodies (slice_get kept n) (subst P look taken)

body_there : (o : Option Unbound) (n : ℕ) → IsSomeAnd o (λ s. s.number ≡ n) → IsSome o
body_there None n there = absurd there
body_there (Some s) n there = refl

pub ready_bodied : (kept : List Kept) (bodies : Slab Unbound) (active n key : ℕ) → IsSound kept bodies active → slice_get kept n ≡ Some (Ready key) → IsSome (get bodies key)
ready_bodied kept bodies active n key sound at = body_there (get bodies key) n (sound.bodied n key at)

pub ready_number : (kept : List Kept) (bodies : Slab Unbound) (active n key : ℕ) (s : Unbound) → IsSound kept bodies active → slice_get kept n ≡ Some (Ready key) → get bodies key ≡ Some s → s.number ≡ n
ready_number kept bodies active n key s sound at there =
    let P : Option Unbound → Type 0 = λ o. IsSomeAnd o (λ b. b.number ≡ n) in
    subst P there (sound.bodied n key at)

pub ready_seen : (kept : List Kept) (bodies : Slab Unbound) (n key : ℕ) (s : Unbound) → slice_get kept n ≡ Some (Ready key) → get bodies key ≡ Some s → slice_get (map (entry_of bodies) kept) n ≡ Some (entries.Ready s.frames s.waits)
ready_seen kept bodies n key s at there =
    slice_get-map (entry_of bodies) kept n ∙ ap (option_map (entry_of bodies)) at ∙ ap (λ o. Some (entry_of_body o)) there

body_is_ready : (o : Option Unbound) (n key : ℕ) → IsSomeAnd o (λ s. s.number ≡ n) → state_of (entry_of_body o) ≡ state_kept (Ready key)
body_is_ready None n key there = absurd there
body_is_ready (Some s) n key there = refl

states_agree : (kept : List Kept) (bodies : Slab Unbound) (n : ℕ) (x : Kept) → HasBodies kept bodies → slice_get kept n ≡ Some x → state_of (entry_of bodies x) ≡ state_kept x
states_agree kept bodies n (Ready key) has at = body_is_ready (get bodies key) n key (has n key at)
states_agree kept bodies n (Active thread) has at = refl
states_agree kept bodies n Dead has at = refl

state_option : (kept : List Kept) (bodies : Slab Unbound) (n : ℕ) (o : Option Kept) (state : StackState) → HasBodies kept bodies → slice_get kept n ≡ o → option_map state_kept o ≡ Some state → option_map state_of (option_map (entry_of bodies) o) ≡ Some state
state_option kept bodies n None state has at told = absurd (cc)
state_option kept bodies n (Some x) state has at told = ap Some (states_agree kept bodies n x has at) ∙ told

pub state_seen : (kept : List Kept) (bodies : Slab Unbound) (active n : ℕ) (state : StackState) → IsSound kept bodies active → option_map state_kept (slice_get kept n) ≡ Some state → option_map state_of (slice_get (map (entry_of bodies) kept) n) ≡ Some state
state_seen kept bodies active n state sound told =
    ap (option_map state_of) (slice_get-map (entry_of bodies) kept n) ∙ state_option kept bodies n (slice_get kept n) state sound.bodied refl told

pub taken_counts : (kept : List Kept) (bodies : Slab Unbound) (active n thread : ℕ) → IsSound kept bodies active → slice_get kept n ≡ Some (Active thread) → 0 < active
taken_counts kept bodies active n thread sound at =
    let counts = active_written kept n Dead (Active thread) at in omega (arith, sound.counted)
