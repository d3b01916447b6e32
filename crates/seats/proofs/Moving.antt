-- A stack leaves its thread, is entered by a thread, or has other frames: what is kept still agrees, and what is seen.
use Rattle.std.specs.Prelude.{◌≡◌, ◌≢◌, ℕ, zero, suc, ◌<◌, List, [], ◌∷◌, ◌++◌, Option, Some, None, length, slice_get, refl}
use Rattle.std.proofs.Common.{sym, ◌∙◌, ap, subst, arith, set}
use Rattle.std.proofs.lemmas.Option.{slice_get_within, slice_get_past, same_Some}
use Rattle.frames.specs.Chains.{StoredChain, frames_in}
use Rattle.stacks.specs.Stacks.{Bound}
use Rattle.stacks.specs.Directories.{Entry, Ready, Active, Dead}
use Rattle.stacks.specs.Lemmas.Writes.{get_written, get_unwritten, get_last}
use Rattle.mu_threads.specs.Threads.{there}
use Rattle.mu_model.specs.Configuration as stacks
use Rattle.seats.specs.Kept.{frames_there, stack_seen, stacks_seen, Agree}
use Rattle.seats.proofs.Lists.{set_same, get_more}
use Rattle.seats.proofs.Agreeing.{SameElsewhere, IsPair, alone_held, alone_free, agree_written, stacks_written}

abbrev pub entered_by : ℕ → ℕ → StoredChain → Bound
entered_by n i c = record { number = n; thread = i; frames = c; passed = None }

abbrev pub with_frames : StoredChain → Bound → Bound
with_frames f b = record b { frames = f }

elsewhere : (bs : List (Option Bound)) (i : ℕ) (o : Option Bound) → SameElsewhere bs (set bs i o) i
elsewhere bs i o j apart = get_unwritten bs i j o apart

there_written : (bs : List (Option Bound)) (i : ℕ) (o : Option Bound) → i < length bs → there (slice_get (set bs i o) i) ≡ o
there_written bs i o within = ap there (get_written bs i o within)

pair_of : (b c : Option Bound) (x : Entry) (i n : ℕ) → b ≡ c → IsPair c x i n → IsPair b x i n
pair_of b c x i n e p = subst (λ o. IsPair o x i n) (sym e) p

-- ---- a stack leaves its thread

left_pair : (x : Entry) (i n : ℕ) → ((j : ℕ) → x ≢ Active j) → ((c : StoredChain) (waits : List ℕ) → x ≡ Ready c waits → waits ≡ c.top.waits) → IsPair None x i n
left_pair x i n apart ready = record { bound = λ c e. cc; active = λ j e. absurd (apart j e); ready = ready }

entry_within : (bs : List (Option Bound)) (es : List Entry) (i : ℕ) (b : Bound) → Agree bs es → slice_get bs i ≡ Some (Some b) → b.number < length es
entry_within bs es i b a at = slice_get_within es b.number (Active i) ((a.bound i b (ap there at)).1)

agree_left : (bs : List (Option Bound)) (es : List Entry) (i : ℕ) (b : Bound) (x : Entry) → Agree bs es → slice_get bs i ≡ Some (Some b) → IsPair None x i b.number → Agree (set bs i None) (set es b.number x)
agree_left bs es i b x a at pair =
    agree_written bs (set bs i None) es i b.number x a (alone_held bs es i b a (ap there at)) (entry_within bs es i b a at) (elsewhere bs i None)
    (pair_of (there (slice_get (set bs i None) i)) None x i b.number (there_written bs i None (slice_get_within bs i (Some b) at)) pair)

pub agree_ready : (bs : List (Option Bound)) (es : List Entry) (i : ℕ) (b : Bound) (waits : List ℕ) → Agree bs es → slice_get bs i ≡ Some (Some b) → waits ≡ b.frames.top.waits → Agree (set bs i None) (set es b.number (Ready b.frames waits))
agree_ready bs es i b waits a at top = agree_left bs es i b (Ready b.frames waits) a at (left_pair (Ready b.frames waits) i b.number (λ j e. cc) (λ c ws e. let same : b.frames ≡ c = cc in let these : waits ≡ ws = cc in sym these ∙ top ∙ ap (λ (k : StoredChain). k.top.waits) same))

pub agree_dead : (bs : List (Option Bound)) (es : List Entry) (i : ℕ) (b : Bound) → Agree bs es → slice_get bs i ≡ Some (Some b) → Agree (set bs i None) (set es b.number Dead)
agree_dead bs es i b a at = agree_left bs es i b Dead a at (left_pair Dead i b.number (λ j e. cc) (λ c ws e. cc))

seen_left : (bs : List (Option Bound)) (es : List Entry) (i : ℕ) (b : Bound) (x : Entry) → Agree bs es → slice_get bs i ≡ Some (Some b) → stacks_seen (set bs i None) (set es b.number x) ≡ set (stacks_seen bs es) b.number (stack_seen (set bs i None) x)
seen_left bs es i b x a at = stacks_written bs (set bs i None) es i b.number x (alone_held bs es i b a (ap there at)) (elsewhere bs i None)

pub seen_ready : (bs : List (Option Bound)) (es : List Entry) (i : ℕ) (b : Bound) (waits : List ℕ) → Agree bs es → slice_get bs i ≡ Some (Some b) → stacks_seen (set bs i None) (set es b.number (Ready b.frames waits)) ≡ set (stacks_seen bs es) b.number (stacks.Ready (frames_in b.frames))
seen_ready bs es i b waits a at = seen_left bs es i b (Ready b.frames waits) a at

pub seen_dead : (bs : List (Option Bound)) (es : List Entry) (i : ℕ) (b : Bound) → Agree bs es → slice_get bs i ≡ Some (Some b) → stacks_seen (set bs i None) (set es b.number Dead) ≡ set (stacks_seen bs es) b.number stacks.Dead
seen_dead bs es i b a at = seen_left bs es i b Dead a at

-- ---- a thread enters a stack

entered_pair : (n i : ℕ) (c : StoredChain) → IsPair (Some (entered_by n i c)) (Active i) i n
entered_pair n i c =
    record {
      bound = λ d e.
          let same : entered_by n i c ≡ d = same_Some (entered_by n i c) d e in
          (sym (ap (λ (k : Bound). k.thread) same), sym (ap (λ (k : Bound). k.number) same), refl);
      active = λ j e. let same : i ≡ j = cc in (sym same, refl);
      ready = λ d ws e. cc;
    }

not_active : (o : Option Entry) (c : StoredChain) (waits : List ℕ) → o ≡ Some (Ready c waits) → (j : ℕ) → o ≢ Some (Active j)
not_active o c waits e j h = cc

pub agree_entered : (bs new : List (Option Bound)) (es : List Entry) (i n : ℕ) (c : StoredChain) (waits : List ℕ) → Agree bs es → there (slice_get bs i) ≡ None → SameElsewhere bs new i → there (slice_get new i) ≡ Some (entered_by n i c) → slice_get es n ≡ Some (Ready c waits) → Agree new (set es n (Active i))
agree_entered bs new es i n c waits a free same now at =
    agree_written bs new es i n (Active i) a (alone_free bs es i n a free (not_active (slice_get es n) c waits at)) (slice_get_within es n (Ready c waits) at) same
    (pair_of (there (slice_get new i)) (Some (entered_by n i c)) (Active i) i n now (entered_pair n i c))

pub seen_entered : (bs new : List (Option Bound)) (es : List Entry) (i n : ℕ) (c : StoredChain) (waits : List ℕ) → Agree bs es → there (slice_get bs i) ≡ None → SameElsewhere bs new i → there (slice_get new i) ≡ Some (entered_by n i c) → slice_get es n ≡ Some (Ready c waits) → stacks_seen new (set es n (Active i)) ≡ set (stacks_seen bs es) n (stacks.Active i (frames_in c))
seen_entered bs new es i n c waits a free same now at =
    stacks_written bs new es i n (Active i) (alone_free bs es i n a free (not_active (slice_get es n) c waits at)) same
    ∙ ap (λ o. set (stacks_seen bs es) n (stacks.Active i (frames_there o))) now

-- by a thread that has none
pub back_there : (bs : List (Option Bound)) (i : ℕ) (b : Bound) → i < length bs → there (slice_get (set bs i (Some b)) i) ≡ Some b
back_there bs i b within = there_written bs i (Some b) within

pub none_there : (bs : List (Option Bound)) (i : ℕ) → i < length bs → there (slice_get (set bs i None) i) ≡ None
none_there bs i within = there_written bs i None within

pub back_elsewhere : (bs : List (Option Bound)) (i : ℕ) (b : Bound) → SameElsewhere (set bs i None) (set bs i (Some b)) i
back_elsewhere bs i b j apart = get_unwritten bs i j (Some b) apart ∙ sym (get_unwritten bs i j None apart)

-- by a new thread
pub last_there : (bs : List (Option Bound)) (b : Bound) → there (slice_get (bs ++ Some b ∷ []) (length bs)) ≡ Some b
last_there bs b = ap there (get_last bs (Some b))

pub no_more_there : (bs : List (Option Bound)) → there (slice_get bs (length bs)) ≡ None
no_more_there bs = ap there (slice_get_past bs (length bs) (omega arith))

pub last_elsewhere : (bs : List (Option Bound)) (b : Bound) → SameElsewhere bs (bs ++ Some b ∷ []) (length bs)
last_elsewhere bs b j apart = get_more bs (Some b) j apart

-- ---- a stack has other frames

frames_pair : (i : ℕ) (b : Bound) (f : StoredChain) → b.thread ≡ i → IsPair (Some (with_frames f b)) (Active i) i b.number
frames_pair i b f thread =
    record {
      bound = λ d e.
          let same : with_frames f b ≡ d = same_Some (with_frames f b) d e in
          (sym (ap (λ (k : Bound). k.thread) same) ∙ thread, sym (ap (λ (k : Bound). k.number) same), refl);
      active = λ j e. let same : i ≡ j = cc in (sym same, refl);
      ready = λ d ws e. cc;
    }

pub agree_exchanged : (bs : List (Option Bound)) (es : List Entry) (i : ℕ) (b : Bound) (f : StoredChain) → Agree bs es → slice_get bs i ≡ Some (Some b) → Agree (set bs i (Some (with_frames f b))) es
agree_exchanged bs es i b f a at =
    let here = a.bound i b (ap there at) in
    let new = set bs i (Some (with_frames f b)) in
    subst (λ (all : List Entry). Agree new all) (set_same es b.number (Active i) here.1)
    (agree_written bs new es i b.number (Active i) a (alone_held bs es i b a (ap there at)) (entry_within bs es i b a at) (elsewhere bs i (Some (with_frames f b)))
    (pair_of (there (slice_get new i)) (Some (with_frames f b)) (Active i) i b.number (there_written bs i (Some (with_frames f b)) (slice_get_within bs i (Some b) at)) (frames_pair i b f here.0)))

pub seen_exchanged : (bs : List (Option Bound)) (es : List Entry) (i : ℕ) (b : Bound) (f : StoredChain) → Agree bs es → slice_get bs i ≡ Some (Some b) → stacks_seen (set bs i (Some (with_frames f b))) es ≡ set (stacks_seen bs es) b.number (stacks.Active i (frames_in f))
seen_exchanged bs es i b f a at =
    let here = a.bound i b (ap there at) in
    let new = set bs i (Some (with_frames f b)) in
    ap (λ (all : List Entry). stacks_seen new all) (sym (set_same es b.number (Active i) here.1))
    ∙ stacks_written bs new es i b.number (Active i) (alone_held bs es i b a (ap there at)) (elsewhere bs i (Some (with_frames f b)))
    ∙ ap (λ o. set (stacks_seen bs es) b.number (stacks.Active i (frames_there o))) (there_written bs i (Some (with_frames f b)) (slice_get_within bs i (Some b) at))

-- ---- what stands where

pub stack_here : (bs : List (Option Bound)) (es : List Entry) (n : ℕ) (x : Entry) → slice_get es n ≡ Some x → slice_get (stacks_seen bs es) n ≡ Some (stack_seen bs x)
stack_here bs [] n x at = cc
stack_here bs (y ∷ es) zero x at = ap (λ z. Some (stack_seen bs z)) (same_Some y x at)
stack_here bs (y ∷ es) (suc n) x at = stack_here bs es n x at

pub own_stack : (bs : List (Option Bound)) (es : List Entry) (i : ℕ) (b : Bound) → Agree bs es → slice_get bs i ≡ Some (Some b) → slice_get (stacks_seen bs es) b.number ≡ Some (stacks.Active i (frames_in b.frames))
own_stack bs es i b a at =
    stack_here bs es b.number (Active i) ((a.bound i b (ap there at)).1) ∙ ap (λ o. Some (stacks.Active i (frames_there (there o)))) at

-- ---- a stack is bound to its thread anew

pub agree_fresh : (bs : List (Option Bound)) (es : List Entry) (i : ℕ) (b : Bound) (f : StoredChain) → Agree bs es → slice_get bs i ≡ Some (Some b) → Agree (set bs i (Some (entered_by b.number i f))) es
agree_fresh bs es i b f a at =
    let here = a.bound i b (ap there at) in
    let c = entered_by b.number i f in
    let new = set bs i (Some c) in
    subst (λ (all : List Entry). Agree new all) (set_same es b.number (Active i) here.1)
    (agree_written bs new es i b.number (Active i) a (alone_held bs es i b a (ap there at)) (entry_within bs es i b a at) (elsewhere bs i (Some c))
    (pair_of (there (slice_get new i)) (Some c) (Active i) i b.number (there_written bs i (Some c) (slice_get_within bs i (Some b) at)) (entered_pair b.number i f)))

pub seen_fresh : (bs : List (Option Bound)) (es : List Entry) (i : ℕ) (b : Bound) (f : StoredChain) → Agree bs es → slice_get bs i ≡ Some (Some b)
    → stacks_seen (set bs i (Some (entered_by b.number i f))) es ≡ set (stacks_seen bs es) b.number (stacks.Active i (frames_in f))
seen_fresh bs es i b f a at =
    let here = a.bound i b (ap there at) in
    let c = entered_by b.number i f in
    let new = set bs i (Some c) in
    ap (λ (all : List Entry). stacks_seen new all) (sym (set_same es b.number (Active i) here.1))
    ∙ stacks_written bs new es i b.number (Active i) (alone_held bs es i b a (ap there at)) (elsewhere bs i (Some c))
    ∙ ap (λ o. set (stacks_seen bs es) b.number (stacks.Active i (frames_there o))) (there_written bs i (Some c) (slice_get_within bs i (Some b) at))
