-- The oldest at a cell, one waiter further.
use Rattle.std.specs.Prelude.{◌≡◌, ℕ, ◌+◌, ◌<◌, ◌≤◌, Bool, true, false, not, nat_lt, List, [], ◌∷◌, ◌++◌, length, filter, if◌then◌else◌, refl}
use Rattle.std.proofs.Common.{◌∙◌, sym, ap, arith, get_or, take}
use Rattle.std.proofs.lemmas.List.{take-append-le, length-take, length-take-le, length-map, map-append, append-nil, length_push, take_all, get_or_default}
use Rattle.std.proofs.lemmas.List.Elements.{filter_more}
use Rattle.std.proofs.lemmas.List.Filters.{length-filter_both}
use Rattle.mu_values.specs.declared.cells.CellId.{CellId}
use Rattle.futex.specs.declared.waiters.Waiter.{Waiter}
use Rattle.futex.specs.Waiting.{is_at, oldest_at, threads_of}
use Rattle.futex.specs.Kept.{with_next}

one_more : (cell : CellId) (ws : List Waiter) (k : ℕ) (w : Waiter) (b : Bool) → k < length ws → w ≡ get_or ws k w → is_at cell w ≡ b →
    filter (is_at cell) (take (k + 1) ws) ≡ filter (is_at cell) (take k ws) ++ (if b then w ∷ [] else [])
one_more cell ws k w b h e t =
    filter_more (is_at cell) ws k w h ∙ sym (ap (λ x. filter (is_at cell) (take k ws) ++ (if is_at cell x then x ∷ [] else [])) e) ∙ ap (λ c. filter (is_at cell) (take k ws) ++ (if c then w ∷ [] else [])) t

not_here : (cell : CellId) (count : ℕ) (ws : List Waiter) (k : ℕ) (w : Waiter) → k < length ws → w ≡ get_or ws k w → is_at cell w ≡ false →
    threads_of (oldest_at cell count (take (k + 1) ws)) ≡ threads_of (oldest_at cell count (take k ws))
not_here cell count ws k w h e t =
    ap (λ fs. threads_of (take count fs)) (one_more cell ws k w false h e t ∙ append-nil (filter (is_at cell) (take k ws)))

added : (count : ℕ) (fs : List Waiter) (w : Waiter) → length (threads_of (take count fs)) < count → threads_of (take count (fs ++ w ∷ [])) ≡ threads_of (take count fs) ++ w.thread ∷ []
added count fs w h =
    let few : length fs < count = omega (arith, length-map (take count fs) (λ (x : Waiter). x.thread), length-take count fs, h) in
    let all : take count fs ≡ fs = take_all count fs (omega arith) in
    let longer : take count (fs ++ w ∷ []) ≡ fs ++ w ∷ [] = take_all count (fs ++ w ∷ []) (omega (arith, length_push fs w)) in
    rw (longer, all) (map-append (λ (x : Waiter). x.thread) fs (w ∷ []))

is_next : (cell : CellId) (count : ℕ) (ws : List Waiter) (k : ℕ) (w : Waiter) → k < length ws → w ≡ get_or ws k w → is_at cell w ≡ true → length (threads_of (oldest_at cell count (take k ws))) < count →
    threads_of (oldest_at cell count (take (k + 1) ws)) ≡ threads_of (oldest_at cell count (take k ws)) ++ w.thread ∷ []
is_next cell count ws k w h e t room =
    ap (λ fs. threads_of (take count fs)) (one_more cell ws k w true h e t) ∙ added count (filter (is_at cell) (take k ws)) w room

full : (count : ℕ) (fs ys : List Waiter) → count ≤ length (threads_of (take count fs)) → take count (fs ++ ys) ≡ take count fs
full count fs ys h = take-append-le count fs ys (omega (arith, length-map (take count fs) (λ (x : Waiter). x.thread), length-take count fs, h))

are_enough : (cell : CellId) (count : ℕ) (ws : List Waiter) (k : ℕ) (w : Waiter) → k < length ws → w ≡ get_or ws k w → count ≤ length (threads_of (oldest_at cell count (take k ws))) →
    threads_of (oldest_at cell count (take (k + 1) ws)) ≡ threads_of (oldest_at cell count (take k ws))
are_enough cell count ws k w h e enough =
    ap (λ fs. threads_of (take count fs)) (one_more cell ws k w (is_at cell w) h e refl)
    ∙ ap threads_of (full count (filter (is_at cell) (take k ws)) (if is_at cell w then w ∷ [] else []) enough)

-- at most as many as were looked at
pub at_most : (cell : CellId) (count : ℕ) (ws : List Waiter) (k : ℕ) → k ≤ length ws → length (threads_of (oldest_at cell count (take k ws))) ≤ k
at_most cell count ws k h =
    let fs = filter (is_at cell) (take k ws) in
    let kept : length fs + length (filter (λ w. not (is_at cell w)) (take k ws)) ≡ length (take k ws) = length-filter_both (is_at cell) (λ w. not (is_at cell w)) (λ _. refl) (take k ws) in
    omega (arith, length-map (take count fs) (λ (x : Waiter). x.thread), length-take count fs, kept, length-take-le k ws h)

further_if : (cell : CellId) (count : ℕ) (ws : List Waiter) (k : ℕ) (w : Waiter) (woken : List ℕ) (b c : Bool) → k < length ws → w ≡ get_or ws k w → woken ≡ threads_of (oldest_at cell count (take k ws)) →
    nat_lt (length woken) count ≡ b → is_at cell w ≡ c → with_next cell count w woken ≡ threads_of (oldest_at cell count (take (k + 1) ws))
unfolding with_next
further_if cell count ws k w woken true true h e so_far p q =
    let room : length woken < count = grind arith in
    let many : length woken ≡ length (threads_of (oldest_at cell count (take k ws))) = ap length so_far in
    rw (p, q) (ap (λ x. x ++ w.thread ∷ []) so_far ∙ sym (is_next cell count ws k w h e q (omega arith)))
further_if cell count ws k w woken true false h e so_far p q = rw (p, q) (so_far ∙ sym (not_here cell count ws k w h e q))
further_if cell count ws k w woken false c h e so_far p q =
    let enough : count ≤ length woken = grind arith in
    let many : length woken ≡ length (threads_of (oldest_at cell count (take k ws))) = ap length so_far in
    rw p (so_far ∙ sym (are_enough cell count ws k w h e (omega arith)))

-- one waiter more
pub one_further : (cell : CellId) (count : ℕ) (ws : List Waiter) (k : ℕ) (d : Waiter) (woken : List ℕ) → k < length ws → woken ≡ threads_of (oldest_at cell count (take k ws)) →
    with_next cell count (get_or ws k d) woken ≡ threads_of (oldest_at cell count (take (k + 1) ws))
one_further cell count ws k d woken h so_far =
    let w = get_or ws k d in
    further_if cell count ws k w woken (nat_lt (length woken) count) (is_at cell w) h (get_or_default ws k d w h) so_far refl refl

pub ruleset oldest = (one_further, at_most)
