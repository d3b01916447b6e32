-- Changes one after the other.
use Rattle.std.specs.Prelude.{◌≡◌, ℕ, ◌+◌, ◌<◌, true, List, [], ◌∷◌, map, fold, length, refl}
use Rattle.std.proofs.Common.{zero, suc, take, get_or, arith, add-one}
use Rattle.mu_model.specs.Traps.{is_watched, watch}
use Rattle.client_hooks.specs.declared.notes.Watch.{Watch}
use Rattle.trap_answers.specs.Watching.{AreKnown}

next_change : (ns : List ℕ) (ws : List Watch) (n : ℕ) (d : Watch) → n < length ws → fold watch ns (map (λ w. (w.number, w.enabled)) (take (suc n) ws)) ≡ watch (fold watch ns (map (λ w. (w.number, w.enabled)) (take n ws))) ((get_or ws n d).number, (get_or ws n d).enabled)
next_change ns [] n d h = absurd (omega arith)
next_change ns (w ∷ ws) zero d h = refl
next_change ns (w ∷ ws) (suc n) d h = next_change (watch ns (w.number, w.enabled)) ws n d (omega arith)

-- one more change
pub watch_more : (ns : List ℕ) (ws : List Watch) (n : ℕ) (d : Watch) → n < length ws → fold watch ns (map (λ w. (w.number, w.enabled)) (take (n + 1) ws)) ≡ watch (fold watch ns (map (λ w. (w.number, w.enabled)) (take n ws))) ((get_or ws n d).number, (get_or ws n d).enabled)
watch_more ns ws n d h = rw add-one (next_change ns ws n d h)

known_next : (olds news : List ℕ) (ws : List Watch) (n : ℕ) (d : Watch) → n < length ws → ((m : ℕ) → is_watched m olds ≡ true → is_watched m news ≡ true) → AreKnown (map (λ w. (w.number, w.enabled)) (take n ws)) olds → is_watched (get_or ws n d).number news ≡ true
    → AreKnown (map (λ w. (w.number, w.enabled)) (take (suc n) ws)) news
known_next olds news [] n d h more before now = absurd (omega arith)
known_next olds news (w ∷ ws) zero d h more before now = (now, before)
known_next olds news (w ∷ ws) (suc n) d h more before now = (more w.number before.0, known_next olds news ws n d (omega arith) more before.1 now)

-- one more that is known
pub known_also : (olds news : List ℕ) (ws : List Watch) (n : ℕ) (d : Watch) → n < length ws → ((m : ℕ) → is_watched m olds ≡ true → is_watched m news ≡ true) → AreKnown (map (λ w. (w.number, w.enabled)) (take n ws)) olds → is_watched (get_or ws n d).number news ≡ true
    → AreKnown (map (λ w. (w.number, w.enabled)) (take (n + 1) ws)) news
known_also olds news ws n d h more before now = rw add-one (known_next olds news ws n d h more before now)

pub known_at : (known : List ℕ) (ws : List Watch) (n : ℕ) (d : Watch) → n < length ws → AreKnown (map (λ w. (w.number, w.enabled)) ws) known → is_watched (get_or ws n d).number known ≡ true
known_at known [] n d h all = absurd (omega arith)
known_at known (w ∷ ws) zero d h all = all.0
known_at known (w ∷ ws) (suc n) d h all = known_at known ws n d (omega arith) all.1
