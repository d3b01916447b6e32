-- Which release sequences go on after a write or update.
use Rattle.std.proofs.Common.{◌≡◌, ℕ, Bool, true, false, cond, ◌&&◌, ◌||◌, eqb, refl, sym, ap, inl, inr, ◌⊎◌, arith}
use Rattle.std.specs.Prelude.{max}
use Rattle.std.proofs.lemmas.Bool.{eq-eqb, ne_eqb, cases_eq}
use Rattle.mem_axioms.specs.Events.{is_atomic, is_update, order_of}
use Rattle.mem_axioms.specs.Synchronizes.{continues}
use Rattle.mem_axioms.specs.declared.types.Event.{Event}
use Rattle.mem_axioms.specs.declared.types.Rule.{Rule}
use Rattle.mem_axioms.specs.declared.types.Rule.TheVariants.{C11, Rmw}

or-none : (a b : Bool) → (a || (b && false)) ≡ a
or-none true b = refl
or-none false true = refl
or-none false false = refl

or-false : (a : Bool) → (a || false) ≡ a
or-false true = refl
or-false false = refl

-- of another thread's, those on which an update goes
continues-other : (rule : Rule) (e : Event) (t : ℕ) → (e.thread ≡ t → ⊥) → continues rule e t ≡ is_update e
continues-other C11 e t n = rw (ne_eqb e.thread t n) (or-none (is_update e) (is_atomic (order_of e)))
continues-other Rmw e t n = or-false (is_update e)

-- the event's own thread's sequences, and those of others
pub gone-on : (rule : Rule) (e : Event) (t given : ℕ) (old : ℕ → ℕ) → cond (eqb t e.thread) (max given (cond (continues rule e e.thread) (old e.thread) 0)) (cond (is_update e) (old t) 0)
    ≡ max (cond (eqb t e.thread) given 0) (cond (continues rule e t) (old t) 0)
gone-on rule e t given old = go (cases_eq t e.thread)
  where
    go : (t ≡ e.thread) ⊎ (t ≡ e.thread → ⊥) → cond (eqb t e.thread) (max given (cond (continues rule e e.thread) (old e.thread) 0)) (cond (is_update e) (old t) 0) ≡ max (cond (eqb t e.thread) given 0) (cond (continues rule e t) (old t) 0)
    go (inl q) = rw (ap (λ (k : ℕ). continues rule e k) q, q, eq-eqb e.thread e.thread refl) refl
    go (inr n) = rw (ne_eqb t e.thread n, continues-other rule e t (λ z. n (sym z))) (omega arith)

pub released-on : (change : Bool) (given before own : ℕ) → cond change (max given before) (max given own) ≡ max given (cond change before own)
released-on true given before own = refl
released-on false given before own = refl
