-- Instructions that read and write memory. Each form gives the place of its word, too.
use Rattle.std.specs.Prelude.{ℕ, Bool, true, false, List, [], ◌∷◌, Option, Some, None}
use Rattle.text_forms.specs.declared.symbol.Symbol.{Symbol}
use Rattle.text_forms.specs.declared.symbol.Symbol.TheVariants as symbols
use Rattle.text_forms.specs.Forms.{Form, nothing, both, on, made}
use Rattle.ir_lex.specs.TokenForms.{mark}
use Rattle.mu_base.specs.declared.order.Order.TheVariants as orders
use Rattle.ir_tree.specs.declared.order.WrittenOrder.{WrittenOrder}
use Rattle.ir_tree.specs.declared.accessing.Access.{Access}
use Rattle.ir_tree.specs.declared.accessing.Access.TheVariants as accesses
use Rattle.ir_tree.specs.Words.{one_of, words_of, order_words, update_words, order}
use Rattle.ir_tree.specs.Lists.{optional, bracketed, value, exc}

-- ord?
unfoldable pub optional_order : Form (Option WrittenOrder)
optional_order = on (words_of order_words) (made Some order) (nothing None)

-- an order that is left out is NOT_ATOMIC
abbrev pub order_at : ℕ → Option WrittenOrder → WrittenOrder
order_at place None = record { place = place; order = orders.NotAtomic }
order_at place (Some o) = o

-- LOAD ord? < T > p exc?
unfoldable pub load : Form (ℕ × Access)
load =
    made (λ x. (x.0, accesses.Load (order_at x.0 x.1.0) x.1.1.0 x.1.1.1.0 x.1.1.1.1))
    (both (mark symbols.Load) (both optional_order (both bracketed (both value (optional symbols.Exc exc)))))

-- STORE ord? < T > p a exc?
unfoldable pub store : Form (ℕ × Access)
store =
    made (λ x. (x.0, accesses.Store (order_at x.0 x.1.0) x.1.1.0 x.1.1.1.0 x.1.1.1.1.0 x.1.1.1.1.1))
    (both (mark symbols.Store) (both optional_order (both bracketed (both value (both value (optional symbols.Exc exc))))))

-- WEAK?
unfoldable pub weak : Form Bool
weak = on (symbols.Weak ∷ []) (made (λ _. true) (mark symbols.Weak)) (nothing false)

-- CMPXCHG WEAK? s f < T > p e d exc?
unfoldable pub cmpxchg : Form (ℕ × Access)
cmpxchg =
    made (λ x. (x.0, accesses.Cmpxchg x.1.0 x.1.1.0 x.1.1.1.0 x.1.1.1.1.0 x.1.1.1.1.1.0 x.1.1.1.1.1.1.0 x.1.1.1.1.1.1.1.0 x.1.1.1.1.1.1.1.1))
    (both (mark symbols.Cmpxchg) (both weak (both order (both order (both bracketed (both value (both value (both value (optional symbols.Exc exc)))))))))

-- ATOMICRMW ord RMW < T > p a exc?
unfoldable pub atomicrmw : Form (ℕ × Access)
atomicrmw =
    made (λ x. (x.0, accesses.Atomicrmw x.1.0 x.1.1.0.1 x.1.1.1.0 x.1.1.1.1.0 x.1.1.1.1.1.0 x.1.1.1.1.1.1))
    (both (mark symbols.Atomicrmw) (both order (both (one_of update_words) (both bracketed (both value (both value (optional symbols.Exc exc)))))))

-- FENCE ord
unfoldable pub fence : Form (ℕ × Access)
fence = made (λ x. (x.0, accesses.Fence x.1)) (both (mark symbols.Fence) order)

abbrev pub access_words : List Symbol
access_words = symbols.Load ∷ symbols.Store ∷ symbols.Cmpxchg ∷ symbols.Atomicrmw ∷ symbols.Fence ∷ []

unfoldable pub access : Form (ℕ × Access)
access =
    on (symbols.Load ∷ []) load
    (on (symbols.Store ∷ []) store
    (on (symbols.Cmpxchg ∷ []) cmpxchg
    (on (symbols.Atomicrmw ∷ []) atomicrmw
    fence)))
