-- The fields of an event line that hold words: what happened, and memory orders.
use Rattle.std.specs.Prelude.{Bool, true, false, if◌then◌else◌, List, [], ◌∷◌, map, codes, bytes_eq, Ok, Err}
use Rattle.mu_base.specs.declared.order.Order.{Order}
use Rattle.mu_base.specs.declared.order.Order.TheVariants.{NotAtomic, Relaxed, Consume, Acquire, Release, AcqRel, SeqCst}
use Rattle.mem_axioms.specs.declared.types.Mode.{Mode}
use Rattle.mem_axioms.specs.declared.types.Mode.TheVariants.{Read, Write, Update}
use Rattle.log_lines.specs.Fields.{Text, Judged}
pub use Rattle.log_lines.specs.EventTexts.{order_text}
use Rattle.log_lines.specs.declared.types.LogKind.TheVariants.{Unexpected}
use Rattle.log_lines.specs.declared.types.KindWord.{KindWord}
use Rattle.log_lines.specs.declared.types.KindWord.TheVariants as words

-- what the first row with that word says
abbrev pub look_up : {A : Type 0} → List (Text × A) → Text → Judged A
look_up [] f = Err Unexpected
look_up (row ∷ rows) f = if bytes_eq row.0 f then Ok row.1 else look_up rows f

abbrev pub kind_words : List (Text × KindWord)
kind_words =
    (codes "read", words.Access Read) ∷ (codes "write", words.Access Write) ∷ (codes "update", words.Access Update) ∷ (codes "fence", words.Fence)
    ∷ (codes "stack", words.NewStack) ∷ (codes "thread", words.NewThread) ∷ (codes "leave", words.Leave) ∷ (codes "enter", words.Enter)
    ∷ (codes "wake", words.Wake) ∷ (codes "woken", words.Woken) ∷ []

-- ---- orders

abbrev pub order_words : List (Text × Order)
order_words = map (λ o. (order_text o, o)) (NotAtomic ∷ Relaxed ∷ Consume ∷ Acquire ∷ Release ∷ AcqRel ∷ SeqCst ∷ [])

-- A read has each order but RELEASE and ACQ_REL; a write has NOT_ATOMIC, RELAXED, RELEASE or SEQ_CST; an update has each but NOT_ATOMIC.
abbrev pub is_order_of : Mode → Order → Bool
is_order_of Read Release = false
is_order_of Read AcqRel = false
is_order_of Write Consume = false
is_order_of Write Acquire = false
is_order_of Write AcqRel = false
is_order_of Update NotAtomic = false
is_order_of _ _ = true

-- a fence has ACQUIRE, RELEASE, ACQ_REL or SEQ_CST
abbrev pub is_fence_order : Order → Bool
is_fence_order NotAtomic = false
is_fence_order Relaxed = false
is_fence_order Consume = false
is_fence_order _ = true

-- the word of an order that may stand there
abbrev pub order_if : (Order → Bool) → Judged Order → Judged Order
order_if test (Ok o) = if test o then Ok o else Err Unexpected
order_if test (Err k) = Err k

abbrev pub order : (Order → Bool) → Text → Judged Order
order test f = order_if test (look_up order_words f)
