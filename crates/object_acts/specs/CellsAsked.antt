-- Lemmas of the acts that make objects: whether as many cells are left as are asked for.
use Rattle.std.specs.Prelude.{◌≡◌, ℕ, ◌+◌, ◌-◌, ◌*◌, ◌<◌, ◌≤◌, Bool, true, false, nat_le, List, [], ◌∷◌, Option, Some, None, length, slice_set, if◌then◌else◌, refl}
use Rattle.std.proofs.Common.{sym, ◌∙◌, ap, subst, arith, length-append, inl, inr}
use Rattle.std.proofs.lemmas.Bool.Decides.{leb_tells}
use Rattle.ir_tree.specs.declared.items.Item.{Item}
use Rattle.mu_values.specs.declared.scalars.Scalar.TheVariants.{Object, Place}
use Rattle.typed_heap.specs.Objects.{leaf_classes, run_classes}
use Rattle.typed_heap.specs.Heap.{hybrid_classes}
use Rattle.typed_heap.specs.Places.{with_some}
use Rattle.typed_heap.specs.Lemmas.Runs.{times_length}
use Rattle.type_definitions.specs.Leaves.{times}
use Rattle.frames.specs.Activations.{Activation}
use Rattle.frames.specs.Chains.{frames_of}
use Rattle.mu_model.specs.declared.endings.Ending.TheVariants.{HeapFull}
use Rattle.mu_model.specs.Configuration.{Stack, Active, Configuration}
use Rattle.mu_model.specs.Turns.{Turn}
use Rattle.mu_model.specs.Acts.{Gives, Makes, MakesHybrid, MakesOwn, Doing}
use Rattle.mu_model.specs.Objects.{object_added, owning}
use Rattle.mu_model.specs.Frames.{passed}
use Rattle.mu_model.specs.Outcomes.{Outcome, Next, on, next, onto, has_result, faulted}
use Rattle.model_numbers.specs.Numbered.{numbered}
use Rattle.object_acts.specs.declared.making.Making.{Making}
use Rattle.object_acts.specs.declared.making.Making.TheVariants as kinds
use Rattle.run_state.specs.Held.{Held}
use Rattle.run_state.specs.Acting.{begun, turn, doing_of, acting, faulting}
use Rattle.object_acts.specs.Making.{graph_of, made, act_of, leaves_made, result_made, state_made}
use Rattle.run_state.specs.StepLaws.{set_again}

le_true : (a b : ℕ) → a ≤ b → nat_le a b ≡ true
le_true a b h = elim (leb_tells a b) [ inl t ↦ t.0 | inr f ↦ absurd (omega (arith, h, f.1)) ]

le_false : (a b : ℕ) → b < a → nat_le a b ≡ false
le_false a b h = elim (leb_tells a b) [ inl t ↦ absurd (omega (arith, t.1)) | inr f ↦ f.0 ]

asking : List Item → Held → ℕ → (Doing → Outcome) → Bool → Outcome
asking bundle s asked go enough = on (doing_of (numbered bundle) s) (λ d. if enough then go d else faulted (numbered bundle) (begun s) (turn s d) (HeapFull s.thread asked s.cells))

abbrev leaves_of : List Item → ℕ → List ℕ
leaves_of bundle t = leaf_classes (graph_of bundle) t

abbrev hybrid_of : List Item → ℕ → ℕ → List ℕ
hybrid_of bundle t many = hybrid_classes (graph_of bundle) t many

-- the object is made and given
abbrev gives_object : List Item → Held → List ℕ → Doing → Outcome
gives_object bundle s cs d = has_result (numbered bundle) (object_added (numbered bundle) (begun s) cs) (turn s d) (Object (length s.objects))

abbrev gives_own : List Item → Held → List ℕ → Doing → Outcome
gives_own bundle s cs d = has_result (numbered bundle) (object_added (numbered bundle) (begun s) cs) (owning (turn s d) (length s.objects)) (Place (length s.objects) 0)

makes_full : (bundle : List Item) (s : Held) (t : ℕ) → s.cells < length (leaves_of bundle t) → acting bundle s (Makes t) ≡ faulting bundle s (HeapFull s.thread (length (leaves_of bundle t)) s.cells)
unfolding asking acting faulting
makes_full bundle s t h = ap (asking bundle s (length (leaves_of bundle t)) (gives_object bundle s (leaves_of bundle t))) (le_false (length (leaves_of bundle t)) s.cells h)

makes_is : (bundle : List Item) (s : Held) (t n : ℕ) → length (leaves_of bundle t) ≤ s.cells → n ≡ length s.objects
    → acting bundle s (Makes t) ≡ acting bundle (made bundle s (leaves_of bundle t)) (Gives ((Object n ∷ []) ∷ []))
unfolding asking acting
makes_is bundle s t n h e =
    ap (asking bundle s (length (leaves_of bundle t)) (gives_object bundle s (leaves_of bundle t))) (le_true (length (leaves_of bundle t)) s.cells h)
    ∙ ap (λ n. acting bundle (made bundle s (leaves_of bundle t)) (Gives ((Object n ∷ []) ∷ []))) (sym e)

own_full : (bundle : List Item) (s : Held) (t : ℕ) → s.cells < length (leaves_of bundle t) → acting bundle s (MakesOwn t) ≡ faulting bundle s (HeapFull s.thread (length (leaves_of bundle t)) s.cells)
unfolding asking acting faulting
own_full bundle s t h = ap (asking bundle s (length (leaves_of bundle t)) (gives_own bundle s (leaves_of bundle t))) (le_false (length (leaves_of bundle t)) s.cells h)

on_same : {A : Type 0} (o : Option A) (f g : A → Outcome) → ((a : A) → f a ≡ g a) → on o f ≡ on o g
unfolding on
on_same None f g h = refl
on_same (Some a) f g h = h a

-- what stood for the stack does not matter once it becomes another
next_aside : (c : Configuration) (u : Turn) (ss : List Stack) (a b : Stack) (o : Option (List Activation)) → next (record c { stacks = slice_set ss u.stack a }) u o ≡ next (record c { stacks = slice_set ss u.stack b }) u o
unfolding on
next_aside c u ss a b None = refl
next_aside c u ss a b (Some fs) =
    ap (λ stacks. Next (record c { stacks = stacks })) (set_again ss u.stack a (Active u.thread fs) ∙ sym (set_again ss u.stack b (Active u.thread fs)))

-- the frame that owns the object has it for its result
gives_own_so : (bundle : List Item) (s : Held) (t : ℕ) (d : Doing)
    → gives_own bundle s (leaves_of bundle t) d ≡ has_result (numbered bundle) (begun (state_made bundle s t kinds.Own (length s.objects))) (turn (state_made bundle s t kinds.Own (length s.objects)) d) (Place (length s.objects) 0)
gives_own_so bundle s t d =
    let m = state_made bundle s t kinds.Own (length s.objects) in
    next_aside (begun m) (turn m d) s.seats.stacks (Active s.thread (frames_of s.frames)) (Active s.thread (frames_of m.frames)) (with_some (passed (numbered bundle) m.frames.top ((Place (length s.objects) 0 ∷ []) ∷ [])) (onto (turn m d)))

own_is : (bundle : List Item) (s : Held) (t n : ℕ) → length (leaves_of bundle t) ≤ s.cells → n ≡ length s.objects
    → acting bundle s (MakesOwn t) ≡ acting bundle (state_made bundle s t kinds.Own n) (Gives ((Place n 0 ∷ []) ∷ []))
unfolding asking acting
own_is bundle s t n h e =
    ap (asking bundle s (length (leaves_of bundle t)) (gives_own bundle s (leaves_of bundle t))) (le_true (length (leaves_of bundle t)) s.cells h)
    ∙ on_same (doing_of (numbered bundle) s) (gives_own bundle s (leaves_of bundle t))
    (λ d. has_result (numbered bundle) (begun (state_made bundle s t kinds.Own (length s.objects))) (turn (state_made bundle s t kinds.Own (length s.objects)) d) (Place (length s.objects) 0))
    (gives_own_so bundle s t)
    ∙ ap (λ n. acting bundle (state_made bundle s t kinds.Own n) (Gives ((Place n 0 ∷ []) ∷ []))) (sym e)

hybrid_asks : List Item → ℕ → ℕ → ℕ
hybrid_asks bundle t many = length (leaves_of bundle t) + many * length (run_classes (graph_of bundle) t)

hybrid_length : (bundle : List Item) (t many : ℕ) → length (hybrid_of bundle t many) ≡ hybrid_asks bundle t many
unfolding hybrid_asks
hybrid_length bundle t many =
    length-append (leaves_of bundle t) (times many (run_classes (graph_of bundle) t)) ∙ ap (λ (m : ℕ). length (leaves_of bundle t) + m) (times_length many (run_classes (graph_of bundle) t))

hybrid_full : (bundle : List Item) (s : Held) (t many : ℕ) → s.cells < length (hybrid_of bundle t many)
    → acting bundle s (MakesHybrid t many) ≡ faulting bundle s (HeapFull s.thread (length (hybrid_of bundle t many)) s.cells)
unfolding asking hybrid_asks acting faulting
hybrid_full bundle s t many h =
    ap (asking bundle s (hybrid_asks bundle t many) (gives_object bundle s (hybrid_of bundle t many))) (le_false (hybrid_asks bundle t many) s.cells (subst (λ n. s.cells < n) (hybrid_length bundle t many) h))
    ∙ ap (λ n. faulting bundle s (HeapFull s.thread n s.cells)) (sym (hybrid_length bundle t many))

hybrid_is : (bundle : List Item) (s : Held) (t many n : ℕ) → length (hybrid_of bundle t many) ≤ s.cells → n ≡ length s.objects
    → acting bundle s (MakesHybrid t many) ≡ acting bundle (made bundle s (hybrid_of bundle t many)) (Gives ((Object n ∷ []) ∷ []))
unfolding asking hybrid_asks acting
hybrid_is bundle s t many n h e =
    ap (asking bundle s (hybrid_asks bundle t many) (gives_object bundle s (hybrid_of bundle t many))) (le_true (hybrid_asks bundle t many) s.cells (subst (λ n. n ≤ s.cells) (hybrid_length bundle t many) h))
    ∙ ap (λ n. acting bundle (made bundle s (hybrid_of bundle t many)) (Gives ((Object n ∷ []) ∷ []))) (sym e)

pub making_full : (bundle : List Item) (s : Held) (t : ℕ) (m : Making) → s.cells < length (leaves_made (graph_of bundle) t m)
    → acting bundle s (act_of t m) ≡ faulting bundle s (HeapFull s.thread (length (leaves_made (graph_of bundle) t m)) s.cells)
making_full bundle s t kinds.Object h = makes_full bundle s t h
making_full bundle s t (kinds.Hybrid many) h = hybrid_full bundle s t many h
making_full bundle s t kinds.Own h = own_full bundle s t h

pub making_is : (bundle : List Item) (s : Held) (t : ℕ) (m : Making) (n : ℕ) → length (leaves_made (graph_of bundle) t m) ≤ s.cells → n ≡ length s.objects
    → acting bundle s (act_of t m) ≡ acting bundle (state_made bundle s t m n) (Gives ((result_made m n ∷ []) ∷ []))
making_is bundle s t kinds.Object n h e = makes_is bundle s t n h e
making_is bundle s t (kinds.Hybrid many) n h e = hybrid_is bundle s t many n h e
making_is bundle s t kinds.Own n h e = own_is bundle s t n h e
