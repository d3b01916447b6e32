-- Each value of a script's answer is named by it, or kept by a frame.
use Rattle.std.specs.Prelude.{◌≡◌, ℕ, zero, suc, Bool, true, false, ◌==◌, List, [], ◌∷◌, ◌++◌, Option, Some, None, map, flat_map, slice_get, drop, option_map, refl, if◌then◌else◌}
use Rattle.std.specs.List.{Contains}
use Rattle.std.proofs.Common.{sym, ◌∙◌, ap, subst, arith}
use Rattle.check_tables.specs.declared.tables.Tables.{Tables}
use Rattle.check_tables.specs.Types.{stackref}
use Rattle.mu_values.specs.declared.scalars.Scalar.TheVariants.{Func}
use Rattle.mu_values.specs.Slots.{TypedValues}
use Rattle.typed_heap.specs.Places.{with_some}
use Rattle.mu_model.specs.Clients.{Classed, With, Pass, Throw, Reply, Resume, Rebind, Exit, Stop, Argument, Told, KeptValue, ClassedFunction, ScriptEntry, Edit, Answer}
use Rattle.mu_model.specs.Outcomes.{View}
use Rattle.mu_model.specs.Operands.{all_some}
use Rattle.mu_model.specs.Answers.{typed, typed_value_at, argument_value, with_of, reply_of, edit_of, entry_answer, answer_of, plain_answer, notes_of}
use Rattle.client_hooks.specs.Told.{IsTold, is_kept, is_held, AreTold, EntersWithTold, RepliesTold, PushIsHeld, AnswerIsTold}
use Rattle.client_script.specs.ScriptClients.{named_by, named_with, named_in, named_push, entry_names, values_named, client_of}
use Rattle.client_script.specs.Lemmas.Partial.{there, in_head, in_first, in_second}

-- some values are among others
abbrev Within : List Classed → List Classed → Type 0
Within few many = (v : Classed) → Contains few v → Contains many v

argument_told : (p : Tables) (view : View) (held : List Classed) (a : Argument) (v : Classed) → Within (named_by a) held → argument_value view.frames a ≡ Some v → IsTold p view held v
argument_told p view held (Told w) v within is = let same : w ≡ v = cc in is_held v (within v (subst (λ x. Contains (w ∷ []) x) same (in_head w [])))
argument_told p view held (KeptValue n k) v within is = is_kept n k v is

first_within : (xs ys held : List Classed) → Within (xs ++ ys) held → Within xs held
first_within xs ys held within v c = within v (in_first xs ys v c)

second_within : (xs ys held : List Classed) → Within (xs ++ ys) held → Within ys held
second_within xs ys held within v c = within v (in_second xs ys v c)

none_typed : (k : ℕ) (v : Classed) → typed_value_at (typed []) k ≡ Some v → ⊥
none_typed zero v h = cc
none_typed (suc k) v h = cc

one_more : (p : Tables) (view : View) (held : List Classed) (x : Classed) (xs : List Classed) → IsTold p view held x → AreTold p view held (typed xs) → AreTold p view held (typed (x ∷ xs))
one_more p view held x xs told rest zero v at = let same : x ≡ v = cc in subst (λ w. IsTold p view held w) same told
one_more p view held x xs told rest (suc k) v at = rest k v at

values_told : (p : Tables) (view : View) (held : List Classed) (args : List Argument) (vs : List Classed) → Within (flat_map named_by args) held → all_some (map (argument_value view.frames) args) ≡ Some vs → AreTold p view held (typed vs)
values_told p view held [] vs within is = let same : [] ≡ vs = cc in subst (λ xs. AreTold p view held (typed xs)) same (λ k v at. absurd (none_typed k v at))
values_told p view held (a ∷ args) vs within is =
    let one = there (argument_value view.frames a) _ vs is in
    let rest = there (all_some (map (argument_value view.frames) args)) _ vs one.2 in
    let same : one.0 ∷ rest.0 ≡ vs = cc in
    subst (λ xs. AreTold p view held (typed xs)) same
    (one_more p view held one.0 rest.0 (argument_told p view held a one.0 (first_within (named_by a) (flat_map named_by args) held within) one.1)
    (values_told p view held args rest.0 (second_within (named_by a) (flat_map named_by args) held within) rest.1))

way_told : (p : Tables) (view : View) (held : List Classed) (w : With (List Argument) Argument) (x : With TypedValues Classed) → Within (named_with w) held → with_of view.frames w ≡ Some x → EntersWithTold p view held x
way_told p view held (Pass args) x within is =
    let r = there (all_some (map (argument_value view.frames) args)) _ x is in
    let same : Pass (typed r.0) ≡ x = cc in
    subst (EntersWithTold p view held) same (values_told p view held args r.0 within r.1)
way_told p view held (Throw a) x within is =
    let r = there (argument_value view.frames a) _ x is in
    let same : Throw r.0 ≡ x = cc in
    subst (EntersWithTold p view held) same (argument_told p view held a r.0 within r.1)

rebind_told : (p : Tables) (view : View) (held : List Classed) (w : With (List Argument) Argument) (t : Classed) (x : Reply TypedValues Classed) → IsTold p view held t → Within (named_with w) held
    → (b : Bool) → (t.0 == stackref p.types) ≡ b → (if b then with_some (with_of view.frames w) (λ v. Some (Rebind t v)) else None) ≡ Some x → RepliesTold p view held x
rebind_told p view held w t x told within false same is = cc
rebind_told p view held w t x told within true same is =
    let r = there (with_of view.frames w) _ x is in
    let whole : Rebind t r.0 ≡ x = cc in
    subst (RepliesTold p view held) whole (grind (arith, same), told, way_told p view held w r.0 within r.1)

reply_told : (p : Tables) (view : View) (held : List Classed) (r : Reply (List Argument) Argument) (x : Reply TypedValues Classed) → Within (named_in r) held → reply_of p view.frames r ≡ Some x → RepliesTold p view held x
reply_told p view held (Resume w) x within is =
    let r = there (with_of view.frames w) _ x is in
    let same : Resume r.0 ≡ x = cc in
    subst (RepliesTold p view held) same (way_told p view held w r.0 within r.1)
reply_told p view held (Rebind a w) x within is =
    let r = there (argument_value view.frames a) _ x is in
    rebind_told p view held w r.0 x (argument_told p view held a r.0 (first_within (named_by a) (named_with w) held within) r.1) (second_within (named_by a) (named_with w) held within) _ refl r.2
reply_told p view held Exit x within is = let same : Exit ≡ x = cc in subst (RepliesTold p view held) same tt
reply_told p view held Stop x within is = let same : Stop ≡ x = cc in subst (RepliesTold p view held) same tt

abbrev reply_or : Reply TypedValues Classed → Option Answer → Reply TypedValues Classed
reply_or r None = r
reply_or r (Some a) = a.reply

abbrev edit_or : Edit → Option Answer → Edit
edit_or x None = x
edit_or x (Some a) = a.edit

push_held : (held : List Classed) (push : Option ClassedFunction) → Within (named_push push) held → PushIsHeld held (option_map (λ (f : ClassedFunction). f.1) push)
push_held held None within = tt
push_held held (Some f) within = (f.0, within (f.0, Func f.1 ∷ []) (in_head (f.0, Func f.1 ∷ []) []))

entry_told : (p : Tables) (view : View) (held : List Classed) (e : ScriptEntry) (a : Answer) → Within (entry_names e) held → entry_answer p view.frames e ≡ Some a → AnswerIsTold p view held a
entry_told p view held e a within is =
    let ns = there (all_some (map (notes_of view.frames) e.actions)) _ a is in
    let r = there (reply_of p view.frames e.reply) _ a ns.2 in
    let same : r.0 ≡ a.reply = ap (λ (o : Option Answer). reply_or r.0 o) r.2 in
    let edits : edit_of e ≡ a.edit = ap (λ (o : Option Answer). edit_or (edit_of e) o) r.2 in (
      subst (λ (x : Edit). PushIsHeld held x.push) edits (push_held held e.push (first_within (named_push e.push) (named_in e.reply) held within)),
      subst (RepliesTold p view held) same (reply_told p view held e.reply r.0 (second_within (named_push e.push) (named_in e.reply) held within) r.1),
    )

-- the values of a script's answer are told
pub script_told : (p : Tables) (view : View) (es : List ScriptEntry) (a : Answer) → Some a ≡ answer_of p view (client_of es) → AnswerIsTold p view (values_named es) a
script_told p view [] a is = let same : plain_answer Stop ≡ a = cc in subst (AnswerIsTold p view []) same (tt, tt)
script_told p view (e ∷ es) a is = entry_told p view (values_named (e ∷ es)) e a (λ v c. in_first (entry_names e) (values_named es) v c) (sym is)

-- a script that is further on holds no more
pub held_before : (es : List ScriptEntry) (v : Classed) → Contains (values_named (drop 1 es)) v → Contains (values_named es) v
held_before [] v c = c
held_before (e ∷ es) v c = in_second (entry_names e) (values_named es) v c

-- the first entry answers
pub answers_first : (p : Tables) (view : View) (es : List ScriptEntry) (e : ScriptEntry) (a : Answer) → Some e ≡ slice_get es 0 → entry_answer p view.frames e ≡ Some a → Some a ≡ answer_of p view (client_of es)
answers_first p view [] e a first is = cc
answers_first p view (x ∷ es) e a first is = let same : e ≡ x = cc in sym is ∙ ap (entry_answer p view.frames) same
