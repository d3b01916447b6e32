-- What a client answers has no record that a thread ended; so a turn that asks the client keeps what other turns keep.
use Rattle.std.specs.Prelude.{◌≡◌, ℕ, suc, Bool, true, false, List, [], ◌∷◌, ◌++◌, Option, Some, None, map, flat_map, reverse, slice_get, refl}
use Rattle.std.proofs.Common.{sym, ap, subst}
use Rattle.std.proofs.lemmas.Grind.{reverse_onto}
use Rattle.check_tables.specs.declared.tables.Tables.{Tables}
use Rattle.frames.specs.Activations.{Activation}
use Rattle.typed_heap.specs.Places.{with_some}
use Rattle.mu_values.specs.Slots.{TypedValues}
use Rattle.mu_model.specs.declared.lines.Note.{Note}
use Rattle.mu_model.specs.declared.lines.Note.TheVariants as notes
use Rattle.mu_model.specs.declared.lines.Line.{Line}
use Rattle.mu_model.specs.declared.lines.Line.TheVariants as lines
use Rattle.mu_model.specs.Clients.{Classed, Reply, Action, TellFrames, TellKept, Watch, ScriptEntry, Client}
use Rattle.mu_model.specs.Operands.{all_some}
use Rattle.mu_model.specs.Outcomes.{View, Outcome, Next, End, Asks, Stuck}
use Rattle.mu_model.specs.Answers.{frame_notes, notes_of, watches_of, edit_of, reply_of, entry_answer, answer_by, answer_of, advanced}
use Rattle.mu_model.specs.Acts.{Program}
use Rattle.mu_model.specs.Run.{client_answers, with_client}
use Rattle.local_laws.proofs.Keeping.{NoEnds, no_ends_append, IsPlainAnswer, Every}

no_ends_split : (i : ℕ) (l : Line) (ls : List Line) → NoEnds i (l ∷ ls) → NoEnds i (l ∷ []) × NoEnds i ls
no_ends_split i (lines.Event n e) ls h = (tt, h)
no_ends_split i (lines.Note n) ls h = by n h
  where
    by : (n : Note) → NoEnds i (lines.Note n ∷ ls) → NoEnds i (lines.Note n ∷ []) × NoEnds i ls
    by (notes.Returned j vs) h = ((h.0, tt), h.1)
    by (notes.Exited j) h = ((h.0, tt), h.1)
    by _ h = (tt, h)

pub no_ends_reverse : (i : ℕ) (xs : List Line) → NoEnds i xs → NoEnds i (reverse xs)
no_ends_reverse i [] h = tt
no_ends_reverse i (x ∷ xs) h =
    let q = no_ends_split i x xs h in
    subst (NoEnds i) (sym (reverse_onto xs x [])) (no_ends_append i (reverse xs) (x ∷ []) (no_ends_reverse i xs q.1) q.0)

map_append : {A B : Type 0} (f : A → B) (xs ys : List A) → map f (xs ++ ys) ≡ map f xs ++ map f ys
map_append f [] ys = refl
map_append f (x ∷ xs) ys = ap (λ zs. f x ∷ zs) (map_append f xs ys)

module _ (i : ℕ) where
  frames_plain : (n : ℕ) (fs : List Activation) → NoEnds i (map lines.Note (frame_notes n fs))
  frames_plain n [] = tt
  frames_plain n (f ∷ fs) = frames_plain (suc n) fs

  action_plain : (fs : List Activation) (a : Action) (ns : List Note) → notes_of fs a ≡ Some ns → NoEnds i (map lines.Note ns)
  action_plain fs TellFrames ns e = let same : frame_notes 0 fs ≡ ns = cc in subst (λ ns. NoEnds i (map lines.Note ns)) same (frames_plain 0 fs)
  action_plain fs (TellKept n) ns e = by (slice_get fs n) e
    where
      by : (o : Option Activation) → with_some o (λ f. Some (notes.Kept n f.kept ∷ [])) ≡ Some ns → NoEnds i (map lines.Note ns)
      by None e = cc
      by (Some f) e = let same : notes.Kept n f.kept ∷ [] ≡ ns = cc in subst (λ ns. NoEnds i (map lines.Note ns)) same tt
  action_plain fs (Watch n enabled) ns e = let same : [] ≡ ns = cc in subst (λ (ns : List Note). NoEnds i (map lines.Note ns)) same tt

  actions_plain : (fs : List Activation) (more : List Action) (nss : List (List Note)) → all_some (map (notes_of fs) more) ≡ Some nss → NoEnds i (map lines.Note (flat_map (λ n. n) nss))
  actions_plain fs [] nss e = let same : [] ≡ nss = cc in subst (λ (nss : List (List Note)). NoEnds i (map lines.Note (flat_map (λ n. n) nss))) same tt
  actions_plain fs (a ∷ more) nss e = by (notes_of fs a) (all_some (map (notes_of fs) more)) (action_plain fs a) (actions_plain fs more) e
    where
      by : (x : Option (List Note)) (o : Option (List (List Note))) → ((ns : List Note) → x ≡ Some ns → NoEnds i (map lines.Note ns)) → ((nss : List (List Note)) → o ≡ Some nss → NoEnds i (map lines.Note (flat_map (λ n. n) nss)))
          → with_some x (λ a. with_some o (λ more. Some (a ∷ more))) ≡ Some nss → NoEnds i (map lines.Note (flat_map (λ n. n) nss))
      by None o h g e = cc
      by (Some ns) None h g e = cc
      by (Some ns) (Some later) h g e =
          let same : ns ∷ later ≡ nss = cc in
          let all : NoEnds i (map lines.Note ns ++ map lines.Note (flat_map (λ n. n) later)) = no_ends_append i (map lines.Note ns) (map lines.Note (flat_map (λ n. n) later)) (h ns refl) (g later refl) in
          subst (λ (nss : List (List Note)). NoEnds i (map lines.Note (flat_map (λ n. n) nss))) same (subst (NoEnds i) (sym (map_append lines.Note ns (flat_map (λ n. n) later))) all)

  entry_plain : (p : Tables) (fs : List Activation) (e : ScriptEntry) → IsPlainAnswer i (entry_answer p fs e)
  entry_plain p fs e = by (all_some (map (notes_of fs) e.actions)) (reply_of p fs e.reply) (actions_plain fs e.actions)
    where
      by : (x : Option (List (List Note))) (o : Option (Reply TypedValues Classed)) → ((nss : List (List Note)) → x ≡ Some nss → NoEnds i (map lines.Note (flat_map (λ n. n) nss)))
          → IsPlainAnswer i (with_some x (λ ns. with_some o (λ r. Some (record { notes = flat_map (λ n. n) ns; watches = watches_of e.actions; edit = edit_of e; reply = r }))))
      by None o h = tt
      by (Some nss) None h = tt
      by (Some nss) (Some r) h = no_ends_reverse i (map lines.Note (flat_map (λ n. n) nss)) (h nss refl)

  answer_plain : (p : Tables) (view : View) (auto : Bool) (es : List ScriptEntry) → IsPlainAnswer i (answer_by p view auto es)
  answer_plain p view auto (e ∷ es) = entry_plain p view.frames e
  answer_plain p view true [] = tt
  answer_plain p view false [] = tt

module _ (T S i : ℕ) where
  client_has : (k : Client) (o : Outcome) → Every T S i o → Every T S i (with_client k o)
  client_has k (Next c) h = h
  client_has k (End ls e) h = h
  client_has k (Asks view go) h = h
  client_has k Stuck h = h

  pub told_has : (p : Program) (k : Client) (o : Outcome) → Every T S i o → Every T S i (client_answers p k o)
  told_has p k (Next c) h = h
  told_has p k (End ls e) h = h
  told_has p k (Asks view go) h = client_has (advanced k) (go (answer_of p.tables view k)) (h (answer_of p.tables view k) (answer_plain i p.tables view k.auto k.entries))
  told_has p k Stuck h = h
