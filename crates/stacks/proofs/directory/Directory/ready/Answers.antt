use Rattle.std.proofs.Common.{◌≡◌, ◌≢◌, ℕ, List, Option, Some, None, IsSomeAnd, IfSome, IfNone, Bor, slice_get, option_map, sym, ap, ◌∙◌}
use Rattle.std.specs.Prelude.{option_copied}
use Rattle.slab.specs.Slab.{get}
use Rattle.stacks.specs.Stacks.{Unbound}
use Rattle.stacks.specs.Directories.{Entry, state_of}
use Rattle.stacks.specs.Kept.{state_kept}
use Rattle.stacks.specs.declared.directory.Kept.{Kept}
use Rattle.stacks.specs.declared.directory.Kept.TheVariants.{Ready}
use Rattle.stacks.specs.declared.state.StackState.{StackState}
use Rattle.stacks.specs.declared.state.StackState.TheVariants as states
use Rattle.stacks.proofs.Keeping.{state_seen}
use Rattle.stacks.proofs.directory.Directory.ready.Goals as goal

number_told : (r : Option (Bor Unbound)) (o : Option Unbound) (n : ℕ) → option_copied r ≡ o → IsSomeAnd o (λ s. s.number ≡ n) → IfSome r (λ s. s.now.number ≡ n)
number_told None o n e h = tt
number_told (Some r) None n e h = absurd h
number_told (Some r) (Some s) n e h = let same : r.now ≡ s = cc in ap (λ (x : Unbound). x.number) same ∙ h

never_none : (r : Option (Bor Unbound)) (o : Option Unbound) (n : ℕ) (P : Type 0) → option_copied r ≡ o → IsSomeAnd o (λ s. s.number ≡ n) → IfNone r P
never_none (Some r) o n P e h = tt
never_none None None n P e h = absurd h
never_none None (Some s) n P e h = cc

differs : (o : Option StackState) (s t : StackState) → o ≡ Some s → s ≢ t → IsSomeAnd o (λ x. x ≢ t)
differs None s t e apart = cc
differs (Some x) s t e apart = λ k. apart (cc)

pub returns-in-Ok-clause-number : goal.returns-in-Ok-clause-number
returns-in-Ok-clause-number c =
    let kept = c.self.inside.kept.items in
    let at : slice_get kept c.args.id ≡ Some (Ready c.in-Ok.key) = ap (λ (ks : List Kept). slice_get ks c.args.id) (sym c.deref.ensures.value) ∙ c.in-Ok.ensures.ready in
    number_told c.get.result (get c.self.inside.bodies c.in-Ok.key) c.args.id c.get.ensures (c.self.invariant.bodied c.args.id c.in-Ok.key at)

pub returns-in-Ok-clause-none : goal.returns-in-Ok-clause-none
returns-in-Ok-clause-none c =
    let kept = c.self.inside.kept.items in
    let at : slice_get kept c.args.id ≡ Some (Ready c.in-Ok.key) = ap (λ (ks : List Kept). slice_get ks c.args.id) (sym c.deref.ensures.value) ∙ c.in-Ok.ensures.ready in
    never_none c.get.result (get c.self.inside.bodies c.in-Ok.key) c.args.id _ c.get.ensures (c.self.invariant.bodied c.args.id c.in-Ok.key at)

pub returns-in-Err-clause-none : goal.returns-in-Err-clause-none
returns-in-Err-clause-none c =
    let look = ap (λ (ks : List Kept). option_map state_kept (slice_get ks c.args.id)) (sym c.deref.ensures.value) ∙ c.in-Err.ensures.state in
    let seen =
    ap (λ (all : List Entry). option_map state_of (slice_get all c.args.id)) (sym c.self.view_is)
    ∙ state_seen c.self.inside.kept.items c.self.inside.bodies c.self.inside.active c.args.id c.in-Err._not_ready.state c.self.invariant look in
    differs (option_map state_of (slice_get c.args.self.now c.args.id)) c.in-Err._not_ready.state states.Ready seen c.in-Err.ensures.not_ready
