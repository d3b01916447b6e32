use Rattle.std.proofs.Common.{◌≡◌, ◌∙◌, ◌+◌, sym, ap, suc, reverse, slice_get, List, ℕ, arith}
use Rattle.mem_axioms.specs.Logs.{newest}
use Rattle.mem_axioms.specs.Objects.{initial_of}
use Rattle.mem_axioms.specs.Scalars.{scalars_of}
use Rattle.mem_axioms.specs.declared.types.Event.{Event}
use Rattle.mem_axioms.specs.Lemmas.Downward.{below-in, below-in-length, below-out}
use Rattle.mem_axioms.specs.Lemmas.Offers.{may_take, reads-at}
use Rattle.mem_axioms.proofs.log_memory.LogMemory.nth_read.Goals as goal

pub loop-position-init : goal.loop-position-init
loop-position-init c =
    let memory = c.args.self.now in
    let log = reverse memory.events.items in
    let n : c.newest_position-position.result ≡ newest log c.args.cell = c.newest_position-position.ensures.newest ∙ ap (λ (events : List Event). newest (reverse events) c.args.cell) c.deref.ensures.value in
    let end : c.newest_position-position.result + 1 ≡ suc (newest log c.args.cell) = omega (arith, n) in
    let all = reads-at memory.rule (initial_of (scalars_of memory.objects.items)) log c.args.thread c.args.cell c.args.order c.args.excluded (c.newest_position-position.result + 1) end in
    record {
      there = rw all at c.requires.n;
      same = ap (λ (positions : List ℕ). slice_get positions c.args.n) all;
    }

pub loop-position-preserved-then-may_take : goal.loop-position-preserved-then-may_take
loop-position-preserved-then-may_take c =
    let memory = c.args.self.now in
    let test = may_take memory.rule (initial_of (scalars_of memory.objects.items)) (reverse memory.events.items) c.args.thread c.args.cell c.args.order c.args.excluded in
    let passes = sym c.may_take.ensures ∙ c.if-may_take.true in
    record {
      there = below-in-length test c.loop-position.position c.loop-position.left (omega arith) passes (omega arith) c.loop-position.invariant.there;
      same = c.loop-position.invariant.same ∙ below-in test c.loop-position.position c.loop-position.left (omega arith) passes (omega arith);
    }

pub loop-position-preserved : goal.loop-position-preserved
loop-position-preserved c =
    let memory = c.args.self.now in
    let test = may_take memory.rule (initial_of (scalars_of memory.objects.items)) (reverse memory.events.items) c.args.thread c.args.cell c.args.order c.args.excluded in
    let less = below-out test c.loop-position.position (omega arith) (sym c.may_take.ensures ∙ c.if-may_take.false) in
    record {
      there = rw less at c.loop-position.invariant.there;
      same = c.loop-position.invariant.same ∙ ap (λ (positions : List ℕ). slice_get positions c.loop-position.left) less;
    }
