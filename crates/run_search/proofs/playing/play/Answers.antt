use Rattle.std.proofs.Common.{◌≡◌, ℕ, suc, ◌-◌, List, subst, arith}
use Rattle.std.specs.Prelude.{flat_map}
use Rattle.mu_model.specs.declared.lines.Line.{Line}
use Rattle.mu_model.specs.Programs.{named}
use Rattle.run_search.specs.Steps.{SoFar, AllEnd, GoesFurther, GoesToEnd, begins_far, all_have_rules, one_more, whole_path, whole_leaf, whole_run, none_left}
use Rattle.run_search.proofs.playing.play.Goals as goal

pub steps-init : goal.steps-init
steps-init g c = record {
  far =
      begins_far (named c.args.code.now) c.args.steps c.args.machine.now.configuration c.args.numbers.now c.args.made.now.items (flat_map (λ (ls : List Line). ls) c.args.kept.now.items) c.args.schedule.now.items
      c.requires.ends c.requires.picks c.requires.made c.requires.kept c.requires.schedule;
  same = c.requires.same;
  fresh = c.requires.fresh;
}

pub next_step-requires-clause-rules : goal.next_step-requires-clause-rules
next_step-requires-clause-rules g c =
    let e : c.steps.left ≡ suc (c.steps.left - 1) = omega (arith, c.steps-test.true) in
    all_have_rules (named c.args.code.now) (c.steps.left - 1) c.steps.machine.configuration (subst (λ (k : ℕ). AllEnd (named c.args.code.now) k c.steps.machine.configuration) e c.steps.invariant.far.ends)

pub next_step-requires-clause-left : goal.next_step-requires-clause-left
next_step-requires-clause-left g c = c.steps.invariant.far.left

pub steps-preserved : goal.steps-preserved
steps-preserved g c =
    let e : c.steps.left ≡ suc (c.steps.left - 1) = omega (arith, c.steps-test.true) in
    let w : GoesFurther (named c.args.code.now) c.steps.machine.configuration c.next_step.new.machine.configuration c.steps.made.items c.next_step.new.made.items (flat_map (λ (ls : List Line). ls) c.steps.kept.items) (flat_map (λ (ls : List Line). ls) c.next_step.new.kept.items) c.steps.schedule.items c.next_step.new.schedule.items =
    rw c.in-Ok-None.field-0-is at c.in-Ok-None.ensures.went in
    record {
      far =
          one_more (named c.args.code.now) c.args.steps c.args.machine.now.configuration c.args.numbers.now (c.steps.left - 1) c.steps.machine.configuration c.steps.made.items (flat_map (λ (ls : List Line). ls) c.steps.kept.items) c.steps.schedule.items
          (subst (λ (k : ℕ). SoFar (named c.args.code.now) c.args.steps c.args.machine.now.configuration c.args.numbers.now k c.steps.machine.configuration c.steps.made.items (flat_map (λ (ls : List Line). ls) c.steps.kept.items) c.steps.schedule.items) e c.steps.invariant.far)
          w.picks c.next_step.new.made.items (flat_map (λ (ls : List Line). ls) c.next_step.new.kept.items) c.next_step.new.schedule.items w.noted c.next_step.new.machine.configuration w.on (rw c.in-Ok-None.field-0-is at c.in-Ok-None.ensures.left);
      same = c.next_step.ensures.same;
      fresh = rw c.in-Ok-None.field-0-is at c.in-Ok-None.ensures.fresh;
    }

pub returns-in-Ok-Some-clause-path : goal.returns-in-Ok-Some-clause-path
returns-in-Ok-Some-clause-path g c =
    let e : c.steps.left ≡ suc (c.steps.left - 1) = omega (arith, c.steps-test.true) in
    let w : GoesToEnd (named c.args.code.now) c.steps.machine.configuration c.steps.made.items c.next_step.new.made.items (flat_map (λ (ls : List Line). ls) c.steps.kept.items) (flat_map (λ (ls : List Line). ls) c.next_step.new.kept.items) c.steps.schedule.items c.next_step.new.schedule.items c.in-Ok-Some.ending =
    rw c.in-Ok-Some.field-0-is at c.in-Ok-Some.ensures.ended in
    whole_path (named c.args.code.now) c.args.steps c.args.machine.now.configuration c.args.numbers.now (c.steps.left - 1) c.steps.machine.configuration c.steps.made.items (flat_map (λ (ls : List Line). ls) c.steps.kept.items) c.steps.schedule.items
    (subst (λ (k : ℕ). SoFar (named c.args.code.now) c.args.steps c.args.machine.now.configuration c.args.numbers.now k c.steps.machine.configuration c.steps.made.items (flat_map (λ (ls : List Line). ls) c.steps.kept.items) c.steps.schedule.items) e c.steps.invariant.far)
    w.picks c.next_step.new.made.items (flat_map (λ (ls : List Line). ls) c.next_step.new.kept.items) c.next_step.new.schedule.items w.noted c.in-Ok-Some.ending w.ends

pub returns-in-Ok-Some-clause-leaf : goal.returns-in-Ok-Some-clause-leaf
returns-in-Ok-Some-clause-leaf g c =
    let e : c.steps.left ≡ suc (c.steps.left - 1) = omega (arith, c.steps-test.true) in
    let w : GoesToEnd (named c.args.code.now) c.steps.machine.configuration c.steps.made.items c.next_step.new.made.items (flat_map (λ (ls : List Line). ls) c.steps.kept.items) (flat_map (λ (ls : List Line). ls) c.next_step.new.kept.items) c.steps.schedule.items c.next_step.new.schedule.items c.in-Ok-Some.ending =
    rw c.in-Ok-Some.field-0-is at c.in-Ok-Some.ensures.ended in
    whole_leaf (named c.args.code.now) c.args.steps c.args.machine.now.configuration c.args.numbers.now (c.steps.left - 1) c.steps.machine.configuration c.steps.made.items (flat_map (λ (ls : List Line). ls) c.steps.kept.items) c.steps.schedule.items
    (subst (λ (k : ℕ). SoFar (named c.args.code.now) c.args.steps c.args.machine.now.configuration c.args.numbers.now k c.steps.machine.configuration c.steps.made.items (flat_map (λ (ls : List Line). ls) c.steps.kept.items) c.steps.schedule.items) e c.steps.invariant.far)
    w.picks c.next_step.new.made.items (flat_map (λ (ls : List Line). ls) c.next_step.new.kept.items) c.next_step.new.schedule.items w.noted c.in-Ok-Some.ending w.ends

pub returns-in-Ok-Some-clause-run : goal.returns-in-Ok-Some-clause-run
returns-in-Ok-Some-clause-run g c =
    let e : c.steps.left ≡ suc (c.steps.left - 1) = omega (arith, c.steps-test.true) in
    let w : GoesToEnd (named c.args.code.now) c.steps.machine.configuration c.steps.made.items c.next_step.new.made.items (flat_map (λ (ls : List Line). ls) c.steps.kept.items) (flat_map (λ (ls : List Line). ls) c.next_step.new.kept.items) c.steps.schedule.items c.next_step.new.schedule.items c.in-Ok-Some.ending =
    rw c.in-Ok-Some.field-0-is at c.in-Ok-Some.ensures.ended in
    whole_run (named c.args.code.now) c.args.steps c.args.machine.now.configuration c.args.numbers.now (c.steps.left - 1) c.steps.machine.configuration c.steps.made.items (flat_map (λ (ls : List Line). ls) c.steps.kept.items) c.steps.schedule.items
    (subst (λ (k : ℕ). SoFar (named c.args.code.now) c.args.steps c.args.machine.now.configuration c.args.numbers.now k c.steps.machine.configuration c.steps.made.items (flat_map (λ (ls : List Line). ls) c.steps.kept.items) c.steps.schedule.items) e c.steps.invariant.far)
    w.picks c.next_step.new.made.items (flat_map (λ (ls : List Line). ls) c.next_step.new.kept.items) c.next_step.new.schedule.items w.noted c.in-Ok-Some.ending w.ends

pub unreachable-requires : goal.unreachable-requires
unreachable-requires g c =
    let none : c.steps.left ≡ 0 = omega (arith, c.steps-test.false) in
    none_left (named c.args.code.now) c.steps.machine.configuration (subst (λ (k : ℕ). AllEnd (named c.args.code.now) k c.steps.machine.configuration) none c.steps.invariant.far.ends)
