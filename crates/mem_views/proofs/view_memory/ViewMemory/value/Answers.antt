use Rattle.std.proofs.Common.{◌∙◌, sym, arith, ap, ℕ}
use Rattle.mem_axioms.specs.Form.{value_at}
use Rattle.mem_axioms.specs.Objects.{initial_of}
use Rattle.view_parts.specs.Lemmas.FloorFound.{form-of}
use Rattle.view_parts.specs.Lemmas.ValuesKept.{untouched-newest, history-newest}
use Rattle.mem_views.proofs.Reading.{value-initial, value-found}
use Rattle.mem_views.proofs.view_memory.ViewMemory.value.Goals as goal

pub returns-then-position-eq0-clause-value : goal.returns-then-position-eq0-clause-value
returns-then-position-eq0-clause-value g c =
    let memory = c.args.self.now in
    let initial = initial_of memory.objects.values in
    c.initial.ensures
    ∙ (sym (value-initial initial memory.tape.events c.args.cell (form-of memory.rule initial memory.tape.events memory.log_holds.sound.axioms))
    ∙ ap (λ (p : ℕ). value_at initial memory.tape.events c.args.cell p) (sym c.if-position-eq0.true))

pub value-requires : goal.value-requires
value-requires g c = let n = history-newest c.args.self.now.rule c.args.self.now.tape.events c.args.cell c.in-Some.kept.now (rw c.in-Some.is at c.requires.kept) in let p = c.requires.position in omega (arith, n, p)

pub returns-in-Some-clause-value : goal.returns-in-Some-clause-value
returns-in-Some-clause-value g c =
    let memory = c.args.self.now in
    let initial = initial_of memory.objects.values in
    value-found memory.rule initial memory.tape.events c.args.cell c.in-Some.kept.now c.args.position c.value.result (form-of memory.rule initial memory.tape.events memory.log_holds.sound.axioms) (rw c.in-Some.is at c.requires.kept) (omega arith) c.requires.position c.value.ensures.value

pub returns-in-None-clause-value : goal.returns-in-None-clause-value
returns-in-None-clause-value g c = let z = untouched-newest c.args.self.now.tape.events c.args.cell (rw c.in-None.is at c.requires.kept) in let p = c.requires.position in let n = c.if-position-eq0.false in absurd (omega (arith, z, p, n))
