use Rattle.std.proofs.Common.{Bool, true, false, cond, List, [], ◌∷◌, ◌++◌, reverse}
use Rattle.std.proofs.lemmas.List.{map_push}
use Rattle.mu_base.specs.Lists.{Roomy}
use Rattle.mu_values.specs.declared.scalars.Scalar.{Scalar}
use Rattle.mem_axioms.specs.Known.{HasCells}
use Rattle.mem_axioms.specs.Sound.{IsSound}
use Rattle.mem_axioms.specs.Scalars.{scalars_of}
use Rattle.mem_axioms.specs.declared.types.Event.{Event}
use Rattle.mem_axioms.specs.declared.types.Rule.{Rule}
use Rattle.mem_axioms.specs.Lemmas.Widening.{cells-wider, sound-wider}
use Rattle.mem_axioms.proofs.log_memory.LogMemoryMemory.add_object.Goals as goal

cells_if : (added : Bool) (values : List (Roomy Scalar)) (more : Roomy Scalar) (log : List Event) → HasCells (scalars_of values) log → HasCells (scalars_of (cond added (values ++ more ∷ []) values)) log
cells_if true values more log h = rw (map_push (λ value. value.members) values more) (cells-wider (scalars_of values) (more.members ∷ []) log h)
cells_if false values more log h = h

sound_if : (added : Bool) (rule : Rule) (values : List (Roomy Scalar)) (more : Roomy Scalar) (log : List Event) → HasCells (scalars_of values) log → IsSound rule (scalars_of values) log → IsSound rule (scalars_of (cond added (values ++ more ∷ []) values)) log
sound_if true rule values more log h s = rw (map_push (λ value. value.members) values more) (sound-wider (scalars_of values) (more.members ∷ []) rule log h s)
sound_if false rule values more log h s = s

pub invariant_of-self-clause-cells : goal.invariant_of-self-clause-cells
invariant_of-self-clause-cells c = rw (c.push.ensures.items) (cells_if _ c.args.self.now.objects.items c.args.initial (reverse c.args.self.now.events.items) c.args.self.now.cells)

pub invariant_of-self-clause-sound : goal.invariant_of-self-clause-sound
invariant_of-self-clause-sound c =
    rw (c.push.ensures.items) (sound_if _ c.args.self.now.rule c.args.self.now.objects.items c.args.initial (reverse c.args.self.now.events.items) c.args.self.now.cells c.args.self.now.sound)
