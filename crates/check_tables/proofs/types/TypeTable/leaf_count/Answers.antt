use Rattle.std.proofs.Common.{◌∙◌, ap, length}
use Rattle.std.proofs.lemmas.List.{length-map}
use Rattle.std.proofs.lemmas.Bool.{lt-ltb}
use Rattle.type_definitions.specs.Leaves.{leaves}
use Rattle.type_definitions.specs.Class.{class_of}
use Rattle.check_tables.proofs.types.TypeTable.leaf_count.Goals as goal

pub returns-then-t-self : goal.returns-then-t-self
returns-then-t-self c =
    rw (← c.self.view_is, c.self.invariant.count, lt-ltb c.args.t c.self.inside.written c.if-t-self.true)
    (ap length c.leaves.ensures ∙ length-map (leaves c.self.inside.classes.definitions c.args.t) (class_of c.self.inside.classes.definitions))
