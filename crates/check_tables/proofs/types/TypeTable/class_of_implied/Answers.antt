use Rattle.std.proofs.Common.{◌∙◌}
use Rattle.std.proofs.lemmas.Option.{slice_get_within}
use Rattle.mu_types.specs.Implied.{definition_of}
use Rattle.type_definitions.specs.Lemmas.Proved.{congruence}
use Rattle.check_tables.specs.Lemmas.Like.{class_is_like}
use Rattle.check_tables.proofs.types.TypeTable.class_of_implied.Goals as goal

pub class-requires : goal.class-requires
class-requires c = slice_get_within c.self.inside.classes.definitions c.implied.result (definition_of c.args.wanted) c.implied.ensures

pub returns : goal.returns
returns c =
    rw (← c.self.view_is)
    (c.class.ensures ∙ class_is_like c.self.inside.classes.definitions (congruence c.self.inside.classes.definitions c.self.invariant.graph) c.implied.result (definition_of c.args.wanted) c.implied.ensures)
