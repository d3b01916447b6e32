-- What the handler of a hook has to promise.
use Rattle.std.specs.Prelude.{◌≡◌, []}
use Rattle.mu_values.specs.Slots.{TypedValues}
use Rattle.check_tables.specs.declared.tables.Tables.{Tables}
use Rattle.mu_model.specs.Clients.{Classed, With, Pass, Throw, Reply, Resume, Rebind, Exit, Stop, Answer, no_edit}
use Rattle.mu_model.specs.Outcomes.{View}
use Rattle.client_hooks.specs.Told.{AreTold}

-- values are passed, of the types that are asked, each of them zero and NULL or kept by a frame
abbrev pub PassesAsked : Tables → View → With TypedValues Classed → Type 0
PassesAsked p view (Pass vs) = (vs.types ≡ view.asked) × AreTold p view [] vs
PassesAsked p view (Throw v) = ⊥

-- the trapped stack is entered so
abbrev pub ResumesAsked : Tables → View → Reply TypedValues Classed → Type 0
ResumesAsked p view (Resume w) = PassesAsked p view w
ResumesAsked p view (Rebind t w) = ⊥
ResumesAsked p view Exit = ⊥
ResumesAsked p view Stop = ⊥

-- nothing is recorded, no frame is popped or pushed, and then the trapped stack is entered so; watchpoints may be set and unset
abbrev pub OnlyResumes : Tables → View → Answer → Type 0
OnlyResumes p view a = (a.notes ≡ []) × (a.edit ≡ no_edit) × ResumesAsked p view a.reply
