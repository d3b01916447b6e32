-- That the answer of a client never ends a run.
use Rattle.std.specs.Prelude.{◌≡◌, ℕ, List, Option, ⊤}
use Rattle.check_tables.specs.declared.tables.Tables.{Tables}
use Rattle.mu_model.specs.Clients.{Answer}
use Rattle.mu_model.specs.Configuration.{Configuration}
use Rattle.mu_model.specs.Acts.{Program}
use Rattle.mu_model.specs.Turns.{Turn}
use Rattle.mu_model.specs.Outcomes.{Outcome, Next, End, Asks, Stuck, View}
use Rattle.mu_model.specs.Traps.{trapped}

-- the run is not ended, and nothing more is asked. No run of an accepted bundle is stuck, which is a law of its own
abbrev pub GoesOn : Outcome → Type 0
GoesOn (Next c) = ⊤
GoesOn (End ls e) = ⊥
GoesOn (Asks view go) = ⊥
GoesOn Stuck = ⊤

-- wherever a trap asks a client that may give such answers, the step goes on with what comes of each of them
abbrev pub AnswersGoOn : (Tables → View → Option Answer → Type 0) → Type 0
AnswersGoOn may =
    (p : Program) (c : Configuration) (u : Turn) (watchpoint : Option ℕ) (cs : List ℕ) (view : View) (go : Option Answer → Outcome) (o : Option Answer)
    → trapped p c u watchpoint cs ≡ Asks view go → may p.tables view o → GoesOn (go o)
