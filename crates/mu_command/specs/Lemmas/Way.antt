-- What follows each file on the way to a run, and to a joined bundle.
use Rattle.std.proofs.Common.{ℕ, List, [], ◌∷◌, ◌++◌}
use Rattle.std.specs.Prelude.{Ok}
use Rattle.ir_tree.specs.declared.items.Item.{Item}
use Rattle.typed_heap.specs.Objects.{HeapObject}
use Rattle.mu_model.specs.Clients as clients
use Rattle.mu_texts.specs.declared.what.What.TheVariants.{Hail, Client, Schedule, Joined}
use Rattle.mu_texts.specs.Start.{Started}
use Rattle.mu_texts.specs.Answer.{Part, ◌>>=◌, written_in, loaded, client_part, scheduled, started}
use Rattle.mu_command.specs.declared.job.RunJob.{RunJob}
use Rattle.mu_command.specs.Answer.{Outcomes, judged}

module _ (r : RunJob) (code : List Item) (o : Outcomes) where
  abbrev pub after_picks : ℕ → List HeapObject → clients.Client → List ℕ → Part Started
  after_picks n objects client picks = Ok (started code n (record { objects = objects; client = client; picks = picks; cells = r.cells; budget = r.budget; rule = r.rule }))

  abbrev pub after_client : ℕ → List HeapObject → clients.Client → Part Started
  after_client n objects client = judged Schedule scheduled (o Schedule) >>= after_picks n objects client

  abbrev pub after_objects : ℕ → List HeapObject → Part Started
  after_objects n objects = judged Client (client_part code r.auto) (o Client) >>= after_client n objects

  abbrev pub after_entry : ℕ → Part Started
  after_entry n = judged Hail (loaded code r.cells) (o Hail) >>= after_objects n

-- the bundle with number k after those before it
abbrev pub after_bundles : Outcomes → ℕ → List (List Item) → Part (List (List Item))
after_bundles o k bundles = judged (Joined k) (written_in (Joined k)) (o (Joined k)) >>= λ bundle. Ok (bundles ++ bundle ∷ [])
