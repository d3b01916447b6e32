-- The client of the abstract machine that answers in a run.
-- Contracts inside the crate cite this; no public one does, so no reader of those needs it.
use Rattle.std.specs.Prelude.{true}
use Rattle.mu_model.specs.Clients.{Client}
use Rattle.client_script.specs.declared.run_client.Answering.{Answering}
use Rattle.client_script.specs.declared.run_client.Answering.TheVariants.{Stopping, Passing}
use Rattle.client_script.specs.ScriptClients.{client_of}

abbrev pub client_in : Answering → Client
client_in (Stopping script) = client_of script
client_in (Passing chain) = record { entries = chain.first; auto = true }
