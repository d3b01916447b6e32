use Rattle.std.specs.Prelude.{◌≡◌}
use Rattle.std.specs.List.{Contains}
use Rattle.std.proofs.Common.{◌∙◌, ap, subst, sym}
use Rattle.mu_model.specs.Clients.{Classed, Client}
use Rattle.client_script.specs.declared.run_client.RunClient.TheInside.{Inside}
use Rattle.client_script.specs.RunClients.{client_in}
use Rattle.client_script.specs.ScriptClients.{values_named}
use Rattle.client_script.proofs.Passing.{chain_held}
use Rattle.client_script.proofs.run_client.RunClientClient.advance.Goals as goal
use Rattle.client_script.proofs.run_client.RunClientClient.advance.Goals.{in-Stopping, in-Passing}

abbrev client_inside : Inside → Client
client_inside i = client_in i.answering

held_by : (k l : Client) (v : Classed) → k ≡ l → Contains (values_named k.entries) v → Contains (values_named l.entries) v
held_by k l v same h = subst (λ (x : Client). Contains (values_named x.entries) v) same h

pub returns-clause-held : goal.returns-clause-held
returns-clause-held c =
    elim c.match-self.branch [
      | in-Stopping w ↦ λ v h. held_by _ _ v (ap client_in (sym w.in-Stopping.is) ∙ c.self.view_is) (w.advance.ensures.held v (held_by _ _ v (ap client_inside w.self-inside-is) h))
      | in-Passing w ↦ chain_held _ _ _ _ (ap client_in (sym w.in-Passing.is) ∙ c.self.view_is) (ap client_inside w.self-inside-is) w.advance-in-Passing.ensures.held
    ]
