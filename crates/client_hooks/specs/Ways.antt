-- How a client of the abstract machine answers, and what it is past an answer.
use Rattle.std.specs.Prelude.{◌≡◌, Option, refl}
use Rattle.check_tables.specs.declared.tables.Tables.{Tables}
use Rattle.mu_model.specs.Clients.{Answer, Client}
use Rattle.mu_model.specs.Outcomes.{View, Outcome, Next, End, Asks, Stuck}
use Rattle.mu_model.specs.Acts.{Program}
use Rattle.mu_model.specs.Answers.{answer_of, advanced}
use Rattle.mu_model.specs.Run.{client_answers, with_client}

pub record Way : Type 0 where
  pub answer : Tables → View → Client → Option Answer
  pub past : Client → Client

-- by its entries
abbrev pub by_entries : Way
by_entries = record { answer = answer_of; past = advanced }

-- the step by the own answer of a client that answers so
abbrev pub client_answers_by : Way → Program → Client → Outcome → Outcome
client_answers_by w p k (Asks view go) = with_client (w.past k) (go (w.answer p.tables view k))
client_answers_by w p k o = o

-- by its entries it is that of the abstract machine
pub entries_answer : (p : Program) (k : Client) (o : Outcome) → client_answers_by by_entries p k o ≡ client_answers p k o
entries_answer p k (Next c) = refl
entries_answer p k (End ls e) = refl
entries_answer p k (Asks view go) = refl
entries_answer p k Stuck = refl
