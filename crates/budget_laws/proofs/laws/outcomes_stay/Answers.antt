use Rattle.budget_laws.proofs.Seen.{seen_stays, shown_stay, complete_stays}
use Rattle.budget_laws.proofs.laws.outcomes_stay.Goals as goal

pub returns : goal.returns
returns c = record { seen = seen_stays; shown = shown_stay; complete = complete_stays }
