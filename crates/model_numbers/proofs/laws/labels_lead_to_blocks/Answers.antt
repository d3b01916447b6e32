use Rattle.model_numbers.proofs.Labels.{label_leads}
use Rattle.model_numbers.proofs.laws.labels_lead_to_blocks.Goals as goal

pub returns : goal.returns
returns c = label_leads
