use Rattle.local_laws.proofs.Meeting.{local_steps_meet, local_steps_leave_endings}
use Rattle.local_laws.proofs.laws.local_steps_meet.Goals as goal

pub returns-clause-meet : goal.returns-clause-meet
returns-clause-meet c = local_steps_meet c.local_steps_commute.ensures.told

pub returns-clause-endings : goal.returns-clause-endings
returns-clause-endings c = local_steps_leave_endings c.local_steps_commute.ensures.told
