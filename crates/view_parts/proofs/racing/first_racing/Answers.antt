use Rattle.view_parts.proofs.racing.first_racing.Goals as goal

pub returns-clause-found : goal.returns-clause-found
returns-clause-found g c = record { least = rw (c.of.ensures.accesses, c.of.ensures.family, c.racing_family-family.ensures) at c.first_unknown.ensures.least }
