use Rattle.mem_views.proofs.view_memory.ViewMemoryMemory.commit.Goals as goal

pub taken-taken-requires-clause-views : goal.taken-taken-requires-clause-views
taken-taken-requires-clause-views g c cell a = c.views_at-kept.ensures.views cell (c.place_of-place.ensures.found cell a)

pub taken-taken-requires-clause-clocks : goal.taken-taken-requires-clause-clocks
taken-taken-requires-clause-clocks g c cell a = c.views_at-kept.ensures.clocks cell (c.place_of-place.ensures.found cell a)

pub race_of-requires-clause-views : goal.race_of-requires-clause-views
race_of-requires-clause-views g c cell a = c.views_at-kept.ensures.views cell (c.place_of-place.ensures.found cell a)
