-- What the function that reads the words tells its callers.
use Rattle.std.specs.Prelude.{◌≡◌, ◌<◌, ℕ, None, IfSome}
use Rattle.mu_command.specs.Job.{IsThere, OptionsAreThere}
use Rattle.explore.specs.declared.search.Search.{Search}
use Rattle.explore.specs.declared.options.SearchOptions.{SearchOptions}

-- the words of its runs are there, of so many; and a run is given no schedule of its own
pub record SearchIsThere (count : ℕ) (s : Search) : Type 0 where
  pub run : IsThere count s.run
  pub schedule : s.run.schedule ≡ None
  pub condition : IfSome s.condition (λ n. n < count)

-- so are those of options
pub record SearchOptionsAreThere (count : ℕ) (options : SearchOptions) : Type 0 where
  pub run : OptionsAreThere count options.run
  pub condition : IfSome options.condition (λ n. n < count)
