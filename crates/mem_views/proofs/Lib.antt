pub mod Counted
pub mod OthersFound
pub mod Fitting
pub mod ThreadsMade
pub mod Reading
pub mod Budget
pub mod Roomy
