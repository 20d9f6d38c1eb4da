-- In reading order.
pub mod Reckonings
pub mod Walking
pub mod States
pub mod Tallies
pub mod Judging
