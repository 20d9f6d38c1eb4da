-- In reading order.
pub mod Trees
pub mod Meanings
pub mod Questions
pub mod Checks
pub mod Layers
pub mod Refusals
pub mod KindLists
pub mod Listed
pub mod Rulings
pub mod Written
pub mod Surroundings
pub mod Classes
pub mod Sets
pub mod ReducedTables
pub mod WrittenTables
pub mod Approximations
pub mod Theorems
