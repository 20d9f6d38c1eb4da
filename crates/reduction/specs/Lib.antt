-- In reading order.
pub mod Searching
pub mod Searches
pub mod Dividing
pub mod Divisions
pub mod Numbering
pub mod Numberings
pub mod Filling
pub mod Reductions
