pub mod Walks
pub mod Runs
