-- In reading order.
pub mod Calls
pub mod Outcomes
pub mod Histories
pub mod Tables
pub mod Changes
pub mod Laws
