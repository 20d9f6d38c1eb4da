-- In reading order.
pub mod Words
pub mod Left
pub mod Arguments
pub mod Verbs
pub mod Calls
pub mod Texts
