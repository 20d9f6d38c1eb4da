-- In reading order.
pub mod Reading
pub mod Laws
pub mod Counting
pub mod Held
pub mod Children
pub mod Scanning
