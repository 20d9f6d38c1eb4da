pub mod Exact
pub mod Counts
pub mod Checked
pub mod HeldTree
pub mod Scan
pub mod ChildParts
pub mod HeldChild
