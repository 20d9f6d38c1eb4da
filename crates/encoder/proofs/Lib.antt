pub mod Copies
pub mod FromFn
pub mod Blocks
pub mod Held
pub mod Parts
pub mod Encoded
pub mod FileLayout
