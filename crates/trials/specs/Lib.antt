pub mod NoRoad
