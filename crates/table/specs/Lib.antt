-- In reading order; Faults and FileRuled hold the proofs that FlatTables needs.
pub mod TableFiles
pub mod FileParts
pub mod FlatTables
pub mod Faults
pub mod FileRuled
