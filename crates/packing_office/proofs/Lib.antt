pub mod JoinBits
pub mod Packing
pub mod Theorems
pub mod UpdateBits
