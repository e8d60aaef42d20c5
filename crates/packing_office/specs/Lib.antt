pub mod PackedJoin
pub mod PackedReading
pub mod PackedUpdate
