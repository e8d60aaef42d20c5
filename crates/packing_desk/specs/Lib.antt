pub mod PackedDesk
