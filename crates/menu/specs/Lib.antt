pub mod Menu
