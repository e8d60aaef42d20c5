pub mod ItemWriters
