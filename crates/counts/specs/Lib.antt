-- The line that the programs read (to be believed), how it is read, and how its counts are held.
pub mod Readable
pub mod Reading
pub mod Held
