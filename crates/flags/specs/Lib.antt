-- What the functions promise of flags. Nothing here is to be believed.
pub mod Flags
