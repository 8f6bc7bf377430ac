-- What rebuilding a damaged sheet answers (to be believed), and what the functions behind it promise.
pub mod Rebuilding
pub mod Parts
pub mod Told
