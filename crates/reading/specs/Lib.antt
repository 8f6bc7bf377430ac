-- What reading a press sheet answers (to be believed).
pub mod Reading
