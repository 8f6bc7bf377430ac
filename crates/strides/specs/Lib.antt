-- Record 5 of a press sheet (to be believed), and what looking ahead for one and making it promise.
pub mod Strides
pub mod Strode
