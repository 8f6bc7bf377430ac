-- TO BE BELIEVED: what stood on the bar while blocks were exchanged by hand, and refusals 15 and 16.
pub mod Bar
pub mod Pairs
