-- TO BE BELIEVED: the strip that stands for an endless paper.
pub mod Standing
