-- TO BE BELIEVED: what the calls on endless papers answer. `Inner` is the exception: it is what the functions behind them promise.
pub mod Answers
pub mod Inner
