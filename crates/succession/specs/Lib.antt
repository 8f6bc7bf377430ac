-- What the step behind the calls promises. No open call's contract cites it, so nothing here is to be believed.
pub mod Steps
