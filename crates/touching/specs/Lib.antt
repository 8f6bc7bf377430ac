-- TO BE BELIEVED: when no two of a kind touch. `Places` is the exception: it is what the functions here promise of one place.
pub mod Apart
pub mod Places
