-- Properties of the code of an expression while it is written; none of them has to be believed.
pub mod Given
pub mod Ends
pub mod Waiting
