pub mod Iteration
pub mod Inside
pub mod OwnEnd
pub mod SameFront
pub mod RootSame
pub mod Answers
