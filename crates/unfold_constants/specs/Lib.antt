pub mod Choosing
pub mod CountedAnswers
pub mod Evaluation
pub mod Here
pub mod Starts
pub mod Traversal
