pub mod Call
pub mod CallAnswers
