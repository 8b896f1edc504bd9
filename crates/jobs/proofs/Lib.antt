pub mod CallAnswers
