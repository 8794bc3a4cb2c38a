-- What the contracts cite.
pub mod Scores
pub mod Words
