pub mod HeldWord
