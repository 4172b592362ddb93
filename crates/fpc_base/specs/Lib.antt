pub mod Outside
pub mod Memory
pub mod Adapter
pub mod Refusal
pub mod Tokens
pub mod Lexeme
pub mod Reading
