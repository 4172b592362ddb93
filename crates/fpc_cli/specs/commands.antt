pub mod Verify
pub mod Guided
pub mod Format
pub mod Solve
pub mod Usage
