pub mod QueryEnding
