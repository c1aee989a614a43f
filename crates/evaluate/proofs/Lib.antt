pub mod EvaluateEnding
