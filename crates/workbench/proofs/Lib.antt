pub mod ScriptFacts
pub mod RunSteps
pub mod BenchSteps
pub mod OneOutput
pub mod RunEnds
pub mod RunCauses
pub mod RoomyRuns
pub mod KnownWords
