pub mod LineSteps
pub mod TextSteps
pub mod ExpressionLaws
pub mod CommandLaws
pub mod ScriptLaws
pub mod ScriptSteps
