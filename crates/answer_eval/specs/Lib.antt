pub mod EvalData
pub mod EvalReplies
pub mod EvalLaws
