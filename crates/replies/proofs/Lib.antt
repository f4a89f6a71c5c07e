pub mod OneReply
pub mod TokenKinds
pub mod KnownReplies
pub mod ReplySteps
