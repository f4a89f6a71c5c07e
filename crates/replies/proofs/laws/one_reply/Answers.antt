use Rattle.replies.proofs.OneReply as replies
use Rattle.replies.proofs.laws.one_reply.Goals as goal

pub returns : goal.returns
returns c = replies.one_reply
