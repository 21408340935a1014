use Rattle.juniper_intro.proofs.RootReplies.{replies-rooted, types-rooted}
use Rattle.juniper_intro.proofs.laws.roots_reply.Goals as goal

pub returns-clause-types : goal.returns-clause-types
returns-clause-types g c = λ s names concrete top n. types-rooted s names concrete top n

pub returns-clause-replies : goal.returns-clause-replies
returns-clause-replies g c = λ s executable names number all answer top n f args. replies-rooted s executable names number all answer top n f args
