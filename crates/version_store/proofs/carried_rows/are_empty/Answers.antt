use Rattle.version_store.proofs.NotedPlaces.{eight_empty}
use Rattle.version_store.proofs.carried_rows.are_empty.Goals as goal

pub returns : goal.returns
returns c = λ _. eight_empty c.args.eight.now c.requires c.if-all-ne0.false
