use Rattle.card_store.specs.Laws.{took_on}
use Rattle.card_store.proofs.laws.commands_lead_on.Goals as goal

pub returns : goal.returns
returns c = took_on
