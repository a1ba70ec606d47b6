-- What a part that was read says.
use Rattle.card_store.specs.Parts.{StorePart}
use Rattle.card_store.specs.Parts.StorePart.{UsesCounter, RunsCommand}
use Rattle.card_store.specs.declared.parts.ReadPart.{ReadPart}
use Rattle.card_store.specs.declared.parts.ReadPart.TheVariants.{Counter, Command}

abbrev pub said_by : ReadPart → StorePart
said_by (Counter part) = UsesCounter part.kvn part.counter part.tar part.body.now
said_by Command = RunsCommand
