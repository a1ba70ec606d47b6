use Rattle.std.proofs.Common.{◌≡◌, sym}
use Rattle.card_store.specs.PartsRead.{said_by}
use Rattle.card_store.proofs.Taken.{result_taken, formless}
use Rattle.card_store.proofs.kept.Kept.take_part.Goals as goal

pub returns-in-None : goal.returns-in-None
returns-in-None c = λ content shows. formless c.args.facts.now content c.args.part.now c.args.self.now (sym c.in-None.ensures) shows

pub returns-in-Some : goal.returns-in-Some
returns-in-Some c = λ content shows.
    result_taken c.args.facts.now content c.args.part.now (said_by c.in-Some.read) c.take_read.result c.take_read.new.self (sym c.in-Some.ensures) (c.take_read.ensures content shows)
