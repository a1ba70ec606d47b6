use Rattle.counter_journal.specs.StandingLaws.{stands_alike, stands_taken, stood_taken}
use Rattle.counter_journal.proofs.laws.openings_keep_the_history.Goals as goal

pub returns-clause-alike : goal.returns-clause-alike
returns-clause-alike c = λ lane lanes octets image alike entries.
    (stands_alike lane lanes alike.0 octets image alike.1 alike.2 entries, stands_alike lane lanes alike.0 image octets alike.2 alike.1 entries)

pub returns-clause-taken : goal.returns-clause-taken
returns-clause-taken c = λ lane lanes octets image taken entries. (stands_taken lane lanes octets image taken entries, stood_taken lane lanes octets image taken entries)
