use Rattle.std.proofs.Common.{refl}
use Rattle.ota_commands.proofs.NineWords.{nine_words}
use Rattle.ota_commands.proofs.words.read_words.Goals as goal

pub returns-in-len9-clause-said : goal.returns-in-len9-clause-said
returns-in-len9-clause-said c =
    let words = nine_words c.args.words.now _ _ _ _ _ _ _ _ _ c.in-len9.len_at_least c.in-len9.len_below
    c.command-item-then-words-lt10.is c.lanes-item-then-words-lt10.is c.count-item-then-words-lt10.is c.store-item-then-words-lt10.is c.store_path-item.is c.plan-item.is c.plan_path-item.is c.jobs-item.is c.jobs_path-item.is in
    rw words (rw (c.said_reading.ensures.said, c.has_paths-has_paths.ensures) refl)
