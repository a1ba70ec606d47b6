use Rattle.senders.proofs.working.work.Given as goal

abbrev pub ghosts-work_under : goal.ghosts-work_under
ghosts-work_under g a = record { works = a.work.items; batch = a.settings.now.batch }
