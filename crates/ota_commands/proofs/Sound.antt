-- The sites stay sound, whatever the course of a command; and where the journals were made, they open.
use Rattle.std.proofs.Common.{◌≡◌, ◌⊎◌, inl, inr, ℕ, ◌<◌, Bool, Option, Some, None, List, [], length, get_or, sym, subst, arith}
use Rattle.disk_model.specs.Counts.{Counts}
use Rattle.disk_model.specs.Disk.{Meaning, Tells, image_now}
use Rattle.gate_log.specs.Formatting.{IsMade}
use Rattle.ota_core.specs.declared.entries.Entry.{Entry}
use Rattle.counter_journal.specs.EntryRanges.{IsHistory}
use Rattle.counter_journal.specs.JournalMaking.{IsJournalMade}
use Rattle.counter_journal.specs.JournalReading.{Holds}
use Rattle.lane_session.specs.Formatting.{AreFormattedBelow}
use Rattle.counter_journal.specs.Standing.{StandsFor}
use Rattle.counter_journal.specs.StandingLaws.{no_entries}
use Rattle.lane_session.specs.Sound.{AreSound, StaySound}
use Rattle.lane_session.specs.SoundLaws.{still_sound, opening_sound, opened_sound, session_sound, formatted_sound, formatting_sound}
use Rattle.ota_core.specs.declared.jobs.Job.{Job}
use Rattle.plan_reader.specs.declared.plans.Plan.{Plan}
use Rattle.ota_commands.specs.Inputs.{Input}
use Rattle.ota_commands.specs.Command.{NoneEnded, StopsWith, HasStopped, HasRunFormat, HasReserved, HasRunReserve, HasShown, HasRunPacket, IsCourse}
use Rattle.ota_commands.specs.Answers.{AllOpen}
use Rattle.ota_commands.specs.declared.words.Command.{Command}
use Rattle.ota_commands.specs.declared.words.Command.TheVariants.{Format}
use Rattle.ota_commands.specs.declared.faults.Fault.{Fault}
use Rattle.ota_commands.specs.declared.faults.Fault.TheVariants.{Usage, Memory}

-- a journal that stands opens, where the octets were sound before
opens_now : (lane lanes : ℕ) (old new : List ℕ) (entries : List Entry) → IsJournalMade lane lanes old new → StandsFor lane lanes entries old
    → (now : List Entry) × IsHistory lane lanes now × Holds lane lanes now new
opens_now lane lanes old new entries (inl made) stands = ([], no_entries lane lanes, made.1)
opens_now lane lanes old new entries (inr stood) (inl unmade) = absurd (subst IsMade unmade.0 stood.0)
opens_now lane lanes old new entries (inr stood) (inr held) = (entries, held.0, subst (Holds lane lanes entries) (sym stood.1) held.1)

module _ {D B C : Type 0} (told : Meaning D B C) (counts : D → Counts) (seen_is_image : (disk : D) → Tells told disk → image_now told disk (told.seen disk)) (olds news : List D) (sound : AreSound told olds) where
  -- no call was made on the sites
  pub untouched_sound : news ≡ olds → StaySound told olds news
  untouched_sound same = subst (StaySound told olds) (sym same) (still_sound told counts olds sound)

  all_open : AreFormattedBelow told counts olds news (length olds) → AllOpen told news
  all_open formatted k site below =
      let within : k < length olds = omega (arith, below, formatted.same_sites) in
      let tells = sound.tells k site within in
      let stands = sound.each k site (told.seen (get_or olds k site)) within (seen_is_image (get_or olds k site) tells) in
      subst (λ (n : ℕ). (entries : List Entry) × IsHistory k n entries × Holds k n entries (told.seen (get_or news k site))) (sym formatted.same_sites)
      (opens_now k (length olds) (told.seen (get_or olds k site)) (told.seen (get_or news k site)) stands.0 ((formatted.each k site site within).made tells) stands.1)

  module _ {K : Type 0} (sink_tells : K → Bool) (written : K → List ℕ) (sink_faults : K → ℕ) (sink_old sink_new : K) (fault : Option Fault) (ends : List (Option Fault)) where
    of_format : HasRunFormat told counts sink_tells written sink_faults olds news sink_old sink_new fault → StaySound told olds news
    of_format (inl refused) = formatting_sound told counts seen_is_image olds news refused.error refused.refused sound
    of_format (inr formatted) = formatted_sound told counts seen_is_image olds news formatted.formatted sound

    of_stop : (plan : Plan) (jobs : List Job) (reason : Fault) → StopsWith told counts plan jobs olds news reason → StaySound told olds news
    of_stop plan jobs reason (inl refused) = opening_sound told counts seen_is_image olds news refused.error refused.refused sound
    of_stop plan jobs reason (inr differs) = opened_sound told counts seen_is_image olds news differs.opened differs.are_opened sound

    of_reserve : {S : Type 0} (plan_input jobs_input : Input) (jobs_old jobs_new : S) → HasRunReserve told counts sink_tells written sink_faults plan_input jobs_input jobs_old jobs_new olds news sink_old sink_new fault ends → StaySound told olds news
    of_reserve plan_input jobs_input jobs_old jobs_new (inl failed) = untouched_sound failed.sites
    of_reserve plan_input jobs_input jobs_old jobs_new (inr read) = of read.run
      where
        of : (HasStopped told counts read.plan read.jobs olds news sink_old sink_new fault ends ⊎ HasReserved told counts sink_tells written sink_faults read.plan read.jobs olds news sink_old sink_new fault ends) → StaySound told olds news
        of (inl stopped) = of_stop read.plan read.jobs stopped.reason stopped.stops
        of (inr reserved) =
            session_sound told counts seen_is_image read.plan read.jobs olds reserved.opens news reserved.opened reserved.added.lanes reserved.begins.are_opened reserved.added.passed reserved.begins.distinct
            reserved.begins.agree sound

    of_packet : {S : Type 0} (plan_input jobs_input : Input) (jobs_old jobs_new : S) → HasRunPacket told counts sink_tells written sink_faults plan_input jobs_input jobs_old jobs_new olds news sink_old sink_new fault ends → StaySound told olds news
    of_packet plan_input jobs_input jobs_old jobs_new (inl failed) = untouched_sound failed.sites
    of_packet plan_input jobs_input jobs_old jobs_new (inr read) = of read.run
      where
        of : (HasStopped told counts read.plan read.jobs olds news sink_old sink_new fault ends ⊎ HasShown told counts sink_tells written sink_faults read.plan read.jobs olds news sink_old sink_new fault ends) → StaySound told olds news
        of (inl stopped) = of_stop read.plan read.jobs stopped.reason stopped.stops
        of (inr shown) = opened_sound told counts seen_is_image olds news shown.opened shown.begins.are_opened sound

    open_format : HasRunFormat told counts sink_tells written sink_faults olds news sink_old sink_new fault → fault ≡ None → AllOpen told news
    open_format (inl refused) none = absurd (cc (none, refused.fault_is))
    open_format (inr formatted) none = all_open formatted.formatted

    open_nothing : (command : Option Command) → ((fault ≡ Some Usage) × (command ≡ None) × NoneEnded olds ends) ⊎ ((fault ≡ Some Memory) × (ends ≡ [])) → fault ≡ None → AllOpen told news
    open_nothing command (inl usage) none = absurd (cc (none, usage.0))
    open_nothing command (inr wanting) none = absurd (cc (none, wanting.0))

  module _ {K S : Type 0} (sink_tells : K → Bool) (written : K → List ℕ) (sink_faults : K → ℕ) (source_tells : S → Bool) (left : S → List ℕ) (source_faults : S → ℕ)
      (command : Option Command) (plan_old plan_new jobs_old jobs_new : S) (sink_old sink_new : K) (fault : Option Fault) (ends : List (Option Fault)) where
    pub course_sound : IsCourse told counts sink_tells written sink_faults source_tells left source_faults command olds news plan_old plan_new jobs_old jobs_new sink_old sink_new fault ends → StaySound told olds news
    course_sound (inl did) = untouched_sound did.sites
    course_sound (inr (inl ran)) = of_format sink_tells written sink_faults sink_old sink_new fault ends ran.run
    course_sound (inr (inr (inl ran))) = of_reserve sink_tells written sink_faults sink_old sink_new fault ends _ _ jobs_old jobs_new ran.run
    course_sound (inr (inr (inr ran))) = of_packet sink_tells written sink_faults sink_old sink_new fault ends _ _ jobs_old jobs_new ran.run

    pub course_open : IsCourse told counts sink_tells written sink_faults source_tells left source_faults command olds news plan_old plan_new jobs_old jobs_new sink_old sink_new fault ends
        → command ≡ Some Format → fault ≡ None → AllOpen told news
    course_open (inl did) is none = open_nothing sink_tells written sink_faults sink_old sink_new fault ends command did.status none
    course_open (inr (inl ran)) is none = open_format sink_tells written sink_faults sink_old sink_new fault ends ran.run none
    course_open (inr (inr (inl ran))) is none = absurd (cc (is, ran.command_is))
    course_open (inr (inr (inr ran))) is none = absurd (cc (is, ran.command_is))
