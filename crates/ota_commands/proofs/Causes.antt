-- Each fault of a command has its cause.
use Rattle.std.proofs.Common.{◌≡◌, ◌⊎◌, inl, inr, ℕ, ◌<◌, Bool, true, Option, Some, None, IfSome, option_map, Err, List, [], ◌∷◌, length, get_or, refl, sym, ap, subst, ◌∙◌, arith}
use Rattle.std.specs.Option.{option_or}
use Rattle.std.proofs.lemmas.List.{get_or-map, length-map}
use Rattle.disk_model.specs.Counts.{Counts}
use Rattle.disk_model.specs.Disk.{Meaning, Tells}
use Rattle.disk_model.specs.declared.faults.DiskFault.TheVariants as disk_fault
use Rattle.gate_log.specs.declared.log_errors.LogErr.{LogErr}
use Rattle.gate_log.specs.declared.log_errors.LogErr.TheVariants as log_err
use Rattle.gate_log.specs.Answers.{Refuses, ErrCause, IsNotFull}
use Rattle.gate_log.specs.Formatting.{FormatAnswer, IsFormatErr}
use Rattle.gate_log.specs.Reading.{parts_of}
use Rattle.ota_core.specs.Keyset.{Keyset}
use Rattle.ota_core.specs.declared.entries.Entry.{Entry}
use Rattle.ota_core.specs.declared.jobs.Job.{Job}
use Rattle.plan_reader.specs.declared.plans.Plan.{Plan}
use Rattle.counter_journal.specs.EntryRanges.{IsHistory}
use Rattle.counter_journal.specs.JournalMaking.{IsJournalMade}
use Rattle.counter_journal.specs.JournalReading.{Holds, JournalValue}
use Rattle.lane_session.specs.Differences.{histories_of, keyset_difference, job_difference}
use Rattle.lane_session.specs.Formatting.{IsFormattingErr}
use Rattle.lane_session.specs.Opening.{AreOpenedBelow, IsOpeningErr}
use Rattle.lane_session.specs.Lanes.{ArePassed}
use Rattle.lane_session.specs.Run.{IsStop, EndCause, IsFullFor, IsRun}
use Rattle.lane_session.specs.declared.lanes.Lane.{Lane}
use Rattle.lane_session.specs.declared.opening.OpeningErr.{OpeningErr}
use Rattle.lane_session.specs.declared.opening.OpeningErr.TheVariants as opening_err
use Rattle.ota_commands.specs.Inputs.{Says, ReadFaultComes, plan_reading, jobs_reading}
use Rattle.ota_commands.specs.Ends.{fault_of_log, fault_of_opening, end_of, AreEnds, first_end}
use Rattle.ota_commands.specs.Writing.{WriteCause, answer_of}
use Rattle.ota_commands.specs.Command.{NoneEnded, ReadFails, StopsWith, HasStopped, HasRunFormat, HasReserved, HasRunReserve, HasShown, HasRunPacket, IsCourse}
use Rattle.ota_commands.specs.Answers.{Seen, seen_of, reads, AreRead, HoldBelow, IsRefused, CanStand, IsRefusedFormat, Comes}
use Rattle.ota_commands.specs.declared.words.Command.{Command}
use Rattle.ota_commands.specs.declared.words.Command.TheVariants.{Format, Reserve, Packet}
use Rattle.ota_commands.specs.declared.writing.Written.{Written}
use Rattle.ota_commands.specs.declared.writing.Written.TheVariants.{Whole, Part, Nothing}
use Rattle.ota_commands.specs.declared.faults.Which.TheVariants as which
use Rattle.ota_commands.specs.declared.faults.Fault.{Fault}
use Rattle.ota_commands.specs.declared.faults.Fault.TheVariants.{Usage, PlanRefused, JobsRefused, InputTooLong, JobDiffers, KeysetDiffers, SourceFault, Memory}
use Rattle.ota_commands.proofs.EndLaws.{IsEndAt, first_at}

module _ {D B C : Type 0} (told : Meaning D B C) (counts : D → Counts) (seen : Seen D) where
  -- ---- the inputs

  plan_cause : (fault : Fault) → reads seen.command ≡ true → ReadFaultComes which.Plan plan_reading seen.plan fault → Comes told counts seen fault
  plan_cause (PlanRefused table row field) command comes = (command, comes)
  plan_cause (JobsRefused row column) command comes = absurd (cc comes.0)
  plan_cause (InputTooLong which.Plan) command comes = (command, comes)
  plan_cause (InputTooLong which.Jobs) command comes = absurd (cc comes.0)
  plan_cause (SourceFault which.Plan) command comes = (command, comes)
  plan_cause (SourceFault which.Jobs) command comes = absurd (cc comes.0)
  plan_cause Memory command comes = tt
  plan_cause _ command comes = absurd comes

  jobs_cause : (fault : Fault) (plan : Plan) → reads seen.command ≡ true → Says plan_reading seen.plan plan → ReadFaultComes which.Jobs (jobs_reading plan) seen.jobs fault → Comes told counts seen fault
  jobs_cause (JobsRefused row column) plan command said comes = record { command = command; plan = plan; plan_said = said; comes = comes }
  jobs_cause (PlanRefused table row field) plan command said comes = absurd (cc comes.0)
  jobs_cause (InputTooLong which.Jobs) plan command said comes = record { command = command; plan = plan; plan_said = said; comes = comes }
  jobs_cause (InputTooLong which.Plan) plan command said comes = absurd (cc comes.0)
  jobs_cause (SourceFault which.Jobs) plan command said comes = record { command = command; plan = plan; plan_said = said; comes = comes }
  jobs_cause (SourceFault which.Plan) plan command said comes = absurd (cc comes.0)
  jobs_cause Memory plan command said comes = tt
  jobs_cause _ plan command said comes = absurd comes

  input_cause : {S : Type 0} (jobs_old jobs_new : S) (fault : Fault) → reads seen.command ≡ true → ReadFails seen.plan seen.jobs jobs_old jobs_new fault → Comes told counts seen fault
  input_cause jobs_old jobs_new fault command (inl failed) = plan_cause fault command failed.0
  input_cause jobs_old jobs_new fault command (inr comes) = jobs_cause fault comes.0 command comes.1 comes.2

  -- ---- the sites

  module _ (number : ℕ) (within : number < length seen.olds) where
    abbrev Caused : LogErr → Type 0
    Caused error = (old new : D) → ErrCause (counts (get_or seen.olds number old)) (counts (get_or seen.news number new)) error

    -- a journal was refused
    refused_cause : (error : LogErr) → AreRead seen → IsRefused told seen.olds number error → Caused error → IsNotFull error → Comes told counts seen (fault_of_log number error)
    refused_cause log_err.Memory read refused cause not_full = tt
    refused_cause (log_err.DiskFault disk_fault.Failed) read refused cause not_full = record { reaches = inr read; within = within; risen = cause }
    refused_cause (log_err.DiskFault disk_fault.Memory) read refused cause not_full = tt
    refused_cause log_err.Unformatted read refused cause not_full = (read, refused)
    refused_cause log_err.NotALog read refused cause not_full = inr (read, refused)
    refused_cause (log_err.OtherHead rest) read refused cause not_full = (rest, refl, refl, inr (read, refused))
    refused_cause (log_err.Damaged place) read refused cause not_full = (read, refused)
    refused_cause (log_err.Full len need) read refused cause not_full = absurd not_full

    -- a journal couldn't be made
    format_cause : (error : LogErr) → seen.command ≡ Some Format → IsRefusedFormat told seen.olds number error → Caused error → IsFormatErr error → Comes told counts seen (fault_of_log number error)
    format_cause log_err.Memory command refused cause err = tt
    format_cause (log_err.DiskFault disk_fault.Failed) command refused cause err = record { reaches = inl command; within = within; risen = cause }
    format_cause (log_err.DiskFault disk_fault.Memory) command refused cause err = tt
    format_cause log_err.Unformatted command refused cause err = absurd err
    format_cause log_err.NotALog command refused cause err = inl (command, refused)
    format_cause (log_err.OtherHead rest) command refused cause err = (rest, refl, refl, inl (command, refused))
    format_cause (log_err.Damaged place) command refused cause err = absurd err
    format_cause (log_err.Full len need) command refused cause err = absurd err

    -- a lane stopped
    end_cause : (error : LogErr) (journal : JournalValue) (P : List Entry → Type 0) → seen.command ≡ Some Reserve → AreRead seen → IsStop error → Caused error → IsFullFor P journal (Some error) → Comes told counts seen (fault_of_log number error)
    end_cause log_err.Memory journal P command read stop cause full = tt
    end_cause (log_err.DiskFault disk_fault.Failed) journal P command read stop cause full = record { reaches = inr read; within = within; risen = cause }
    end_cause (log_err.DiskFault disk_fault.Memory) journal P command read stop cause full = tt
    end_cause log_err.Unformatted journal P command read stop cause full = absurd stop
    end_cause log_err.NotALog journal P command read stop cause full = absurd stop
    end_cause (log_err.OtherHead rest) journal P command read stop cause full = absurd stop
    end_cause (log_err.Damaged place) journal P command read stop cause full = absurd stop
    end_cause (log_err.Full len need) journal P command read stop cause full = record { command = command; read = read; within = within; longer = full.1 }

  -- ---- the cases of a command's course

  -- what a refusal of the making says of the octets
  format_refuses : (head octets now : List ℕ) (error : LogErr) → FormatAnswer head octets now (Err error) → Refuses (parts_of head octets) error
  format_refuses head octets now (log_err.DiskFault fault) answer = tt
  format_refuses head octets now log_err.NotALog answer = answer.0
  format_refuses head octets now (log_err.OtherHead rest) answer = answer.0
  format_refuses head octets now log_err.Memory answer = tt
  format_refuses head octets now _ answer = absurd answer

  can_stand : (lane lanes : ℕ) (octets now : List ℕ) → IsJournalMade lane lanes octets now → CanStand lane lanes octets
  can_stand lane lanes octets now (inl made) = inl made.0
  can_stand lane lanes octets now (inr stood) = inr stood.0

  formatting_cause : (error : OpeningErr) → seen.command ≡ Some Format → IsFormattingErr told counts seen.olds seen.news error → Comes told counts seen (fault_of_opening error)
  formatting_cause opening_err.Memory command refused = tt
  formatting_cause (opening_err.Refused number error) command refused =
      format_cause number refused.within error command
      (record {
        within = refused.within;
        below = λ k site below tells. can_stand k (length seen.olds) _ _ ((refused.below k site site below).made tells);
        refuses = λ site tells. format_refuses _ _ _ error (refused.answer site site tells);
      }) refused.cause refused.err

  opening_cause : (error : OpeningErr) → AreRead seen → IsOpeningErr told counts seen.olds seen.news error → Comes told counts seen (fault_of_opening error)
  opening_cause opening_err.Memory read refused = tt
  opening_cause (opening_err.Refused number error) read refused =
      refused_cause number refused.within error read
      (record {
        within = refused.within;
        below = λ k site below tells.
            let opened = refused.below k site site below in
            let of = opened.1.holds tells in
            (opened.0.journal.entries, of.history, of.holds);
        refuses = refused.refuses;
      }) refused.cause refused.not_full

  holds_of : (lanes : List Lane) → AreOpenedBelow told counts seen.olds seen.news lanes (length seen.olds) → HoldBelow told seen.olds (histories_of lanes) (length seen.olds)
  holds_of lanes opened = λ k site below tells. at lanes opened k site below tells (omega (arith, below, opened.count))
    where
      at : (lanes : List Lane) → AreOpenedBelow told counts seen.olds seen.news lanes (length seen.olds) → (k : ℕ) (site : D) → k < length seen.olds → Tells told (get_or seen.olds k site) → k < length lanes
          → IsHistory k (length seen.olds) (get_or (histories_of lanes) k []) × Holds k (length seen.olds) (get_or (histories_of lanes) k []) (told.seen (get_or seen.olds k site))
      at [] opened k site below tells within = absurd (omega (arith, within))
      at (first ∷ lanes) opened k site below tells within =
          let of = (opened.each k site site first below).holds tells in
          let same : get_or (histories_of (first ∷ lanes)) k [] ≡ (get_or (first ∷ lanes) k first).journal.entries = get_or-map (λ (lane : Lane). lane.journal.entries) (first ∷ lanes) k first [] within in
          rw same (of.history, of.holds)

  module _ (read : AreRead seen) (histories : List (List Entry)) (each : length histories ≡ length seen.olds) (hold : HoldBelow told seen.olds histories (length seen.olds)) where
    -- what differs first is named
    differ_cause : (keyset : Option Keyset) (row : Option (ℕ × ℕ)) (reason : Fault) → keyset_difference read.plan histories ≡ keyset → job_difference read.jobs histories ≡ row
        → option_or (option_map KeysetDiffers keyset) (option_map (λ (r : ℕ × ℕ). JobDiffers r.0 r.1) row) ≡ Some reason → Comes told counts seen reason
    differ_cause (Some keyset) row reason first second is =
        subst (λ (f : Option Fault). IfSome f (Comes told counts seen)) is (record { read = read; histories = histories; each = each; hold = hold; differs = first })
    differ_cause None (Some row) reason first second is =
        subst (λ (f : Option Fault). IfSome f (Comes told counts seen)) is (record { read = read; histories = histories; each = each; hold = hold; differs = (first, second) })
    differ_cause None None reason first second is = absurd (cc is)

  -- the end of a lane that stopped
  stopped : (k : ℕ) (end : Option LogErr) (fault : Fault) → end_of k end ≡ Some fault → (error : LogErr) × (end ≡ Some error) × (fault ≡ fault_of_log k error)
  stopped k None fault is = absurd (cc is)
  stopped k (Some error) fault is = (error, refl, sym (some_is (fault_of_log k error) fault is))
    where
      some_is : (a b : Fault) → Some a ≡ Some b → a ≡ b
      some_is a b is = cc is

  module _ (plan : Plan) (jobs : List Job) (opens : List D) (opened lanes : List Lane) (command : seen.command ≡ Some Reserve) (read : AreRead seen)
      (are_opened : AreOpenedBelow told counts seen.olds opens opened (length seen.olds)) (passed : ArePassed told counts plan jobs opens opened seen.news lanes) where
    -- what became of a lane
    lane_run : (k : ℕ) (old new : D) (before lane : Lane) → k < length seen.olds
        → IsRun told counts plan jobs k (length opened) (get_or opens k old) (get_or opened k before).journal.entries (get_or seen.news k new) (get_or lanes k lane)
    lane_run k old new before lane within =
        elim (passed.each k old new before lane (omega (arith, within, are_opened.count))) [
          | inl was ↦ absurd (was.0 (are_opened.each k old new before within).goes_on)
          | inr run ↦ run.1
        ]

    lane_caused : (k : ℕ) (before lane : Lane) (error : LogErr) → k < length seen.olds → (get_or lanes k lane).end ≡ Some error → (old new : D) → ErrCause (counts (get_or seen.olds k old)) (counts (get_or seen.news k new)) error
    lane_caused k before lane error within is old new =
        let cause : EndCause (counts (get_or opens k old)) (counts (get_or seen.news k new)) (Some error) =
        subst (λ (end : Option LogErr). EndCause (counts (get_or opens k old)) (counts (get_or seen.news k new)) end) is (lane_run k old new before lane within).cause in
        subst (λ (before : Counts). ErrCause before (counts (get_or seen.news k new)) error) (are_opened.each k old old before within).counted cause.1

    lane_end_cause : (k : ℕ) (site : D) (before lane : Lane) (fault : Fault) → k < length seen.olds → end_of k (get_or lanes k lane).end ≡ Some fault → Comes told counts seen fault
    lane_end_cause k site before lane fault within is =
        let stop = stopped k (get_or lanes k lane).end fault is in
        let run = lane_run k site site before lane within in
        let cause : EndCause (counts (get_or opens k site)) (counts (get_or seen.news k site)) (Some stop.0) =
        subst (λ (end : Option LogErr). EndCause (counts (get_or opens k site)) (counts (get_or seen.news k site)) end) stop.1 run.cause in
        subst (Comes told counts seen) (sym stop.2)
        (end_cause k within stop.0 (get_or lanes k lane).journal _ command read cause.0 (lane_caused k before lane stop.0 within stop.1)
        (subst (IsFullFor _ (get_or lanes k lane).journal) stop.1 run.full))

    one_of_each : (ends : List (Option Fault)) (fault : Fault) → AreEnds lanes ends → IsEndAt ends fault → (sites : List D) → (befores : List Lane) → (nows : List Lane) → sites ≡ seen.olds → befores ≡ opened → nows ≡ lanes
        → Comes told counts seen fault
    one_of_each ends fault are at [] befores nows is_sites is_befores is_nows = absurd (omega (arith, at.within, are.same, passed.same_lanes, are_opened.count, ap (λ (l : List D). length l) is_sites))
    one_of_each ends fault are at (site ∷ sites) [] nows is_sites is_befores is_nows = absurd (omega (arith, at.within, are.same, passed.same_lanes, ap (λ (l : List Lane). length l) is_befores))
    one_of_each ends fault are at (site ∷ sites) (before ∷ befores) [] is_sites is_befores is_nows = absurd (omega (arith, at.within, are.same, ap (λ (l : List Lane). length l) is_nows))
    one_of_each ends fault are at (site ∷ sites) (before ∷ befores) (lane ∷ nows) is_sites is_befores is_nows =
        lane_end_cause at.lane site before lane fault (omega (arith, at.within, are.same, passed.same_lanes, are_opened.count))
        (sym (are.each at.lane lane None (omega (arith, at.within, are.same))) ∙ at.is)

    pub ends_cause : (ends : List (Option Fault)) (output : Written) (fault : Option Fault) → AreEnds lanes ends → WriteCause seen.sink_before seen.sink_now output → fault ≡ answer_of output (first_end ends)
        → IfSome fault (Comes told counts seen)
    ends_cause ends output fault are cause is = subst (λ (f : Option Fault). IfSome f (Comes told counts seen)) (sym is) (of output (first_end ends) refl cause)
      where
        at_first : (f : Fault) → first_end ends ≡ Some f → Comes told counts seen f
        at_first f first = one_of_each ends f are (first_at ends f first) seen.olds opened lanes refl refl refl

        of : (output : Written) (end : Option Fault) → first_end ends ≡ end → WriteCause seen.sink_before seen.sink_now output → IfSome (answer_of output end) (Comes told counts seen)
        of Nothing end first cause = tt
        of Whole None first cause = tt
        of Whole (Some f) first cause = at_first f first
        of Part None first cause = (inr read, cause)
        of Part (Some f) first cause = at_first f first

-- ---- the whole course of a command

module _ {D B C K S : Type 0} (told : Meaning D B C) (counts : D → Counts) (sink_tells : K → Bool) (written : K → List ℕ) (sink_faults : K → ℕ) (source_tells : S → Bool) (left : S → List ℕ) (source_faults : S → ℕ)
    (command : Option Command) (olds news : List D) (plan_old plan_new jobs_old jobs_new : S) (sink_old sink_new : K) (fault : Option Fault) (ends : List (Option Fault)) where
  abbrev seen : Seen D
  seen = seen_of source_tells left source_faults sink_faults command olds news plan_old plan_new jobs_old jobs_new sink_old sink_new

  abbrev Causes : Type 0
  Causes = IfSome fault (Comes told counts seen)

  caused : (reason : Fault) → fault ≡ Some reason → Comes told counts seen reason → Causes
  caused reason is comes = subst (λ (f : Option Fault). IfSome f (Comes told counts seen)) (sym is) comes

  of_nothing : ((fault ≡ Some Usage) × (command ≡ None) × NoneEnded olds ends) ⊎ ((fault ≡ Some Memory) × (ends ≡ [])) → Causes
  of_nothing (inl usage) = caused Usage usage.0 usage.1
  of_nothing (inr wanting) = caused Memory wanting.0 tt

  written_format : (output : Written) → command ≡ Some Format → WriteCause (sink_faults sink_old) (sink_faults sink_new) output → IfSome (answer_of output None) (Comes told counts seen)
  written_format Nothing is cause = tt
  written_format Whole is cause = tt
  written_format Part is cause = (inl is, cause)

  of_format : command ≡ Some Format → HasRunFormat told counts sink_tells written sink_faults olds news sink_old sink_new fault → Causes
  of_format is (inl refused) = caused (fault_of_opening refused.error) refused.fault_is (formatting_cause told counts seen refused.error is refused.refused)
  of_format is (inr formatted) = subst (λ (f : Option Fault). IfSome f (Comes told counts seen)) (sym formatted.fault_is) (written_format formatted.output is formatted.cause)

  written_read : (output : Written) → AreRead seen → WriteCause (sink_faults sink_old) (sink_faults sink_new) output → IfSome (answer_of output None) (Comes told counts seen)
  written_read Nothing read cause = tt
  written_read Whole read cause = tt
  written_read Part read cause = (inr read, cause)

  stop_comes : (read : AreRead seen) (reason : Fault) → StopsWith told counts read.plan read.jobs olds news reason → Comes told counts seen reason
  stop_comes read reason (inl refused) = subst (Comes told counts seen) (sym refused.reason_is) (opening_cause told counts seen refused.error read refused.refused)
  stop_comes read reason (inr differs) =
      differ_cause told counts seen read (histories_of differs.opened) (length-map differs.opened (λ (lane : Lane). lane.journal.entries) ∙ differs.are_opened.count)
      (holds_of told counts seen differs.opened differs.are_opened)
      (keyset_difference read.plan (histories_of differs.opened)) (job_difference read.jobs (histories_of differs.opened)) reason refl refl differs.differs

  of_stop : (read : AreRead seen) → HasStopped told counts read.plan read.jobs olds news sink_old sink_new fault ends → Causes
  of_stop read stopped = caused stopped.reason stopped.fault_is (stop_comes read stopped.reason stopped.stops)

  of_reserve : command ≡ Some Reserve → HasRunReserve told counts sink_tells written sink_faults seen.plan seen.jobs jobs_old jobs_new olds news sink_old sink_new fault ends → Causes
  of_reserve is (inl failed) = caused failed.reason failed.fault_is (input_cause told counts seen jobs_old jobs_new failed.reason (ap reads is) failed.fails)
  of_reserve is (inr read) = of read.run
    where
      as_read : AreRead seen
      as_read = record { command = ap reads is; plan = read.plan; jobs = read.jobs; plan_said = read.plan_said; jobs_said = read.jobs_said }

      of : (HasStopped told counts read.plan read.jobs olds news sink_old sink_new fault ends ⊎ HasReserved told counts sink_tells written sink_faults read.plan read.jobs olds news sink_old sink_new fault ends) → Causes
      of (inl stopped) = of_stop as_read stopped
      of (inr reserved) =
          ends_cause told counts seen read.plan read.jobs reserved.opens reserved.opened reserved.added.lanes is as_read reserved.begins.are_opened reserved.added.passed ends reserved.added.output fault
          reserved.added.ends_are reserved.added.cause reserved.added.fault_is

  of_packet : command ≡ Some Packet → HasRunPacket told counts sink_tells written sink_faults seen.plan seen.jobs jobs_old jobs_new olds news sink_old sink_new fault ends → Causes
  of_packet is (inl failed) = caused failed.reason failed.fault_is (input_cause told counts seen jobs_old jobs_new failed.reason (ap reads is) failed.fails)
  of_packet is (inr read) = of read.run
    where
      as_read : AreRead seen
      as_read = record { command = ap reads is; plan = read.plan; jobs = read.jobs; plan_said = read.plan_said; jobs_said = read.jobs_said }

      of : (HasStopped told counts read.plan read.jobs olds news sink_old sink_new fault ends ⊎ HasShown told counts sink_tells written sink_faults read.plan read.jobs olds news sink_old sink_new fault ends) → Causes
      of (inl stopped) = of_stop as_read stopped
      of (inr shown) = subst (λ (f : Option Fault). IfSome f (Comes told counts seen)) (sym shown.fault_is) (written_read shown.output as_read shown.cause)

  pub course_causes : IsCourse told counts sink_tells written sink_faults source_tells left source_faults command olds news plan_old plan_new jobs_old jobs_new sink_old sink_new fault ends → Causes
  course_causes (inl did) = of_nothing did.status
  course_causes (inr (inl ran)) = of_format ran.command_is ran.run
  course_causes (inr (inr (inl ran))) = of_reserve ran.command_is ran.run
  course_causes (inr (inr (inr ran))) = of_packet ran.command_is ran.run
