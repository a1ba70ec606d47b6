-- What a command does: the cases of its course, each with its answer.
use Rattle.std.specs.Prelude.{◌≡◌, ◌⊎◌, ℕ, Bool, IsTrue, Option, Some, None, List, [], length, replicate}
use Rattle.disk_model.specs.Counts.{Counts}
use Rattle.disk_model.specs.Disk.{Meaning}
use Rattle.ota_core.specs.declared.jobs.Job.{Job}
use Rattle.plan_reader.specs.Jobs.{are_distinct}
use Rattle.plan_reader.specs.declared.plans.Plan.{Plan}
use Rattle.reports.specs.Packets.{packets_of}
use Rattle.reports.specs.Report.{report_of}
use Rattle.lane_session.specs.Differences.{histories_of}
use Rattle.lane_session.specs.Formatting.{AreFormattedBelow, IsFormattingErr}
use Rattle.lane_session.specs.Opening.{AreOpenedBelow, IsOpeningErr}
use Rattle.lane_session.specs.Lanes.{ArePassed, AllOpened, AllServed}
use Rattle.lane_session.specs.Order.{AreFrontsOfDue}
use Rattle.lane_session.specs.Rows.{NoneDiffers}
use Rattle.lane_session.specs.declared.lanes.Lane.{Lane}
use Rattle.lane_session.specs.declared.opening.OpeningErr.{OpeningErr}
use Rattle.ota_commands.specs.Inputs.{Input, source_input, Says, ReadFaultComes, plan_reading, jobs_reading}
use Rattle.ota_commands.specs.Ends.{fault_of_opening, difference, AreEnds, first_end}
use Rattle.ota_commands.specs.Writing.{formatted_text, IsWritten, WriteCause, answer_of}
use Rattle.ota_commands.specs.declared.words.Command.{Command}
use Rattle.ota_commands.specs.declared.words.Command.TheVariants.{Format, Reserve, Packet}
use Rattle.ota_commands.specs.declared.writing.Written.{Written}
use Rattle.ota_commands.specs.declared.faults.Which.TheVariants as which
use Rattle.ota_commands.specs.declared.faults.Fault.{Fault}
use Rattle.ota_commands.specs.declared.faults.Fault.TheVariants.{Usage, Memory}

-- no lane stopped
abbrev pub NoneEnded : {D : Type 0} → List D → List (Option Fault) → Type 0
NoneEnded sites ends = ends ≡ replicate (length sites) None

-- the inputs couldn't be read: the plan, and then the jobs are untouched; or the jobs behind a plan that was read
abbrev pub ReadFails : {S : Type 0} → Input → Input → S → S → Fault → Type 0
ReadFails plan_input jobs_input jobs_old jobs_new fault =
    (ReadFaultComes which.Plan plan_reading plan_input fault × (jobs_new ≡ jobs_old))
    ⊎ ((plan : Plan) × Says plan_reading plan_input plan × ReadFaultComes which.Jobs (jobs_reading plan) jobs_input fault)

-- Nothing was done. Either the words say no command for so many sites; or memory was wanting for the ends of the lanes,
-- which are then none.
pub record DidNothing {D S K : Type 0} (command : Option Command) (olds news : List D) (plan_old plan_new jobs_old jobs_new : S) (sink_old sink_new : K)
    (fault : Option Fault) (ends : List (Option Fault)) : Type 0 where
  pub sites : news ≡ olds
  pub plan : plan_new ≡ plan_old
  pub jobs : jobs_new ≡ jobs_old
  pub sink : sink_new ≡ sink_old
  pub status : ((fault ≡ Some Usage) × (command ≡ None) × NoneEnded olds ends) ⊎ ((fault ≡ Some Memory) × (ends ≡ []))

-- ---- what the commands that read a plan and jobs have in common

-- The inputs couldn't be read. No site was called, and nothing was written.
pub record HasNotRead {D S K : Type 0} (plan_input jobs_input : Input) (jobs_old jobs_new : S) (olds news : List D) (sink_old sink_new : K) (fault : Option Fault) (ends : List (Option Fault)) : Type 0 where
  pub reason : Fault
  pub fails : ReadFails plan_input jobs_input jobs_old jobs_new reason
  pub fault_is : fault ≡ Some reason
  pub sites : news ≡ olds
  pub unwritten : sink_new ≡ sink_old
  pub not_ended : NoneEnded olds ends

-- The inputs were read, and the call went on so with the plan and the jobs that they say.
pub record HasRead (plan_input jobs_input : Input) (Run : Plan → List Job → Type 0) : Type 0 where
  pub plan : Plan
  pub jobs : List Job
  pub plan_said : Says plan_reading plan_input plan
  pub jobs_said : Says (jobs_reading plan) jobs_input jobs
  pub run : Run plan jobs

module _ {D B C : Type 0} (told : Meaning D B C) (counts : D → Counts) where
  -- the journals are opened, and agree with the plan and the rows
  pub record Agree (plan : Plan) (jobs : List Job) (olds opens : List D) (opened : List Lane) : Type 0 where
    pub are_opened : AreOpenedBelow told counts olds opens opened (length olds)
    pub none_differs : difference plan jobs (histories_of opened) ≡ None
    pub agree : NoneDiffers jobs (histories_of opened)
    pub distinct : IsTrue (are_distinct jobs)

  -- a journal was refused, or memory was wanting for the lanes
  pub record IsRefusedWith (olds news : List D) (reason : Fault) : Type 0 where
    pub error : OpeningErr
    pub refused : IsOpeningErr told counts olds news error
    pub reason_is : reason ≡ fault_of_opening error

  -- the journals are opened, and differ from the plan or the rows
  pub record DiffersWith (plan : Plan) (jobs : List Job) (olds news : List D) (reason : Fault) : Type 0 where
    pub opened : List Lane
    pub are_opened : AreOpenedBelow told counts olds news opened (length olds)
    pub differs : difference plan jobs (histories_of opened) ≡ Some reason

  abbrev pub StopsWith : Plan → List Job → List D → List D → Fault → Type 0
  StopsWith plan jobs olds news reason = IsRefusedWith olds news reason ⊎ DiffersWith plan jobs olds news reason

  -- The call stopped there. Nothing was added or written.
  pub record HasStopped {K : Type 0} (plan : Plan) (jobs : List Job) (olds news : List D) (sink_old sink_new : K) (fault : Option Fault) (ends : List (Option Fault)) : Type 0 where
    pub reason : Fault
    pub stops : StopsWith plan jobs olds news reason
    pub fault_is : fault ≡ Some reason
    pub unwritten : sink_new ≡ sink_old
    pub not_ended : NoneEnded olds ends

module _ {D B C K : Type 0} (told : Meaning D B C) (counts : D → Counts) (sink_tells : K → Bool) (written : K → List ℕ) (sink_faults : K → ℕ) where
  -- ---- the making of the journals

  -- A site was refused. The journals of the lanes before it stand, and nothing was written.
  pub record HasRefusedFormat (olds news : List D) (sink_old sink_new : K) (fault : Option Fault) : Type 0 where
    pub error : OpeningErr
    pub refused : IsFormattingErr told counts olds news error
    pub fault_is : fault ≡ Some (fault_of_opening error)
    pub unwritten : sink_new ≡ sink_old

  -- The journals of all lanes stand, and the text says so.
  pub record HasFormatted (olds news : List D) (sink_old sink_new : K) (fault : Option Fault) : Type 0 where
    pub formatted : AreFormattedBelow told counts olds news (length olds)
    pub output : Written
    pub text : IsTrue (sink_tells sink_old) → IsWritten (formatted_text (length olds)) (written sink_old) (written sink_new) output
    pub cause : WriteCause (sink_faults sink_old) (sink_faults sink_new) output
    pub fault_is : fault ≡ answer_of output None

  abbrev pub HasRunFormat : List D → List D → K → K → Option Fault → Type 0
  HasRunFormat olds news sink_old sink_new fault = HasRefusedFormat olds news sink_old sink_new fault ⊎ HasFormatted olds news sink_old sink_new fault

  pub record RanFormat {S : Type 0} (command : Option Command) (olds news : List D) (plan_old plan_new jobs_old jobs_new : S) (sink_old sink_new : K) (fault : Option Fault) (ends : List (Option Fault)) : Type 0 where
    pub command_is : command ≡ Some Format
    pub plan : plan_new ≡ plan_old
    pub jobs : jobs_new ≡ jobs_old
    pub not_ended : NoneEnded olds ends
    pub run : HasRunFormat olds news sink_old sink_new fault

  -- ---- the reservations

  -- What the rows ask for was added to opened lanes, up to where a lane stopped; and the text is the report of what the
  -- lanes then hold.
  pub record HasAdded (plan : Plan) (jobs : List Job) (opens news : List D) (opened : List Lane) (sink_old sink_new : K) (fault : Option Fault) (ends : List (Option Fault)) : Type 0 where
    pub lanes : List Lane
    pub passed : ArePassed told counts plan jobs opens opened news lanes
    pub order : AreFrontsOfDue plan jobs opened lanes
    pub keysets : AllOpened plan jobs lanes
    pub rows : AllServed jobs (length jobs) lanes
    pub ends_are : AreEnds lanes ends
    pub output : Written
    pub text : IsTrue (sink_tells sink_old) → IsWritten (report_of jobs (histories_of lanes)) (written sink_old) (written sink_new) output
    pub cause : WriteCause (sink_faults sink_old) (sink_faults sink_new) output
    pub fault_is : fault ≡ answer_of output (first_end ends)

  pub record HasReserved (plan : Plan) (jobs : List Job) (olds news : List D) (sink_old sink_new : K) (fault : Option Fault) (ends : List (Option Fault)) : Type 0 where
    pub opens : List D
    pub opened : List Lane
    pub begins : Agree told counts plan jobs olds opens opened
    pub added : HasAdded plan jobs opens news opened sink_old sink_new fault ends

  abbrev pub HasRunReserve : {S : Type 0} → Input → Input → S → S → List D → List D → K → K → Option Fault → List (Option Fault) → Type 0
  HasRunReserve plan_input jobs_input jobs_old jobs_new olds news sink_old sink_new fault ends =
      HasNotRead plan_input jobs_input jobs_old jobs_new olds news sink_old sink_new fault ends
      ⊎ HasRead plan_input jobs_input (λ plan jobs. HasStopped told counts plan jobs olds news sink_old sink_new fault ends ⊎ HasReserved plan jobs olds news sink_old sink_new fault ends)

  pub record RanReserve {S : Type 0} (command : Option Command) (plan_input jobs_input : Input) (jobs_old jobs_new : S) (olds news : List D) (sink_old sink_new : K) (fault : Option Fault) (ends : List (Option Fault)) : Type 0 where
    pub command_is : command ≡ Some Reserve
    pub run : HasRunReserve plan_input jobs_input jobs_old jobs_new olds news sink_old sink_new fault ends

  -- ---- the messages

  -- The journals were opened and not added to, and the text is that of the messages of what the lanes hold.
  pub record HasShown (plan : Plan) (jobs : List Job) (olds news : List D) (sink_old sink_new : K) (fault : Option Fault) (ends : List (Option Fault)) : Type 0 where
    pub opened : List Lane
    pub begins : Agree told counts plan jobs olds news opened
    pub output : Written
    pub text : IsTrue (sink_tells sink_old) → IsWritten (packets_of jobs (histories_of opened)) (written sink_old) (written sink_new) output
    pub cause : WriteCause (sink_faults sink_old) (sink_faults sink_new) output
    pub fault_is : fault ≡ answer_of output None
    pub not_ended : NoneEnded olds ends

  abbrev pub HasRunPacket : {S : Type 0} → Input → Input → S → S → List D → List D → K → K → Option Fault → List (Option Fault) → Type 0
  HasRunPacket plan_input jobs_input jobs_old jobs_new olds news sink_old sink_new fault ends =
      HasNotRead plan_input jobs_input jobs_old jobs_new olds news sink_old sink_new fault ends
      ⊎ HasRead plan_input jobs_input (λ plan jobs. HasStopped told counts plan jobs olds news sink_old sink_new fault ends ⊎ HasShown plan jobs olds news sink_old sink_new fault ends)

  pub record RanPacket {S : Type 0} (command : Option Command) (plan_input jobs_input : Input) (jobs_old jobs_new : S) (olds news : List D) (sink_old sink_new : K) (fault : Option Fault) (ends : List (Option Fault)) : Type 0 where
    pub command_is : command ≡ Some Packet
    pub run : HasRunPacket plan_input jobs_input jobs_old jobs_new olds news sink_old sink_new fault ends

-- ---- the course of a command

module _ {D B C K S : Type 0} (told : Meaning D B C) (counts : D → Counts) (sink_tells : K → Bool) (written : K → List ℕ) (sink_faults : K → ℕ)
    (source_tells : S → Bool) (left : S → List ℕ) (source_faults : S → ℕ) where
  -- nothing was done, or the journals were made, or counters were reserved, or messages were shown
  abbrev pub IsCourse : Option Command → List D → List D → S → S → S → S → K → K → Option Fault → List (Option Fault) → Type 0
  IsCourse command olds news plan_old plan_new jobs_old jobs_new sink_old sink_new fault ends =
      DidNothing command olds news plan_old plan_new jobs_old jobs_new sink_old sink_new fault ends
      ⊎ RanFormat told counts sink_tells written sink_faults command olds news plan_old plan_new jobs_old jobs_new sink_old sink_new fault ends
      ⊎ RanReserve told counts sink_tells written sink_faults command (source_input source_tells left source_faults plan_old plan_new) (source_input source_tells left source_faults jobs_old jobs_new) jobs_old jobs_new
      olds news sink_old sink_new fault ends
      ⊎ RanPacket told counts sink_tells written sink_faults command (source_input source_tells left source_faults plan_old plan_new) (source_input source_tells left source_faults jobs_old jobs_new) jobs_old jobs_new
      olds news sink_old sink_new fault ends
