-- Where nothing is amiss, no fault has its cause but want of memory or of room.
use Rattle.std.proofs.Common.{◌≡◌, inl, inr, ℕ, ◌<◌, true, Option, Some, None, IfSome, Result, Ok, Err, List, [], ◌∷◌, length, get_or, suc, refl, sym, ap, subst, ◌∙◌, arith}
use Rattle.disk_model.specs.Counts.{Counts}
use Rattle.disk_model.specs.Disk.{Meaning}
use Rattle.gate_log.specs.Formatting.{IsMade}
use Rattle.gate_log.specs.Reading.{Reading, parts_of}
use Rattle.gate_log.specs.Reading.Reading.{Unformatted, NotALog, OtherHead, Opened}
use Rattle.ota_core.specs.declared.entries.Entry.{Entry}
use Rattle.ota_core.specs.declared.jobs.Job.{Job}
use Rattle.plan_reader.specs.declared.plans.Plan.{Plan}
use Rattle.counter_journal.specs.EntryRanges.{IsHistory}
use Rattle.counter_journal.specs.Journal.{journal_head}
use Rattle.counter_journal.specs.JournalLaws.{one_history, fit_of, written_are_read}
use Rattle.counter_journal.specs.JournalReading.{Holds}
use Rattle.lane_session.specs.Differences.{keyset_difference, job_difference}
use Rattle.lane_session.specs.SoundSteps.{element_of}
use Rattle.ota_commands.specs.Inputs.{Input, Says, plan_reading, jobs_reading}
use Rattle.ota_commands.specs.Answers.{Seen, reads, AreRead, HoldBelow, IsRefused, CanStand, IsRefusedFormat, Comes, IsSteady, CanFormat, CanRun, IsDone, IsDoneUnlessFull, IsComplete}
use Rattle.ota_commands.specs.declared.words.Command.{Command}
use Rattle.ota_commands.specs.declared.words.Command.TheVariants.{Format, Reserve, Packet}
use Rattle.ota_commands.specs.declared.faults.Which.TheVariants as which
use Rattle.ota_commands.specs.declared.faults.Fault.{Fault}
use Rattle.ota_commands.specs.declared.faults.Fault.TheVariants as fault

-- what an input that tells says of its octets
at_octets : (octets : Option (List ℕ)) (o : List ℕ) (P : List ℕ → Type 0) → octets ≡ Some o → IfSome octets P → P o
at_octets octets o P is holds = subst (λ (x : Option (List ℕ)). IfSome x P) is holds

same_ok : {T : Type 0} (a b : T) (r : Result T Fault) → r ≡ Ok a → r ≡ Ok b → a ≡ b
same_ok a b r first second = cc (first, second)

no_err : {T : Type 0} (a : T) (f : Fault) (r : Result T Fault) → r ≡ Ok a → r ≡ Err f → ⊥
no_err a f r first second = cc (first, second)

said_once : {T : Type 0} (reading : List ℕ → Result T Fault) (input : Input) (a b : T) → IsSteady reading input a → Says reading input b → b ≡ a
said_once reading input a b steady says = sym (same_ok a b (reading steady.octets) steady.reads (at_octets input.octets steady.octets (λ o. reading o ≡ Ok b) steady.says says))

not_refused : {T : Type 0} (reading : List ℕ → Result T Fault) (input : Input) (a : T) (f : Fault) → IsSteady reading input a → IfSome input.octets (λ octets. reading octets ≡ Err f) → ⊥
not_refused reading input a f steady refuses = no_err a f (reading steady.octets) steady.reads (at_octets input.octets steady.octets (λ o. reading o ≡ Err f) steady.says refuses)

-- a log that is made or can be made is neither refused for its octets nor for its head
not_another : (head octets : List ℕ) (lane lanes : ℕ) → head ≡ journal_head lane lanes → CanStand lane lanes octets → parts_of head octets ≡ NotALog → ⊥
not_another head octets lane lanes is (inl unmade) other = cc (unmade, other, is)
not_another head octets lane lanes is (inr made) other = subst IsMade (subst (λ (h : List ℕ). parts_of h octets ≡ NotALog) is other) made

not_of_another : (octets rest : List ℕ) (lane lanes : ℕ) → CanStand lane lanes octets → parts_of (journal_head lane lanes) octets ≡ OtherHead rest → ⊥
not_of_another octets rest lane lanes (inl unmade) other = cc (unmade, other)
not_of_another octets rest lane lanes (inr made) other = subst IsMade other made

same_lists : (a b : List (List Entry)) → length a ≡ length b → ((k : ℕ) → k < length a → get_or a k [] ≡ get_or b k []) → a ≡ b
same_lists [] [] same each = refl
same_lists [] (y ∷ b) same each = absurd (omega (arith, same))
same_lists (x ∷ a) [] same each = absurd (omega (arith, same))
same_lists (x ∷ a) (y ∷ b) same each =
    let first : x ≡ y = each 0 (omega arith) in
    let rest : a ≡ b = same_lists a b (omega (arith, same)) (λ k below. each (suc k) (omega (arith, below))) in
    ap (λ (h : List Entry). h ∷ a) first ∙ ap (λ (r : List (List Entry)). y ∷ r) rest

module _ {D B C : Type 0} (told : Meaning D B C) (counts : D → Counts) (seen : Seen D) where
  -- ---- the making of the journals

  module _ (can : CanFormat told counts seen) where
    not_read : reads seen.command ≡ true → ⊥
    not_read reading = cc (ap reads can.command, reading)

    stands : (lane : ℕ) (error : _) → IsRefusedFormat told seen.olds lane error → (site : D) × CanStand lane (length seen.olds) (told.seen (get_or seen.olds lane site))
    stands lane error refused = let site = element_of seen.olds (omega (arith, refused.within)) in (site, can.stand lane site refused.within)

    format_done : (answer : Option Fault) → IfSome answer (Comes told counts seen) → IsDone answer
    format_done None comes = tt
    format_done (Some fault.Memory) comes = tt
    format_done (Some fault.Usage) comes = absurd (cc (comes, can.command))
    format_done (Some (fault.PlanRefused table row field)) comes = absurd (not_read comes.0)
    format_done (Some (fault.JobsRefused row column)) comes = absurd (not_read comes.command)
    format_done (Some (fault.InputTooLong which.Plan)) comes = absurd (not_read comes.0)
    format_done (Some (fault.InputTooLong which.Jobs)) comes = absurd (not_read comes.command)
    format_done (Some (fault.SourceFault which.Plan)) comes = absurd (not_read comes.0)
    format_done (Some (fault.SourceFault which.Jobs)) comes = absurd (not_read comes.command)
    format_done (Some (fault.JobDiffers row counter)) comes = absurd (not_read comes.read.command)
    format_done (Some (fault.KeysetDiffers keyset)) comes = absurd (not_read comes.read.command)
    format_done (Some fault.SinkFault) comes = absurd (can.steady.sink comes.1)
    format_done (Some (fault.SiteFault lane)) comes = let site = element_of seen.olds (omega (arith, comes.within)) in absurd (can.steady.sites lane site site comes.within (comes.risen site site))
    format_done (Some (fault.NotAJournal lane)) (inl comes) =
        let at = stands lane _ comes.1 in absurd (not_another _ _ lane (length seen.olds) refl at.1 (comes.1.refuses at.0 (can.steady.tell lane at.0 comes.1.within)))
    format_done (Some (fault.NotAJournal lane)) (inr comes) = absurd (not_read comes.0.command)
    format_done (Some (fault.WrongLane lane other others)) (rest, first, second, inl comes) =
        let at = stands lane _ comes.1 in absurd (not_of_another _ rest lane (length seen.olds) at.1 (comes.1.refuses at.0 (can.steady.tell lane at.0 comes.1.within)))
    format_done (Some (fault.WrongLane lane other others)) (rest, first, second, inr comes) = absurd (not_read comes.0.command)
    format_done (Some (fault.Damaged lane number)) comes = absurd (not_read comes.0.command)
    format_done (Some (fault.Unformatted lane)) comes = absurd (not_read comes.0.command)
    format_done (Some (fault.Full lane len need)) comes = absurd (not_read comes.read.command)
    format_done (Some _) comes = absurd comes

  -- ---- the commands that read a plan and jobs

  module _ (said : Command) (not_format : said ≡ Format → ⊥) (can : CanRun told counts said seen) where
    not_made : seen.command ≡ Some Format → ⊥
    not_made is = not_format (cc (is, can.command))

    plan_fine : (f : Fault) → IfSome seen.plan.octets (λ octets. plan_reading octets ≡ Err f) → ⊥
    plan_fine f refuses = not_refused plan_reading seen.plan can.plan f can.plan_read refuses

    same_plan : (plan : Plan) → Says plan_reading seen.plan plan → plan ≡ can.plan
    same_plan plan says = said_once plan_reading seen.plan can.plan plan can.plan_read says

    jobs_fine : (plan : Plan) (f : Fault) → Says plan_reading seen.plan plan → IfSome seen.jobs.octets (λ octets. jobs_reading plan octets ≡ Err f) → ⊥
    jobs_fine plan f says refuses =
        not_refused (jobs_reading can.plan) seen.jobs can.jobs f can.jobs_read (subst (λ (p : Plan). IfSome seen.jobs.octets (λ octets. jobs_reading p octets ≡ Err f)) (same_plan plan says) refuses)

    same_jobs : (read : AreRead seen) → read.jobs ≡ can.jobs
    same_jobs read =
        said_once (jobs_reading can.plan) seen.jobs can.jobs read.jobs can.jobs_read (subst (λ (p : Plan). Says (jobs_reading p) seen.jobs read.jobs) (same_plan read.plan read.plan_said) read.jobs_said)

    held : (lane : ℕ) (site : D) → lane < length seen.olds
        → IsHistory lane (length seen.olds) (get_or can.histories lane []) × Holds lane (length seen.olds) (get_or can.histories lane []) (told.seen (get_or seen.olds lane site))
    held lane site within = can.hold lane site within (can.steady.tell lane site within)

    opens : (lane : ℕ) (site : D) (read : Reading) → lane < length seen.olds → parts_of (journal_head lane (length seen.olds)) (told.seen (get_or seen.olds lane site)) ≡ read
        → (behind : List ℕ) × (parts : List (List ℕ)) × (read ≡ Opened parts behind)
    opens lane site read within is = let holds = (held lane site within).1 in (holds.opens.0, _, sym is ∙ holds.opens.1)

    same_histories : (histories : List (List Entry)) → length histories ≡ length seen.olds → HoldBelow told seen.olds histories (length seen.olds) → histories ≡ can.histories
    same_histories histories each hold = same_lists histories can.histories (each ∙ sym can.each) (λ k below. at k (omega (arith, below, each)))
      where
        at : (k : ℕ) → k < length seen.olds → get_or histories k [] ≡ get_or can.histories k []
        at k within =
            let site = element_of seen.olds (omega (arith, within)) in
            let mine = hold k site within (can.steady.tell k site within) in
            let its = held k site within in
            one_history k (length seen.olds) (get_or histories k []) (get_or can.histories k []) (told.seen (get_or seen.olds k site))
            (fit_of k (length seen.olds) (get_or histories k []) mine.0.of_lane) (fit_of k (length seen.olds) (get_or can.histories k []) its.0.of_lane) mine.1 its.1

    not_other : (lane : ℕ) (error : _) (read : Reading) → IsRefused told seen.olds lane error → ((site : D) → parts_of (journal_head lane (length seen.olds)) (told.seen (get_or seen.olds lane site)) ≡ read)
        → ((parts : List (List ℕ)) (behind : List ℕ) → read ≡ Opened parts behind → ⊥) → ⊥
    not_other lane error read refused is differs =
        let site = element_of seen.olds (omega (arith, refused.within)) in
        let open_it = opens lane site read refused.within (is site) in
        differs open_it.1 open_it.0 open_it.2

    run_done : (answer : Option Fault) → IfSome answer (Comes told counts seen) → IsDoneUnlessFull answer
    run_done None comes = tt
    run_done (Some fault.Memory) comes = tt
    run_done (Some fault.Usage) comes = absurd (cc (comes, can.command))
    run_done (Some (fault.PlanRefused table row field)) comes = absurd (plan_fine _ comes.1.1)
    run_done (Some (fault.JobsRefused row column)) comes = absurd (jobs_fine comes.plan _ comes.plan_said comes.comes.1)
    run_done (Some (fault.InputTooLong which.Plan)) comes = absurd (plan_fine _ comes.1.1)
    run_done (Some (fault.InputTooLong which.Jobs)) comes = absurd (jobs_fine comes.plan _ comes.plan_said comes.comes.1)
    run_done (Some (fault.SourceFault which.Plan)) comes = absurd (can.plan_read.steady comes.1.1)
    run_done (Some (fault.SourceFault which.Jobs)) comes = absurd (can.jobs_read.steady comes.comes.1)
    run_done (Some (fault.JobDiffers row counter)) comes =
        let differs = subst (λ (j : List Job). job_difference j comes.histories ≡ Some (row, counter)) (same_jobs comes.read) comes.differs.1 in
        let there = subst (λ (h : List (List Entry)). job_difference can.jobs h ≡ Some (row, counter)) (same_histories comes.histories comes.each comes.hold) differs in
        absurd (cc (there, can.rows))
    run_done (Some (fault.KeysetDiffers keyset)) comes =
        let differs = subst (λ (p : Plan). keyset_difference p comes.histories ≡ Some keyset) (same_plan comes.read.plan comes.read.plan_said) comes.differs in
        let there = subst (λ (h : List (List Entry)). keyset_difference can.plan h ≡ Some keyset) (same_histories comes.histories comes.each comes.hold) differs in
        absurd (cc (there, can.keysets))
    run_done (Some fault.SinkFault) comes = absurd (can.steady.sink comes.1)
    run_done (Some (fault.SiteFault lane)) comes = let site = element_of seen.olds (omega (arith, comes.within)) in absurd (can.steady.sites lane site site comes.within (comes.risen site site))
    run_done (Some (fault.NotAJournal lane)) (inl comes) = absurd (not_made comes.0)
    run_done (Some (fault.NotAJournal lane)) (inr comes) =
        absurd (not_other lane _ NotALog comes.1 (λ site. comes.1.refuses site (can.steady.tell lane site comes.1.within)) (λ parts behind is. cc is))
    run_done (Some (fault.WrongLane lane other others)) (rest, first, second, inl comes) = absurd (not_made comes.0)
    run_done (Some (fault.WrongLane lane other others)) (rest, first, second, inr comes) =
        absurd (not_other lane _ (OtherHead rest) comes.1 (λ site. comes.1.refuses site (can.steady.tell lane site comes.1.within)) (λ parts behind is. cc is))
    run_done (Some (fault.Damaged lane number)) comes =
        let site = element_of seen.olds (omega (arith, comes.1.within)) in
        let its = held lane site comes.1.within in
        absurd (written_are_read lane (length seen.olds) (get_or can.histories lane []) (told.seen (get_or seen.olds lane site)) number its.0 its.1 (comes.1.refuses site (can.steady.tell lane site comes.1.within)))
    run_done (Some (fault.Unformatted lane)) comes =
        absurd (not_other lane _ Unformatted comes.1 (λ site. comes.1.refuses site (can.steady.tell lane site comes.1.within)) (λ parts behind is. cc is))
    run_done (Some (fault.Full lane len need)) comes = tt
    run_done (Some _) comes = absurd comes

  packet_done : (answer : Option Fault) → IfSome answer (Comes told counts seen) → seen.command ≡ Some Packet → IsDoneUnlessFull answer → IsDone answer
  packet_done (Some (fault.Full lane len need)) comes is done = absurd (cc (comes.command, is))
  packet_done None comes is done = done
  packet_done (Some fault.Memory) comes is done = done
  packet_done (Some fault.Usage) comes is done = done
  packet_done (Some (fault.PlanRefused table row field)) comes is done = done
  packet_done (Some (fault.JobsRefused row column)) comes is done = done
  packet_done (Some (fault.InputTooLong of)) comes is done = done
  packet_done (Some (fault.SourceFault of)) comes is done = done
  packet_done (Some (fault.JobDiffers row counter)) comes is done = done
  packet_done (Some (fault.KeysetDiffers keyset)) comes is done = done
  packet_done (Some (fault.ScriptRefused error)) comes is done = absurd comes
  packet_done (Some (fault.KeysetClosed keyset)) comes is done = done
  packet_done (Some (fault.KeysetUnknown keyset)) comes is done = done
  packet_done (Some fault.SinkFault) comes is done = done
  packet_done (Some (fault.SiteFault lane)) comes is done = done
  packet_done (Some (fault.NotAJournal lane)) comes is done = done
  packet_done (Some (fault.WrongLane lane other others)) comes is done = done
  packet_done (Some (fault.Damaged lane number)) comes is done = done
  packet_done (Some (fault.Unformatted lane)) comes is done = done

  pub is_complete : (answer : Option Fault) → IfSome answer (Comes told counts seen) → IsComplete told counts seen answer
  is_complete answer comes = record {
    format = λ can. format_done can answer comes;
    reserve = λ can. run_done Reserve (λ is. absurd (cc is)) can answer comes;
    packet = λ can. packet_done answer comes can.command (run_done Packet (λ is. absurd (cc is)) can answer comes);
  }
