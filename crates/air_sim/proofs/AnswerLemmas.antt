-- What a poll answers.
use Rattle.std.specs.Prelude.{◌≡◌, ◌⊎◌, ◌<◌, ℕ, ◌+◌, Option, Some, None, List, [], ◌∷◌, ◌++◌, IfNone, IfOk, IfSome, length, slice_get, Result, Ok, Err, refl}
use Rattle.std.specs.Option.{option_map_or}
use Rattle.std.proofs.Common.{inl, inr, arith, sym, ◌∙◌, ap, subst}
use Rattle.disk_model.specs.Counts.{Counts}
use Rattle.disk_model.specs.Disk.{Meaning}
use Rattle.ota_core.specs.declared.cards.CardId.{CardId}
use Rattle.ota_core.specs.declared.wants.Memory.{Memory as Want}
use Rattle.site_model.specs.Port.{PortState}
use Rattle.site_model.specs.declared.site_faults.SiteFault.{SiteFault}
use Rattle.site_model.specs.declared.site_faults.SiteFault.TheVariants.{Failed, Memory}
use Rattle.air_sim.specs.declared.notes.Note.TheVariants.{Gave, Polled}
use Rattle.air_sim.specs.declared.parts.Parts.{Parts}
use Rattle.air_sim.specs.declared.sim_site.SimSite.{SimSite}
use Rattle.air_sim.specs.Messages.{Message}
use Rattle.air_sim.specs.Polls.{AnswersPoll, CountsNone, CountsPoll, CountsWant, GivesAt, IsFailedCall, IsMadeAt, IsPollBySchedule, PollsAsScheduled, PollsBy, progress_of}
use Rattle.air_sim.specs.PortCalls.{BeginsCall, IsToFail, counted}
use Rattle.air_sim.specs.Told.{given_by}
use Rattle.air_sim.specs.Working.{PollRuns, Works, gives_by, progressed}
use Rattle.air_sim.proofs.WorkingLemmas.{runs_behind, runs_failed, runs_given, runs_none, works_still}

pub made_there : (count made : ℕ) (next : Option ℕ) → IsMadeAt count made next → IfSome next (λ position. position < count)
made_there count made (Some position) at = omega (arith, at.0, at.1)
made_there count made None at = tt

-- ---- what is given

pub given_of : (before now : PortState) (result : Result (Option Message) SiteFault) → gives_by before now result → IfOk result (λ message. IfSome message (λ m. now.given ≡ before.given ++ (m.0, m.1.items) ∷ []))
given_of before now (Ok (Some message)) gives = gives
given_of before now (Ok None) gives = tt
given_of before now (Err fault) gives = tt

pub nothing_of : (before now : PortState) (result : Result (Option Message) SiteFault) → gives_by before now result → IfOk result (λ message. IfNone message (now.given ≡ before.given))
nothing_of before now (Ok (Some message)) gives = tt
nothing_of before now (Ok None) gives = gives
nothing_of before now (Err fault) gives = tt

-- ---- behind the schedule

module _ {D B C : Type 0} (told : Meaning D B C) (counts : D → Counts) (old mid new : SimSite D B C) (next : Result (Option ℕ) Want) (same : mid ≡ progressed old mid)
    (goes : PollsBy told counts (progress_of old) (progress_of mid) old.schedule next) where
  -- a message is given
  module _ (position : ℕ) (message : Message) (is : next ≡ Ok (Some position)) (given : new ≡ record mid { past = new.past; polls = counted mid.polls })
      (there : slice_get mid.parts.messages.items position ≡ Some message) (within : position < length mid.parts.messages.items) where
    pub answers_given : AnswersPoll told counts old new (Ok (Some message))
    answers_given = record {
      next = Ok (Some position);
      polls =
          subst (λ (r : Result (Option ℕ) Want). PollsBy told counts (progress_of old) (progress_of new) old.schedule r) is
          (subst (λ (s : SimSite D B C). PollsBy told counts (progress_of old) (progress_of s) old.schedule next) (sym given) goes);
      gives = (ap (λ (s : SimSite D B C). slice_get s.parts.messages.items position) given ∙ there, subst (λ (s : SimSite D B C). position < length s.parts.messages.items) (sym given) within);
      counts_poll = ap (λ (s : SimSite D B C). s.polls) given ∙ ap (λ (s : SimSite D B C). counted s.polls) same;
      empty_polls = ap (λ (s : SimSite D B C). s.empty_polls) given ∙ ap (λ (s : SimSite D B C). s.empty_polls) same;
      wants = ap (λ (s : SimSite D B C). s.wants) given ∙ ap (λ (s : SimSite D B C). s.wants) same;
      schedule = ap (λ (s : SimSite D B C). s.schedule) given ∙ ap (λ (s : SimSite D B C). s.schedule) same;
    }

    pub run_given : Works told old mid → new.past.items ≡ mid.past.items ++ (mid.parts, Gave position) ∷ [] → PollRuns told old new (Ok (Some message))
    run_given works past =
        runs_behind told old mid new (Ok (Some message)) works
        (runs_given told mid new (Gave position) tt past (ap (λ (s : SimSite D B C). s.parts.cards.items) given) (ap (λ (s : SimSite D B C). s.parts.journal) given) (ap (λ (s : SimSite D B C). s.parts.sent.items) given) refl message
        (ap (λ (o : Option Message). option_map_or (λ it. (it.0, it.1.items) ∷ []) o []) there))

  -- none is
  module _ (is : next ≡ Ok None) (given : new ≡ record mid { past = new.past; polls = counted mid.polls; empty_polls = counted mid.empty_polls }) where
    pub answers_none : AnswersPoll told counts old new (Ok None)
    answers_none = record {
      next = Ok None;
      polls =
          subst (λ (r : Result (Option ℕ) Want). PollsBy told counts (progress_of old) (progress_of new) old.schedule r) is
          (subst (λ (s : SimSite D B C). PollsBy told counts (progress_of old) (progress_of s) old.schedule next) (sym given) goes);
      gives = tt;
      counts_poll = ap (λ (s : SimSite D B C). s.polls) given ∙ ap (λ (s : SimSite D B C). counted s.polls) same;
      empty_polls = ap (λ (s : SimSite D B C). s.empty_polls) given ∙ ap (λ (s : SimSite D B C). counted s.empty_polls) same;
      wants = ap (λ (s : SimSite D B C). s.wants) given ∙ ap (λ (s : SimSite D B C). s.wants) same;
      schedule = ap (λ (s : SimSite D B C). s.schedule) given ∙ ap (λ (s : SimSite D B C). s.schedule) same;
    }

    pub run_none : Works told old mid → new.past.items ≡ mid.past.items ++ (mid.parts, Polled) ∷ [] → PollRuns told old new (Ok None)
    run_none works past =
        runs_behind told old mid new (Ok None) works
        (runs_none told mid new Polled tt past (ap (λ (s : SimSite D B C). s.parts.cards.items) given) (ap (λ (s : SimSite D B C). s.parts.journal) given) (ap (λ (s : SimSite D B C). s.parts.sent.items) given) refl refl)

  -- memory is wanting
  module _ (want : Want) (is : next ≡ Err want) (given : new ≡ record mid { wants = counted mid.wants }) where
    pub answers_want : AnswersPoll told counts old new (Err Memory)
    answers_want = record {
      next = Err want;
      polls =
          subst (λ (r : Result (Option ℕ) Want). PollsBy told counts (progress_of old) (progress_of new) old.schedule r) is
          (subst (λ (s : SimSite D B C). PollsBy told counts (progress_of old) (progress_of s) old.schedule next) (sym given) goes);
      gives = tt;
      counts_poll = ap (λ (s : SimSite D B C). s.polls) given ∙ ap (λ (s : SimSite D B C). s.polls) same;
      empty_polls = ap (λ (s : SimSite D B C). s.empty_polls) given ∙ ap (λ (s : SimSite D B C). s.empty_polls) same;
      wants = ap (λ (s : SimSite D B C). s.wants) given ∙ ap (λ (s : SimSite D B C). counted s.wants) same;
      schedule = ap (λ (s : SimSite D B C). s.schedule) given ∙ ap (λ (s : SimSite D B C). s.schedule) same;
    }

    pub run_want : Works told old mid → PollRuns told old new (Err Memory)
    run_want works =
        runs_behind told old mid new (Err Memory) works
        (runs_failed told mid new Memory
        (works_still told mid new (ap (λ (s : SimSite D B C). s.past.items) given) (ap (λ (s : SimSite D B C). s.parts.journal) given) (ap (λ (s : SimSite D B C). s.parts.cards.items) given) (ap (λ (s : SimSite D B C). s.parts.sent.items) given)))

-- ---- the whole call

module _ {D B C : Type 0} (told : Meaning D B C) (counts : D → Counts) (old begun new : SimSite D B C) where
  -- a call that isn't listed to fail begins
  module _ (calls : ℕ) (is : begun ≡ record old { calls = calls }) where
    pub begun_works : Works told old begun
    begun_works =
        works_still told old begun (ap (λ (s : SimSite D B C). s.past.items) is) (ap (λ (s : SimSite D B C). s.parts.journal) is) (ap (λ (s : SimSite D B C). s.parts.cards.items) is)
        (ap (λ (s : SimSite D B C). s.parts.sent.items) is)

    answers_from : (result : Result (Option Message) SiteFault) → AnswersPoll told counts (record old { calls = calls }) new result → AnswersPoll told counts old new result
    answers_from result answers = record {
      next = answers.next;
      polls = answers.polls;
      gives = gives_from answers.next result answers.gives;
      counts_poll = counts_from result answers.counts_poll;
      empty_polls = none_from result answers.empty_polls;
      wants = wants_from result answers.wants;
      schedule = answers.schedule;
    }
      where
        gives_from : (next : Result (Option ℕ) Want) (res : Result (Option Message) SiteFault) → GivesAt told counts (record old { calls = calls }) new next res → GivesAt told counts old new next res
        gives_from (Ok (Some position)) (Ok message) gives = gives
        gives_from (Ok None) (Ok None) gives = tt
        gives_from (Err want) (Err Memory) gives = tt
        gives_from (Ok None) (Ok (Some message)) gives = absurd gives
        gives_from (Ok (Some position)) (Err fault) gives = absurd gives
        gives_from (Ok None) (Err fault) gives = absurd gives
        gives_from (Err want) (Ok message) gives = absurd gives
        gives_from (Err want) (Err Failed) gives = absurd gives

        counts_from : (res : Result (Option Message) SiteFault) → CountsPoll told counts (record old { calls = calls }) new res → CountsPoll told counts old new res
        counts_from (Ok message) is = is
        counts_from (Err fault) is = is

        none_from : (res : Result (Option Message) SiteFault) → CountsNone told counts (record old { calls = calls }) new res → CountsNone told counts old new res
        none_from (Ok None) is = is
        none_from (Ok (Some message)) is = is
        none_from (Err fault) is = is

        wants_from : (res : Result (Option Message) SiteFault) → CountsWant told counts (record old { calls = calls }) new res → CountsWant told counts old new res
        wants_from (Err Memory) is = is
        wants_from (Err Failed) is = is
        wants_from (Ok message) is = is

    pub answers_begun : (result : Result (Option Message) SiteFault) → AnswersPoll told counts begun new result → AnswersPoll told counts old new result
    answers_begun result answers = answers_from result (subst (λ (s : SimSite D B C). AnswersPoll told counts s new result) is answers)

    -- and goes by the schedule
    pub scheduled : (¬ (IsToFail old begun)) → (result : Result (Option Message) SiteFault) → AnswersPoll told counts begun new result → new.calls ≡ begun.calls → new.faults ≡ begun.faults → calls ≡ counted old.calls → PollsAsScheduled told counts old new result
    scheduled not_listed result answers same_calls same_faults counted_is =
        inr (record {
          not_listed = not_listed;
          answers = answers_begun result answers;
          calls = same_calls ∙ ap (λ (s : SimSite D B C). s.calls) is ∙ counted_is;
          faults = same_faults ∙ ap (λ (s : SimSite D B C). s.faults) is;
        })

-- a call that is listed to fail does nothing
pub failed_scheduled : {D B C : Type 0} (told : Meaning D B C) (counts : D → Counts) (old new : SimSite D B C) (fault : SiteFault) → BeginsCall old new (Err fault) → PollsAsScheduled told counts old new (Err fault)
failed_scheduled told counts old new Failed begun = inl (record { listed = begun.0; is = refl; same = begun.1 })
failed_scheduled told counts old new Memory begun = absurd begun

pub failed_works : {D B C : Type 0} (told : Meaning D B C) (old new : SimSite D B C) (fault : SiteFault) → BeginsCall old new (Err fault) → Works told old new
failed_works {D = D} {B = B} {C = C} told old new Failed begun =
    works_still told old new (ap (λ (s : SimSite D B C). s.past.items) begun.1) (ap (λ (s : SimSite D B C). s.parts.journal) begun.1) (ap (λ (s : SimSite D B C). s.parts.cards.items) begun.1) (ap (λ (s : SimSite D B C). s.parts.sent.items) begun.1)
failed_works told old new Memory begun = absurd begun
