-- What a lane keeps through calls that hand packets over, and which events they are.
use Rattle.std.proofs.Common.{◌≡◌, inl, ℕ, ◌+◌, ◌≤◌, Bool, false, true, Result, List, [], ◌∷◌, ◌++◌, length, drop, map, take, refl, sym, ◌∙◌, ap, subst, arith, append-nil, append_assoc}
use Rattle.std.proofs.Math.Seq.{take-append_seam}
use Rattle.std.proofs.lemmas.List.{append_cancel_left}
use Rattle.disk_model.specs.Counts.{Counts}
use Rattle.disk_model.specs.Disk.{Meaning, Tells, PastStands, image_now}
use Rattle.ota_core.specs.declared.entries.Entry.{Entry}
use Rattle.counter_journal.specs.EntryRanges.{IsHistory}
use Rattle.counter_journal.specs.JournalReading.{Holds, JournalValue, IsReady}
use Rattle.counter_journal.specs.StandingLaws.{ready_holds}
use Rattle.site_model.specs.Port.{PortState}
use Rattle.site_model.specs.Cards.{port_at, port_now}
use Rattle.site_model.specs.Runs.{PortRun}
use Rattle.site_model.specs.declared.departures.Departure.{Departure}
use Rattle.world_core.specs.Run.{Runs}
use Rattle.world_core.specs.Sound.{CardsWentOn}
use Rattle.world_core.specs.declared.lines.Line.{Line}
use Rattle.world_core.specs.declared.segments.Sent.{Sent}
use Rattle.lane_engine.specs.Departing.{AreFirst, AreReserved, HaveCardsGoneOn, IsSendingRun, IsUnasked, leaving}
use Rattle.lane_engine.specs.Kept.{KeptSince, KeptFair, IsFair, IsLater, added_since}
use Rattle.lane_engine.specs.Opening.{Opening}
use Rattle.lane_engine.specs.LaneValue.{LaneValue, IsLane, IsSameHearing}
use Rattle.lane_engine.specs.Sending.{AreAllHanded, AreHanded, HandsOverBuilt}
use Rattle.lane_engine.specs.Sound.{SoundAt}
use Rattle.lane_engine.specs.World.{world_of, cards_of, AreSent}
use Rattle.lane_engine.specs.declared.answers.LaneErr.{LaneErr}
use Rattle.lane_engine.proofs.AppendLemmas.{kept_calls}
use Rattle.lane_engine.proofs.KeptLemmas.{SoundIn, fair_before}
use Rattle.lane_engine.proofs.LeftLemmas.{left_still}
use Rattle.lane_engine.proofs.LeavingLemmas.{first_reserved, leaves_run, sent_split}
use Rattle.lane_engine.proofs.PortLemmas.{SendsReserved, port_gone_on, port_ready, port_sound}

module _ {D B C : Type 0} (told : Meaning D B C) (port : B → PortState) (lines : C → ℕ → List Line) (entries : List Entry) (old new : D)
    (departures : List Departure) (pieces : List Sent) (result : Result (Unit {0}) LaneErr) (hands : HandsOverBuilt told port lines entries old new departures pieces result)
    (reserved : AreReserved entries pieces) where
  abbrev Handed : B → Type 0
  Handed beside = AreHanded hands.built (port_now told port lines old) (port beside)

  run : PortRun told old new Handed
  run = hands.run.moments

  -- at each moment of the calls
  sends : (k : ℕ) → told.clock old ≤ k → k ≤ told.clock new → SendsReserved entries (port_now told port lines old).sent (port_at told port lines new k).sent
  sends k low high =
      let then = hands.run.moments.each k low high in
      let split = sent_split entries then.gone then.still hands.left (subst (λ (l : List Departure). AreSent entries l hands.left) then.are hands.of_history) in (
        then.gone,
        then.sent,
        (
          split.0,
          split.3,
          first_reserved entries pieces split.0 (split.1 ++ hands.later) (hands.pieces_are ∙ ap (λ (l : List Sent). l ++ hands.later) split.2 ∙ append_assoc split.0 split.1 hands.later) reserved,
        ),
      )

  pub hands_still : (k : ℕ) → told.clock old ≤ k → k ≤ told.clock new → (port_at told port lines new k).given ≡ (port_now told port lines old).given
  hands_still k low high = (hands.run.moments.each k low high).unasked.given

  pub hands_unasked : IsUnasked (port_now told port lines old) (port_now told port lines new)
  hands_unasked = (hands.run.moments.each (told.clock new) hands.run.moments.past.later (omega arith)).unasked

  -- the first of the departures were handed over
  pub hands_first : AreFirst departures (port_now told port lines old) (port_now told port lines new)
  hands_first =
      let then = hands.run.moments.each (told.clock new) hands.run.moments.past.later (omega arith) in
      let all : departures ≡ then.gone ++ (then.still ++ hands.rest) = hands.are ∙ ap (λ (l : List Departure). l ++ hands.rest) then.are ∙ append_assoc then.gone then.still hands.rest in (
        length then.gone,
        counted departures then.gone (then.still ++ hands.rest) all,
        then.sent ∙ ap (λ (l : List Departure). (port_now told port lines old).sent ++ l) (sym (ap (take (length then.gone)) all ∙ take-append_seam then.gone (then.still ++ hands.rest))),
      )
    where
      counted : (all first rest : List Departure) → all ≡ first ++ rest → length first ≤ length all
      counted all first rest is = subst (λ (l : List Departure). length first ≤ length l) (sym is) (omega (arith, length_append first rest))
        where
          length_append : (xs ys : List Departure) → length (xs ++ ys) ≡ length xs + length ys
          length_append [] ys = omega arith
          length_append (x ∷ xs) ys = (let more = length_append xs ys in omega (arith, more))

  -- the pieces of what was handed over, and the events by which they left
  pub hands_run : (before after : LaneValue D) → before.site ≡ old → after.site ≡ new → after.journal.entries ≡ entries → before.journal.entries ≡ entries
      → (count : ℕ) × IsSendingRun told port lines before after (map leaving (take count pieces)) (take count pieces)
  hands_run before after is_old is_new same_after same_before =
      let ending = sends (told.clock new) hands.run.moments.past.later (omega arith) in
      let then = hands.run.moments.each (told.clock new) hands.run.moments.past.later (omega arith) in
      let split = sent_split entries then.gone then.still hands.left (subst (λ (l : List Departure). AreSent entries l hands.left) then.are hands.of_history) in
      let all : pieces ≡ split.0 ++ (split.1 ++ hands.later) = hands.pieces_are ∙ ap (λ (l : List Sent). l ++ hands.later) split.2 ∙ append_assoc split.0 split.1 hands.later in
      let first : take (length split.0) pieces ≡ split.0 = ap (take (length split.0)) all ∙ take-append_seam split.0 (split.1 ++ hands.later) in
      let are : AreReserved entries split.0 = first_reserved entries pieces split.0 (split.1 ++ hands.later) all reserved in (
        length split.0,
        subst (λ (l : List Sent). IsSendingRun told port lines before after (map leaving l) l) (sym first)
            (record {
              departures = λ rest more.
                  subst (λ (h : List Entry). AreSent h rest split.0) (sym same_after)
                  (subst (λ (l : List Departure). AreSent entries l split.0)
                  (append_cancel_left (port_now told port lines old).sent then.gone rest
                  (sym then.sent
                  ∙ subst (λ (d : D). (port_now told port lines new).sent ≡ (port_now told port lines d).sent ++ rest) is_old
                  (subst (λ (d : D). (port_now told port lines d).sent ≡ (port_now told port lines before.site).sent ++ rest) is_new more)))
                  split.3);
              runs = λ chosen sent given.
                  subst (λ (h : List Entry). Runs (world_of h (port_now told port lines before.site) chosen sent given) (map leaving split.0) (world_of after.journal.entries (port_now told port lines before.site) chosen (sent ++ split.0) given)) (sym same_before)
                  (subst (λ (h : List Entry). Runs (world_of entries (port_now told port lines before.site) chosen sent given) (map leaving split.0) (world_of h (port_now told port lines before.site) chosen (sent ++ split.0) given)) (sym same_after)
                  (leaves_run entries (port_now told port lines before.site) chosen given sent split.0 are));
            }),
      )

  -- without a fault all of them
  pub hands_all : (rest : hands.rest ≡ []) (later : hands.later ≡ []) → AreAllHanded told port lines old new hands.built
      → AreAllHanded told port lines old new departures × AreSent entries departures pieces
  hands_all rest later all =
      let built : departures ≡ hands.built = hands.are ∙ ap (λ (l : List Departure). hands.built ++ l) rest ∙ append-nil hands.built in
      let left : pieces ≡ hands.left = hands.pieces_are ∙ ap (λ (l : List Sent). hands.left ++ l) later ∙ append-nil hands.left in (
        all ∙ ap (λ (l : List Departure). (port_now told port lines old).sent ++ l) (sym built),
        subst (λ (l : List Departure). AreSent entries l pieces) (sym built) (subst (λ (l : List Sent). AreSent entries hands.built l) (sym left) hands.of_history),
      )

  -- and the events, where all of them were
  pub hands_run_all : (rest : hands.rest ≡ []) (later : hands.later ≡ []) → AreAllHanded told port lines old new hands.built
      → (before after : LaneValue D) → before.site ≡ old → after.site ≡ new → after.journal.entries ≡ entries → before.journal.entries ≡ entries
      → IsSendingRun told port lines before after (map leaving pieces) pieces
  hands_run_all rest later all before after is_old is_new same_after same_before =
      let whole = hands_all rest later all in
      record {
        departures = λ gone more.
            subst (λ (h : List Entry). AreSent h gone pieces) (sym same_after)
            (subst (λ (l : List Departure). AreSent entries l pieces)
            (append_cancel_left (port_now told port lines old).sent departures gone
            (sym whole.0
            ∙ subst (λ (d : D). (port_now told port lines new).sent ≡ (port_now told port lines d).sent ++ gone) is_old
            (subst (λ (d : D). (port_now told port lines d).sent ≡ (port_now told port lines before.site).sent ++ gone) is_new more)))
            whole.1);
        runs = λ chosen sent given.
            subst (λ (h : List Entry). Runs (world_of h (port_now told port lines before.site) chosen sent given) (map leaving pieces) (world_of after.journal.entries (port_now told port lines before.site) chosen (sent ++ pieces) given)) (sym same_before)
            (subst (λ (h : List Entry). Runs (world_of entries (port_now told port lines before.site) chosen sent given) (map leaving pieces) (world_of h (port_now told port lines before.site) chosen (sent ++ pieces) given)) (sym same_after)
            (leaves_run entries (port_now told port lines before.site) chosen given sent pieces reserved));
      }

-- ---- the lane

module _ {D B C : Type 0} (told : Meaning D B C) (counts : D → Counts) (port : B → PortState) (lines : C → ℕ → List Line) (old new : LaneValue D)
    (departures : List Departure) (pieces : List Sent) (result : Result (Unit {0}) LaneErr)
    (of : IsLane told old) (live : old.is_stale ≡ false) (seen : Tells told old.site → image_now told old.site (told.seen old.site))
    (journal : new.journal ≡ old.journal) (lost : new.lost ≡ old.lost) (rest : IsSameHearing old new) (same : told.tells new.site ≡ told.tells old.site)
    (faults : (counts old.site).faults ≤ (counts new.site).faults) (wants : (counts old.site).wants ≤ (counts new.site).wants)
    (hands : Tells told old.site → HandsOverBuilt told port lines old.journal.entries old.site new.site departures pieces result)
    (reserved : AreReserved old.journal.entries pieces) where
  differ : (b : Bool) → b ≡ true → b ≡ false → ⊥
  differ true is isnt = cc
  differ false is isnt = cc

  past : Tells told old.site → PastStands told old.site new.site
  past tells = (hands tells).run.moments.past

  pub sent_later : IsLater told counts port lines old new
  sent_later = record {
    lane = rest.lane;
    lanes = rest.lanes;
    entries = ([], ap (λ (j : JournalValue). j.entries) journal ∙ sym (append-nil old.journal.entries));
    faults = faults;
    wants = wants;
    tells = same;
    past = past;
    polls = λ tells. (let polls = (hands_unasked told port lines old.journal.entries old.site new.site departures pieces result (hands tells) reserved).polls in omega (arith, polls));
    stale = λ is. absurd (differ old.is_stale is live);
  }

  -- the journal is ready on the site still
  pub sent_ready : Tells told old.site → IsReady told new.site new.journal
  sent_ready tells =
      subst (λ (j : JournalValue). IsReady told new.site j) (sym journal)
      (port_ready told old.site new.site (λ beside. AreHanded (hands tells).built (port_now told port lines old.site) (port beside)) (hands tells).run.moments (hands tells).run.content old.journal (of.ready live tells))

  module _ (opening : Opening) (kept : KeptSince told counts port lines opening old) where
    holds_then : (tells : Tells told old.site) (image : List ℕ) → image_now told old.site image → Holds opening.lane opening.lanes old.journal.entries image
    holds_then tells image now =
        subst (λ (n : ℕ). Holds opening.lane n old.journal.entries image) kept.lanes_are
        (subst (λ (n : ℕ). Holds n old.journal.lanes old.journal.entries image) kept.lane_is (ready_holds told old.site old.journal (of.ready live tells) image now))

    history_then : IsHistory opening.lane opening.lanes old.journal.entries
    history_then =
        subst (λ (n : ℕ). IsHistory opening.lane n old.journal.entries) kept.lanes_are
        (subst (λ (n : ℕ). IsHistory n old.journal.lanes old.journal.entries) kept.lane_is of.history)

    sound_then : (tells : Tells told old.site) → KeptFair told counts port lines opening old.site old.journal.entries → SoundAt told port lines opening.lane opening.lanes old.site (told.clock old.site)
    sound_then tells fair = fair.sound (told.clock old.site) (kept.where_told tells).later (omega arith)

    during : (tells : Tells told old.site) → IsFair told counts port lines opening new.site → KeptFair told counts port lines opening old.site old.journal.entries
        → SoundIn told counts port lines opening old.site new.site (past tells) (kept.where_told tells).later
    during tells fair before =
        port_sound told port lines opening.lane opening.lanes opening.clock old.journal.entries old.site new.site (λ beside. AreHanded (hands tells).built (port_now told port lines old.site) (port beside))
        (hands tells).run.moments (hands tells).run.keeps (kept.where_told tells).later
        (sends told port lines old.journal.entries old.site new.site departures pieces result (hands tells) reserved) (holds_then tells) history_then (seen tells) fair.unforged (sound_then tells before)

    pub sent_kept : KeptSince told counts port lines opening new
    sent_kept =
        let entries : new.journal.entries ≡ old.journal.entries = ap (λ (j : JournalValue). j.entries) journal in
        kept_calls told counts port lines opening old new kept live [] (entries ∙ sym (append-nil old.journal.entries)) refl rest same faults wants past
        (λ tells. hands_still told port lines old.journal.entries old.site new.site departures pieces result (hands tells) reserved) during
        (λ tells gone image at. inl (
        subst (λ (l : List Entry). Holds opening.lane opening.lanes l image) (sym entries)
        (holds_then tells image ((hands tells).run.moments.images_stand (told.clock new.site) image (hands tells).run.moments.past.later (omega arith) at))))
        (λ tells. subst (λ (l : List Entry). length l ≤ 16) (sym lost) (kept.where_told tells).few)
        (λ tells.
        left_still told counts port lines opening old.site new.site old.journal.entries old.lost (added_since told counts port lines opening new.journal.entries ++ new.lost) (past tells)
        (ap (λ (l : List Entry). drop (length opening.entries) old.journal.entries ++ l) (sym lost) ∙ ap (λ (l : List Entry). drop (length opening.entries) l ++ new.lost) (sym entries)) kept.entries history_then
        (λ moment image low high at. holds_then tells image ((hands tells).run.moments.images_stand moment image low high at)) (kept.where_told tells).left)

    -- the cards went on meanwhile
    pub sent_gone_on : Tells told old.site → IsFair told counts port lines opening new.site → HaveCardsGoneOn told port lines old new
    sent_gone_on tells fair =
        let was = kept.where_told tells in
        let before = was.fair (fair_before told counts port lines opening old.site new.site (past tells) was.later fair) in
        subst (λ (h : List Entry). (after : C) → told.choice_at new.site (told.clock new.site) after
        → (start : C) × told.choice_at old.site (told.clock old.site) start
        × ((sent : List Sent) (given : List ℕ) → CardsWentOn (world_of h (port_now told port lines old.site) (lines start) sent given) sent (cards_of (port_now told port lines new.site).facts (lines after)) (port_now told port lines new.site).made))
        (sym (ap (λ (j : JournalValue). j.entries) journal))
        (port_gone_on told port lines opening.lane opening.lanes opening.clock old.journal.entries old.site new.site (λ beside. AreHanded (hands tells).built (port_now told port lines old.site) (port beside))
        (hands tells).run.moments (hands tells).run.keeps was.later
        (sends told port lines old.journal.entries old.site new.site departures pieces result (hands tells) reserved) (holds_then tells) history_then (seen tells) fair.unforged (sound_then tells before))
