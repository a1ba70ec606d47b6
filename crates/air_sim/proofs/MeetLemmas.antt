-- What a card's log is while a message comes to it.
use Rattle.std.specs.Prelude.{◌≡◌, ◌⊎◌, ℕ, zero, suc, ◌<◌, ◌≤◌, true, false, Option, Some, None, List, [], ◌∷◌, ◌++◌, refl}
use Rattle.std.proofs.Common.{inl, inr, ⊎_elim, sym, ◌∙◌, ap, subst, arith}
use Rattle.std.proofs.lemmas.Bool.{cases_lt}
use Rattle.gate_log.specs.Making.{IsNew}
use Rattle.gate_log.specs.Opening.{OpensAlike}
use Rattle.gate_log.specs.Reading.{parts_of}
use Rattle.gate_log.specs.Reading.Reading.{Unformatted}
use Rattle.card_store.specs.Content.{Content, script_part, took_for}
use Rattle.card_store.specs.Parts.{store_head}
use Rattle.card_store.specs.Replay.{Holds}
use Rattle.card_store.specs.Store.{IsBeforeOrOpened, StandsFor, StoreValue}
use Rattle.command_packet.specs.declared.opening.Command.{Command}
use Rattle.disk_model.specs.Disk.{Meaning, PastStands, DiskRun, Tells, image_now}
use Rattle.disk_model.specs.Runs.{past_at_once, past_joined}
use Rattle.ota_core.specs.declared.cards.CardFacts.{CardFacts}
use Rattle.receiving_entity.specs.Card.{CardValue, IsCard}
use Rattle.receiving_entity.specs.Receiving.{IsOnTheWay, Reaction}
use Rattle.receiving_entity.specs.Receiving.Reaction.{Answers, TakesCommand}
use Rattle.receiving_entity.specs.Taking.{at_step, line_by, line_of, taken}
use Rattle.script_engine.specs.declared.part.Part.{Part}
use Rattle.sms_segments.specs.Assembled.{OfCard}
use Rattle.site_model.specs.Cards.{Grows}
use Rattle.world_core.specs.Card.{IsCardState}
use Rattle.world_core.specs.declared.lines.Line.{Line}
use Rattle.air_sim.specs.CardRuns.{LogGrows}
use Rattle.air_sim.specs.Logged.{logged}
use Rattle.air_sim.proofs.RestLemmas.{grows_same}
use Rattle.air_sim.proofs.LogLemmas.{holds_logged, new_logged, unformatted_logged, alike_logged, logged_is_card, grows_on, last_follows}

-- a command that is taken adds its line
pub taken_log : (facts : CardFacts) (content : Content) (command : Command) (count : ℕ) → (taken facts content command count).log ≡ content.log ++ line_of facts content command count ∷ []
taken_log facts content command count = by_part (script_part facts command.tar command.body)
  where
    by_part : (part : Option Part) → (took_for facts content command.kvn command.counter command.tar command.body count part).log ≡ content.log ++ line_by facts content.card command count part ∷ []
    by_part None = refl
    by_part (Some part) = refl

-- octets that hold the card behind a command that was taken have a line more than those of the card before it
pub taken_grows : (facts : CardFacts) (content : Content) (command : Command) (count : ℕ) (image : List ℕ) → Holds facts (taken facts content command count) image → Grows facts content.log (logged facts image)
taken_grows facts content command count image holds =
    let line = line_of facts content command count in
    let is : logged facts image ≡ content.log ++ line ∷ [] = holds_logged facts (taken facts content command count) image holds ∙ taken_log facts content command count in
    subst (λ (l : List Line). Grows facts content.log l) (sym is)
    (last_follows facts content.log line (subst (λ (l : List Line). IsCardState (record { facts = facts; log = l })) is (logged_is_card facts image)))

-- and the image at each moment of a reaction
pub way_grows : (facts : CardFacts) (content : Content) (reaction : Reaction) (image : List ℕ) → IsOnTheWay facts content reaction image → Grows facts content.log (logged facts image)
way_grows facts content (Answers messages) image holds = subst (λ (l : List Line). Grows facts content.log l) (sym (holds_logged facts content image holds)) (grows_same facts content.log)
way_grows facts content (TakesCommand keys command) image (zero, holds) = subst (λ (l : List Line). Grows facts content.log l) (sym (holds_logged facts content image holds)) (grows_same facts content.log)
way_grows facts content (TakesCommand keys command) image (suc count, holds) = taken_grows facts content command count image holds

module _ {D B C : Type 0} (told : Meaning D B C) (seen_is_image : (disk : D) → Tells told disk → image_now told disk (told.seen disk)) where
  -- nothing was done
  pub stands : (card : CardValue D) → LogGrows told card card
  stands card = record {
    past = past_at_once told card.store.disk;
    facts = refl;
    each = λ k image low high at. (image, subst (λ (j : ℕ). told.image_at card.store.disk j image) (now_only k low high) at, grows_same card.store.facts (logged card.store.facts image));
  }
    where
      now_only : (k : ℕ) → told.clock card.store.disk ≤ k → k ≤ told.clock card.store.disk → k ≡ told.clock card.store.disk
      now_only k low high = omega (arith, low, high)

  -- one thing after the other
  pub joined_growth : (a b c : CardValue D) → LogGrows told a b → LogGrows told b c → LogGrows told a c
  joined_growth a b c first second = record {
    past = past_joined told a.store.disk b.store.disk c.store.disk first.past second.past;
    facts = second.facts ∙ first.facts;
    each = λ k image low high at. ⊎_elim
        (λ early. first.each k image low early (second.past.no_more k image early at))
        (λ late.
        let mid = second.each k image late high at in
        let start = first.each (told.clock b.store.disk) mid.0 first.past.later (omega arith) mid.1 in
        let further : Grows a.store.facts (logged a.store.facts mid.0) (logged a.store.facts image) =
        subst (λ (f : CardFacts). Grows f (logged f mid.0) (logged f image)) first.facts mid.2 in
        (start.0, start.1, grows_on a.store.facts (logged a.store.facts start.0) (logged a.store.facts mid.0) (logged a.store.facts image) start.2 further))
        (before_or_after k);
  }
    where
      before_or_after : (k : ℕ) → (k ≤ told.clock b.store.disk) ⊎ (told.clock b.store.disk ≤ k)
      before_or_after k = ⊎_elim (λ early. inl (omega (arith, early))) (λ late. inr late) (cases_lt k (told.clock b.store.disk))

  -- a disk that is armed
  pub armed_growth : (card armed : CardValue D) → armed.store.facts ≡ card.store.facts → DiskRun told card.store.disk armed.store.disk (image_now told card.store.disk) → LogGrows told card armed
  armed_growth card armed facts run = record {
    past = run.past;
    facts = facts;
    each = λ k image low high at. (image, run.each k image low high at, grows_same card.store.facts (logged card.store.facts image));
  }

  -- a restart
  pub restart_growth : (card new : CardValue D) → Tells told card.store.disk → new.store.facts ≡ card.store.facts → DiskRun told card.store.disk new.store.disk (IsBeforeOrOpened told card.store.disk) → LogGrows told card new
  restart_growth card new tells facts run = record {
    past = run.past;
    facts = facts;
    each = λ k image low high at. started image (run.each k image low high at);
  }
    where
      as_seen : (image : List ℕ) → logged card.store.facts image ≡ logged card.store.facts (told.seen card.store.disk) → (start : List ℕ) × image_now told card.store.disk start × Grows card.store.facts (logged card.store.facts start) (logged card.store.facts image)
      as_seen image is = ((told.seen card.store.disk), seen_is_image card.store.disk tells, subst (λ (l : List Line). Grows card.store.facts (logged card.store.facts (told.seen card.store.disk)) l) (sym is) (grows_same card.store.facts (logged card.store.facts (told.seen card.store.disk))))

      started : (image : List ℕ) → IsBeforeOrOpened told card.store.disk image → (start : List ℕ) × image_now told card.store.disk start × Grows card.store.facts (logged card.store.facts start) (logged card.store.facts image)
      started image (inl before) = (image, before, grows_same card.store.facts (logged card.store.facts image))
      started image (inr (inl (unformatted, made))) = as_seen image (new_logged card.store.facts image made ∙ sym (unformatted_logged card.store.facts (told.seen card.store.disk) unformatted))
      started image (inr (inr alike)) = as_seen image (alike_logged card.store.facts (told.seen card.store.disk) image alike)

  -- what a read of a card's disk gives holds the card
  pub card_seen : (card : CardValue D) (content : Content) (past : List OfCard) → Tells told card.store.disk → IsCard told card content past → Holds card.store.facts content (told.seen card.store.disk)
  card_seen card content past tells is =
      let kept = is.store.kept is.ready tells in record { parts = kept.parts; opens = ([], kept.opens); replays = kept.replays }

  -- a message that is taken
  pub receive_growth : (card after : CardValue D) (content : Content) (past : List OfCard) (reaction : Reaction) → Tells told card.store.disk → IsCard told card content past → after.store.facts ≡ card.store.facts
      → DiskRun told card.store.disk after.store.disk (IsOnTheWay card.store.facts content reaction) → LogGrows told card after
  receive_growth card after content past reaction tells is facts run = record {
    past = run.past;
    facts = facts;
    each = λ k image low high at. (
      told.seen card.store.disk,
      seen_is_image card.store.disk tells,
      subst (λ (l : List Line). Grows card.store.facts l (logged card.store.facts image)) (sym (holds_logged card.store.facts content (told.seen card.store.disk) (card_seen card content past tells is)))
          (way_grows card.store.facts content reaction image (run.each k image low high at)),
    );
  }
