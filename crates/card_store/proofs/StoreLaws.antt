-- What an addition makes of a store.
use Rattle.std.proofs.Common.{◌≡◌, ◌⊎◌, ℕ, ◌+◌, ◌*◌, ◌<◌, ◌≤◌, ◌==◌, ◌&&◌, nat_lt, cond, Bool, true, false, is_some, Option, Some, None, List, [], ◌∷◌, ◌++◌, length, Err, refl, inl, inr, sym, ap, subst, ◌∙◌}
use Rattle.std.proofs.lemmas.Bool.{lt-ltb}
use Rattle.apdu_codec.specs.Script.{HasCommands}
use Rattle.disk_model.specs.Disk.{Meaning, Tells, DiskRun, image_now}
use Rattle.disk_model.specs.Runs.{at_once, weaker}
use Rattle.gate_log.specs.Opening.{IsOpenLog, LIMIT}
use Rattle.gate_log.specs.Reading.{parts_of, OpensTo}
use Rattle.gate_log.specs.Reading.Reading.{Opened}
use Rattle.ota_core.specs.declared.cards.CardFacts.{CardFacts}
use Rattle.ota_core.specs.Keyset.{Keyset}
use Rattle.script_engine.specs.declared.card.CardState.{CardState}
use Rattle.script_engine.specs.declared.part.Part.{Part}
use Rattle.card_store.specs.Content.{Content, keyset_named, keyset_of, stored, may_store, script_part, left_of, took, took_for, after_command}
use Rattle.card_store.specs.Kept.{keyset_if}
use Rattle.card_store.specs.Laws.{replayed_more}
use Rattle.card_store.specs.Parts.{store_head}
use Rattle.card_store.specs.Replay.{Holds, HoldsAfterCommand, replayed, after_part}
use Rattle.card_store.specs.Store.{Shown, Shows, StoreValue, IsKeptOn, StandsFor, IsOpenedStore, Fits, CounterAnswer, HasRoomFor, IsFault}
use Rattle.card_store.specs.Opening.{IsShown, IsReplayedAs}
use Rattle.card_store.specs.declared.openings.OpenedStore.{OpenedStore}
use Rattle.card_store.specs.declared.scripts.Script.{Script}
use Rattle.card_store.specs.declared.store_errors.StoreErr.{StoreErr}
use Rattle.card_store.specs.declared.store_errors.StoreErr.TheVariants as store_err

module _ {D B C : Type 0} (told : Meaning D B C) where
  -- a disk whose images are among those that it had
  pub kept_same : (old new : D) (facts : CardFacts) (len : ℕ) (content : Content) → told.seen new ≡ told.seen old → ((image : List ℕ) → image_now told new image → image_now told old image)
      → IsKeptOn told old facts len content → IsKeptOn told new facts len content
  kept_same old new facts len content same fewer kept = record {
    open_log = record {
      only = λ image now. kept.open_log.only image (fewer image now) ∙ sym same;
      long = ap length same ∙ kept.open_log.long;
      opens = (kept.open_log.opens.0, kept.open_log.opens.1, ap (parts_of kept.open_log.opens.0) same ∙ kept.open_log.opens.2);
    };
    parts = kept.parts;
    opens = ap (parts_of store_head) same ∙ kept.opens;
    replays = kept.replays;
  }

  module _ (old new : D) (facts : CardFacts) (content next : Content) (len : ℕ) (batch : List (List ℕ)) (part : List ℕ) (is : batch ≡ part ∷ [])
      (kept : IsKeptOn told old facts len content) (after : after_part facts content part ≡ Some next) where
    with_part : replayed facts (kept.parts ++ batch) ≡ Some next
    with_part = ap (λ (b : List (List ℕ)). replayed facts (kept.parts ++ b)) is ∙ replayed_more facts content next kept.parts part kept.replays after

    -- at each moment the store is that of the card before the part, or behind it
    pub appended_run : ((head : List ℕ) (parts : List (List ℕ)) → parts_of head (told.seen old) ≡ Opened parts []
        → DiskRun told old new (λ image. OpensTo head parts image ⊎ OpensTo head (parts ++ batch) image))
        → DiskRun told old new (λ image. Holds facts content image ⊎ Holds facts next image)
    appended_run runs =
        weaker told old new (λ image. OpensTo store_head kept.parts image ⊎ OpensTo store_head (kept.parts ++ batch) image) (λ image. Holds facts content image ⊎ Holds facts next image)
        (runs store_head kept.parts kept.opens) at
      where
        at : (image : List ℕ) → OpensTo store_head kept.parts image ⊎ OpensTo store_head (kept.parts ++ batch) image → Holds facts content image ⊎ Holds facts next image
        at image (inl before) = inl (record { parts = kept.parts; opens = before; replays = kept.replays })
        at image (inr behind) = inr (record { parts = kept.parts ++ batch; opens = behind; replays = with_part })

    -- once it is added the disk keeps the card behind it
    pub appended_kept : (len_now : ℕ) → IsOpenLog told new len_now → ((head : List ℕ) (parts : List (List ℕ)) → parts_of head (told.seen old) ≡ Opened parts []
        → parts_of head (told.seen new) ≡ Opened (parts ++ batch) [])
        → IsKeptOn told new facts len_now next
    appended_kept len_now open_log adds =
        record { open_log = open_log; parts = kept.parts ++ batch; opens = adds store_head kept.parts kept.opens; replays = with_part }

  -- ---- stores

  -- a store that isn't ready stands for the card that it lends
  pub stands_unready : (disk : D) (facts : CardFacts) (shown : Shown) (len : ℕ) (content : Content) → Shows content shown
      → StandsFor told (record { disk = disk; facts = facts; shown = shown; length = len; ready = false }) content
  stands_unready disk facts shown len content shows = record { shows = shows; kept = λ ready tells. absurd cc }

  -- a store whose disk keeps what it lends
  pub stands_next : (old new : D) (facts : CardFacts) (shown after : Shown) (len len_now : ℕ) (ready : Bool) (content next : Content) → ready ≡ true → told.tells new ≡ told.tells old
      → StandsFor told (record { disk = old; facts = facts; shown = shown; length = len; ready = ready }) content → Shows next after
      → (Tells told old → IsKeptOn told old facts len content → IsKeptOn told new facts len_now next)
      → StandsFor told (record { disk = new; facts = facts; shown = after; length = len_now; ready = true }) next
  stands_next old new facts shown after len len_now ready content next is same stands shows keeps =
      record { shows = shows; kept = λ now tells. keeps (sym same ∙ tells) (stands.kept is (sym same ∙ tells)) }

  -- what lies behind a command is the card behind it
  pub run_after_command : (old new : D) (facts : CardFacts) (content next : Content) → after_command content ≡ Some next → DiskRun told old new (λ image. Holds facts content image ⊎ Holds facts next image)
      → DiskRun told old new (λ image. Holds facts content image ⊎ HoldsAfterCommand facts content image)
  run_after_command old new facts content next is run =
      weaker told old new (λ image. Holds facts content image ⊎ Holds facts next image) (λ image. Holds facts content image ⊎ HoldsAfterCommand facts content image) run at
    where
      at : (image : List ℕ) → Holds facts content image ⊎ Holds facts next image → Holds facts content image ⊎ HoldsAfterCommand facts content image
      at image (inl before) = inl before
      at image (inr behind) = inr (next, is, behind)

  -- what a stop may leave of a disk that keeps a card is that card's
  pub kept_now : (disk : D) (facts : CardFacts) (len : ℕ) (content : Content) → IsKeptOn told disk facts len content → (image : List ℕ) → image_now told disk image → Holds facts content image
  kept_now disk facts len content kept image now =
      record { parts = kept.parts; opens = ([], ap (parts_of store_head) (kept.open_log.only image now) ∙ kept.opens); replays = kept.replays }

  -- where nothing was done
  pub run_none : (disk : D) (facts : CardFacts) (len : ℕ) (content next : Content) → IsKeptOn told disk facts len content → DiskRun told disk disk (λ image. Holds facts content image ⊎ Holds facts next image)
  run_none disk facts len content next kept = at_once told disk (λ image. Holds facts content image ⊎ Holds facts next image) (λ image now. inl (kept_now disk facts len content kept image now))

  -- ---- stores that were opened

  module _ (old new : D) (facts : CardFacts) (opened : OpenedStore) (same : told.tells new ≡ told.tells old) where
    abbrev store : StoreValue D
    store = record { disk = new; facts = facts; shown = opened.kept; length = opened.log; ready = true }

    replayed_stands : (replay : IsReplayedAs facts (told.seen old) (told.seen new) opened) → IsOpenLog told new opened.log → StandsFor told store replay.content
    replayed_stands replay open_log =
        record { shows = replay.shows; kept = λ ready tells. record { open_log = open_log; parts = replay.parts; opens = replay.is; replays = replay.replays } }

    -- it stands for the card that its disk held, where that tells, and else for some card
    pub opened_stands : IsShown opened.kept → (Tells told old → IsReplayedAs facts (told.seen old) (told.seen new) opened) → (Tells told old → IsOpenLog told new opened.log)
        → (content : Content) × StandsFor told store content
    opened_stands shown answer settled =
        elim (told.tells old) as (λ b. told.tells old ≡ b → (content : Content) × StandsFor told store content) [
          | true ↦ λ tells. ((answer tells).content, replayed_stands (answer tells) (settled tells))
          | false ↦ λ not. (shown.0, record { shows = shown.1; kept = λ ready tells. absurd (apart (sym not ∙ sym same ∙ tells)) })
        ] refl
      where
        apart : false ≡ true → ⊥
        apart e = cc

    pub opened_store : IsReplayedAs facts (told.seen old) (told.seen new) opened → IsOpenLog told new opened.log → IsOpenedStore told (told.seen old) store
    opened_store replay open_log = record { content = replay.content; stands = replayed_stands replay open_log; was = replay.was; left = replay.left }

-- ---- counters

-- the card may store the counter
pub may_of : (facts : CardFacts) (content : Content) (shown : Shown) (kvn counter : ℕ) → Shows content shown → is_some (keyset_of facts shown.card kvn) ≡ true → stored facts content kvn < counter
    → may_store facts content kvn counter ≡ true
may_of facts content shown kvn counter shows known above =
    both (is_some (keyset_of facts content.card kvn)) (nat_lt (stored facts content kvn) counter) (ap (λ (card : CardState). is_some (keyset_of facts card kvn)) (sym shows.card) ∙ known)
    (lt-ltb (stored facts content kvn) counter above)
  where
    both : (a b : Bool) → a ≡ true → b ≡ true → (a && b) ≡ true
    both true true one other = refl
    both true false one other = cc
    both false b one other = cc

-- the keyset that was named
pub named_kvn : (facts : CardFacts) (card : CardState) (kvn : ℕ) (keyset : Keyset) → keyset_if facts card kvn ≡ Some keyset → keyset.kvn ≡ kvn
named_kvn facts card kvn keyset is = by_test (is_some (keyset_of facts card kvn)) is
  where
    by_test : (b : Bool) → cond b (Some (keyset_named facts kvn)) None ≡ Some keyset → keyset.kvn ≡ kvn
    by_test true e = ap (λ (k : Keyset). k.kvn) (sym (same (keyset_named facts kvn) keyset e))
      where
        same : (a b : Keyset) → Some a ≡ Some b → a ≡ b
        same a b e = cc
    by_test false e = cc

-- only a fault comes behind the tests
pub fault_answer : (len : ℕ) (body : List ℕ) (error : StoreErr) → Fits len body → IsFault error → CounterAnswer len body (Err error)
fault_answer len body store_err.Memory fits fault = absurd fault
fault_answer len body (store_err.DiskFault cause) fits fault = fits
fault_answer len body store_err.NotALog fits fault = absurd fault
fault_answer len body (store_err.OtherHead rest) fits fault = absurd fault
fault_answer len body (store_err.Damaged number) fits fault = absurd fault
fault_answer len body (store_err.Full at need) fits fault = absurd fault

-- there is room for all commands of a script that begins
pub room_begun : (facts : CardFacts) (content : Content) (kvn counter : ℕ) (tar body : List ℕ) (len : ℕ) (script : Option Script) (count : ℕ)
    → script ≡ (took facts content kvn counter tar body 0).script → HasCommands body 0 count → len + 10 * count ≤ LIMIT → HasRoomFor len script
room_begun facts content kvn counter tar body len script count is commands fits = subst (HasRoomFor len) (sym is) (by_part (script_part facts tar body))
  where
    by_part : (part : Option Part) → HasRoomFor len (took_for facts content kvn counter tar body 0 part).script
    by_part None = tt
    by_part (Some part) = by_length (length body == 0)
      where
        by_length : (empty : Bool) → HasRoomFor len (left_of part body (cond empty None (Some 0)))
        by_length true = tt
        by_length false = (count, commands, fits)
