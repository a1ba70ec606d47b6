-- A store's log that is read part by part.
use Rattle.std.proofs.Common.{◌≡◌, ℕ, ◌+◌, Bool, List, [], ◌∷◌, ◌++◌, length, Option, refl, sym, ap, subst, ◌∙◌, arith, length-append}
use Rattle.disk_model.specs.Counts.{Counts}
use Rattle.disk_model.specs.Disk.{Meaning, Tells, image_now, DiskRun}
use Rattle.disk_model.specs.Runs.{at_once}
use Rattle.gate_log.specs.ReadingLaws.{look_on, tells_on}
use Rattle.gate_log.specs.Readers.{ReaderState, IsReading, IsReadOn}
use Rattle.ota_core.specs.declared.cards.CardFacts.{CardFacts}
use Rattle.card_store.specs.Store.{Shown}
use Rattle.card_store.specs.Opening.{IsReplayedSoFar}

-- the parts that were given are read
pub record SoFar (head text : List ℕ) (facts : CardFacts) (shown : Shown) (bad : Option ℕ) (reader : ReaderState) : Type 0 where
  pub parts : List (List ℕ)
  pub reading : IsReading head text parts reader
  pub read : IsReplayedSoFar facts parts shown bad

-- the number of the part that was given last
pub part_number : (head text : List ℕ) (parts : List (List ℕ)) (part : List ℕ) (reader : ReaderState) → IsReading head text (parts ++ part ∷ []) reader → reader.given ≡ length parts + 1
part_number head text parts part reader reading = omega (arith, reading.number, length-append parts (part ∷ []))

-- ---- the loop that reads a log to its end

module _ {D B C : Type 0} (told : Meaning D B C) (counts : D → Counts) where
  -- what looking left of a disk so far
  pub record HasLooked (old now : D) : Type 0 where
    pub tells : told.tells now ≡ told.tells old
    pub counts_are : counts now ≡ counts old
    pub content : Tells told old → told.seen now ≡ told.seen old
    pub moments : Tells told old → DiskRun told old now (image_now told old)

  pub looked_on : (old mid new : D) → HasLooked old mid → told.tells new ≡ told.tells mid → counts new ≡ counts mid → (Tells told mid → told.seen new ≡ told.seen mid)
      → (Tells told mid → DiskRun told mid new (image_now told mid)) → HasLooked old new
  looked_on old mid new looked tells counts_are content moments = record {
    tells = tells ∙ looked.tells;
    counts_are = counts_are ∙ looked.counts_are;
    content = λ is. content (tells_on told old mid looked.tells is) ∙ looked.content is;
    moments = λ is. look_on told old mid new (looked.moments is) (moments (tells_on told old mid looked.tells is));
  }

  -- a turn, seen from the start of the loop
  pub turn_seen : (old mid new : D) → HasLooked old mid → Tells told old → (Tells told mid → told.seen new ≡ told.seen mid) → (before after : ReaderState) (more : Bool)
      → (Tells told mid → (head : List ℕ) (parts : List (List ℕ)) → IsReading head (told.seen mid) parts before → IsReadOn head (told.seen new) parts more after)
      → (head : List ℕ) (parts : List (List ℕ)) → IsReading head (told.seen old) parts before → IsReadOn head (told.seen old) parts more after
  turn_seen old mid new looked tells content before after more turn head parts reading =
      let mid_tells = tells_on told old mid looked.tells tells in
      let same : told.seen mid ≡ told.seen old = looked.content tells in
      let there = subst (λ (t : List ℕ). IsReading head t parts before) (sym same) reading in
      subst (λ (t : List ℕ). IsReadOn head t parts more after) (content mid_tells ∙ same) (turn mid_tells head parts there)

  pub looked_none : (disk : D) → HasLooked disk disk
  looked_none disk = record { tells = refl; counts_are = refl; content = λ is. refl; moments = λ is. at_once told disk (image_now told disk) (λ image now. now) }
