-- What a stop left since the opening's end.
use Rattle.std.proofs.Common.{◌≡◌, ℕ, ◌≤◌, List, [], ◌++◌, refl, sym, ◌∙◌, ap, subst, arith, append-nil, append_assoc, ⊎_elim}
use Rattle.std.proofs.lemmas.Bool.{cases_lt}
use Rattle.disk_model.specs.Counts.{Counts}
use Rattle.disk_model.specs.Disk.{Meaning, PastStands}
use Rattle.ota_core.specs.declared.entries.Entry.{Entry}
use Rattle.counter_journal.specs.EntryRanges.{IsHistory}
use Rattle.counter_journal.specs.JournalReading.{Holds}
use Rattle.counter_journal.specs.Standing.{StandsFor}
use Rattle.site_model.specs.Port.{PortState}
use Rattle.world_core.specs.declared.lines.Line.{Line}
use Rattle.lane_engine.specs.Kept.{IsWithFirst, added_since}
use Rattle.lane_engine.specs.Opening.{Opening}
use Rattle.lane_engine.proofs.AddingLemmas.{stands_as}

module _ {D B C : Type 0} (told : Meaning D B C) (counts : D → Counts) (port : B → PortState) (lines : C → ℕ → List Line) (opening : Opening) where
  -- each image from the opening's end on holds the opening's history and the first of these entries
  abbrev pub AreLeft : D → List Entry → Type 0
  AreLeft site added = (moment : ℕ) (image : List ℕ) (history : List Entry) → opening.ready ≤ moment → moment ≤ told.clock site → told.image_at site moment image
      → StandsFor opening.lane opening.lanes history image → IsWithFirst told counts port lines opening history added

  -- and of these with more behind them
  pub first_more : (history added more : List Entry) → IsWithFirst told counts port lines opening history added → IsWithFirst told counts port lines opening history (added ++ more)
  first_more history added more is = (is.0, is.1 ++ more, is.2, sym (append_assoc is.0 is.1 more) ∙ ap (λ (l : List Entry). l ++ more) is.3)

  -- an image that holds the entries of a lane, and more of them behind
  pub held_first : (entries behind : List Entry) (image : List ℕ) (history : List Entry) → opening.entries ++ added_since told counts port lines opening entries ≡ entries
      → IsHistory opening.lane opening.lanes entries → Holds opening.lane opening.lanes entries image → StandsFor opening.lane opening.lanes history image
      → IsWithFirst told counts port lines opening history (added_since told counts port lines opening entries ++ behind)
  held_first entries behind image history since is holds stands =
      (added_since told counts port lines opening entries, behind, stands_as opening.lane opening.lanes history entries image stands is holds ∙ sym since, refl)

  -- an image that holds them with a batch
  pub held_more : (entries batch : List Entry) (image : List ℕ) (history : List Entry) → opening.entries ++ added_since told counts port lines opening entries ≡ entries
      → IsHistory opening.lane opening.lanes (entries ++ batch) → Holds opening.lane opening.lanes (entries ++ batch) image → StandsFor opening.lane opening.lanes history image
      → IsWithFirst told counts port lines opening history (added_since told counts port lines opening entries ++ batch)
  held_more entries batch image history since is holds stands = (
    added_since told counts port lines opening entries ++ batch,
    [],
    stands_as opening.lane opening.lanes history (entries ++ batch) image stands is holds ∙ sym (ap (λ (l : List Entry). l ++ batch) since)
        ∙ append_assoc opening.entries (added_since told counts port lines opening entries) batch,
    append-nil (added_since told counts port lines opening entries ++ batch),
  )

  -- through calls
  pub left_on : (old new : D) (added more after : List Entry) → PastStands told old new → added ++ more ≡ after → AreLeft old added
      → ((moment : ℕ) (image : List ℕ) (history : List Entry) → told.clock old ≤ moment → moment ≤ told.clock new → told.image_at new moment image
      → StandsFor opening.lane opening.lanes history image → IsWithFirst told counts port lines opening history after) → AreLeft new after
  left_on old new added more after past is left during moment image history from until at stands = ⊎_elim
      (λ behind. during moment image history (omega arith) until at stands)
      (λ low.
      subst (λ (l : List Entry). IsWithFirst told counts port lines opening history l) is
      (first_more history added more (left moment image history from low (past.no_more moment image low at) stands)))
      (cases_lt (told.clock old) moment)

  -- through calls in which the images stay
  pub left_still : (old new : D) (entries lost after : List Entry) → PastStands told old new → added_since told counts port lines opening entries ++ lost ≡ after
      → opening.entries ++ added_since told counts port lines opening entries ≡ entries → IsHistory opening.lane opening.lanes entries
      → ((moment : ℕ) (image : List ℕ) → told.clock old ≤ moment → moment ≤ told.clock new → told.image_at new moment image → Holds opening.lane opening.lanes entries image)
      → AreLeft old (added_since told counts port lines opening entries ++ lost) → AreLeft new after
  left_still old new entries lost after past same since is holds left =
      left_on old new (added_since told counts port lines opening entries ++ lost) [] after past
      (append-nil (added_since told counts port lines opening entries ++ lost) ∙ same) left
      (λ moment image history low high at stands.
      subst (λ (l : List Entry). IsWithFirst told counts port lines opening history l) same
      (held_first entries lost image history since is (holds moment image low high at) stands))
