-- Laws of an opening.
use Rattle.std.proofs.Common.{◌≡◌, ◌⊎◌, ℕ, ◌+◌, List, [], length, take, Option, Some, None, Result, Ok, Err, refl, inl, inr, sym, ap, subst, ◌∙◌, arith}
use Rattle.std.specs.Prelude.{OnErr}
use Rattle.std.proofs.lemmas.List.{length-take}
use Rattle.disk_model.specs.Disk.{Meaning, Tells, DiskRun, Only, image_now}
use Rattle.disk_model.specs.Runs.{joined, weaker, left_now}
use Rattle.gate_log.specs.declared.log_errors.LogErr.{LogErr}
use Rattle.gate_log.specs.declared.log_errors.LogErr.TheVariants as log_err
use Rattle.gate_log.specs.Reading.{parts_of}
use Rattle.gate_log.specs.Answers.{UnlessFault}
use Rattle.gate_log.specs.Readers.{ReaderState, IsReading, IsReadTo, IsOpenedWith, FinishAnswer}
use Rattle.gate_log.specs.Opening.{IsOpenLog, OpensAlike}
use Rattle.ota_core.specs.declared.cards.CardFacts.{CardFacts}
use Rattle.card_store.specs.Opening.{IsReplayedSoFar, IsReplayedThrough, IsReadAs, LogRefuses, IsCutAtMost, checked}
use Rattle.card_store.specs.Parts.{store_head}
use Rattle.card_store.specs.Store.{Shown}
use Rattle.card_store.specs.declared.openings.Replayed.{Replayed}

-- ---- the end of a reading

module _ (facts : CardFacts) (old new : List ℕ) (parts : List (List ℕ)) (shown : Shown) (all : IsReadTo parts (parts_of store_head old)) where
  -- the answer of the end of a reading, where no part was bad or one was
  abbrev pub IsEnded : Result ℕ LogErr → Type 0
  IsEnded (Ok len) = IsReadAs facts old new (record { log = len; kept = shown })
  IsEnded (Err error) = LogRefuses facts (parts_of store_head old) error

  ended : (finished : Result ℕ LogErr) (bad : Option ℕ) → FinishAnswer store_head old new parts finished → IsReplayedSoFar facts parts shown bad → IsEnded (checked finished bad)
  ended (Ok len) None finish read = record { parts = parts; replay = read; cut = finish }
  ended (Ok len) (Some number) finish read = inl (parts, all, read)
  ended (Err log_err.Memory) bad finish read = absurd finish
  ended (Err (log_err.DiskFault fault)) None finish read = tt
  ended (Err (log_err.DiskFault fault)) (Some number) finish read = tt
  ended (Err log_err.Unformatted) bad finish read = absurd finish
  ended (Err log_err.NotALog) bad finish read = absurd finish
  ended (Err (log_err.OtherHead rest)) bad finish read = absurd finish
  ended (Err (log_err.Damaged number)) None finish read = inr (record { content = read.content; parts = parts; damaged = finish.0; replays = read.replays; place = finish.1 })
  ended (Err (log_err.Damaged number)) (Some first) finish read = inl (parts, all, read)
  ended (Err (log_err.Full size need)) bad finish read = absurd finish

  -- what it leaves where it refuses
  abbrev pub IsCutBy : Result ℕ LogErr → Type 0
  IsCutBy result = OnErr result (UnlessFault result (IsCutAtMost old new))

  ended_cut : (finished : Result ℕ LogErr) (bad : Option ℕ) → FinishAnswer store_head old new parts finished → OnErr finished (UnlessFault finished (new ≡ old)) → IsCutBy (checked finished bad)
  ended_cut (Ok len) None finish same = tt
  ended_cut (Ok len) (Some number) finish same = inr (len, record { parts = parts; behind = finish.behind; was = finish.was; is = finish.is; cut = finish.cut; long = finish.long })
  ended_cut (Err log_err.Memory) bad finish same = absurd finish
  ended_cut (Err (log_err.DiskFault fault)) None finish same = tt
  ended_cut (Err (log_err.DiskFault fault)) (Some number) finish same = tt
  ended_cut (Err log_err.Unformatted) bad finish same = absurd finish
  ended_cut (Err log_err.NotALog) bad finish same = absurd finish
  ended_cut (Err (log_err.OtherHead rest)) bad finish same = absurd finish
  ended_cut (Err (log_err.Damaged number)) None finish same = inl same
  ended_cut (Err (log_err.Damaged number)) (Some first) finish same = inl same
  ended_cut (Err (log_err.Full size need)) bad finish same = absurd finish

-- an end that is Ok was one of the log
checked_ok : (finished : Result ℕ LogErr) (bad : Option ℕ) (len : ℕ) → checked finished bad ≡ Ok len → finished ≡ Ok len
checked_ok (Ok size) None len e = e
checked_ok (Ok size) (Some number) len e = absurd cc
checked_ok (Err error) None len e = absurd cc
checked_ok (Err error) (Some number) len e = absurd cc

-- ---- the whole reading

-- what is known where all parts were replayed and the reading was ended
pub record IsFinished (mid old new : List ℕ) (facts : CardFacts) (reader : ReaderState) (replay : Replayed) (finished : Result ℕ LogErr) : Type 0 where
  pub parts : List (List ℕ)
  pub reading : IsReading store_head mid parts reader
  pub all : IsReadTo parts (parts_of store_head old)
  pub finish : FinishAnswer store_head old new parts finished
  pub so_far : IsReplayedSoFar facts parts replay.kept replay.bad

pub finished_of : {D B C : Type 0} (told : Meaning D B C) (old begun mid new : D) (facts : CardFacts) (first reader : ReaderState) (replay : Replayed) (finished : Result ℕ LogErr)
    → Tells told begun → Tells told mid → told.seen begun ≡ told.seen old → told.seen mid ≡ told.seen begun → IsReading store_head (told.seen begun) [] first
    → (Tells told begun → (head : List ℕ) → IsReading head (told.seen begun) [] first → IsReplayedThrough head (told.seen begun) facts reader replay)
    → (Tells told mid → (head : List ℕ) (parts : List (List ℕ)) → IsReading head (told.seen mid) parts reader → FinishAnswer head (told.seen mid) (told.seen new) parts finished)
    → IsFinished (told.seen mid) (told.seen old) (told.seen new) facts reader replay finished
finished_of told old begun mid new facts first reader replay finished tells tells_mid same still reading reads finishes =
    let through = reads tells store_head reading in
    let there : IsReading store_head (told.seen mid) through.parts reader = subst (λ (t : List ℕ). IsReading store_head t through.parts reader) (sym still) through.reading in
    record {
      parts = through.parts;
      reading = there;
      all = subst (λ (t : List ℕ). IsReadTo through.parts (parts_of store_head t)) same through.all;
      finish = subst (λ (t : List ℕ). FinishAnswer store_head t (told.seen new) through.parts finished) (still ∙ same) (finishes tells_mid store_head through.parts there);
      so_far = through.so_far;
    }

module _ {D B C : Type 0} (told : Meaning D B C) (mid old new : D) (facts : CardFacts) (reader : ReaderState) (replay : Replayed) (finished : Result ℕ LogErr)
    (all : IsFinished (told.seen mid) (told.seen old) (told.seen new) facts reader replay finished) where
  pub finished_answer : (result : Result ℕ LogErr) → result ≡ checked finished replay.bad → IsEnded facts (told.seen old) (told.seen new) all.parts replay.kept all.all result
  finished_answer result is_checked =
      subst (IsEnded facts (told.seen old) (told.seen new) all.parts replay.kept all.all) (sym is_checked)
      (ended facts (told.seen old) (told.seen new) all.parts replay.kept all.all finished replay.bad all.finish all.so_far)

  pub finished_cut : (result : Result ℕ LogErr) → result ≡ checked finished replay.bad → OnErr finished (UnlessFault finished (told.seen new ≡ told.seen mid)) → told.seen mid ≡ told.seen old
      → IsCutBy facts (told.seen old) (told.seen new) all.parts replay.kept all.all result
  finished_cut result is_checked same still =
      subst (IsCutBy facts (told.seen old) (told.seen new) all.parts replay.kept all.all) (sym is_checked)
      (ended_cut facts (told.seen old) (told.seen new) all.parts replay.kept all.all finished replay.bad all.finish
      (subst (λ (t : List ℕ). OnErr finished (UnlessFault finished (told.seen new ≡ t))) still same))

  pub finished_settled : (len : ℕ) → checked finished replay.bad ≡ Ok len → UnlessFault finished (Only (told.seen new) (image_now told new)) → IsOpenLog told new len
  finished_settled len is_ok only =
      let ok : finished ≡ Ok len = checked_ok finished replay.bad len is_ok in
      let opened = subst (FinishAnswer store_head (told.seen old) (told.seen new) all.parts) ok all.finish in
      record {
        only = subst (λ (r : Result ℕ LogErr). UnlessFault r (Only (told.seen new) (image_now told new))) ok only;
        long = omega (arith, ap length opened.cut, length-take len (told.seen old), opened.long);
        opens = (store_head, all.parts, opened.is);
      }

module _ {D B C : Type 0} (told : Meaning D B C) where
  -- at a moment of the opening of a log that is made
  abbrev pub IsBeforeOrAlike : D → List ℕ → Type 0
  IsBeforeOrAlike old image = image_now told old image ⊎ OpensAlike store_head (told.seen old) image

  -- the moments of a reading and of its end
  pub reading_run : (old mid new : D) → told.seen mid ≡ told.seen old → DiskRun told old mid (image_now told old) → DiskRun told mid new (IsBeforeOrAlike mid) → DiskRun told old new (IsBeforeOrAlike old)
  reading_run old mid new same first second =
      joined told old mid new (IsBeforeOrAlike old) (weaker told old mid (image_now told old) (IsBeforeOrAlike old) first (λ image now. inl now)) (weaker told mid new (IsBeforeOrAlike mid) (IsBeforeOrAlike old) second at)
    where
      at : (image : List ℕ) → IsBeforeOrAlike mid image → IsBeforeOrAlike old image
      at image (inl now) = inl (left_now told old mid (image_now told old) first image now)
      at image (inr alike) = inr (subst (λ (t : List ℕ). OpensAlike store_head t image) same alike)
