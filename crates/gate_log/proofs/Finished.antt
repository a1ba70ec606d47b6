-- How a reading ends.
use Rattle.std.proofs.Common.{◌≡◌, ◌⊎◌, ℕ, ◌+◌, ◌-◌, ◌≤◌, List, [], length, take, drop, refl, inl, inr, ⊎_elim, sym, ◌∙◌, ap, subst, arith, length-append, length-drop, length-take}
use Rattle.std.proofs.lemmas.List.{append-nil}
use Rattle.std.specs.Prelude.{Result, Ok, Err, IfOk}
use Rattle.disk_model.specs.declared.faults.DiskFault.{DiskFault}
use Rattle.disk_model.specs.Disk.{Meaning, DiskRun, Cut, Only, image_now}
use Rattle.disk_model.specs.Runs.{weaker, joined, left_now}
use Rattle.gate_log.specs.declared.standings.Standing.TheVariants as standing
use Rattle.gate_log.specs.Reading.{parts_of}
use Rattle.gate_log.specs.Reading.Reading.{Opened}
use Rattle.gate_log.specs.declared.log_errors.LogErr.{LogErr}
use Rattle.gate_log.specs.declared.log_errors.LogErr.TheVariants as log_err
use Rattle.gate_log.specs.Answers.{OpensAt, Answers, UnlessFault}
use Rattle.gate_log.specs.Opening.{OpensAlike, IsOpened, IsOpenLog}
use Rattle.gate_log.specs.Calls.{CutTicks, behind_in}
use Rattle.gate_log.specs.Windows.{rest_of}
use Rattle.gate_log.specs.Readers.{ReaderState, in_front, IsReading, IsOpenedWith, FinishAnswer}
use Rattle.gate_log.specs.Readings.{cut_again}
use Rattle.gate_log.proofs.Opened.{cut_alike}
use Rattle.gate_log.proofs.ReaderParts.{left_by}

module _ (head text : List ℕ) (parts : List (List ℕ)) (reader : ReaderState) (end : ℕ) (reading : IsReading head text parts reader) (closed : reader.standing ≡ standing.Closed)
    (place : end + length reader.windows.ahead ≡ reader.windows.read) (within : reader.windows.read ≤ reader.windows.long) where
  read_all : parts_of head text ≡ Opened parts (rest_of text reader.windows)
  read_all =
      sym reading.all
      ∙ ap (in_front parts) (left_by reader text standing.Closed reader.batch reader.windows closed refl refl)
      ∙ ap (λ (l : List (List ℕ)). Opened l (rest_of text reader.windows)) (append-nil parts)

  size : end + length (rest_of text reader.windows) ≡ length text
  size = omega (arith, place, within, reading.long, length-append reader.windows.ahead (drop reader.windows.read text), length-drop reader.windows.read text)

  pub ends_at : OpensAt (parts_of head text) (length text) end
  ends_at = (parts, rest_of text reader.windows, read_all, size)

  pub opened_with : (new : List ℕ) (len : ℕ) → len ≡ end → new ≡ take end text → IsOpenedWith head text new parts len
  opened_with new len same cut =
      let zero_more : end - end ≡ 0 = omega arith in
      let none : take (end - end) (rest_of text reader.windows) ≡ [] = ap (λ (k : ℕ). take k (rest_of text reader.windows)) zero_more in
      record {
        behind = rest_of text reader.windows;
        was = read_all;
        is = ap (parts_of head) cut ∙ cut_again head text parts (rest_of text reader.windows) read_all end size end (omega arith) ∙ ap (λ (l : List ℕ). Opened parts l) none;
        cut = cut ∙ ap (λ (n : ℕ). take n text) (sym same);
        long = ap (λ (n : ℕ). n + length (rest_of text reader.windows)) same ∙ size;
      }

module _ {D B C : Type 0} (told : Meaning D B C) where
  pub finish_run : (old new : D) (head : List ℕ) (len : ℕ) → OpensAt (parts_of head (told.seen old)) (length (told.seen old)) len → DiskRun told old new (Cut len (told.seen old))
      → DiskRun told old new (λ image. image_now told old image ⊎ OpensAlike head (told.seen old) image)
  finish_run old new head len at run =
      weaker told old new (Cut len (told.seen old)) (λ image. image_now told old image ⊎ OpensAlike head (told.seen old) image) run (λ image cut. inr (cut_alike head (told.seen old) len at image cut))

-- ---- a log that is opened

pub opened_answer : (head old new : List ℕ) (parts : List (List ℕ)) (result : Result ℕ LogErr) → FinishAnswer head old new parts result → Answers (IsOpened head old new) (parts_of head old) result
opened_answer head old new parts (Ok len) is = record { parts = parts; behind = is.behind; was = is.was; is = is.is; cut = is.cut; long = is.long }
opened_answer head old new parts (Err log_err.Memory) is = absurd is
opened_answer head old new parts (Err (log_err.DiskFault fault)) is = tt
opened_answer head old new parts (Err log_err.Unformatted) is = absurd is
opened_answer head old new parts (Err log_err.NotALog) is = absurd is
opened_answer head old new parts (Err (log_err.OtherHead rest)) is = absurd is
opened_answer head old new parts (Err (log_err.Damaged number)) is = (parts, is.0, is.1)
opened_answer head old new parts (Err (log_err.Full long need)) is = absurd is

module _ {D B C : Type 0} (told : Meaning D B C) where
  pub opened_settled : (new : D) (head old : List ℕ) (parts : List (List ℕ)) (result : Result ℕ LogErr) → FinishAnswer head old (told.seen new) parts result
      → UnlessFault result (Only (told.seen new) (image_now told new)) → IfOk result (IsOpenLog told new)
  opened_settled new head old parts (Ok len) is only = record {
    only = only;
    long = ap length is.cut ∙ omega (arith, length-take len old, is.long);
    opens = (head, parts, is.is);
  }
  opened_settled new head old parts (Err error) is only = tt

  pub opened_moments : (old mid new : D) (head : List ℕ) → DiskRun told old mid (image_now told old) → told.seen mid ≡ told.seen old
      → DiskRun told mid new (λ image. image_now told mid image ⊎ OpensAlike head (told.seen mid) image)
      → DiskRun told old new (λ image. image_now told old image ⊎ OpensAlike head (told.seen old) image)
  opened_moments old mid new head first same second =
      let P : List ℕ → Type 0 = λ image. image_now told old image ⊎ OpensAlike head (told.seen old) image in
      joined told old mid new P
      (weaker told old mid (image_now told old) P first (λ image now. inl now))
      (weaker told mid new (λ image. image_now told mid image ⊎ OpensAlike head (told.seen mid) image) P second
      (λ image at. ⊎_elim (λ now. inl (left_now told old mid (image_now told old) first image now)) (λ alike. inr (subst (λ (t : List ℕ). OpensAlike head t image) same alike)) at))

-- ---- the calls at the end

-- of a log whose end was reached
pub end_ticks : (head text : List ℕ) (len end before now : ℕ) (at : OpensAt (parts_of head text) (length text) end) → len ≡ length text → (result : Result (Unit {0}) DiskFault) → CutTicks (len - end) before now result
    → CutTicks (behind_in (parts_of head text)) before now result
end_ticks head text len end before now at long result ticks =
    let behind : behind_in (parts_of head text) ≡ length at.1 = ap behind_in at.2 in
    let is : len - end ≡ behind_in (parts_of head text) = omega (arith, behind, at.3, long) in
    subst (λ (n : ℕ). CutTicks n before now result) is ticks
