-- A loop over a history that keeps the places of its entries.
use Rattle.std.proofs.Common.{◌≡◌, ℕ, ◌+◌, ◌<◌, Bool, true, false, if◌then◌else◌, Option, Some, None, is_some, List, [], ◌∷◌, length, get_or, take, reverse, find, refl, ap, ◌∙◌}
use Rattle.std.specs.Option.{option_or, option_and_then}
use Rattle.std.proofs.lemmas.List.{take_more, reverse-append}
use Rattle.std.proofs.lemmas.Option.{slice_get_read}
use Rattle.ota_core.specs.Job.{is_same_job}
use Rattle.ota_core.specs.Entry.{Reservation, is_settlement_of}
use Rattle.ota_core.specs.Questions.{Reserved, reserved_in, reserved_for, last_reserved}
use Rattle.ota_core.specs.declared.jobs.JobId.{JobId}
use Rattle.ota_core.specs.declared.entries.Entry.{Entry}
use Rattle.ota_core.specs.declared.entries.Entry.TheVariants.{Open, Reserve, Done, Refused, Close}
use Rattle.reports.specs.Places.{entry_at}

-- the past of one entry more
pub past_more : (entries : List Entry) (i : ℕ) (entry : Entry) → i < length entries → entry ≡ get_or entries i entry
    → reverse (take (i + 1) entries) ≡ entry ∷ reverse (take i entries)
past_more entries i entry within is =
    rw (take_more entries i entry within, ← is) (reverse-append (take i entries) (entry ∷ []))

-- what an entry reserves for a job is what it reserves
reserved_for-is : (job : JobId) (entry : Entry) → is_some (reserved_for job entry) ≡ true → reserved_in entry ≡ reserved_for job entry
reserved_for-is job (Reserve by moment keyset counter reserved tar name body) some = by_test (is_same_job reserved job) some
  where
    there : Reserved
    there = record { keyset = keyset; counter = counter; job = reserved; moment = moment; tar = tar; name = name; body = body }

    by_test : (same : Bool) → is_some (if same then Some there else None) ≡ true → Some there ≡ (if same then Some there else None)
    by_test true found = refl
    by_test false found = cc
reserved_for-is job (Open by moment keyset facts) some = cc
reserved_for-is job (Done by moment keyset counter answer) some = cc
reserved_for-is job (Refused by moment keyset counter status) some = cc
reserved_for-is job (Close by moment keyset) some = cc

module _ (entries : List Entry) (i : ℕ) (entry : Entry) (within : i < length entries) (is : entry ≡ get_or entries i entry) where
  pub reserve_more : (job : JobId) (before after : Option ℕ)
      → option_and_then reserved_in (entry_at entries before) ≡ last_reserved job (reverse (take i entries))
      → after ≡ (if is_some (reserved_for job entry) then Some i else before)
      → option_and_then reserved_in (entry_at entries after) ≡ last_reserved job (reverse (take (i + 1) entries))
  reserve_more job before after so_far next =
      rw (past_more entries i entry within is, next) (by_answer (reserved_for job entry) refl)
    where
      by_answer : (answer : Option Reserved) → reserved_for job entry ≡ answer
          → option_and_then reserved_in (entry_at entries (if is_some answer then Some i else before))
          ≡ option_or answer (last_reserved job (reverse (take i entries)))
      by_answer None none = so_far
      by_answer (Some reserved) some =
          rw (slice_get_read entries (length entries) i entry refl within is) (reserved_for-is job entry (ap is_some some) ∙ some)

  pub settlement_more : (counter : Reservation) (before after : Option ℕ)
      → entry_at entries before ≡ find (is_settlement_of counter) (reverse (take i entries))
      → after ≡ (if is_settlement_of counter entry then Some i else before)
      → entry_at entries after ≡ find (is_settlement_of counter) (reverse (take (i + 1) entries))
  settlement_more counter before after so_far next =
      rw (past_more entries i entry within is, next) (by_test (is_settlement_of counter entry) refl)
    where
      by_test : (settles : Bool) → is_settlement_of counter entry ≡ settles
          → entry_at entries (if settles then Some i else before) ≡ (if settles then Some entry else find (is_settlement_of counter) (reverse (take i entries)))
      by_test true settled = slice_get_read entries (length entries) i entry refl within is
      by_test false other = so_far
