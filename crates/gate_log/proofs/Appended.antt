-- What an append leaves.
use Rattle.std.proofs.Common.{◌≡◌, ◌⊎◌, inl, ℕ, ◌<◌, ◌≤◌, ◌^◌, List, [], ◌++◌, length, ◌∙◌, ap}
use Rattle.std.specs.List.{flat_map}
use Rattle.disk_model.specs.Disk.{Meaning, DiskRun}
use Rattle.disk_model.specs.Runs.{weaker, at_once}
use Rattle.gate_log.specs.Log.{part_octets}
use Rattle.gate_log.specs.Append.{IsSettled, IsBeforeOrAfter, opened_with}
use Rattle.gate_log.specs.Reading.{parts_of, OpensTo}
use Rattle.gate_log.specs.Reading.Reading.{Opened}
use Rattle.gate_log.specs.Readings.{opened_ends, before_or_after, appended}
use Rattle.gate_log.specs.Opening.{IsOpenLog}
use Rattle.gate_log.specs.Batches.{framed}

module _ {D B C : Type 0} (told : Meaning D B C) where
  -- an open log ends in a closed gate
  pub open_settled : (disk : D) (len : ℕ) → IsOpenLog told disk len → IsSettled told disk len
  open_settled disk len open_log = record {
    only = open_log.only;
    long = open_log.long;
    ends = opened_ends open_log.opens.0 (told.seen disk) open_log.opens.1 open_log.opens.2;
  }

  -- at each moment of an append
  pub append_run : (old new : D) (head : List ℕ) (parts more : List (List ℕ)) → parts_of head (told.seen old) ≡ Opened parts [] → 1 ≤ length more → length (flat_map part_octets more) < 2 ^ 32
      → DiskRun told old new (IsBeforeOrAfter (told.seen old) (framed more)) → DiskRun told old new (λ image. OpensTo head parts image ⊎ OpensTo head (parts ++ more) image)
  append_run old new head parts more opened has small run =
      weaker told old new (IsBeforeOrAfter (told.seen old) (framed more)) (λ image. OpensTo head parts image ⊎ OpensTo head (parts ++ more) image) run
      (before_or_after head (told.seen old) parts opened more has small)

  -- nothing was done
  pub full_run : (disk : D) (len : ℕ) (head : List ℕ) (parts more : List (List ℕ)) → IsOpenLog told disk len → parts_of head (told.seen disk) ≡ Opened parts []
      → DiskRun told disk disk (λ image. OpensTo head parts image ⊎ OpensTo head (parts ++ more) image)
  full_run disk len head parts more open_log opened =
      at_once told disk (λ image. OpensTo head parts image ⊎ OpensTo head (parts ++ more) image)
      (λ image now. inl ([], ap (parts_of head) (open_log.only image now) ∙ opened))

  -- after Ok
  pub append_opens : (old new : D) (head : List ℕ) (parts more : List (List ℕ)) → parts_of head (told.seen old) ≡ Opened parts [] → 1 ≤ length more → length (flat_map part_octets more) < 2 ^ 32
      → told.seen new ≡ opened_with (told.seen old) (framed more) → parts_of head (told.seen new) ≡ Opened (parts ++ more) []
  append_opens old new head parts more opened has small is = ap (parts_of head) is ∙ appended head (told.seen old) parts opened more has small

  pub append_settled : (old new : D) (len more_len : ℕ) (more : List (List ℕ)) → IsOpenLog told old len → 1 ≤ length more → length (flat_map part_octets more) < 2 ^ 32
      → told.seen new ≡ opened_with (told.seen old) (framed more) → IsSettled told new more_len → IsOpenLog told new more_len
  append_settled old new len more_len more open_log has small is settled =
      let head = open_log.opens.0 in
      let parts = open_log.opens.1 in
      record {
        only = settled.only;
        long = settled.long;
        opens = (head, parts ++ more, append_opens old new head parts more open_log.opens.2 has small is);
      }
