-- A lane may go from thread to thread, where its site may.
use Prim.Native.Nat.{ℕ}
use mir.Syntax.{Ty}
use denote.Exit.{no}
use denote.RattleType.{RattleType}
use denote.Param.{arg, param}
use denote.Param.Send.{IsSend, IsSync, sendable, arg_send, arg_sync, param_send, param_sync}
use Rattle.std.proofs.Crossing as crossing
use Rattle.std.proofs.MapsCrossing as maps
use Rattle.std.proofs.MapsCrossingOver as over
use Rattle.disk_model.specs.declared.disk_calls.DiskCalls as disks
use Rattle.site_model.specs.declared.sites.SiteCalls as sites
use Rattle.counter_journal.specs.contracts.journals.Journal as Journal
use Rattle.gate_log.specs.contracts.batches.Batch as Batch
use Rattle.keyset_book.specs.contracts.books.Book as Book
use Rattle.lane_engine.specs.contracts.lanes.Lane as Lane
use Rattle.lane_engine.specs.contracts.openings.Opened as Opened
use Rattle.lane_engine.specs.contracts.workspaces.Workspace as Workspace
use Rattle.ota_core.specs.contracts.entries.Entry as Entry
use Rattle.ota_core.specs.contracts.histories.History as History
use Rattle.sms_segments.specs.contracts.assembling.Assembler as Assembler
use Rattle.sms_segments.specs.contracts.kept_pieces.KeptPieces as KeptPieces

entry_send : IsSend Entry.the_row
entry_send = search (sendable, crossing.crosses) depth 30 fits 20000

entry_sync : IsSync Entry.the_row
entry_sync = search (sendable, crossing.crosses) depth 30 fits 20000

history_send : IsSend (History.the_field).row
history_send = let e = entry_send in search (sendable, crossing.crosses) depth 30 fits 20000

history_sync : IsSync (History.the_field).row
history_sync = let e = entry_sync in search (sendable, crossing.crosses) depth 30 fits 20000

batch_send : IsSend (Batch.the_field).row
batch_send = search (sendable, crossing.crosses) depth 30 fits 20000

batch_sync : IsSync (Batch.the_field).row
batch_sync = search (sendable, crossing.crosses) depth 30 fits 20000

book_send : IsSend (Book.the_field).row
book_send = search (sendable, crossing.crosses, maps.crosses, over.crosses) depth 30 fits 20000

book_sync : IsSync (Book.the_field).row
book_sync = search (sendable, crossing.crosses, maps.crosses, over.crosses) depth 30 fits 20000

journal_send : IsSend (Journal.the_field).row
journal_send =
    let a = history_send in
    let b = batch_send in
    let d = book_send in
    let whole : IsSend Journal.the_row = search (sendable, crossing.crosses) depth 30 fits 20000 in
    search (sendable, crossing.crosses) depth 30 fits 20000

journal_sync : IsSync (Journal.the_field).row
journal_sync =
    let a = history_sync in
    let b = batch_sync in
    let d = book_sync in
    let whole : IsSync Journal.the_row = search (sendable, crossing.crosses) depth 30 fits 20000 in
    search (sendable, crossing.crosses) depth 30 fits 20000

assembler_send : IsSend (Assembler.the_field).row
assembler_send =
    let a : IsSend KeptPieces.the_row = search (sendable, crossing.crosses, maps.crosses, over.crosses) depth 30 fits 20000 in
    let whole : IsSend Assembler.the_row = search (sendable, crossing.crosses) depth 30 fits 20000 in
    search (sendable, crossing.crosses, maps.crosses, over.crosses) depth 30 fits 20000

assembler_sync : IsSync (Assembler.the_field).row
assembler_sync =
    let a : IsSync KeptPieces.the_row = search (sendable, crossing.crosses, maps.crosses, over.crosses) depth 30 fits 20000 in
    let whole : IsSync Assembler.the_row = search (sendable, crossing.crosses) depth 30 fits 20000 in
    search (sendable, crossing.crosses, maps.crosses, over.crosses) depth 30 fits 20000

workspace_send : IsSend (Workspace.the_field).row
workspace_send = search (sendable, crossing.crosses) depth 30 fits 20000

workspace_sync : IsSync (Workspace.the_field).row
workspace_sync = search (sendable, crossing.crosses) depth 30 fits 20000

module _ (T B C : RattleType) (s : sites.Ghosts T.Denot B.Denot C.Denot) (d : disks.Ghosts T.Denot B.Denot C.Denot) where
  pub lane_send : IsSend T → IsSend (Lane.the_row T B C s d)
  lane_send site =
      let j = journal_send in
      let a = assembler_send in
      let w = workspace_send in
      let e = entry_send in
      let opened : IsSend (Opened.the_row T B C s d) = search (sendable, crossing.crosses) depth 30 fits 20000 in
      let o : IsSend (Opened.the_field T B C s d).row = search (sendable, crossing.crosses) depth 30 fits 20000 in
      let inside : IsSend (Lane.TheInside.the_row T B C s d) = search (sendable, crossing.crosses) depth 60 fits 100000 in
      search sendable depth 30

  pub lane_sync : IsSync T → IsSync (Lane.the_row T B C s d)
  lane_sync site =
      let j = journal_sync in
      let a = assembler_sync in
      let w = workspace_sync in
      let e = entry_sync in
      let opened : IsSync (Opened.the_row T B C s d) = search (sendable, crossing.crosses) depth 30 fits 20000 in
      let o : IsSync (Opened.the_field T B C s d).row = search (sendable, crossing.crosses) depth 30 fits 20000 in
      let inside : IsSync (Lane.TheInside.the_row T B C s d) = search (sendable, crossing.crosses) depth 60 fits 100000 in
      search sendable depth 30

  -- as a field
  pub lane_field_send : IsSend T → IsSend (Lane.the_field T B C s d).row
  lane_field_send site = let whole = lane_send site in search (sendable, crossing.crosses) depth 30 fits 20000

  -- as a call asks for it
  pub sends_at : (i : ℕ) (δ : Ty) → IsSend T → IsSend (param i (arg δ no (Lane.the_row T B C s d)))
  sends_at i δ site = param_send i (arg δ no (Lane.the_row T B C s d)) (arg_send δ no (Lane.the_row T B C s d) (lane_send site))

  pub sends : (δ : Ty) → IsSend T → IsSend (param 0 (arg δ no (Lane.the_row T B C s d)))
  sends δ site = param_send 0 (arg δ no (Lane.the_row T B C s d)) (arg_send δ no (Lane.the_row T B C s d) (lane_send site))

  pub syncs : (δ : Ty) → IsSync T → IsSync (param 0 (arg δ no (Lane.the_row T B C s d)))
  syncs δ site = param_sync 0 (arg δ no (Lane.the_row T B C s d)) (arg_sync δ no (Lane.the_row T B C s d) (lane_sync site))
