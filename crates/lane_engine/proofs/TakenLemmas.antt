-- What is left where a packet of a card was taken.
use Rattle.std.proofs.Common.{◌≡◌, inl, ℕ, ◌+◌, ◌≤◌, Bool, false, true, Option, Some, None, Result, Ok, Err, List, [], ◌∷◌, ◌++◌, length, reverse, All, refl, sym, ◌∙◌, ap, subst, arith, append-nil}
use Rattle.std.proofs.Math.Nat.{le-max_right}
use Rattle.disk_model.specs.Disk.{Meaning, Tells, DiskRun}
use Rattle.disk_model.specs.Runs.{at_once}
use Rattle.gate_log.specs.Opening.{LIMIT}
use Rattle.ota_core.specs.History.{broken}
use Rattle.ota_core.specs.Keyset.{Keyset}
use Rattle.ota_core.specs.Questions.{last_moment}
use Rattle.ota_core.specs.declared.cards.CardId.{CardId}
use Rattle.ota_core.specs.declared.entries.Entry.{Entry}
use Rattle.counter_journal.specs.EntryRanges.{IsEntry, IsHistory, IsOfLane, IsSized}
use Rattle.counter_journal.specs.JournalLaws.{All-none}
use Rattle.counter_journal.specs.JournalReading.{IsSameJournal, JournalValue}
use Rattle.counter_journal.specs.StandingLaws.{ready_holds}
use Rattle.keyset_book.specs.Book.{needs_no_room}
use Rattle.response_packet.specs.Opened.{unsecured_in}
use Rattle.sms_segments.specs.Assembled.{OfCard, answer_to}
use Rattle.sms_segments.specs.Kept.{Keeps, Kept, Pile, kept_in}
use Rattle.sms_segments.specs.declared.concatenations.Concatenation.{Concatenation}
use Rattle.sms_segments.specs.declared.assembling.Push.{Push}
use Rattle.sms_segments.specs.declared.assembling.Push.TheVariants as push
use Rattle.lane_engine.specs.Adding.{moment_for, need_for}
use Rattle.lane_engine.specs.Opening.{Opening}
use Rattle.lane_engine.specs.LaneValue.{LaneValue, IsLane, IsSameHearing}
use Rattle.lane_engine.specs.Polling.{LONGEST_SETTLEMENT, IsUnpolled, settlements}
use Rattle.lane_engine.specs.Receipts.{LONGEST_DATA, RESPONSE, Response, answer_to_packet, answer_to_push, answer_to_response, due_by, message_of, response_by, response_of, settlement_of}
use Rattle.lane_engine.specs.Settling.{IsHeard, IsTaken, SettlingRun, settled_by}
use Rattle.lane_engine.specs.Settling.{IsSettled as IsLeft}
use Rattle.std.specs.Result.{IsErr, IsErrAnd}
use Rattle.lane_engine.specs.Responses.{response_in_octets}
use Rattle.lane_engine.specs.declared.responses.ResponseIn.{ResponseIn}
use Rattle.lane_engine.proofs.ResponseLemmas.{within_length}
use Rattle.lane_engine.specs.declared.answers.LaneErr.{LaneErr}
use Rattle.lane_engine.specs.declared.answers.LaneErr.TheVariants as lane_err
use Rattle.lane_engine.specs.declared.answers.Poll.{Poll}
use Rattle.lane_engine.specs.declared.answers.Poll.TheVariants as poll
use Rattle.lane_engine.proofs.AppendLemmas.{IsWithBatch, lane_of}
use Rattle.lane_engine.proofs.DueLemmas.{IsDue, push_due, receipt_status, settlement_legal, settlement_need, settlement_of_lane, settlement_sized, settlement_small}

-- nothing is settled where nothing is due
pub nothing_settled : {D : Type 0} (by : ℕ) (old : LaneValue D) (card : CardId) (made : Push) → due_by (answer_to_push old.journal.entries card made) (response_by old.journal.entries card made) ≡ None
    → settled_by by old card made ≡ []
nothing_settled by old card made none = ap (λ (o : Option Response). settlements by (moment_for old) o) none

same_hearing : {D : Type 0} (lane : LaneValue D) → IsSameHearing lane lane
same_hearing lane = record { element = refl; pieces = refl; lane = refl; lanes = refl; settings = record { moment = refl; name = refl; end = refl; opened = refl } }

-- the lane is as it was
pub taken_idle : {D : Type 0} (old : LaneValue D) (by : ℕ) (card : CardId) (made : Push) (answer : Poll) → old.is_stale ≡ false → answer ≡ answer_to_push old.journal.entries card made
    → due_by (answer_to_push old.journal.entries card made) (response_by old.journal.entries card made) ≡ None → IsTaken old old by card made (Ok answer)
taken_idle old by card made answer live is none =
    let nothing : settled_by by old card made ≡ [] = nothing_settled by old card made none in
    record {
      answer = is;
      left = (sym (append-nil old.journal.entries) ∙ ap (λ (l : List Entry). old.journal.entries ++ l) (sym nothing), live, refl);
      fits = subst (λ (l : List Entry). All IsEntry l) (sym nothing) (All-none IsEntry);
      rest = same_hearing old;
    }

pub run_idle : {D B C : Type 0} (told : Meaning D B C) (old : LaneValue D) (more : List Entry) → IsLane told old → old.is_stale ≡ false → Tells told old.site → SettlingRun told old old more
run_idle told old more of live tells = at_once told old.site (IsWithBatch old.journal.lane old.journal.lanes old.journal.entries more) (λ image at. inl (ready_holds told old.site old.journal (of.ready live tells) image at))

-- ---- what a packet says

module _ (entries : List Entry) (card : CardId) (packet : List ℕ) where
  pub answer_unsecured : (status : ℕ) → unsecured_in packet ≡ Some status → poll.Notice status ≡ answer_to_push entries card (push.Whole packet)
  answer_unsecured status is = ap (λ (o : Option ℕ). answer_to_packet (reverse entries) (response_of entries card packet) o) (sym is)

  pub none_unsecured : (status : ℕ) → unsecured_in packet ≡ Some status → due_by (answer_to_push entries card (push.Whole packet)) (response_by entries card (push.Whole packet)) ≡ None
  none_unsecured status is = ap (λ (o : Option ℕ). due_by (answer_to_packet (reverse entries) (response_of entries card packet) o) (response_of entries card packet)) is

  pub answer_unopened : unsecured_in packet ≡ None → response_of entries card packet ≡ None → poll.NotOurs ≡ answer_to_push entries card (push.Whole packet)
  answer_unopened form is =
      ap (λ (o : Option Response). answer_to_response (reverse entries) o) (sym is) ∙ ap (λ (o : Option ℕ). answer_to_packet (reverse entries) (response_of entries card packet) o) (sym form)

  pub none_unopened : unsecured_in packet ≡ None → response_of entries card packet ≡ None → due_by (answer_to_push entries card (push.Whole packet)) (response_by entries card (push.Whole packet)) ≡ None
  none_unopened form is =
      ap (λ (o : Option ℕ). due_by (answer_to_packet (reverse entries) (response_of entries card packet) o) (response_of entries card packet)) form
      ∙ ap (λ (o : Option Response). due_by (answer_to_response (reverse entries) o) o) is

  pub answer_opened : (response : Response) (answer : Poll) → unsecured_in packet ≡ None → response_of entries card packet ≡ Some response → answer ≡ answer_to_response (reverse entries) (Some response)
      → answer ≡ answer_to_push entries card (push.Whole packet)
  answer_opened response answer form is says =
      says ∙ ap (λ (o : Option Response). answer_to_response (reverse entries) o) (sym is) ∙ ap (λ (o : Option ℕ). answer_to_packet (reverse entries) (response_of entries card packet) o) (sym form)

  -- what is due of it
  due_opened : (response : Response) (answer : Poll) → unsecured_in packet ≡ None → response_of entries card packet ≡ Some response → answer ≡ answer_to_response (reverse entries) (Some response)
      → due_by (answer_to_push entries card (push.Whole packet)) (response_by entries card (push.Whole packet)) ≡ due_by answer (Some response)
  due_opened response answer form is says =
      ap (λ (p : Poll). due_by p (response_of entries card packet)) (sym (answer_opened response answer form is says)) ∙ ap (λ (o : Option Response). due_by answer o) is

  pub due_settled : (response : Response) (answer : Poll) (keyset : Keyset) (counter : ℕ) → unsecured_in packet ≡ None → response_of entries card packet ≡ Some response
      → answer ≡ answer_to_response (reverse entries) (Some response) → answer ≡ poll.Settled keyset counter
      → due_by (answer_to_push entries card (push.Whole packet)) (response_by entries card (push.Whole packet)) ≡ Some response
  due_settled response answer keyset counter form is says settled = due_opened response answer form is says ∙ ap (λ (p : Poll). due_by p (Some response)) settled

  -- another answer settles nothing
  pub none_unsettled : (response : Response) (answer : Poll) → unsecured_in packet ≡ None → response_of entries card packet ≡ Some response
      → answer ≡ answer_to_response (reverse entries) (Some response) → ((keyset : Keyset) (counter : ℕ) → answer ≡ poll.Settled keyset counter → ⊥)
      → due_by (answer_to_push entries card (push.Whole packet)) (response_by entries card (push.Whole packet)) ≡ None
  none_unsettled response answer form is says isnt = due_opened response answer form is says ∙ by_answer answer isnt
    where
      by_answer : (p : Poll) → ((keyset : Keyset) (counter : ℕ) → p ≡ poll.Settled keyset counter → ⊥) → due_by p (Some response) ≡ None
      by_answer poll.Nothing no_one = refl
      by_answer poll.More no_one = refl
      by_answer poll.NotOurs no_one = refl
      by_answer (poll.Notice status) no_one = refl
      by_answer (poll.Settled keyset counter) no_one = absurd (no_one keyset counter refl)
      by_answer poll.Late no_one = refl

-- ---- what is due is settled

module _ {D : Type 0} (old : LaneValue D) (by : ℕ) (card : CardId) (made : Push) (response : Response)
    (due : due_by (answer_to_push old.journal.entries card made) (response_by old.journal.entries card made) ≡ Some response) where
  is_due : IsDue old.journal.entries card made response
  is_due = push_due old.journal.entries card made response due

  settled_is : settled_by by old card made ≡ settlement_of by (moment_for old) response ∷ []
  settled_is = ap (λ (o : Option Response). settlements by (moment_for old) o) due

  not_earlier : last_moment (reverse old.journal.entries) ≤ moment_for old
  not_earlier = le-max_right old.moment (last_moment (reverse old.journal.entries))

  pub due_short : length response.answer.octets ≤ LONGEST_DATA
  due_short = (receipt_status response is_due.receipt).1

  module _ (added : Entry) (is : added ≡ settlement_of by (moment_for old) response) where
    pub added_legal : broken (reverse old.journal.entries) added ≡ None
    added_legal = subst (λ (e : Entry). broken (reverse old.journal.entries) e ≡ None) (sym is) (settlement_legal old.journal.entries card made by (moment_for old) response is_due not_earlier)

    pub added_of_lane : IsHistory old.journal.lane old.journal.lanes old.journal.entries → IsOfLane old.journal.lane old.journal.lanes added
    added_of_lane of = subst (λ (e : Entry). IsOfLane old.journal.lane old.journal.lanes e) (sym is) (settlement_of_lane old.journal.lane old.journal.lanes old.journal.entries of by (moment_for old) response is_due.in_use)

    pub added_sized : IsSized added
    added_sized = subst (λ (e : Entry). IsSized e) (sym is) (settlement_sized by (moment_for old) response is_due.receipt)

    pub added_small : needs_no_room added ≡ true
    added_small = ap (λ (e : Entry). needs_no_room e) is ∙ settlement_small by (moment_for old) response

    pub added_fits : old.journal.length + LONGEST_SETTLEMENT ≤ LIMIT → old.journal.length + need_for (added ∷ []) ≤ LIMIT
    added_fits fits =
        let need : need_for (added ∷ []) ≤ LONGEST_SETTLEMENT = subst (λ (e : Entry). need_for (e ∷ []) ≤ LONGEST_SETTLEMENT) (sym is) (settlement_need by (moment_for old) response is_due.receipt) in
        omega (arith, fits, need)

    alone_is : added ∷ [] ≡ settled_by by old card made
    alone_is = ap (λ (e : Entry). e ∷ []) is ∙ sym settled_is

    module _ (new : LaneValue D) (fits : All IsEntry (added ∷ [])) (rest : IsSameHearing old new) where
      pub taken_settled : (answer : Poll) → answer ≡ answer_to_push old.journal.entries card made → new.journal.entries ≡ old.journal.entries ++ added ∷ [] → new.is_stale ≡ false → new.lost ≡ old.lost → IsTaken old new by card made (Ok answer)
      taken_settled answer says entries fresh same = record {
        answer = says;
        left = (entries ∙ ap (λ (l : List Entry). old.journal.entries ++ l) alone_is, fresh, same);
        fits = subst (λ (l : List Entry). All IsEntry l) alone_is fits;
        rest = rest;
      }

      pub taken_stopped : (error : LaneErr) → IsLeft {T = Unit {0}} old new (added ∷ []) (Err error) → IsTaken old new by card made (Err error)
      taken_stopped error left = record {
        answer = tt;
        left = by_error error left;
        fits = subst (λ (l : List Entry). All IsEntry l) alone_is fits;
        rest = rest;
      }
        where
          by_error : (e : LaneErr) → IsLeft {T = Unit {0}} old new (added ∷ []) (Err e) → IsLeft {T = Poll} old new (settled_by by old card made) (Err e)
          by_error (lane_err.SiteFault f) left = (left.0, left.1, subst (λ (l : List Entry). 1 ≤ length l) alone_is left.2, left.3 ∙ alone_is)
          by_error lane_err.Memory left = absurd left
          by_error lane_err.Stale left = absurd left
          by_error (lane_err.Full long need) left = absurd left
          by_error lane_err.Closed left = absurd left
          by_error lane_err.Exhausted left = absurd left
          by_error lane_err.UnknownKeyset left = absurd left
          by_error (lane_err.AlreadyReserved counter) left = absurd left
          by_error lane_err.NotReserved left = absurd left

    pub run_settled : {B C : Type 0} (told : Meaning D B C) (new : LaneValue D) → SettlingRun told old new (added ∷ []) → SettlingRun told old new (settled_by by old card made)
    run_settled told new run = subst (λ (l : List Entry). DiskRun told old.site new.site (IsWithBatch old.journal.lane old.journal.lanes old.journal.entries l)) alone_is run

-- ---- by the fields of a lane

-- room alone is made
pub unpolled_by : {D : Type 0} (site : D) (journal grown : JournalValue) (is_stale : Bool) (heard roomy : Kept) (moment : ℕ) (name : List ℕ) (end : Option LaneErr) (opened : Opening) (lost : List Entry) (old : LaneValue D)
    → lane_of site journal is_stale heard moment name end opened lost ≡ old → IsSameJournal journal grown → roomy.element ≡ heard.element → ((of : Concatenation) → kept_in roomy.pieces of ≡ kept_in heard.pieces of)
    → IsUnpolled old (lane_of site grown is_stale roomy moment name end opened lost)
unpolled_by {D = D} site journal grown is_stale heard roomy moment name end opened lost old view_is same element pieces =
    subst (λ (v : LaneValue D). IsUnpolled v (lane_of site grown is_stale roomy moment name end opened lost)) view_is
    (record {
      site = refl;
      entries = same.entries;
      length = same.length;
      is_stale = refl;
      lost = refl;
      kept = pieces;
      rest = record { element = element; lane = same.lane; lanes = same.lanes; settings = record { moment = refl; name = refl; end = refl; opened = refl } };
    })

pub same_journal : (journal : JournalValue) → IsSameJournal journal journal
same_journal journal = record { lane = refl; lanes = refl; entries = refl; length = refl }

-- the data of a receipt that is due fit
pub read_short : {D : Type 0} (old : LaneValue D) (by : ℕ) (card : CardId) (made : Push) (response : ResponseIn) (work : List ℕ) → response.answer.from + response.answer.len ≤ length work
    → due_by (answer_to_push old.journal.entries card made) (response_by old.journal.entries card made) ≡ Some (response_in_octets response work) → response.answer.len ≤ LONGEST_DATA
read_short old by card made response work within due =
    let short = due_short old by card made (response_in_octets response work) due in
    let long = within_length response.answer.from response.answer.len work within in
    omega (arith, short, long)

-- the answer of a call that went on to an error
pub taken_residual : {D : Type 0} (old new : LaneValue D) (by : ℕ) (card : CardId) (made : Push) (response : Response) (due : due_by (answer_to_push old.journal.entries card made) (response_by old.journal.entries card made) ≡ Some response)
    (added : Entry) → added ≡ settlement_of by (moment_for old) response → All IsEntry (added ∷ []) → IsSameHearing old new → (error : LaneErr) → IsLeft {T = Unit {0}} old new (added ∷ []) (Err error)
    → (result : Result Poll LaneErr) → IsErr result → IsErrAnd result (λ e. e ≡ error) → IsTaken old new by card made result
taken_residual old new by card made response due added is fits rest error left (Ok found) err gives = absurd gives
taken_residual old new by card made response due added is fits rest error left (Err e) err gives =
    subst (λ (x : LaneErr). IsTaken old new by card made (Err x)) (sym gives) (taken_stopped old by card made response due added is new fits rest error left)

-- ---- a message was pushed

module _ {D B C : Type 0} (told : Meaning D B C) (site : D) (journal : JournalValue) (is_stale : Bool) (heard pushed : Kept) (moment : ℕ) (name : List ℕ) (end : Option LaneErr) (opened : Opening) (lost : List Entry) (old : LaneValue D)
    (view_is : lane_of site journal is_stale heard moment name end opened lost ≡ old) (of : IsLane told (lane_of site journal is_stale heard moment name end opened lost)) (live : old.is_stale ≡ false)
    (by : ℕ) (message : CardId × List ℕ) (made : Push) (element : pushed.element ≡ heard.element)
    (makes : (past : List OfCard) → Keeps heard.element past heard.pieces → made ≡ answer_to heard.element past (message_of message))
    (keeps : (past : List OfCard) → Keeps heard.element past heard.pieces → Keeps heard.element (message_of message ∷ past) pushed.pieces) where
  abbrev before : LaneValue D
  before = lane_of site journal is_stale heard moment name end opened lost

  abbrev between : LaneValue D
  between = lane_of site journal is_stale pushed moment name end opened lost

  makes_it : (past : List OfCard) → Keeps RESPONSE past heard.pieces → made ≡ answer_to RESPONSE past (message_of message)
  makes_it = subst (λ (n : ℕ). (past : List OfCard) → Keeps n past heard.pieces → made ≡ answer_to n past (message_of message)) of.element makes

  keeps_it : (past : List OfCard) → Keeps RESPONSE past heard.pieces → Keeps RESPONSE (message_of message ∷ past) pushed.pieces
  keeps_it = subst (λ (n : ℕ). (past : List OfCard) → Keeps n past heard.pieces → Keeps n (message_of message ∷ past) pushed.pieces) of.element keeps

  -- its packet was taken
  pub heard_whole : (new : LaneValue D) (packet : List ℕ) (result : Result Poll LaneErr) → made ≡ push.Whole packet → IsTaken between new by message.0 (push.Whole packet) result
      → (Tells told site → SettlingRun told between new (settled_by by between message.0 (push.Whole packet))) → IsHeard told old new by message result
  heard_whole new packet result is taken run =
      subst (λ (v : LaneValue D). IsHeard told v new by message result) view_is
      (record {
        push = push.Whole packet;
        makes = λ past kept. sym is ∙ makes_it past kept;
        keeps = λ past kept. subst (λ (p : Pile). Keeps RESPONSE (message_of message ∷ past) p) (sym taken.rest.pieces) (keeps_it past kept);
        answer = taken.answer;
        left = taken.left;
        fits = taken.fits;
        rest = record { element = taken.rest.element ∙ element; lane = taken.rest.lane; lanes = taken.rest.lanes; settings = record { moment = taken.rest.settings.moment; name = taken.rest.settings.name; end = taken.rest.settings.end; opened = taken.rest.settings.opened } };
        run = run;
      })

  -- nothing was
  pub heard_idle : (answer : Poll) → answer ≡ answer_to_push journal.entries message.0 made → due_by (answer_to_push journal.entries message.0 made) (response_by journal.entries message.0 made) ≡ None
      → IsHeard told old between by message (Ok answer)
  heard_idle answer says none =
      let fresh : is_stale ≡ false = ap (λ (v : LaneValue D). v.is_stale) view_is ∙ live in
      let taken : IsTaken before before by message.0 made (Ok answer) = taken_idle before by message.0 made answer fresh says none in
      subst (λ (v : LaneValue D). IsHeard told v between by message (Ok answer)) view_is
      (record {
        push = made;
        makes = makes_it;
        keeps = keeps_it;
        answer = taken.answer;
        left = taken.left;
        fits = taken.fits;
        rest = record { element = element; lane = refl; lanes = refl; settings = record { moment = refl; name = refl; end = refl; opened = refl } };
        run = λ tells. run_idle told before (settled_by by before message.0 made) of fresh tells;
      })
