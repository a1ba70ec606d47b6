-- What taking a command leaves, and how it is answered.
use Rattle.std.proofs.Common.{◌≡◌, ◌≢◌, ◌⊎◌, inl, inr, ℕ, zero, suc, ◌+◌, ◌*◌, ◌-◌, ◌==◌, Bool, true, false, not, ◌||◌, cond, Option, Some, None, List, [], ◌∷◌, ◌++◌, length, map, nat_le, Err, refl, sym, ap, ◌∙◌, subst, arith}
use Rattle.std.specs.Prelude.{slice_get}
use Rattle.std.specs.Str.{bytes_eq}
use Rattle.std.specs.Option.{option_map_or}
use Rattle.std.proofs.lemmas.Bool.Decides.{nat_tests}
use Rattle.std.proofs.lemmas.List.{length-append, map_push}
use Rattle.aes_modes.specs.KeyPair.{KeyPair}
use Rattle.apdu_codec.specs.Compact.{compact_response_of}
use Rattle.card_store.specs.Content.{Content, script_part, took_for}
use Rattle.card_store.specs.Parts.{store_head}
use Rattle.card_store.specs.Replay.{Holds}
use Rattle.card_store.specs.Store.{StoreValue, StandsFor, StoreErrCause, AddTicks, CounterAnswer, Fits, UnlessWritten, card_line}
use Rattle.card_store.specs.declared.card_lines.CardLine.{CardLine}
use Rattle.card_store.specs.declared.store_errors.StoreErr.{StoreErr}
use Rattle.card_store.specs.declared.store_errors.StoreErr.TheVariants as store_err
use Rattle.command_packet.specs.declared.opening.Command.{Command}
use Rattle.disk_model.specs.Counts.{Counts}
use Rattle.disk_model.specs.Disk.{Meaning, Tells, DiskRun, image_now}
use Rattle.disk_model.specs.Runs.{joined, weaker, left_now}
use Rattle.disk_model.specs.declared.faults.DiskFault.TheVariants as fault
use Rattle.gate_log.specs.Reading.{parts_of}
use Rattle.ota_core.specs.declared.cards.CardFacts.{CardFacts}
use Rattle.script_engine.specs.declared.part.Part.{Part}
use Rattle.script_engine.specs.declared.part.Part.TheVariants.{Files, Applets}
use Rattle.script_engine.specs.declared.ran.Ran.{Ran}
use Rattle.world_core.specs.declared.lines.Line.{Line}
use Rattle.receiving_entity.specs.Answer.{secured_answer}
use Rattle.receiving_entity.specs.Receiving.{HasCalled, IsOnTheWay, Reacts}
use Rattle.receiving_entity.specs.Receiving.Reaction.{TakesCommand}
use Rattle.receiving_entity.specs.Running.{HasFinished, HasHalted, HasRun, HoldsSome, IsWantOrCut, last_status_of, response_to}
use Rattle.receiving_entity.specs.Stops.{error_of, is_cut, stop_by}
use Rattle.receiving_entity.specs.Taking.{HasAnswered, HasStopped, HasTaken, IsStepOf, StopTicks, line_of, line_by, taken}
use Rattle.receiving_entity.specs.declared.card_errors.CardErr.{CardErr}
use Rattle.receiving_entity.specs.declared.card_errors.CardErr.TheVariants as card_err
use Rattle.receiving_entity.specs.declared.stops.Stop.{Stop}

-- ---- images

-- a store that is ready is held by each image of its disk
pub holds_now : {D B C : Type 0} (told : Meaning D B C) (store : StoreValue D) (content : Content) → StandsFor told store content → store.ready ≡ true → Tells told store.disk
    → (image : List ℕ) → image_now told store.disk image → Holds store.facts content image
holds_now told store content stands ready tells image is =
    let kept = stands.kept ready tells in
    record { parts = kept.parts; opens = ([], ap (parts_of store_head) (kept.open_log.only image is) ∙ kept.opens); replays = kept.replays }

-- ---- the last line

last_of : (lines : List CardLine) (line : CardLine) → slice_get (lines ++ line ∷ []) (length (lines ++ line ∷ []) - 1) ≡ Some line
last_of lines line =
    let before : length (lines ++ line ∷ []) - 1 ≡ length lines = omega (arith, length-append lines (line ∷ [])) in
    ap (slice_get (lines ++ line ∷ [])) before ∙ at_end lines
  where
    at_end : (xs : List CardLine) → slice_get (xs ++ line ∷ []) (length xs) ≡ Some line
    at_end [] = refl
    at_end (x ∷ xs) = at_end xs

pub last_status : (log : List Line) (line : Line) → last_status_of (map card_line (log ++ line ∷ [])) ≡ line.status
last_status log line =
    ap last_status_of (map_push card_line log line)
    ∙ ap (λ o. option_map_or (λ (l : CardLine). l.status) o 0) (last_of (map card_line log) (card_line line))

module _ (facts : CardFacts) (content : Content) (command : Command) (count : ℕ) where
  log_by : (o : Option Part) → (took_for facts content command.kvn command.counter command.tar command.body count o).log ≡ content.log ++ line_by facts content.card command count o ∷ []
  log_by None = refl
  log_by (Some part) = refl

  pub log_of : (taken facts content command count).log ≡ content.log ++ line_of facts content command count ∷ []
  log_of = log_by (script_part facts command.tar command.body)

  run_status : (rfm ram short : Bool) (part : Part) → cond short (cond rfm (Some Files) (cond ram (Some Applets) None)) None ≡ Some part
      → ◌≡◌ {A = ℕ} (cond (not (rfm || ram)) 0x09 (cond short 0x00 0x07)) 0x00
  run_status true ram true part e = refl
  run_status false true true part e = refl
  run_status false false true part e = cc
  run_status rfm ram false part e = cc

  unanswered_by : (o : Option Part) → script_part facts command.tar command.body ≡ o → (line_by facts content.card command count o).status ≢ 0x00 → (line_by facts content.card command count o).answer ≡ []
  unanswered_by None e other = refl
  unanswered_by (Some part) e other =
      absurd (other (run_status (bytes_eq command.tar facts.rfm) (bytes_eq command.tar facts.ram) (nat_le (length command.body) facts.buffer) part e))

  pub unanswered : (line_of facts content command count).status ≢ 0x00 → (line_of facts content command count).answer ≡ []
  unanswered other = unanswered_by (script_part facts command.tar command.body) refl other

-- the data of the answer are those of the line
pub response_is : (status : ℕ) (ran : Ran) (answer : List ℕ) → (status ≡ 0x00 → answer ≡ compact_response_of ran.count ran.reply.sw ran.reply.out.items) → (status ≢ 0x00 → answer ≡ []) → response_to status ran ≡ answer
response_is status ran answer run other = by_zero (status == 0x00) refl
  where
    by_zero : (b : Bool) → (status == 0x00) ≡ b → cond b (compact_response_of ran.count ran.reply.sw ran.reply.out.items) [] ≡ answer
    by_zero true e = sym (run (grind (arith, nat_tests)))
    by_zero false e = sym (other (is_not status e))
      where
        is_not : (n : ℕ) → (n == 0x00) ≡ false → n ≢ 0x00
        is_not zero e = λ z. cc
        is_not (suc n) e = λ z. absurd (omega (arith, z))

module _ {D B C : Type 0} (told : Meaning D B C) (old new : StoreValue D) (content : Content) (command : Command) (facts : new.facts ≡ old.facts) (ready : new.ready ≡ true) (tells : told.tells new.disk ≡ told.tells old.disk) (ran : Ran)
    (run : HasRun told old new content command ran) where
  abbrev line : Line
  line = line_of old.facts content command ran.count

  pub status_is : last_status_of new.shown.lines ≡ (line_of old.facts content command ran.count).status
  status_is =
      ap last_status_of (run.stands.shows.lines ∙ ap (λ (c : Content). map card_line c.log) run.has_taken.is ∙ ap (map card_line) (log_of old.facts content command ran.count))
      ∙ last_status content.log line

  pub finished : (keys : KeyPair) (made : List (List ℕ)) (status : ℕ) (octets : List ℕ) → status ≡ last_status_of new.shown.lines → octets ≡ response_to status ran → made ≡ secured_answer keys command status octets
      → HasFinished told old new content command keys made
  finished keys made status octets is are answer =
      let s : status ≡ line.status = is ∙ status_is in
      let o : octets ≡ line.answer =
      are ∙ response_is status ran line.answer (λ zero. run.response (sym s ∙ zero)) (λ other. unanswered old.facts content command ran.count (λ zero. other (s ∙ zero))) in record {
        executed = ran.count;
        after = run.after;
        has_taken = run.has_taken;
        stands = run.stands;
        durable = λ t image is. subst (λ f. Holds f run.after image) facts (holds_now told new run.after run.stands ready (tells ∙ t) image is);
        clock = run.clock;
        size = run.size;
        answer = answer ∙ (λ i. secured_answer keys command (s i) (o i));
      }

  -- memory was wanting for the answer
  pub unanswered_halt : HasHalted told old new content command card_err.Memory
  unanswered_halt = record {
    count = ran.count;
    within = run.has_taken.count;
    clock = λ t. (omega (arith, run.clock t), omega (arith, run.clock t));
    left = λ t image is. inl (
        subst (λ f. Holds f (taken old.facts content command ran.count) image) facts
        (subst (λ (c : Content). Holds new.facts c image) run.has_taken.is (holds_now told new run.after run.stands ready (tells ∙ t) image is))
        );
  }

-- ---- what the counter leaves

module _ {D B C : Type 0} (told : Meaning D B C) (old new : StoreValue D) (content : Content) (keys : KeyPair) (command : Command) where
  -- before the counter or behind it
  abbrev pub IsAround : List ℕ → Type 0
  IsAround image = Holds old.facts content image ⊎ Holds old.facts (taken old.facts content command 0) image

  pub around_way : (image : List ℕ) → IsAround image → IsOnTheWay old.facts content (TakesCommand keys command) image
  around_way image (inl holds) = (0, holds)
  around_way image (inr holds) = (1, holds)

  module _ (run : Tells told old.disk → DiskRun told old.disk new.disk IsAround) where
    stopped_first : (error : CardErr) → Fits old.length command.body → (Tells told old.disk → StopTicks (told.clock old.disk + 4 * 0) (told.clock new.disk) error) → HasStopped told old new content command error
    stopped_first error fits ticks = record {
      fits = fits;
      steps = 0;
      within = tt;
      clock = ticks;
      left = λ t image is. left_now told old.disk new.disk IsAround (run t) image is;
    }

    by_error : (error : StoreErr) → CounterAnswer old.length command.body (Err error) → UnlessWritten {T = Unit {0}} (Err error) (new ≡ old)
        → (Tells told old.disk → AddTicks {T = Unit {0}} (told.clock old.disk) (told.clock new.disk) (Err error))
        → Reacts told old new content (TakesCommand keys command) (is_cut (stop_by error)) (Err (error_of (stop_by error)))
    by_error store_err.Memory answer same ticks = same
    by_error (store_err.DiskFault fault.Failed) answer same ticks = stopped_first card_err.PowerCut answer (λ t. (omega (arith, (ticks t).0), omega (arith, (ticks t).1)))
    by_error (store_err.DiskFault fault.Memory) answer same ticks = stopped_first card_err.Memory answer (λ t. (omega (arith, (ticks t).0), omega (arith, (ticks t).1)))
    by_error (store_err.Full at need) answer same ticks = (record { needs = answer.0; above = answer.1; length = answer.2 }, same)
    by_error store_err.NotALog answer same ticks = absurd answer
    by_error (store_err.OtherHead rest) answer same ticks = absurd answer
    by_error (store_err.Damaged number) answer same ticks = absurd answer

    pub unstored : (error : StoreErr) (stop : Stop) → stop ≡ stop_by error → CounterAnswer old.length command.body (Err error) → UnlessWritten {T = Unit {0}} (Err error) (new ≡ old)
        → (Tells told old.disk → AddTicks {T = Unit {0}} (told.clock old.disk) (told.clock new.disk) (Err error))
        → Reacts told old new content (TakesCommand keys command) (is_cut stop) (Err (error_of stop))
    unstored error stop is answer same ticks =
        subst (λ s. Reacts told old new content (TakesCommand keys command) (is_cut s) (Err (error_of s))) (sym is) (by_error error answer same ticks)

    pub way_first : Tells told old.disk → DiskRun told old.disk new.disk (IsOnTheWay old.facts content (TakesCommand keys command))
    way_first t = weaker told old.disk new.disk IsAround (IsOnTheWay old.facts content (TakesCommand keys command)) (run t) around_way

-- ---- the whole command

module _ {D B C : Type 0} (told : Meaning D B C) (old mid new : StoreValue D) (content : Content) (keys : KeyPair) (command : Command)
    (facts : mid.facts ≡ old.facts) (fits : Fits old.length command.body) (size : mid.length ≡ old.length + 19 + length command.body) (ticks : Tells told old.disk → told.clock mid.disk ≡ told.clock old.disk + 4) (tells : told.tells mid.disk ≡ told.tells old.disk) where
  pub answered_whole : (made : List (List ℕ)) → HasFinished told mid new content command keys made → HasAnswered told old new content command keys made
  answered_whole made run = record {
    fits = fits;
    executed = run.executed;
    after = run.after;
    has_taken = subst (λ f. HasTaken f content command run.executed run.after) facts run.has_taken;
    stands = run.stands;
    durable = λ t image is. subst (λ f. Holds f run.after image) facts (run.durable (tells ∙ t) image is);
    clock = λ t. omega (arith, run.clock (tells ∙ t), ticks t);
    size = omega (arith, run.size, size);
    answer = subst (λ f. made ≡ secured_answer keys command (line_of f content command run.executed).status (line_of f content command run.executed).answer) facts run.answer;
  }

  later_ticks : (error : CardErr) → IsWantOrCut error → (from to now : ℕ) → from ≡ to → StopTicks from now error → StopTicks to now error
  later_ticks error may from to now same ticks = subst (λ n. StopTicks n now error) same ticks

  stopped_whole : (error : CardErr) → IsWantOrCut error → HasHalted told mid new content command error → HasStopped told old new content command error
  stopped_whole error may halt = record {
    fits = fits;
    steps = suc halt.count;
    within = subst (λ f. IsStepOf f content command (suc halt.count) error) facts halt.within;
    clock = λ t.
        later_ticks error may (told.clock mid.disk + 4 * halt.count) (told.clock old.disk + 4 * suc halt.count) (told.clock new.disk) (omega (arith, ticks t)) (halt.clock (tells ∙ t));
    left = λ t image is.
        subst (λ f. Holds f (taken f content command halt.count) image ⊎ Holds f (taken f content command (suc halt.count)) image) facts
        (halt.left (tells ∙ t) image is);
  }

  pub cut_whole : (error : CardErr) → IsWantOrCut error → HasHalted told mid new content command error
      → Reacts told old new content (TakesCommand keys command) true (Err error)
  cut_whole card_err.Memory may halt = stopped_whole card_err.Memory may halt
  cut_whole card_err.PowerCut may halt = stopped_whole card_err.PowerCut may halt
  cut_whole (card_err.Full at need) may halt = absurd may
  cut_whole card_err.Off may halt = absurd may

  pub whole_run : (Tells told old.disk → DiskRun told old.disk mid.disk (IsAround told old mid content keys command)) → (Tells told mid.disk → DiskRun told mid.disk new.disk (HoldsSome mid content command))
      → Tells told old.disk → DiskRun told old.disk new.disk (IsOnTheWay old.facts content (TakesCommand keys command))
  whole_run first second t =
      joined told old.disk mid.disk new.disk (IsOnTheWay old.facts content (TakesCommand keys command))
      (weaker told old.disk mid.disk (IsAround told old mid content keys command) (IsOnTheWay old.facts content (TakesCommand keys command)) (first t) (around_way told old mid content keys command))
      (weaker told mid.disk new.disk (HoldsSome mid content command) (IsOnTheWay old.facts content (TakesCommand keys command)) (second (tells ∙ t)) later)
    where
      later : (image : List ℕ) → HoldsSome mid content command image → IsOnTheWay old.facts content (TakesCommand keys command) image
      later image (count, holds) = (suc count, subst (λ f. Holds f (taken f content command count) image) facts holds)

-- ---- the first device call

pub called_first : (clock_before clock_now : ℕ) (before now : Counts) (error : StoreErr) (stop : Stop) → stop ≡ stop_by error → AddTicks {T = Unit {0}} clock_before clock_now (Err error)
    → StoreErrCause before now error → is_cut stop ≡ true → HasCalled clock_before clock_now before now
called_first clock_before clock_now before now error stop is ticks cause off = by_cause error ticks cause (ap is_cut (sym is) ∙ off)
  where
    by_cause : (error : StoreErr) → AddTicks {T = Unit {0}} clock_before clock_now (Err error) → StoreErrCause before now error → is_cut (stop_by error) ≡ true → HasCalled clock_before clock_now before now
    by_cause store_err.Memory ticks cause off = cc
    by_cause (store_err.DiskFault fault.Failed) ticks cause off = inl ticks.0
    by_cause (store_err.DiskFault fault.Memory) ticks cause off = inr cause
    by_cause (store_err.Full at need) ticks cause off = cc
    by_cause store_err.NotALog ticks cause off = cc
    by_cause (store_err.OtherHead rest) ticks cause off = cc
    by_cause (store_err.Damaged number) ticks cause off = cc

module _ {D B C : Type 0} (told : Meaning D B C) (old mid new : StoreValue D) (content : Content) (command : Command) (ticks : Tells told old.disk → told.clock mid.disk ≡ told.clock old.disk + 4)
    (tells : told.tells mid.disk ≡ told.tells old.disk) (before now : Counts) where
  pub called_later : (error : CardErr) → IsWantOrCut error → HasHalted told mid new content command error → Tells told old.disk → HasCalled (told.clock old.disk) (told.clock new.disk) before now
  called_later card_err.Memory may halt t = inl (omega (arith, (halt.clock (tells ∙ t)).0, ticks t))
  called_later card_err.PowerCut may halt t = inl (omega (arith, (halt.clock (tells ∙ t)).0, ticks t))
  called_later (card_err.Full at need) may halt t = absurd may
  called_later card_err.Off may halt t = absurd may
