-- How the script of a stored command runs on, command by command.
use Rattle.std.proofs.Common.{◌≡◌, ◌⊎◌, inl, inr, ℕ, suc, ◌+◌, ◌*◌, Bool, true, false, is_some, not, ◌||◌, cond, Option, Some, None, List, length, Err, nat_le, refl, sym, ap, ◌∙◌, subst, arith, add-one}
use Rattle.std.specs.Str.{bytes_eq}
use Rattle.apdu_codec.specs.Compact.{compact_response_of}
use Rattle.apdu_codec.specs.Reply.{answered}
use Rattle.apdu_codec.specs.declared.reply.Reply.{Reply}
use Rattle.card_store.specs.Content.{Content, took_for, script_part, left_of, response_if_ended, after_command}
use Rattle.card_store.specs.Laws.{took_on}
use Rattle.card_store.specs.Replay.{Holds, IsAfterCommand, HoldsAfterCommand}
use Rattle.card_store.specs.Store.{StoreValue, StandsFor, AddTicks, IsWantOrFault}
use Rattle.card_store.specs.declared.store_errors.StoreErr.{StoreErr}
use Rattle.card_store.specs.declared.store_errors.StoreErr.TheVariants as store_err
use Rattle.disk_model.specs.declared.faults.DiskFault.TheVariants as fault
use Rattle.receiving_entity.specs.Stops.{card_error_of}
use Rattle.card_store.specs.declared.scripts.Script.{Script}
use Rattle.command_packet.specs.declared.opening.Command.{Command}
use Rattle.disk_model.specs.Disk.{Meaning, Tells, DiskRun, image_now}
use Rattle.disk_model.specs.Runs.{joined, weaker, left_now}
use Rattle.ota_core.specs.declared.cards.CardFacts.{CardFacts}
use Rattle.script_engine.specs.Run.{Progress, runs, advanced_from}
use Rattle.script_engine.specs.Step.{script_step}
use Rattle.script_engine.specs.declared.card.CardState.{CardState}
use Rattle.script_engine.specs.declared.part.Part.{Part}
use Rattle.script_engine.specs.declared.part.Part.TheVariants.{Files, Applets}
use Rattle.script_engine.specs.declared.ran.Ran.{Ran}
use Rattle.script_engine.specs.declared.step.Step.{Step}
use Rattle.world_core.specs.Card.{line_status}
use Rattle.receiving_entity.specs.Running.{HasRun, HoldsSome}
use Rattle.receiving_entity.specs.Taking.{IsStepOf, StopTicks, line_by, line_of, taken}

-- what was counted and answered is the script's progress
pub record IsProgress (run : Progress) (count : ℕ) (reply : Reply) : Type 0 where
  pub counted : run.count ≡ count
  pub sw : run.last.sw ≡ reply.sw
  pub out : run.last.out ≡ reply.out.items

-- so many commands were run
pub record IsRunOn {D B C : Type 0} (told : Meaning D B C) (old new : StoreValue D) (content : Content) (command : Command) (count : ℕ) (reply : Reply) : Type 0 where
  pub stands : StandsFor told new (taken old.facts content command count)
  pub progress : (part : Part) → script_part old.facts command.tar command.body ≡ Some part → IsProgress (runs content.card part command.body count) count reply
  pub unrun : script_part old.facts command.tar command.body ≡ None → count ≡ 0
  pub clock : Tells told old.disk → told.clock new.disk ≡ told.clock old.disk + 4 * count
  pub run : Tells told old.disk → DiskRun told old.disk new.disk (HoldsSome old content command)

some_same : {X : Type 0} (a b : X) → Some a ≡ Some b → a ≡ b
some_same a b e = cc

-- ---- one command more

module _ (facts : CardFacts) (content : Content) (command : Command) (count : ℕ) (script : Script) (card after : CardState) (before reply : Reply) (next : Option ℕ)
    (is : (answered after reply, next) ≡ script_step card script.part script.body script.next) where
  advances : (part : Part) (run : Progress) (at : Option ℕ) → left_of part command.body at ≡ Some script → card ≡ run.last.after → IsProgress run count before
      → IsProgress (advanced_from part command.body run at) (suc count) reply
  advances part run None left same was = cc
  advances part run (Some at) left same was =
      let it : script ≡ record { part = part; body = command.body; next = at } = sym (some_same (record { part = part; body = command.body; next = at }) script left) in
      let made : script_step run.last.after part command.body at ≡ (answered after reply, next) =
      sym (is ∙ (λ i. script_step (same i) (it i).part (it i).body (it i).next)) in
      record { counted = ap suc was.counted; sw = ap (λ p. p.0.sw) made; out = ap (λ p. p.0.out) made }

  progress_on : (o : Option Part) → (took_for facts content command.kvn command.counter command.tar command.body count o).script ≡ Some script
      → card ≡ (took_for facts content command.kvn command.counter command.tar command.body count o).card
      → (part : Part) → o ≡ Some part → IsProgress (runs content.card part command.body count) count before
      → IsProgress (runs content.card part command.body (suc count)) (suc count) reply
  progress_on None left same part e was = cc
  progress_on (Some mine) left same part e was =
      let q : mine ≡ part = some_same mine part e in
      let run = runs content.card mine command.body count in
      subst (λ (x : Part). IsProgress (runs content.card x command.body (suc count)) (suc count) reply) q
      (advances mine run run.next left same (subst (λ (x : Part). IsProgress (runs content.card x command.body count) count before) (sym q) was))

-- a script that isn't run has no command left
no_script : (facts : CardFacts) (content : Content) (command : Command) (count : ℕ) (script : Script) (o : Option Part) → o ≡ None
    → (took_for facts content command.kvn command.counter command.tar command.body count o).script ≡ Some script → ⊥
no_script facts content command count script None e left = cc
no_script facts content command count script (Some part) e left = cc

-- where the next command leads
pub next_is : (facts : CardFacts) (content : Content) (command : Command) (count : ℕ) (script : Script) (next : Content)
    → (taken facts content command count).script ≡ Some script → after_command (taken facts content command count) ≡ Some next → next ≡ taken facts content command (suc count)
next_is facts content command count script next left after =
    some_same next (taken facts content command (suc count)) (sym after ∙ took_on facts content command.kvn command.counter command.tar command.body count script left)

module _ {D B C : Type 0} (told : Meaning D B C) (old mid new : StoreValue D) (content : Content) (command : Command) (count : ℕ) (before : Reply)
    (on : IsRunOn told old mid content command count before) (facts : mid.facts ≡ old.facts) (tells : told.tells mid.disk ≡ told.tells old.disk)
    (script : Script) (left : mid.shown.script ≡ Some script) where
  abbrev pub now : Content
  now = taken old.facts content command count

  now_left : now.script ≡ Some script
  now_left = sym on.stands.shows.script ∙ left

  -- an image on the way through the command holds the card before it or behind it
  pub step_holds : (image : List ℕ) → Holds mid.facts now image ⊎ HoldsAfterCommand mid.facts now image
      → Holds old.facts (taken old.facts content command count) image ⊎ Holds old.facts (taken old.facts content command (suc count)) image
  step_holds image (inl holds) = inl (subst (λ f. Holds f now image) facts holds)
  step_holds image (inr (next, after, holds)) =
      inr (subst (λ f. Holds f (taken old.facts content command (suc count)) image) facts
      (subst (λ (c : Content). Holds mid.facts c image) (next_is old.facts content command count script next now_left after) holds))

  some_holds : (image : List ℕ) → Holds old.facts (taken old.facts content command count) image ⊎ Holds old.facts (taken old.facts content command (suc count)) image
      → HoldsSome old content command image
  some_holds image (inl holds) = (count, holds)
  some_holds image (inr holds) = (suc count, holds)

  module _ (run : Tells told mid.disk → DiskRun told mid.disk new.disk (λ image. Holds mid.facts now image ⊎ HoldsAfterCommand mid.facts now image)) where
    pub run_on : Tells told old.disk → DiskRun told old.disk new.disk (HoldsSome old content command)
    run_on on_old =
        let ways : List ℕ → Type 0 = λ image. Holds mid.facts now image ⊎ HoldsAfterCommand mid.facts now image in
        joined told old.disk mid.disk new.disk (HoldsSome old content command) (on.run on_old)
        (weaker told mid.disk new.disk ways (HoldsSome old content command) (run (tells ∙ on_old)) (λ image h. some_holds image (step_holds image h)))

    pub step_left : Tells told old.disk → (image : List ℕ) → image_now told new.disk image
        → Holds old.facts (taken old.facts content command count) image ⊎ Holds old.facts (taken old.facts content command (suc count)) image
    step_left on_old image is =
        let ways : List ℕ → Type 0 = λ image. Holds mid.facts now image ⊎ HoldsAfterCommand mid.facts now image in
        step_holds image (left_now told mid.disk new.disk ways (run (tells ∙ on_old)) image is)

    pub step_on : (step : Step) → IsAfterCommand now (StandsFor told new)
        → (answered new.shown.card step.reply, step.next) ≡ script_step mid.shown.card script.part script.body script.next
        → (Tells told mid.disk → told.clock new.disk ≡ told.clock mid.disk + 4)
        → IsRunOn told old new content command (count + 1) step.reply
    step_on step (next, after, stands) is clock =
        subst (λ (n : ℕ). IsRunOn told old new content command n step.reply) (sym (add-one count)) (record {
          stands = subst (λ (c : Content). StandsFor told new c) (next_is old.facts content command count script next now_left after) stands;
          progress = λ part e.
              progress_on old.facts content command count script mid.shown.card new.shown.card before step.reply step.next is
              (script_part old.facts command.tar command.body) now_left on.stands.shows.card part e (on.progress part e);
          unrun = λ e. absurd (no_script old.facts content command count script (script_part old.facts command.tar command.body) e now_left);
          clock = λ on_old. omega (arith, clock (tells ∙ on_old), on.clock on_old);
          run = run_on;
        })

-- ---- the end of the script

-- a script that isn't run has another status than 00
unrun_status : (rfm ram short : Bool) → cond short (cond rfm (Some Files) (cond ram (Some Applets) None)) None ≡ None
    → ◌≡◌ {A = ℕ} (cond (not (rfm || ram)) 0x09 (cond short 0x00 0x07)) 0x00 → ⊥
unrun_status true ram true e is = cc
unrun_status false true true e is = cc
unrun_status false false true e is = absurd (omega (arith, is))
unrun_status true ram false e is = absurd (omega (arith, is))
unrun_status false true false e is = absurd (omega (arith, is))
unrun_status false false false e is = absurd (omega (arith, is))

module _ (facts : CardFacts) (content : Content) (command : Command) (count : ℕ) (reply : Reply) where
  no_next : (part : Part) (next : Option ℕ) → left_of part command.body next ≡ None → next ≡ None
  no_next part None e = refl
  no_next part (Some at) e = cc

  pub ended_count : (o : Option Part) → ((part : Part) → o ≡ Some part → IsProgress (runs content.card part command.body count) count reply) → (o ≡ None → count ≡ 0)
      → (line_by facts content.card command count o).executed ≡ count
  ended_count None progress unrun = sym (unrun refl)
  ended_count (Some part) progress unrun = (progress part refl).counted

  ended_response : (o : Option Part) → ((part : Part) → o ≡ Some part → IsProgress (runs content.card part command.body count) count reply)
      → (o ≡ None → line_status facts command.tar command.body ≡ 0x00 → ⊥)
      → (took_for facts content command.kvn command.counter command.tar command.body count o).script ≡ None
      → (line_by facts content.card command count o).status ≡ 0x00
      → (line_by facts content.card command count o).answer ≡ compact_response_of count reply.sw reply.out.items
  ended_response None progress runs_if ended zero = absurd (runs_if refl zero)
  ended_response (Some part) progress runs_if ended zero =
      let run = runs content.card part command.body count in
      let p = progress part refl in
      let over : run.next ≡ None = no_next part run.next ended in
      ap (λ (n : Option ℕ). response_if_ended n run.count run.last) over
      ∙ (λ i. compact_response_of (p.counted i) (p.sw i) (p.out i))

module _ {D B C : Type 0} (told : Meaning D B C) (old new : StoreValue D) (content : Content) (command : Command) (ran : Ran)
    (on : IsRunOn told old new content command ran.count ran.reply) (over : new.shown.script ≡ None) (size : new.length ≡ old.length + 10 * ran.count) where
  pub run_over : HasRun told old new content command ran
  run_over =
      let o = script_part old.facts command.tar command.body in
      let ended : (taken old.facts content command ran.count).script ≡ None = sym on.stands.shows.script ∙ over in
      record {
        after = taken old.facts content command ran.count;
        has_taken = record { is = refl; ended = ended; count = ended_count old.facts content command ran.count ran.reply o on.progress on.unrun };
        stands = on.stands;
        clock = on.clock;
        size = size;
        response = ended_response old.facts content command ran.count ran.reply o on.progress
            (unrun_status (bytes_eq command.tar old.facts.rfm) (bytes_eq command.tar old.facts.ram) (nat_le (length command.body) old.facts.buffer)) ended;
      }

-- ---- a script that is stopped

-- one command more is counted where one is left
module _ (facts : CardFacts) (content : Content) (command : Command) (count : ℕ) (reply : Reply) (script : Script) where
  count_on : (part : Part) (run : Progress) (at : Option ℕ) → left_of part command.body at ≡ Some script → run.count ≡ count → (advanced_from part command.body run at).count ≡ suc count
  count_on part run None left counted = cc
  count_on part run (Some at) left counted = ap suc counted

  next_count : (o : Option Part) → (took_for facts content command.kvn command.counter command.tar command.body count o).script ≡ Some script
      → ((part : Part) → o ≡ Some part → IsProgress (runs content.card part command.body count) count reply)
      → (line_by facts content.card command (suc count) o).executed ≡ suc count
  next_count None left progress = cc
  next_count (Some part) left progress =
      let run = runs content.card part command.body count in
      count_on part run run.next left (progress part refl).counted

-- the command that is stopped is one of the script
module _ {D B C : Type 0} (told : Meaning D B C) (old mid : StoreValue D) (content : Content) (command : Command) (count : ℕ) (reply : Reply) (on : IsRunOn told old mid content command count reply)
    (script : Script) (left : mid.shown.script ≡ Some script) where
  were_run : (line_of old.facts content command count).executed ≡ count
  were_run = ended_count old.facts content command count reply (script_part old.facts command.tar command.body) on.progress on.unrun

  pub step_of : (error : StoreErr) → IsWantOrFault error → IsStepOf old.facts content command (suc count) (card_error_of error)
  step_of store_err.Memory may = were_run
  step_of (store_err.DiskFault fault.Failed) may =
      next_count old.facts content command count reply script (script_part old.facts command.tar command.body) (sym on.stands.shows.script ∙ left) on.progress
  step_of (store_err.DiskFault fault.Memory) may = were_run
  step_of store_err.NotALog may = absurd may
  step_of (store_err.OtherHead rest) may = absurd may
  step_of (store_err.Damaged number) may = absurd may
  step_of (store_err.Full length need) may = absurd may

-- what there is
pub the_one : {X : Type 0} (o : Option X) → is_some o ≡ true → (x : X) × (o ≡ Some x)
the_one None e = cc
the_one (Some x) e = (x, refl)

pub no_one : {X : Type 0} (o : Option X) → is_some o ≡ false → o ≡ None
no_one None e = refl
no_one (Some x) e = cc

pub stop_ticks : (before now from : ℕ) (error : StoreErr) → IsWantOrFault error → before ≡ from → AddTicks {T = Step} before now (Err error) → StopTicks from now (card_error_of error)
stop_ticks before now from store_err.Memory may is ticks = (omega (arith, is, ticks), omega (arith, is, ticks))
stop_ticks before now from (store_err.DiskFault fault.Failed) may is ticks = (omega (arith, is, ticks.0), omega (arith, is, ticks.1))
stop_ticks before now from (store_err.DiskFault fault.Memory) may is ticks = (omega (arith, is, ticks.0), omega (arith, is, ticks.1))
stop_ticks before now from store_err.NotALog may is ticks = absurd may
stop_ticks before now from (store_err.OtherHead rest) may is ticks = absurd may
stop_ticks before now from (store_err.Damaged number) may is ticks = absurd may
stop_ticks before now from (store_err.Full length need) may is ticks = absurd may
