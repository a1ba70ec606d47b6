-- A law of a card's store, which other crates cite: whatever it stands for is a card of the pure machine, whose lines say
-- what a line may, and whose counters rise.
use Rattle.std.specs.Prelude.{◌≡◌, ◌≢◌, ◌⊎◌, ℕ, ◌+◌, ◌<◌, ◌≤◌, ◌==◌, ◌&&◌, ◌||◌, nat_le, nat_lt, cond, not, Bool, true, false, is_some, is_none, IfSome, unwrap_or, Option, Some, None, List, [], ◌∷◌, ◌++◌, length, reverse, refl}
use Rattle.std.specs.Option.{option_or, option_and_then}
use Rattle.std.specs.Str.{bytes_eq}
use Rattle.std.proofs.Common.{inl, inr, sym, ◌∙◌, ap, subst, arith}
use Rattle.std.proofs.lemmas.Bool.{ltb-true}
use Rattle.std.proofs.lemmas.List.{reverse-append, reverse-reverse}
use Rattle.apdu_codec.specs.Reply.{Answer}
use Rattle.ota_core.specs.Keyset.{Keyset, is_same_keyset}
use Rattle.ota_core.specs.History.{first_some}
use Rattle.ota_core.specs.HistoryLaws.{is_same_keyset-true, is_same_keyset-refl}
use Rattle.ota_core.specs.declared.cards.CardFacts.{CardFacts}
use Rattle.script_engine.specs.Part.{part_of}
use Rattle.script_engine.specs.Run.{Progress, runs}
use Rattle.script_engine.specs.Step.{script_step}
use Rattle.script_engine.specs.declared.card.CardState.{CardState}
use Rattle.script_engine.specs.declared.part.Part.{Part}
use Rattle.script_engine.specs.declared.part.Part.TheVariants.{Files, Applets}
use Rattle.world_core.specs.Card.{base_of, counter_of, line_status, IsRisingPast, IsLine, IsCardState}
use Rattle.world_core.specs.MemberLaws.{In-reverse}
use Rattle.world_core.specs.Members.{In}
use Rattle.world_core.specs.declared.lines.Line.{Line}
use Rattle.card_store.specs.Content.{Content, issued, keyset_named, keyset_of, stored, may_store, script_part, unrun_line, ran_line, left_of, took, took_for, response_if_ended, with_last, executed_one, ran_on, after_command}
use Rattle.card_store.specs.Laws.{with_last-append}
use Rattle.card_store.specs.Parts.{StorePart, part_in}
use Rattle.card_store.specs.Parts.StorePart.{UsesCounter, RunsCommand}
use Rattle.card_store.specs.Replay.{after_part, after_step, replayed_from, replayed}
use Rattle.card_store.specs.declared.scripts.Script.{Script}

-- the newest line is of a script that is run
abbrev pub IsNewestRun : List Line → Type 0
IsNewestRun [] = ⊥
IsNewestRun (line ∷ older) = line.status ≡ 0x00

-- the lines, newest first, and the script of which a command is left
pub record IsSoundPast (facts : CardFacts) (past : List Line) (script : Option Script) : Type 0 where
  pub lines : (line : Line) → In line past → IsLine facts line
  pub rising : IsRisingPast past
  pub running : IfSome script (λ _. IsNewestRun past)

abbrev pub IsSound : CardFacts → Content → Type 0
IsSound facts content = IsSoundPast facts (reverse content.log) content.script

-- ---- counters

-- the counter of the newest line of a keyset, or another
abbrev stored_past : ℕ → Keyset → List Line → ℕ
stored_past base keyset past = unwrap_or (first_some (counter_of keyset) past) base

-- no line of the keyset has a higher counter than its newest
highest : (base : ℕ) (keyset : Keyset) (past : List Line) (other : Line) → IsRisingPast past → In other past → other.keyset ≡ keyset → other.counter ≤ stored_past base keyset past
highest base keyset [] other rising there same = absurd there
highest base keyset (line ∷ older) other rising there same =
    elim (is_same_keyset line.keyset keyset) as (λ b. is_same_keyset line.keyset keyset ≡ b → other.counter ≤ unwrap_or (option_or (cond b (Some line.counter) None) (first_some (counter_of keyset) older)) base) [
      | true ↦ λ is. newest (is_same_keyset-true line.keyset keyset is) there
      | false ↦ λ not_is. older_one not_is (λ among. highest base keyset older other rising.1 among same) there
    ] refl
  where
    newest : line.keyset ≡ keyset → (other ≡ line) ⊎ In other older → other.counter ≤ line.counter
    newest is (inl same_line) = omega (arith, ap (λ (l : Line). l.counter) same_line)
    newest is (inr among) = omega (arith, rising.0 other among (same ∙ sym is))

    older_one : is_same_keyset line.keyset keyset ≡ false → (In other older → other.counter ≤ stored_past base keyset older) → (other ≡ line) ⊎ In other older → other.counter ≤ stored_past base keyset older
    older_one not_is others (inl same_line) =
        absurd (apart (sym (subst (λ (k : Keyset). is_same_keyset k keyset ≡ true) (sym same ∙ ap (λ (l : Line). l.keyset) same_line) (is_same_keyset-refl keyset)) ∙ not_is))
      where
        apart : true ≡ false → ⊥
        apart e = cc
    older_one not_is others (inr among) = others among

-- it is at least the base
at_least : (facts : CardFacts) (keyset : Keyset) (past : List Line) → ((line : Line) → In line past → IsLine facts line) → base_of facts keyset ≤ stored_past (base_of facts keyset) keyset past
at_least facts keyset [] lines = omega arith
at_least facts keyset (line ∷ older) lines =
    elim (is_same_keyset line.keyset keyset) as (λ b. is_same_keyset line.keyset keyset ≡ b
    → base_of facts keyset ≤ unwrap_or (option_or (cond b (Some line.counter) None) (first_some (counter_of keyset) older)) (base_of facts keyset)) [
      | true ↦ λ is. omega (arith, subst (λ (k : Keyset). base_of facts k < line.counter) (is_same_keyset-true line.keyset keyset is) (lines line (inl refl)).above)
      | false ↦ λ not_is. at_least facts keyset older (λ l among. lines l (inr among))
    ] refl

-- ---- a line more

abbrev status_by : Bool → Bool → Bool → ℕ
status_by short files applets = cond (not (files || applets)) 0x09 (cond short 0x00 0x07)

-- a script that is run has status 00
run_status : (facts : CardFacts) (tar body : List ℕ) (part : Part) → script_part facts tar body ≡ Some part → line_status facts tar body ≡ 0x00
run_status facts tar body part is = by_tests (nat_le (length body) facts.buffer) (bytes_eq tar facts.rfm) (bytes_eq tar facts.ram) is
  where
    by_tests : (short files applets : Bool) → cond short (cond files (Some Files) (cond applets (Some Applets) None)) None ≡ Some part
        → status_by short files applets ≡ 0x00
    by_tests true true applets e = refl
    by_tests true false true e = refl
    by_tests true false false e = cc
    by_tests false files applets e = cc

-- only a script that has ended has an answer
no_answer : (next : Option ℕ) (count : ℕ) (last : Answer CardState) → is_none next ≡ false → response_if_ended next count last ≡ []
no_answer None count last e = cc
no_answer (Some at) count last e = refl

module _ (facts : CardFacts) where
  unrun_is : (kvn counter : ℕ) (tar body : List ℕ) → base_of facts (keyset_named facts kvn) < counter → IsLine facts (unrun_line facts kvn counter tar body)
  unrun_is kvn counter tar body above = record { card = refl; above = above; status = refl; unrun = λ no. (refl, refl, refl); unfinished = λ no. refl }

  ran_is : (kvn counter : ℕ) (tar body : List ℕ) (run : Progress) → base_of facts (keyset_named facts kvn) < counter → line_status facts tar body ≡ 0x00 → IsLine facts (ran_line facts kvn counter tar body run)
  ran_is kvn counter tar body run above zero_status = record {
    card = refl;
    above = above;
    status = refl;
    unrun = λ no. absurd (no zero_status);
    unfinished = λ goes. no_answer run.next run.count run.last goes;
  }

  executed_is : (line : Line) (last : Answer CardState) (next : Option ℕ) → IsLine facts line → line.status ≡ 0x00 → IsLine facts (executed_one last next line)
  executed_is line last next is zero_status = record {
    card = is.card;
    above = is.above;
    status = is.status;
    unrun = λ no. absurd (no zero_status);
    unfinished = λ goes. no_answer next (line.executed + 1) last goes;
  }

  with_line : (line : Line) (older : List Line) (script : Option Script) → IsLine facts line → ((other : Line) → In other older → IsLine facts other)
      → ((other : Line) → In other older → other.keyset ≡ line.keyset → other.counter < line.counter) → IsRisingPast older → IfSome script (λ _. line.status ≡ 0x00) → IsSoundPast facts (line ∷ older) script
  with_line line older script is others above rising running = record { lines = among; rising = (above, rising); running = running }
    where
      among : (other : Line) → (other ≡ line) ⊎ In other older → IsLine facts other
      among other (inl same) = subst (IsLine facts) (sym same) is
      among other (inr there) = others other there

  -- ---- a counter that is stored

  always : {X : Type 0} (o : Option X) (P : Type 0) → P → IfSome o (λ _. P)
  always None P p = tt
  always (Some x) P p = p

  reverse-push : (log : List Line) (line : Line) → reverse (log ++ line ∷ []) ≡ line ∷ reverse log
  reverse-push log line = reverse-append log (line ∷ [])

  took_sound : (content : Content) (kvn counter : ℕ) (tar body : List ℕ) → IsSound facts content → stored facts content kvn < counter → IsSound facts (took facts content kvn counter tar body 0)
  took_sound content kvn counter tar body sound above = by_part (script_part facts tar body) refl
    where
      over : base_of facts (keyset_named facts kvn) < counter
      over = omega (arith, above, at_least facts (keyset_named facts kvn) (reverse content.log) sound.lines)

      rises : (other : Line) → In other (reverse content.log) → other.keyset ≡ keyset_named facts kvn → other.counter < counter
      rises other there same = omega (arith, above, highest (base_of facts (keyset_named facts kvn)) (keyset_named facts kvn) (reverse content.log) other sound.rising there same)

      by_part : (part : Option Part) → script_part facts tar body ≡ part → IsSound facts (took_for facts content kvn counter tar body 0 part)
      by_part None is =
          let line = unrun_line facts kvn counter tar body in
          subst (λ (past : List Line). IsSoundPast facts past None) (sym (reverse-push content.log line))
          (with_line line (reverse content.log) None (unrun_is kvn counter tar body over) sound.lines rises sound.rising tt)
      by_part (Some part) is =
          let run = runs content.card part body 0 in
          let line = ran_line facts kvn counter tar body run in
          let zero_status = run_status facts tar body part is in
          let script = left_of part body run.next in
          subst (λ (past : List Line). IsSoundPast facts past script) (sym (reverse-push content.log line))
          (with_line line (reverse content.log) script (ran_is kvn counter tar body run over zero_status) sound.lines rises sound.rising (always script (line_status facts tar body ≡ 0x00) zero_status))

  -- ---- a command

  reverse-with_last : (f : Line → Line) (log : List Line) (line : Line) (older : List Line) → reverse log ≡ line ∷ older → reverse (with_last f log) ≡ f line ∷ older
  reverse-with_last f log line older is =
      let log_is : log ≡ reverse older ++ line ∷ [] = sym (reverse-reverse log) ∙ ap reverse is ∙ reverse-append (line ∷ []) older in
      ap (λ (l : List Line). reverse (with_last f l)) log_is
      ∙ ap reverse (with_last-append f (reverse older) line)
      ∙ reverse-push (reverse older) (f line)
      ∙ ap (λ (l : List Line). f line ∷ l) (reverse-reverse older)

  command_sound : (content : Content) (script : Script) (step : Answer CardState × Option ℕ) (past : List Line) → reverse content.log ≡ past → IsSoundPast facts past (Some script)
      → IsSound facts (ran_on content script step)
  command_sound content script step [] is sound = absurd sound.running
  command_sound content script step (line ∷ older) is sound =
      let f = executed_one step.0 step.1 in
      let left = left_of script.part script.body step.1 in
      subst (λ (past : List Line). IsSoundPast facts past left) (sym (reverse-with_last f content.log line older is))
      (with_line (f line) older left (executed_is line step.0 step.1 (sound.lines line (inl refl)) sound.running) (λ other there. sound.lines other (inr there)) sound.rising.0 sound.rising.1
      (always left (line.status ≡ 0x00) sound.running))

  -- ---- the parts

  some_same : (a b : Content) → Some a ≡ Some b → a ≡ b
  some_same a b e = cc

  both_true : (a b : Bool) → (a && b) ≡ true → b ≡ true
  both_true true b e = e
  both_true false b e = cc

  step_sound : (content next : Content) (said : StorePart) → IsSound facts content → after_step facts content said ≡ Some next → IsSound facts next
  step_sound content next (UsesCounter kvn counter tar body) sound leads =
      elim (may_store facts content kvn counter) as (λ b. may_store facts content kvn counter ≡ b → cond b (Some (took facts content kvn counter tar body 0)) None ≡ Some next → IsSound facts next) [
        | true ↦ λ may e.
            let above = ltb-true (stored facts content kvn) counter (both_true (is_some (keyset_of facts content.card kvn)) (nat_lt (stored facts content kvn) counter) may) in
            subst (IsSound facts) (some_same (took facts content kvn counter tar body 0) next e) (took_sound content kvn counter tar body sound above)
        | false ↦ λ may e. cc
      ] refl leads
  step_sound content next RunsCommand sound leads = by_script content.script refl leads
    where
      run_of : Script → Content
      run_of script = ran_on content script (script_step content.card script.part script.body script.next)

      by_script : (script : Option Script) → content.script ≡ script → after_command (record content { script = script }) ≡ Some next → IsSound facts next
      by_script None is e = cc
      by_script (Some script) is e =
          subst (IsSound facts) (some_same (ran_on content script (script_step content.card script.part script.body script.next)) next e)
          (command_sound content script (script_step content.card script.part script.body script.next) (reverse content.log) refl (subst (IsSoundPast facts (reverse content.log)) is sound))

  part_sound : (content next : Content) (part : List ℕ) → IsSound facts content → after_part facts content part ≡ Some next → IsSound facts next
  unfolding after_part
  part_sound content next part sound leads =
      elim (part_in part) as (λ said. option_and_then (after_step facts content) said ≡ Some next → IsSound facts next) [
        | None ↦ λ e. cc
        | Some said ↦ λ e. step_sound content next said sound e
      ] leads

  parts_sound : (start content : Content) (parts : List (List ℕ)) → IsSound facts start → replayed_from facts start parts ≡ Some content → IsSound facts content
  parts_sound start content [] sound is = subst (IsSound facts) (some_same start content is) sound
  parts_sound start content (part ∷ parts) sound is =
      elim (after_part facts start part) as (λ next. after_part facts start part ≡ next → option_and_then (λ (c : Content). replayed_from facts c parts) next ≡ Some content → IsSound facts content) [
        | None ↦ λ leads e. cc
        | Some next ↦ λ leads e. parts_sound next content parts (part_sound start next part sound leads) e
      ] refl is

-- What a store stands for is a card of the pure machine.
abbrev pub CardsAreSound : Type 0
CardsAreSound = (facts : CardFacts) (parts : List (List ℕ)) (content : Content) → replayed facts parts ≡ Some content → IsCardState (record { facts = facts; log = content.log })

pub cards_are_sound : CardsAreSound
cards_are_sound facts parts content is =
    let sound = parts_sound facts (issued facts) content parts (record { lines = λ line there. absurd there; rising = tt; running = tt }) is in
    record { lines = λ line there. sound.lines line (In-reverse line content.log there); rising = sound.rising }
