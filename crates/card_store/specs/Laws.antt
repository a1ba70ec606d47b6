-- Laws of a card's store, which other crates cite: how its parts are written, and where its commands lead.
use Rattle.std.specs.Prelude.{◌≡◌, ℕ, suc, ◌+◌, ◌/◌, ◌%◌, ◌^◌, ◌<◌, true, cond, is_none, option_map, Option, Some, None, List, [], ◌∷◌, ◌++◌, length, refl}
use Rattle.std.specs.Option.{option_and_then}
use Rattle.std.specs.Int.{w64, from_be_bytes, to_be_bytes, bytes_high_first}
use Rattle.std.proofs.Common.{sym, ◌∙◌, ap, arith, add-one}
use Rattle.std.proofs.lemmas.Nat.{from_be_bytes-to_be_bytes_8}
use Rattle.apdu_codec.specs.Reply.{Answer}
use Rattle.ota_core.specs.declared.cards.CardFacts.{CardFacts}
use Rattle.script_engine.specs.Run.{Progress, runs, advanced_from}
use Rattle.script_engine.specs.Step.{script_step}
use Rattle.script_engine.specs.declared.card.CardState.{CardState}
use Rattle.script_engine.specs.declared.part.Part.{Part}
use Rattle.world_core.specs.declared.lines.Line.{Line}
use Rattle.card_store.specs.Content.{Content, issued, may_store, script_part, ran_line, left_of, took, took_for, response_if_ended, with_last, executed_one, ran_on, after_command}
use Rattle.card_store.specs.Parts.{counter_part, command_part, five, part_in, StorePart}
use Rattle.card_store.specs.Parts.StorePart.{UsesCounter}
use Rattle.card_store.specs.Replay.{after_part, after_step, replayed_from, replayed}
use Rattle.card_store.specs.declared.scripts.Script.{Script}

-- ---- parts

-- a part that is added is read behind the others
replayed_more_from : (facts : CardFacts) (start content : Content) (parts : List (List ℕ)) (part : List ℕ) → replayed_from facts start parts ≡ Some content
    → replayed_from facts start (parts ++ part ∷ []) ≡ after_part facts content part
replayed_more_from facts start content [] part is = last (after_part facts start part) ∙ ap (λ (c : Content). after_part facts c part) (some_same start content is)
  where
    last : (next : Option Content) → option_and_then (λ (c : Content). Some c) next ≡ next
    last None = refl
    last (Some next) = refl

    some_same : (a b : Content) → Some a ≡ Some b → a ≡ b
    some_same a b e = cc
replayed_more_from facts start content (first ∷ parts) part is =
    elim (after_part facts start first) as (λ next. option_and_then (λ (c : Content). replayed_from facts c parts) next ≡ Some content
    → option_and_then (λ (c : Content). replayed_from facts c (parts ++ part ∷ [])) next ≡ after_part facts content part) [
      | None ↦ λ e. cc
      | Some next ↦ λ e. replayed_more_from facts next content parts part e
    ] is

pub replayed_behind : (facts : CardFacts) (content : Content) (parts : List (List ℕ)) (part : List ℕ) → replayed facts parts ≡ Some content → replayed facts (parts ++ part ∷ []) ≡ after_part facts content part
replayed_behind facts content parts part is = replayed_more_from facts (issued facts) content parts part is

pub replayed_more : (facts : CardFacts) (content next : Content) (parts : List (List ℕ)) (part : List ℕ) → replayed facts parts ≡ Some content → after_part facts content part ≡ Some next
    → replayed facts (parts ++ part ∷ []) ≡ Some next
replayed_more facts content next parts part is after = replayed_behind facts content parts part is ∙ after

-- three zeros in front of five octets
abbrev widened : List ℕ → List ℕ
widened octets = 0 ∷ 0 ∷ 0 ∷ octets

high_zeros : (n : ℕ) → n < 2 ^ 40 → to_be_bytes w64 n ≡ widened (bytes_high_first 5 n)
high_zeros n below =
    let a : n / 72057594037927936 % 256 ≡ 0 = omega arith in
    let b : n / 281474976710656 % 256 ≡ 0 = omega arith in
    let c : n / 1099511627776 % 256 ≡ 0 = omega arith in
    λ i. a i ∷ b i ∷ c i ∷ bytes_high_first 5 n

counter_again : (n : ℕ) → n < 2 ^ 40 → from_be_bytes w64 (widened (bytes_high_first 5 n)) ≡ n
counter_again n below = ap (from_be_bytes w64) (sym (high_zeros n below)) ∙ from_be_bytes-to_be_bytes_8 n (omega arith)

-- a counter that is written is read so
pub counter_is_read : (kvn counter : ℕ) (tar body : List ℕ) → counter < 2 ^ 40 → length tar ≡ 3 → part_in (counter_part kvn counter tar body) ≡ Some (UsesCounter kvn counter tar body)
unfolding five
counter_is_read kvn counter [] body below three = absurd (omega (arith, three))
counter_is_read kvn counter (t ∷ []) body below three = absurd (omega (arith, three))
counter_is_read kvn counter (t ∷ u ∷ []) body below three = absurd (omega (arith, three))
counter_is_read kvn counter (t ∷ u ∷ v ∷ []) body below three = ap (λ (n : ℕ). Some (UsesCounter kvn n (t ∷ u ∷ v ∷ []) body)) (counter_again counter below)
counter_is_read kvn counter (t ∷ u ∷ v ∷ w ∷ tar) body below three = absurd (omega (arith, three))

-- where a counter that is written leads
pub after_counter : (facts : CardFacts) (content : Content) (kvn counter : ℕ) (tar body : List ℕ) → may_store facts content kvn counter ≡ true → counter < 2 ^ 40 → length tar ≡ 3
    → after_part facts content (counter_part kvn counter tar body) ≡ Some (took facts content kvn counter tar body 0)
unfolding after_part
after_counter facts content kvn counter tar body may below three =
    ap (λ (read : Option StorePart). option_and_then (after_step facts content) read) (counter_is_read kvn counter tar body below three)
    ∙ ap (λ b. cond b (Some (took facts content kvn counter tar body 0)) None) may

-- and a command
pub after_command_part : (facts : CardFacts) (content : Content) → after_part facts content command_part ≡ after_command content
unfolding after_part
after_command_part facts content = refl

-- ---- commands

pub with_last-append : {X : Type 0} (f : X → X) (xs : List X) (x : X) → with_last f (xs ++ x ∷ []) ≡ xs ++ f x ∷ []
with_last-append f [] x = refl
with_last-append f (y ∷ []) x = refl
with_last-append f (y ∷ z ∷ zs) x = ap (λ l. y ∷ l) (with_last-append f (z ∷ zs) x)

module _ (facts : CardFacts) (content : Content) (kvn counter : ℕ) (tar body : List ℕ) where
  -- the card where its script has come so far
  abbrev come : Part → Progress → Content
  come part run = record {
    log = content.log ++ ran_line facts kvn counter tar body run ∷ [];
    card = run.last.after;
    script = left_of part body run.next;
  }

  line_on : (count at : ℕ) (last made : Answer CardState) (next : Option ℕ)
      → executed_one made next (ran_line facts kvn counter tar body (record { count = count; next = Some at; last = last }))
      ≡ ran_line facts kvn counter tar body (record { count = suc count; next = next; last = made })
  line_on count at last made next =
      ap (λ (k : ℕ). record (ran_line facts kvn counter tar body (record { count = count; next = Some at; last = last })) {
        executed = k;
        finished = is_none next;
        answer = response_if_ended next k made;
      }) (add-one count)

  come_on : (part : Part) (count : ℕ) (next : Option ℕ) (last : Answer CardState) (script : Script) → left_of part body next ≡ Some script
      → after_command (come part (record { count = count; next = next; last = last })) ≡ Some (come part (advanced_from part body (record { count = count; next = next; last = last }) next))
  come_on part count None last script left = cc
  come_on part count (Some at) last script left =
      let step = script_step last.after part body at in
      let line = ran_line facts kvn counter tar body (record { count = count; next = Some at; last = last }) in
      ap (λ (log : List Line). Some (record { log = log; card = step.0.after; script = left_of part body step.1 }))
      (with_last-append (executed_one step.0 step.1) content.log line ∙ ap (λ (l : Line). content.log ++ l ∷ []) (line_on count at last step.0 step.1))

  took_on_for : (count : ℕ) (script : Script) (part : Option Part) → (took_for facts content kvn counter tar body count part).script ≡ Some script
      → after_command (took_for facts content kvn counter tar body count part) ≡ Some (took_for facts content kvn counter tar body (suc count) part)
  took_on_for count script None left = cc
  took_on_for count script (Some part) left =
      let run = runs content.card part body count in
      come_on part run.count run.next run.last script left

  -- where a command is left, the next one leads to the card that has run one more
  pub took_on : (count : ℕ) (script : Script) → (took facts content kvn counter tar body count).script ≡ Some script
      → after_command (took facts content kvn counter tar body count) ≡ Some (took facts content kvn counter tar body (suc count))
  took_on count script left = took_on_for count script (script_part facts tar body) left

-- Where a command is left of a script, the next one leads from the card behind so many commands to the card behind one more.
abbrev pub CommandsLeadOn : Type 0
CommandsLeadOn = (facts : CardFacts) (content : Content) (kvn counter : ℕ) (tar body : List ℕ) (count : ℕ) (script : Script) → (took facts content kvn counter tar body count).script ≡ Some script
    → after_command (took facts content kvn counter tar body count) ≡ Some (took facts content kvn counter tar body (suc count))
