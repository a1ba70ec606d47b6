-- Laws of a batch that entries are put into.
use Rattle.std.proofs.Common.{◌≡◌, ℕ, ◌+◌, ◌-◌, ◌*◌, ◌≤◌, ◌<◌, List, [], ◌∷◌, ◌++◌, length, take, get_or, All, sym, ap, subst, ◌∙◌, arith}
use Rattle.std.proofs.lemmas.List.{map-append, take_more}
use Rattle.std.proofs.lemmas.List.Elements.{All-push}
use Rattle.gate_log.specs.Batches.{BatchState, octets_in, octets_in-push}
use Rattle.ota_core.specs.declared.entries.Entry.{Entry}
use Rattle.counter_journal.specs.declared.versions.Version.TheVariants.{Second}
use Rattle.counter_journal.specs.EntryOctets.{entry_octets}
use Rattle.counter_journal.specs.EntryRanges.{IsEntry, LONGEST_ENTRY}
use Rattle.counter_journal.specs.JournalReading.{parts_for}

-- the first entries are put into the batch
pub record ArePut (old batch : BatchState) (entries : List Entry) (count : ℕ) : Type 0 where
  pub parts : batch.parts ≡ parts_for (take count entries)
  pub parts_room : batch.parts_room + count ≡ old.parts_room
  pub octets_room : batch.octets_room + octets_in batch.parts ≡ old.octets_room
  pub sum : octets_in batch.parts ≤ LONGEST_ENTRY * count
  pub fit : All IsEntry (take count entries)

-- there is room for the next one
pub has_room : (old batch : BatchState) (entries : List Entry) (count : ℕ) (len : ℕ) → ArePut old batch entries count → count < length entries
    → length entries ≤ old.parts_room → LONGEST_ENTRY * length entries ≤ old.octets_room → len ≤ LONGEST_ENTRY → (1 ≤ batch.parts_room) × (len ≤ batch.octets_room)
has_room old batch entries count len put below parts octets short =
    (omega (arith, put.parts_room, below, parts), omega (arith, put.octets_room, put.sum, below, octets, short))

pub put_more : (old batch new : BatchState) (entries : List Entry) (count : ℕ) (entry : Entry) (octets : List ℕ) → ArePut old batch entries count → count < length entries
    → entry ≡ get_or entries count entry → octets ≡ entry_octets Second entry → length octets ≤ LONGEST_ENTRY → IsEntry entry
    → 1 ≤ batch.parts_room → length octets ≤ batch.octets_room
    → new ≡ record { parts = batch.parts ++ octets ∷ []; parts_room = batch.parts_room - 1; octets_room = batch.octets_room - length octets }
    → ArePut old new entries (count + 1)
put_more old batch new entries count entry octets put below is spelled short fits some_room room new_is =
    let more : take (count + 1) entries ≡ take count entries ++ entry ∷ [] = take_more entries count entry below ∙ ap (λ (e : Entry). take count entries ++ e ∷ []) (sym is) in
    let sum : octets_in (batch.parts ++ octets ∷ []) ≡ octets_in batch.parts + length octets = octets_in-push batch.parts octets in
    subst (λ (b : BatchState). ArePut old b entries (count + 1)) (sym new_is)
    (record {
      parts =
          ap (λ (l : List (List ℕ)). l ++ octets ∷ []) put.parts
          ∙ ap (λ (o : List ℕ). parts_for (take count entries) ++ o ∷ []) spelled
          ∙ sym (map-append (entry_octets Second) (take count entries) (entry ∷ []))
          ∙ ap parts_for (sym more);
      parts_room = omega (arith, put.parts_room, some_room);
      octets_room = omega (arith, put.octets_room, sum, room);
      sum = omega (arith, put.sum, sum, short);
      fit = subst (All IsEntry) (sym more) (All-push IsEntry (take count entries) entry put.fit fits);
    })
