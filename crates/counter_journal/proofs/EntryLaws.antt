-- An entry that is read is the one that was written.
use Rattle.std.proofs.Common.{◌≡◌, ℕ, Bool, true, false, eqb, leb, List, [], ◌∷◌, ◌++◌, length, Some, None, refl, sym, ap, subst, ◌∙◌}
use Rattle.std.specs.Prelude.{if◌then◌else◌, ◌==◌}
use Rattle.std.proofs.lemmas.Bool.{leb-true, eqb-true}
use Rattle.std.proofs.lemmas.List.{nil_from_length, append-nil}
use Rattle.ota_core.specs.Entry.{moment_of}
use Rattle.ota_core.specs.declared.entries.Entry.{Entry}
use Rattle.ota_core.specs.declared.entries.Entry.TheVariants.{Open, Reserve, Done, Refused, Close}
use Rattle.counter_journal.specs.declared.versions.Version.{Version}
use Rattle.counter_journal.specs.EntryOctets.{five, name_octets, front_octets, job_octets, entry_octets, name_of, IsOfVersion}
use Rattle.counter_journal.specs.EntryRanges.{LONGEST_BODY, IsFront, IsEntry}
use Rattle.counter_journal.specs.EntryReading.{◌>>=◌, only_if, Front, front_at, counter_at, facts_in, name_at, purpose_at, is_body, open_in, reserve_in, done_in, status_of, refused_in, close_in, entry_behind, entry_in}
use Rattle.counter_journal.specs.EntriesAgain.{some_is, three_parts, six_parts, IsMoment, IsName, is_of_version, no_name}
use Rattle.counter_journal.proofs.FieldLaws.{IsBytes, bind_some, only_if_some, both_true, counter_takes, front_takes, facts_takes, purpose_takes, name_takes}

-- the entry has this front, and these octets behind it
pub record Follows (version : Version) (front : Front) (octets : List ℕ) (kind : ℕ) (entry : Entry) : Type 0 where
  pub spelled : front_octets version kind front.by front.moment front.keyset ++ octets ≡ entry_octets version entry
  pub fits : IsEntry entry
  pub moment_is : moment_of entry ≡ front.moment
  pub name : IsName version (name_of entry)

-- the front of this kind
abbrev front_for : Version → ℕ → Front → List ℕ
front_for version kind front = front_octets version kind front.by front.moment front.keyset

open_follows : (version : Version) (front : Front) (octets : List ℕ) (entry : Entry) → IsBytes octets → IsFront front.by front.moment front.keyset → open_in front octets ≡ Some entry
    → Follows version front octets 0x01 entry
unfolding open_in
open_follows version front octets entry fits is e =
    let a = bind_some (facts_in octets) (λ facts. Some (Open front.by front.moment front.keyset facts)) entry e in
    let t = facts_takes octets a.0 fits a.1 in
    subst (Follows version front octets 0x01) (some_is (Open front.by front.moment front.keyset a.0) entry a.2)
    (record {
      spelled = ap (λ (l : List ℕ). front_for version 0x01 front ++ l) t.0;
      fits = (is, t.1.base_fits, t.1.kic_long, t.1.kid_long);
      moment_is = refl;
      name = no_name version;
    })

reserve_follows : (version : Version) (front : Front) (octets : List ℕ) (entry : Entry) → IsBytes octets → IsFront front.by front.moment front.keyset → reserve_in version front octets ≡ Some entry
    → Follows version front octets 0x02 entry
unfolding reserve_in
reserve_follows version front octets entry fits is e =
    let a = bind_some (purpose_at octets) (λ purpose. name_at version purpose.1 >>= λ name. only_if (is_body name.1) (Reserve front.by front.moment front.keyset purpose.0.counter purpose.0.job purpose.0.tar name.0 name.1)) entry e in
    let b = bind_some (name_at version a.0.1) (λ name. only_if (is_body name.1) (Reserve front.by front.moment front.keyset a.0.0.counter a.0.0.job a.0.0.tar name.0 name.1)) entry a.2 in
    let g = only_if_some (is_body b.0.1) (Reserve front.by front.moment front.keyset a.0.0.counter a.0.0.job a.0.0.tar b.0.0 b.0.1) entry b.2 in
    let t0 = purpose_takes octets a.0.0 a.0.1 fits a.1 in
    let t1 = name_takes version a.0.1 b.0.0 b.0.1 t0.1 b.1 in
    let sized = both_true (leb 1 (length b.0.1)) (leb (length b.0.1) LONGEST_BODY) g.0 in
    let behind : octets ≡ five a.0.0.counter ++ (job_octets a.0.0.job ++ (a.0.0.tar ++ (name_octets version b.0.0 ++ b.0.1))) =
    t0.0 ∙ ap (λ (l : List ℕ). five a.0.0.counter ++ (job_octets a.0.0.job ++ (a.0.0.tar ++ l))) t1.0.parts in
    subst (Follows version front octets 0x02) g.1
    (record {
      spelled =
          ap (λ (l : List ℕ). front_for version 0x02 front ++ l) behind
          ∙ six_parts (front_for version 0x02 front) (five a.0.0.counter) (job_octets a.0.0.job) a.0.0.tar (name_octets version b.0.0) b.0.1;
      fits = (is, t0.2.counter_fits, t0.2.job_fits.campaign_fits, t0.2.job_fits.job_fits, t0.2.tar_long, t1.1, leb-true 1 (length b.0.1) sized.0, leb-true (length b.0.1) LONGEST_BODY sized.1);
      moment_is = refl;
      name = t1.2;
    })

done_follows : (version : Version) (front : Front) (octets : List ℕ) (entry : Entry) → IsBytes octets → IsFront front.by front.moment front.keyset → done_in front octets ≡ Some entry
    → Follows version front octets 0x03 entry
unfolding done_in
done_follows version front octets entry fits is e =
    let a = bind_some (counter_at octets) (λ counter. Some (Done front.by front.moment front.keyset counter.0 counter.1)) entry e in
    let t = counter_takes octets a.0.0 a.0.1 fits a.1 in
    subst (Follows version front octets 0x03) (some_is (Done front.by front.moment front.keyset a.0.0 a.0.1) entry a.2)
    (record {
      spelled = ap (λ (l : List ℕ). front_for version 0x03 front ++ l) t.0.parts ∙ three_parts (front_for version 0x03 front) (five a.0.0) a.0.1;
      fits = (is, t.1);
      moment_is = refl;
      name = no_name version;
    })

status_is : (octets : List ℕ) (status : ℕ) → status_of octets ≡ Some status → octets ≡ status ∷ []
status_is [] status e = absurd cc
status_is (octet ∷ []) status e = ap (λ (o : ℕ). o ∷ []) (some_is octet status e)
status_is (octet ∷ other ∷ octets) status e = absurd cc

refused_follows : (version : Version) (front : Front) (octets : List ℕ) (entry : Entry) → IsBytes octets → IsFront front.by front.moment front.keyset → refused_in front octets ≡ Some entry
    → Follows version front octets 0x04 entry
unfolding refused_in
refused_follows version front octets entry fits is e =
    let a = bind_some (counter_at octets) (λ counter. status_of counter.1 >>= λ status. Some (Refused front.by front.moment front.keyset counter.0 status)) entry e in
    let b = bind_some (status_of a.0.1) (λ status. Some (Refused front.by front.moment front.keyset a.0.0 status)) entry a.2 in
    let t = counter_takes octets a.0.0 a.0.1 fits a.1 in
    let behind : octets ≡ five a.0.0 ++ b.0 ∷ [] = t.0.parts ∙ ap (λ (l : List ℕ). five a.0.0 ++ l) (status_is a.0.1 b.0 b.1) in
    subst (Follows version front octets 0x04) (some_is (Refused front.by front.moment front.keyset a.0.0 b.0) entry b.2)
    (record {
      spelled = ap (λ (l : List ℕ). front_for version 0x04 front ++ l) behind ∙ three_parts (front_for version 0x04 front) (five a.0.0) (b.0 ∷ []);
      fits = (is, t.1);
      moment_is = refl;
      name = no_name version;
    })

close_follows : (version : Version) (front : Front) (octets : List ℕ) (entry : Entry) → IsFront front.by front.moment front.keyset → close_in front octets ≡ Some entry
    → Follows version front octets 0x05 entry
close_follows version front octets entry is e =
    let g = only_if_some (eqb (length octets) 0) (Close front.by front.moment front.keyset) entry e in
    let nothing : octets ≡ [] = nil_from_length octets (eqb-true _ _ g.0) in
    subst (Follows version front octets 0x05) g.1
    (record {
      spelled = ap (λ (l : List ℕ). front_for version 0x05 front ++ l) nothing ∙ append-nil (front_for version 0x05 front);
      fits = is;
      moment_is = refl;
      name = no_name version;
    })

-- an entry of its kind
kind_is : (version : Version) (front : Front) (octets : List ℕ) (kind : ℕ) (entry : Entry) → (front.kind == kind) ≡ true → Follows version front octets kind entry
    → Follows version front octets front.kind entry
kind_is version front octets kind entry is follows = subst (λ (k : ℕ). Follows version front octets k entry) (sym (eqb-true front.kind kind is)) follows

behind_cases : (version : Version) (front : Front) (octets : List ℕ) (entry : Entry) (one two three four five : Bool) → IsBytes octets → IsFront front.by front.moment front.keyset
    → (front.kind == 1) ≡ one → (front.kind == 2) ≡ two → (front.kind == 3) ≡ three → (front.kind == 4) ≡ four → (front.kind == 5) ≡ five
    → (if one then open_in front octets else (if two then reserve_in version front octets else (if three then done_in front octets else (if four then refused_in front octets else (if five then close_in front octets else None))))) ≡ Some entry
    → Follows version front octets front.kind entry
behind_cases version front octets entry true two three four five fits is a b c d e read = kind_is version front octets 1 entry a (open_follows version front octets entry fits is read)
behind_cases version front octets entry false true three four five fits is a b c d e read = kind_is version front octets 2 entry b (reserve_follows version front octets entry fits is read)
behind_cases version front octets entry false false true four five fits is a b c d e read = kind_is version front octets 3 entry c (done_follows version front octets entry fits is read)
behind_cases version front octets entry false false false true five fits is a b c d e read = kind_is version front octets 4 entry d (refused_follows version front octets entry fits is read)
behind_cases version front octets entry false false false false true fits is a b c d e read = kind_is version front octets 5 entry e (close_follows version front octets entry is read)
behind_cases version front octets entry false false false false false fits is a b c d e read = absurd cc

behind_follows : (version : Version) (front : Front) (octets : List ℕ) (entry : Entry) → IsBytes octets → IsFront front.by front.moment front.keyset → entry_behind version front octets ≡ Some entry
    → Follows version front octets front.kind entry
unfolding entry_behind
behind_follows version front octets entry fits is read =
    behind_cases version front octets entry (front.kind == 1) (front.kind == 2) (front.kind == 3) (front.kind == 4) (front.kind == 5) fits is refl refl refl refl refl read

-- what is read as an entry is spelled so
pub entry_takes : (version : Version) (octets : List ℕ) (entry : Entry) → IsBytes octets → entry_in version octets ≡ Some entry
    → (entry_octets version entry ≡ octets) × IsEntry entry × IsOfVersion version entry
unfolding entry_in
entry_takes version octets entry fits e =
    let a = bind_some (front_at version octets) (λ front. entry_behind version front.0 front.1) entry e in
    let t = front_takes version octets a.0.0 a.0.1 fits a.1 in
    let f = behind_follows version a.0.0 a.0.1 entry t.0.rest_fits t.1 a.2 in
    (sym (t.0.parts ∙ f.spelled), f.fits, is_of_version version entry (subst (IsMoment version) (sym f.moment_is) t.2) f.name)
