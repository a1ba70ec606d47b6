-- What the calls of a bare site do.
use Rattle.std.proofs.Common.{◌≡◌, inl, inr, ℕ, ◌+◌, ◌-◌, ◌≤◌, List, [], ◌∷◌, ◌++◌, length, take, drop, Result, Ok, Err, refl, sym, ◌∙◌, ap, subst, arith}
use Rattle.std.proofs.Math.Seq.{take-add}
use Rattle.std.proofs.lemmas.List.{append-nil, take_all}
use Rattle.disk_model.specs.declared.faults.DiskFault.{DiskFault}
use Rattle.disk_model.specs.declared.faults.DiskFault.TheVariants.{Failed, Memory}
use Rattle.disk_model.specs.Disk.{Meaning, PastStands, DiskRun, Ticks, Follows, image_now}
use Rattle.disk_model.specs.Runs.{at_once, weaker}
use Rattle.site_model.specs.declared.bare_site.BareSite.{BareSite}
use Rattle.site_model.specs.declared.departures.Departure.{Departure}
use Rattle.site_model.specs.declared.moments.Given.{Given}
use Rattle.site_model.specs.declared.moments.Moment.{Moment}
use Rattle.site_model.specs.declared.moments.Moment.TheVariants.{Disk, Sent, Gave, Polled}
use Rattle.site_model.specs.Port.{PortState, IsSending, IsPolling}
use Rattle.world_core.specs.Members.{Begins}
use Rattle.site_model.specs.Cards.{Keeps}
use Rattle.site_model.specs.Runs.{PortRun}
use Rattle.site_model.specs.Moments.{ports, disks, sent_in, given_in, polls_in, port_after, past_by, moments_after, ports-append, sent_in-append, given_in-append, polls_in-append, all_past}
use Rattle.site_model.specs.BareTold.{site_told}
use Rattle.site_model.specs.Bare.{on_pairs, disk_call, now_pair, port_of_pair, ported}

module _ {E B C : Type 0} (told : Meaning E B C) (old new : BareSite E) where
  of_past : PastStands (on_pairs told) (old.disk, old.moments.items) (new.disk, new.moments.items) → PastStands (site_told told) old new
  of_past past = record {
    later = past.later;
    no_more = past.no_more;
    no_fewer = past.no_fewer;
    beside = past.beside;
    no_more_choices = past.no_more_choices;
    no_fewer_choices = past.no_fewer_choices;
  }

  -- the run of a disk and its moments is that of the site
  of_pairs : (P : List ℕ → Type 0) → DiskRun (on_pairs told) (old.disk, old.moments.items) (new.disk, new.moments.items) P → DiskRun (site_told told) old new P
  of_pairs P run = record {
    past = of_past run.past;
    each = run.each;
    stands = run.stands;
    choices_stand = run.choices_stand;
    choices_stay = run.choices_stay;
  }

  pub call_run : {T : Type 0} (res : Result T DiskFault) (P Q : List ℕ → Type 0) → Ticks (told.clock old.disk) (told.clock new.disk) res
      → new.moments.items ≡ moments_after res old.moments.items → DiskRun told old.disk new.disk P → ((image : List ℕ) → P image → Q image) → DiskRun (site_told told) old new Q
  call_run res P Q ticks is run then_q =
      let weak = weaker told old.disk new.disk P Q run then_q in
      of_pairs Q (subst (λ (l : List Moment). DiskRun (on_pairs told) (old.disk, old.moments.items) (new.disk, l) Q) (sym is)
      (disk_call told old.disk new.disk old.moments.items res Q ticks weak))

  pub stood_run : (Q : List ℕ → Type 0) → new.disk ≡ old.disk → new.moments.items ≡ old.moments.items → ((image : List ℕ) → image_now (on_pairs told) (old.disk, old.moments.items) image → Q image)
      → DiskRun (site_told told) old new Q
  stood_run Q disk moments holds =
      of_pairs Q (subst (λ (e : E). DiskRun (on_pairs told) (old.disk, old.moments.items) (e, new.moments.items) Q) (sym disk)
      (subst (λ (l : List Moment). DiskRun (on_pairs told) (old.disk, old.moments.items) (old.disk, l) Q) (sym moments)
      (at_once (on_pairs told) (old.disk, old.moments.items) Q holds)))

-- the clock of the site goes as that of its disk
pub call_ticks : {T : Type 0} (res : Result T DiskFault) (before now : ℕ) (old new : List Moment) → Ticks before now res → new ≡ moments_after res old → Ticks (before + ports old) (now + ports new) res
call_ticks (Ok value) before now old new ticks is = omega (arith, ticks, ap ports is, ports-append old (Disk ∷ []))
call_ticks (Err Failed) before now old new ticks is = omega (arith, ticks, ap ports is, ports-append old (Disk ∷ []))
call_ticks (Err Memory) before now old new ticks is = omega (arith, ticks, ap ports is)

-- what follows from an image of the disk follows from one of the site
pub follows_pair : {E B C : Type 0} (told : Meaning E B C) (disk : E) (moments : List Moment) (step : List ℕ → List ℕ → Type 0) (image : List ℕ)
    → Follows step (image_now told disk) image → Follows step (image_now (on_pairs told) (disk, moments)) image
follows_pair told disk moments step image f = (f.0, now_pair told disk moments f.0 f.1, f.2)

-- ---- the port

begins_in : (moments : List Moment) (a b : ℕ) → a ≤ b
    → Begins (sent_in (take a moments)) (sent_in (take b moments)) × Begins (given_in (take a moments)) (given_in (take b moments)) × (polls_in (take a moments) ≤ polls_in (take b moments))
begins_in moments a b le =
    let sum : b ≡ a + (b - a) = omega (arith, le) in
    let split : take b moments ≡ take a moments ++ take (b - a) (drop a moments) = ap (λ (n : ℕ). take n moments) sum ∙ take-add a (b - a) moments in
    let rest = take (b - a) (drop a moments) in
    ((sent_in rest, ap sent_in split ∙ sent_in-append (take a moments) rest), (given_in rest, ap given_in split ∙ given_in-append (take a moments) rest), omega (arith, ap polls_in split, polls_in-append (take a moments) rest))

module _ {E B C : Type 0} (told : Meaning E B C) (old new : BareSite E) where
  abbrev at_moment : ℕ → ℕ
  at_moment k = past_by (told.clock new.disk) new.moments.items k

  -- without cards there is nothing to keep but what was sent
  pub keeps : Keeps (site_told told) (λ port. port) (λ choice card. []) old new
  keeps = record {
    facts = λ k low high. refl;
    sent = λ k l low le high. (begins_in new.moments.items (at_moment k) (at_moment l) (omega (arith, le))).0;
    given = λ k l low le high. (begins_in new.moments.items (at_moment k) (at_moment l) (omega (arith, le))).1;
    made = λ k l low le high. ([], refl);
    polls = λ k l low le high. (begins_in new.moments.items (at_moment k) (at_moment l) (omega (arith, le))).2;
    grows = λ k now low high at. (tt, tt, λ card in_facts. absurd in_facts);
    goes_on = λ k l now low le high at. (tt, tt, λ card. tt);
    states = λ states k now card low high at in_facts. absurd in_facts;
    answers = λ k made low high in_made. absurd in_made;
  }

  of_port_pairs : (Q : PortState → Type 0) → PortRun (on_pairs told) (old.disk, old.moments.items) (new.disk, new.moments.items) Q → PortRun (site_told told) old new Q
  of_port_pairs Q run = record {
    past = of_past told old new run.past;
    images_stand = run.images_stand;
    images_stay = run.images_stay;
    each = run.each;
  }

  pub port_is : (site : BareSite E) → (site_told told).beside_at site ((site_told told).clock site) ≡ port_after site.moments.items
  port_is site = port_of_pair told site.disk site.moments.items

  port_call : (moment : Moment) (Q : PortState → Type 0) → disks (moment ∷ []) ≡ 0 → new.disk ≡ old.disk → new.moments.items ≡ old.moments.items ++ moment ∷ []
      → Q (port_after old.moments.items) → Q (port_after (old.moments.items ++ moment ∷ [])) → PortRun (site_told told) old new Q
  port_call moment Q no_call disk is before after =
      of_port_pairs Q (subst (λ (e : E). PortRun (on_pairs told) (old.disk, old.moments.items) (e, new.moments.items) Q) (sym disk)
      (subst (λ (l : List Moment). PortRun (on_pairs told) (old.disk, old.moments.items) (old.disk, l) Q) (sym is)
      (ported told old.disk old.moments.items moment no_call Q before after)))

  pub send_run : (departure : Departure) → new.disk ≡ old.disk → new.moments.items ≡ old.moments.items ++ Sent departure ∷ []
      → PortRun (site_told told) old new (λ beside. IsSending ((site_told told).beside_at old ((site_told told).clock old)) beside departure)
  send_run departure disk is =
      let ms = old.moments.items in
      subst (λ (p : PortState). PortRun (site_told told) old new (λ beside. IsSending p beside departure)) (sym (port_is old))
      (port_call (Sent departure) (λ beside. IsSending (port_after ms) beside departure) refl disk is
      (record { sent = inl refl; given = refl; polls = refl })
      (record {
        sent = inr (sent_in-append ms (Sent departure ∷ []));
        given = given_in-append ms (Sent departure ∷ []) ∙ append-nil (given_in ms);
        polls = omega (arith, polls_in-append ms (Sent departure ∷ []));
      }))

  pub poll_run : new.disk ≡ old.disk → new.moments.items ≡ old.moments.items ++ Polled ∷ []
      → PortRun (site_told told) old new (λ beside. IsPolling ((site_told told).beside_at old ((site_told told).clock old)) beside)
  poll_run disk is =
      let ms = old.moments.items in
      subst (λ (p : PortState). PortRun (site_told told) old new (λ beside. IsPolling p beside)) (sym (port_is old))
      (port_call Polled (λ beside. IsPolling (port_after ms) beside) refl disk is
      (record { sent = refl; given = inl refl; polls = inl refl })
      (record {
        sent = sent_in-append ms (Polled ∷ []) ∙ append-nil (sent_in ms);
        given = inl (given_in-append ms (Polled ∷ []) ∙ append-nil (given_in ms));
        polls = inr (polls_in-append ms (Polled ∷ []));
      }))

  pub give_run : (given : Given) → new.disk ≡ old.disk → new.moments.items ≡ old.moments.items ++ Gave given ∷ []
      → PortRun (site_told told) old new (λ beside. IsPolling ((site_told told).beside_at old ((site_told told).clock old)) beside)
  give_run given disk is =
      let ms = old.moments.items in
      subst (λ (p : PortState). PortRun (site_told told) old new (λ beside. IsPolling p beside)) (sym (port_is old))
      (port_call (Gave given) (λ beside. IsPolling (port_after ms) beside) refl disk is
      (record { sent = refl; given = inl refl; polls = inl refl })
      (record {
        sent = sent_in-append ms (Gave given ∷ []) ∙ append-nil (sent_in ms);
        given = inr ((given.card, given.message), given_in-append ms (Gave given ∷ []));
        polls = inr (polls_in-append ms (Gave given ∷ []));
      }))

-- what was sent and given up to now, of a disk's clock and moments
module _ (c d : ℕ) (old new : List Moment) where
  all_of : (n : ℕ) (moments : List Moment) → port_after (take (past_by n moments (n + ports moments)) moments) ≡ port_after moments
  all_of n moments = ap (λ (k : ℕ). port_after (take k moments)) (all_past n moments) ∙ ap port_after (take_all (length moments) moments (omega arith))

  pub sent_now : (departure : Departure) → new ≡ old ++ Sent departure ∷ []
      → sent_in (take (past_by d new (d + ports new)) new) ≡ sent_in (take (past_by c old (c + ports old)) old) ++ departure ∷ []
  sent_now departure is =
      ap (λ (p : PortState). p.sent) (all_of d new) ∙ ap sent_in is ∙ sent_in-append old (Sent departure ∷ [])
      ∙ ap (λ (p : PortState). p.sent ++ departure ∷ []) (sym (all_of c old))

  pub polled_now : new ≡ old ++ Polled ∷ [] → polls_in (take (past_by d new (d + ports new)) new) ≡ polls_in (take (past_by c old (c + ports old)) old) + 1
  polled_now is =
      ap (λ (p : PortState). p.polls) (all_of d new) ∙ ap polls_in is ∙ polls_in-append old (Polled ∷ [])
      ∙ ap (λ (p : PortState). p.polls + 1) (sym (all_of c old))

  pub none_given_now : new ≡ old ++ Polled ∷ [] → given_in (take (past_by d new (d + ports new)) new) ≡ given_in (take (past_by c old (c + ports old)) old)
  none_given_now is =
      ap (λ (p : PortState). p.given) (all_of d new) ∙ ap given_in is ∙ given_in-append old (Polled ∷ []) ∙ append-nil (given_in old)
      ∙ ap (λ (p : PortState). p.given) (sym (all_of c old))

  pub gave_polled_now : (given : Given) → new ≡ old ++ Gave given ∷ [] → polls_in (take (past_by d new (d + ports new)) new) ≡ polls_in (take (past_by c old (c + ports old)) old) + 1
  gave_polled_now given is =
      ap (λ (p : PortState). p.polls) (all_of d new) ∙ ap polls_in is ∙ polls_in-append old (Gave given ∷ [])
      ∙ ap (λ (p : PortState). p.polls + 1) (sym (all_of c old))

  pub given_now : (given : Given) → new ≡ old ++ Gave given ∷ []
      → given_in (take (past_by d new (d + ports new)) new) ≡ given_in (take (past_by c old (c + ports old)) old) ++ (given.card, given.message) ∷ []
  given_now given is =
      ap (λ (p : PortState). p.given) (all_of d new) ∙ ap given_in is ∙ given_in-append old (Gave given ∷ [])
      ∙ ap (λ (p : PortState). p.given ++ (given.card, given.message) ∷ []) (sym (all_of c old))
