-- What is past of a site stays as it was.
use Rattle.std.specs.Prelude.{◌≡◌, ◌⊎◌, ◌≤◌, ℕ, zero, suc, ◌+◌, ◌-◌, List, [], ◌∷◌, ◌++◌, length, take, map, refl}
use Rattle.std.proofs.Common.{inl, inr, ⊎_elim, arith, sym, ◌∙◌, ap, subst, length-append, append_assoc}
use Rattle.std.proofs.lemmas.Bool.{cases_lt}
use Rattle.std.proofs.lemmas.List.{append-nil, take_all, take-append-le}
use Rattle.disk_model.specs.Disk.{Meaning, PastStands, image_now}
use Rattle.ota_core.specs.declared.cards.CardId.{CardId}
use Rattle.site_model.specs.Port.{PortState}
use Rattle.world_core.specs.declared.answers.Made.{Made}
use Rattle.air_sim.specs.declared.notes.Delivery.{Delivery}
use Rattle.air_sim.specs.declared.notes.Note.{Note}
use Rattle.air_sim.specs.declared.notes.Note.TheVariants.{Quiet, AtWork, Gave, Polled}
use Rattle.air_sim.specs.declared.parts.Parts.{Parts}
use Rattle.air_sim.specs.declared.sim_site.SimSite.{SimSite}
use Rattle.air_sim.specs.Cards.{facts_in}
use Rattle.air_sim.specs.Lines.{LinesByCard}
use Rattle.air_sim.specs.Moments.{moment_at}
use Rattle.air_sim.specs.Told.{Moment, Leaves, LeavesAt, given_by, given_in, polls_by, polls_in, made_at, made_from, made_in, moment_of, port_by, sim_told}
use Rattle.air_sim.specs.ToldLaws.{at_now}

-- no card was at work
abbrev pub IsRest : Note → Type 0
IsRest (AtWork delivery) = ⊥
IsRest note = Unit {0}

pub at_past : {X : Type 0} (past : List X) (next : X) (more : List X) (now : X) (k : ℕ) → k ≤ length past → moment_at (past ++ next ∷ more) now k ≡ moment_at past next k
at_past [] next more now zero le = refl
at_past [] next more now (suc k) le = absurd (omega (arith, le))
at_past (moment ∷ past) next more now zero le = refl
at_past (moment ∷ past) next more now (suc k) le = at_past past next more now k (omega (arith, le))

module _ {D B C : Type 0} (told : Meaning D B C) where
  -- ---- what moments add

  pub given_in-append : (one other : List (Moment D B C)) → given_in (one ++ other) ≡ given_in one ++ given_in other
  given_in-append [] other = refl
  given_in-append (moment ∷ one) other = ap (λ (l : List (CardId × List ℕ)). given_by moment ++ l) (given_in-append one other) ∙ sym (append_assoc (given_by moment) (given_in one) (given_in other))

  pub polls_in-append : (one other : List (Moment D B C)) → polls_in (one ++ other) ≡ polls_in one + polls_in other
  polls_in-append [] other = omega arith
  polls_in-append (moment ∷ one) other = omega (arith, polls_in-append one other)

  rest_made : (before parts : Parts D B C) (note : Note) → IsRest note → made_at told before (parts, note) ≡ []
  rest_made before parts Quiet rests = refl
  rest_made before parts (AtWork delivery) rests = absurd rests
  rest_made before parts (Gave position) rests = refl
  rest_made before parts Polled rests = refl

  made_from_rest : (before : Parts D B C) (past : List (Moment D B C)) (parts : Parts D B C) (note : Note) → IsRest note → made_from told before (past ++ (parts, note) ∷ []) ≡ made_from told before past
  made_from_rest before [] parts note rests = append-nil (made_at told before (parts, note)) ∙ rest_made before parts note rests
  made_from_rest before (moment ∷ past) parts note rests = ap (λ (l : List Made). made_at told before moment ++ l) (made_from_rest moment.0 past parts note rests)

  pub made_in_rest : (past : List (Moment D B C)) (parts : Parts D B C) (note : Note) → IsRest note → made_in told (past ++ (parts, note) ∷ []) ≡ made_in told past
  made_in_rest [] parts note rests = refl
  made_in_rest (moment ∷ past) parts note rests = made_from_rest moment.0 past parts note rests

  made_from_work : (before : Parts D B C) (past : List (Moment D B C)) (old new : Parts D B C) (delivery : Delivery)
      → made_from told before (past ++ (old, Quiet) ∷ (new, AtWork delivery) ∷ []) ≡ made_from told before past ++ made_at told old (new, AtWork delivery)
  made_from_work before [] old new delivery = append-nil (made_at told old (new, AtWork delivery))
  made_from_work before (moment ∷ past) old new delivery =
      ap (λ (l : List Made). made_at told before moment ++ l) (made_from_work moment.0 past old new delivery)
      ∙ sym (append_assoc (made_at told before moment) (made_from told moment.0 past) (made_at told old (new, AtWork delivery)))

  -- a card that was at work adds its answer
  pub made_in_work : (past : List (Moment D B C)) (old new : Parts D B C) (delivery : Delivery)
      → made_in told (past ++ (old, Quiet) ∷ (new, AtWork delivery) ∷ []) ≡ made_in told past ++ made_at told old (new, AtWork delivery)
  made_in_work [] old new delivery = append-nil (made_at told old (new, AtWork delivery))
  made_in_work (moment ∷ past) old new delivery = made_from_work moment.0 past old new delivery

  -- ---- the port now

  pub port_is : (site : SimSite D B C) → (sim_told told).beside_at site ((sim_told told).clock site) ≡ port_by told site.past.items site.parts
  port_is site =
      ap (λ (l : List (Moment D B C)). port_by told l (moment_of told site (length site.past.items)).0) (take_all (length site.past.items) site.past.items (omega arith))
      ∙ ap (λ (m : Moment D B C). port_by told site.past.items m.0) (at_now site.past.items (site.parts, Quiet))

  pub leaves_now : (site : SimSite D B C) (choice : LinesByCard) → Leaves told site.parts.cards.items site.parts.cards.items choice → (sim_told told).choice_at site ((sim_told told).clock site) choice
  leaves_now site choice leaves =
      subst (λ (m : Moment D B C). LeavesAt told (moment_of told site (length site.past.items - 1)).0 m choice) (sym (at_now site.past.items (site.parts, Quiet))) leaves

  pub now_leaves : (site : SimSite D B C) (choice : LinesByCard) → (sim_told told).choice_at site ((sim_told told).clock site) choice → Leaves told site.parts.cards.items site.parts.cards.items choice
  now_leaves site choice leaves =
      subst (λ (m : Moment D B C). LeavesAt told (moment_of told site (length site.past.items - 1)).0 m choice) (at_now site.past.items (site.parts, Quiet)) leaves

  pub image_is_now : (site : SimSite D B C) (image : List ℕ) → image_now (sim_told told) site image → image_now told site.parts.journal image
  image_is_now site image now = subst (λ (m : Moment D B C). image_now told m.0.journal image) (at_now site.past.items (site.parts, Quiet)) now

  pub now_is_image : (site : SimSite D B C) (image : List ℕ) → image_now told site.parts.journal image → image_now (sim_told told) site image
  now_is_image site image now = subst (λ (m : Moment D B C). image_now told m.0.journal image) (sym (at_now site.past.items (site.parts, Quiet))) now

  -- ---- what is past

  at_rest : (before parts : Parts D B C) (note : Note) (choice : LinesByCard) → IsRest note → LeavesAt told before (parts, note) choice → LeavesAt told before (parts, Quiet) choice
  at_rest before parts Quiet choice rests leaves = leaves
  at_rest before parts (AtWork delivery) choice rests leaves = absurd rests
  at_rest before parts (Gave position) choice rests leaves = leaves
  at_rest before parts Polled choice rests leaves = leaves

  to_rest : (before parts : Parts D B C) (note : Note) (choice : LinesByCard) → IsRest note → LeavesAt told before (parts, Quiet) choice → LeavesAt told before (parts, note) choice
  to_rest before parts Quiet choice rests leaves = leaves
  to_rest before parts (AtWork delivery) choice rests leaves = absurd rests
  to_rest before parts (Gave position) choice rests leaves = leaves
  to_rest before parts Polled choice rests leaves = leaves

  module _ (parts : Parts D B C) (note : Note) (rests : IsRest note) where
    same_parts : (past : List (Moment D B C)) (k : ℕ) → (moment_at past (parts, note) k).0 ≡ (moment_at past (parts, Quiet) k).0
    same_parts [] k = refl
    same_parts (moment ∷ past) zero = refl
    same_parts (moment ∷ past) (suc k) = same_parts past k

    work_ends : (past : List (Moment D B C)) (k : ℕ) (before : Parts D B C) (choice : LinesByCard) → LeavesAt told before (moment_at past (parts, note) k) choice → LeavesAt told before (moment_at past (parts, Quiet) k) choice
    work_ends [] k before choice leaves = at_rest before parts note choice rests leaves
    work_ends (moment ∷ past) zero before choice leaves = leaves
    work_ends (moment ∷ past) (suc k) before choice leaves = work_ends past k before choice leaves

    work_begins : (past : List (Moment D B C)) (k : ℕ) (before : Parts D B C) (choice : LinesByCard) → LeavesAt told before (moment_at past (parts, Quiet) k) choice → LeavesAt told before (moment_at past (parts, note) k) choice
    work_begins [] k before choice leaves = to_rest before parts note choice rests leaves
    work_begins (moment ∷ past) zero before choice leaves = leaves
    work_begins (moment ∷ past) (suc k) before choice leaves = work_begins past k before choice leaves

  -- The moment that was now has passed, at whose end no card was at work, and further ones.
  module _ (old new : SimSite D B C) (note : Note) (more : List (Moment D B C)) (rests : IsRest note) (is : new.past.items ≡ old.past.items ++ (old.parts, note) ∷ more) where
    abbrev n : ℕ
    n = length old.past.items

    moment_is : (k : ℕ) → k ≤ n → moment_of told new k ≡ moment_at old.past.items (old.parts, note) k
    moment_is k le = ap (λ (l : List (Moment D B C)). moment_at l (new.parts, Quiet) k) is ∙ at_past old.past.items (old.parts, note) more (new.parts, Quiet) k le

    parts_at : (k : ℕ) → k ≤ n → (moment_of told new k).0 ≡ (moment_of told old k).0
    parts_at k le = ap (λ (m : Moment D B C). m.0) (moment_is k le) ∙ same_parts old.parts note rests old.past.items k

    taken : (k : ℕ) → k ≤ n → take k new.past.items ≡ take k old.past.items
    taken k le = ap (take k) is ∙ take-append-le k old.past.items ((old.parts, note) ∷ more) le

    pub longer : length new.past.items ≡ n + 1 + length more
    longer = omega (arith, ap length is, length-append old.past.items ((old.parts, note) ∷ more))

    pub past_stands : PastStands (sim_told told) old new
    past_stands = record {
      later = omega (arith, longer);
      no_more = λ k image le at. subst (λ (p : Parts D B C). image_now told p.journal image) (parts_at k le) at;
      no_fewer = λ k image le at. subst (λ (p : Parts D B C). image_now told p.journal image) (sym (parts_at k le)) at;
      beside = λ k le.
          ap (λ (l : List (Moment D B C)). port_by told l (moment_of told new k).0) (taken k le)
          ∙ ap (λ (p : Parts D B C). port_by told (take k old.past.items) p) (parts_at k le);
      no_more_choices = λ k choice le at.
          subst (λ (p : Parts D B C). LeavesAt told p (moment_of told old k) choice) (parts_at (k - 1) (omega (arith, le)))
          (work_ends old.parts note rests old.past.items k (moment_of told new (k - 1)).0 choice
          (subst (λ (m : Moment D B C). LeavesAt told (moment_of told new (k - 1)).0 m choice) (moment_is k le) at));
      no_fewer_choices = λ k choice le at.
          subst (λ (m : Moment D B C). LeavesAt told (moment_of told new (k - 1)).0 m choice) (sym (moment_is k le))
          (work_begins old.parts note rests old.past.items k (moment_of told new (k - 1)).0 choice
          (subst (λ (p : Parts D B C). LeavesAt told p (moment_of told old k) choice) (sym (parts_at (k - 1) (omega (arith, le)))) at));
    }
