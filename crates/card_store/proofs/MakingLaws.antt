-- A store that is made, where none was, and then opened.
use Rattle.std.proofs.Common.{◌≡◌, ◌⊎◌, ℕ, ◌+◌, List, [], ◌∷◌, ◌++◌, length, take, Option, Some, None, Result, Ok, Err, refl, inl, inr, sym, ap, subst, ◌∙◌, arith}
use Rattle.std.proofs.lemmas.List.{take_all}
use Rattle.disk_model.specs.Disk.{Meaning, DiskRun, image_now}
use Rattle.disk_model.specs.Runs.{joined, weaker, left_now}
use Rattle.gate_log.specs.declared.log_errors.LogErr.{LogErr}
use Rattle.gate_log.specs.declared.log_errors.LogErr.TheVariants as log_err
use Rattle.gate_log.specs.Answers.{UnlessFault as UnlessLogFault}
use Rattle.gate_log.specs.Formatting.{IsMade, FormatAnswer, IsBeforeOrNew}
use Rattle.gate_log.specs.Log.{log_octets}
use Rattle.gate_log.specs.Making.{IsNew}
use Rattle.gate_log.specs.Opening.{IsOpened, OpensAlike}
use Rattle.gate_log.specs.Reading.{Reading, heading_of, walk_from, parts_of, OpensTo}
use Rattle.gate_log.specs.Reading.Reading.{Unformatted, NotALog, OtherHead, Damaged, Opened}
use Rattle.gate_log.specs.Readers.{IsReadTo, IsOpenedWith}
use Rattle.ota_core.specs.declared.cards.CardFacts.{CardFacts}
use Rattle.card_store.specs.Content.{Content, issued}
use Rattle.card_store.specs.Opening.{IsReadAs, LogRefuses, IsCutAtMost, IsReplayedAs}
use Rattle.card_store.specs.Parts.{store_head}
use Rattle.card_store.specs.Refusals.{store_error_of}
use Rattle.card_store.specs.Replay.{replayed, IsContentOf, IsDamagedAt}
use Rattle.card_store.specs.Store.{IsLeft, IsLeftByRefusal, IsBeforeOrOpened, StoreRefuses, UnlessFault}
use Rattle.card_store.specs.declared.openings.OpenedStore.{OpenedStore}
use Rattle.card_store.proofs.OpeningLaws.{IsBeforeOrAlike}

-- the log of a store without parts
abbrev EMPTY : List ℕ
EMPTY = log_octets store_head []

empty_opens : parts_of store_head EMPTY ≡ Opened [] []
unfolding heading_of walk_from
empty_opens = refl

opened_same : (one other : List (List ℕ)) (behind rest : List ℕ) → Opened one behind ≡ Opened other rest → (one ≡ other) × (behind ≡ rest)
opened_same one other behind rest e = (cc, cc)

not_damaged : (one other : List (List ℕ)) (behind : List ℕ) → Opened one behind ≡ Damaged other → ⊥
not_damaged one other behind e = cc

some_same : (a b : Content) → Some a ≡ Some b → a ≡ b
some_same a b e = cc

-- ---- an opening of what was made

module _ (old new : List ℕ) (none : parts_of store_head old ≡ Unformatted) where
  made_left : (len : ℕ) → IsOpened store_head EMPTY new len → IsLeft old new len
  made_left len opened =
      let same = opened_same opened.parts [] opened.behind [] (sym opened.was ∙ empty_opens) in
      let long : len ≡ 11 = omega (arith, opened.long, ap length same.1) in
      inl (none, opened.cut ∙ take_all len EMPTY (omega (arith, long)), long)

  made_opened : (facts : CardFacts) (opened : OpenedStore) → IsReadAs facts EMPTY new opened → IsReplayedAs facts old new opened
  made_opened facts opened read =
      let same = opened_same read.parts [] read.cut.behind [] (sym read.cut.was ∙ empty_opens) in
      record {
        content = read.replay.content;
        parts = read.parts;
        shows = read.replay.shows;
        was = subst (λ (r : Reading). IsContentOf facts r read.replay.content) (sym none)
            (sym (some_same (issued facts) read.replay.content (sym (ap (replayed facts) same.0) ∙ read.replay.replays)));
        is = read.cut.is;
        replays = read.replay.replays;
        left = made_left opened.log (record { parts = read.parts; behind = read.cut.behind; was = read.cut.was; is = read.cut.is; cut = read.cut.cut; long = read.cut.long });
      }

  -- it is refused for nothing that it holds
  sound_stops : (facts : CardFacts) (number : ℕ) → IsDamagedAt facts (parts_of store_head EMPTY) number → ⊥
  sound_stops facts number (inl (parts, inl opened, stops)) =
      let same = opened_same parts [] opened.0 [] (sym opened.1 ∙ empty_opens) in
      no_part stops.first stops.part stops.rest (sym same.0 ∙ stops.spelled)
    where
      no_part : (first : List (List ℕ)) (part : List ℕ) (rest : List (List ℕ)) → [] ≡ first ++ part ∷ rest → ⊥
      no_part [] part rest e = cc
      no_part (one ∷ first) part rest e = cc
  sound_stops facts number (inl (parts, inr damaged, stops)) = not_damaged [] parts [] (sym empty_opens ∙ damaged)
  sound_stops facts number (inr ends) = not_damaged [] ends.parts [] (sym empty_opens ∙ ends.damaged)

  made_refused : (facts : CardFacts) (error : LogErr) → LogRefuses facts (parts_of store_head EMPTY) error → StoreRefuses facts (parts_of store_head old) (store_error_of error)
  made_refused facts log_err.Memory refuses = tt
  made_refused facts (log_err.DiskFault fault) refuses = tt
  made_refused facts log_err.Unformatted refuses = absurd (not_that (sym empty_opens ∙ refuses))
    where
      not_that : Opened [] [] ≡ Unformatted → ⊥
      not_that e = cc
  made_refused facts log_err.NotALog refuses = absurd (not_that (sym empty_opens ∙ refuses))
    where
      not_that : Opened [] [] ≡ NotALog → ⊥
      not_that e = cc
  made_refused facts (log_err.OtherHead rest) refuses = absurd (not_that rest (sym empty_opens ∙ refuses))
    where
      not_that : (rest : List ℕ) → Opened [] [] ≡ OtherHead rest → ⊥
      not_that rest e = cc
  made_refused facts (log_err.Damaged number) refuses = absurd (sound_stops facts number refuses)
  made_refused facts (log_err.Full length need) refuses = absurd refuses

  made_cut : IsCutAtMost EMPTY new → IsLeftByRefusal old new
  made_cut (inl same) = inr (11, inl (none, same, refl))
  made_cut (inr (len, opened)) = inr (len, made_left len opened)

  made_alike : (image : List ℕ) → OpensAlike store_head EMPTY image → IsNew store_head image
  made_alike image (parts, opens, alike) =
      let same = opened_same parts [] opens.0 [] (sym opens.1 ∙ empty_opens) in
      inr (subst (λ (p : List (List ℕ)). OpensTo store_head p image) same.0 alike)

-- ---- an opening of what stood

stood_opened : (old new : List ℕ) (facts : CardFacts) (opened : OpenedStore) → IsReadAs facts old new opened → IsReplayedAs facts old new opened
stood_opened old new facts opened read = record {
  content = read.replay.content;
  parts = read.parts;
  shows = read.replay.shows;
  was = subst (λ (r : Reading). IsContentOf facts r read.replay.content) (sym read.cut.was) read.replay.replays;
  is = read.cut.is;
  replays = read.replay.replays;
  left = inr (record { parts = read.parts; behind = read.cut.behind; was = read.cut.was; is = read.cut.is; cut = read.cut.cut; long = read.cut.long });
}

stood_refused : (facts : CardFacts) (read : Reading) (error : LogErr) → IsMade read → LogRefuses facts read error → StoreRefuses facts read (store_error_of error)
stood_refused facts read log_err.Memory made refuses = tt
stood_refused facts read (log_err.DiskFault fault) made refuses = tt
stood_refused facts read log_err.Unformatted made refuses = absurd (subst IsMade refuses made)
stood_refused facts read log_err.NotALog made refuses = refuses
stood_refused facts read (log_err.OtherHead rest) made refuses = refuses
stood_refused facts read (log_err.Damaged number) made refuses = refuses
stood_refused facts read (log_err.Full length need) made refuses = absurd refuses

stood_cut : (old new : List ℕ) → IsCutAtMost old new → IsLeftByRefusal old new
stood_cut old new (inl same) = inl same
stood_cut old new (inr (len, opened)) = inr (len, inr opened)

-- ---- either

-- a log was made where none was, or stood as it was
abbrev pub IsMadeOrStood : List ℕ → List ℕ → Type 0
IsMadeOrStood old mid = ((parts_of store_head old ≡ Unformatted) × (mid ≡ EMPTY)) ⊎ (IsMade (parts_of store_head old) × (mid ≡ old))

pub either_opened : (old mid new : List ℕ) (facts : CardFacts) (opened : OpenedStore) → IsMadeOrStood old mid → IsReadAs facts mid new opened → IsReplayedAs facts old new opened
either_opened old mid new facts opened (inl (none, is)) read = made_opened old new none facts opened (subst (λ (m : List ℕ). IsReadAs facts m new opened) is read)
either_opened old mid new facts opened (inr (made, is)) read = stood_opened old new facts opened (subst (λ (m : List ℕ). IsReadAs facts m new opened) is read)

pub either_refused : (old mid : List ℕ) (facts : CardFacts) (error : LogErr) → IsMadeOrStood old mid → LogRefuses facts (parts_of store_head mid) error
    → StoreRefuses facts (parts_of store_head old) (store_error_of error)
either_refused old mid facts error (inl (none, is)) refuses = made_refused old old none facts error (subst (λ (m : List ℕ). LogRefuses facts (parts_of store_head m) error) is refuses)
either_refused old mid facts error (inr (made, is)) refuses =
    stood_refused facts (parts_of store_head old) error made (subst (λ (m : List ℕ). LogRefuses facts (parts_of store_head m) error) is refuses)

either_cut : (old mid new : List ℕ) → IsMadeOrStood old mid → IsCutAtMost mid new → IsLeftByRefusal old new
either_cut old mid new (inl (none, is)) cut = made_cut old new none (subst (λ (m : List ℕ). IsCutAtMost m new) is cut)
either_cut old mid new (inr (made, is)) cut = stood_cut old new (subst (λ (m : List ℕ). IsCutAtMost m new) is cut)

pub either_left : (T U : Type 0) (old mid new : List ℕ) (error : LogErr) → IsMadeOrStood old mid → UnlessLogFault {T = T} (Err error) (IsCutAtMost mid new)
    → UnlessFault {T = U} (Err (store_error_of error)) (IsLeftByRefusal old new)
either_left T U old mid new log_err.Memory which cut = either_cut old mid new which cut
either_left T U old mid new (log_err.DiskFault fault) which cut = tt
either_left T U old mid new log_err.Unformatted which cut = either_cut old mid new which cut
either_left T U old mid new log_err.NotALog which cut = either_cut old mid new which cut
either_left T U old mid new (log_err.OtherHead rest) which cut = either_cut old mid new which cut
either_left T U old mid new (log_err.Damaged number) which cut = either_cut old mid new which cut
either_left T U old mid new (log_err.Full size need) which cut = either_cut old mid new which cut

module _ {D B C : Type 0} (told : Meaning D B C) where
  -- the moments of the making and of the opening
  pub either_run : (old mid new : D) → IsMadeOrStood (told.seen old) (told.seen mid) → DiskRun told old mid (IsBeforeOrNew told old store_head) → DiskRun told mid new (IsBeforeOrAlike told mid)
      → DiskRun told old new (IsBeforeOrOpened told old)
  either_run old mid new which first second =
      joined told old mid new (IsBeforeOrOpened told old) (weaker told old mid (IsBeforeOrNew told old store_head) (IsBeforeOrOpened told old) first early)
      (weaker told mid new (IsBeforeOrAlike told mid) (IsBeforeOrOpened told old) second late)
    where
      early : (image : List ℕ) → IsBeforeOrNew told old store_head image → IsBeforeOrOpened told old image
      early image (inl now) = inl now
      early image (inr made) = inr (inl made)

      alike_in : (image : List ℕ) → IsMadeOrStood (told.seen old) (told.seen mid) → OpensAlike store_head (told.seen mid) image → IsBeforeOrOpened told old image
      alike_in image (inl (none, is)) alike = inr (inl (none, made_alike (told.seen old) (told.seen old) none image (subst (λ (m : List ℕ). OpensAlike store_head m image) is alike)))
      alike_in image (inr (made, is)) alike = inr (inr (subst (λ (m : List ℕ). OpensAlike store_head m image) is alike))

      late : (image : List ℕ) → IsBeforeOrAlike told mid image → IsBeforeOrOpened told old image
      late image (inl now) = early image (left_now told old mid (IsBeforeOrNew told old store_head) first image now)
      late image (inr alike) = alike_in image which alike
