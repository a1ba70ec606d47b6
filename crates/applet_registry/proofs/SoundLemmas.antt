-- Each command leaves a sound registry.
use Rattle.std.proofs.Common.{◌≡◌, ℕ, suc, ◌+◌, ◌<◌, ◌≤◌, Bool, true, false, not, cond, ◌||◌, nat_eq, find, bytes_eq, IfSome, is_some, Option, Some, None, option_map, option_and_then, List, [], ◌∷◌, ◌++◌, length, map, filter, take, drop, sum_by, length-append, refl, sym, ap, subst, ◌∙◌, arith}
use Rattle.std.specs.List.{list_any}
use Rattle.std.specs.Option.{option_map_or}
use Rattle.std.proofs.lemmas.Bool.{or_parts}
use Rattle.std.proofs.lemmas.Bool.Decides.{Decides-eqb}
use Rattle.std.proofs.lemmas.Grind.{common_steps}
use Rattle.std.proofs.lemmas.List.Folds.{list_any-append}
use Rattle.std.proofs.lemmas.List.Sums.{sum_by-cons, sum_by_push}
use Rattle.std.proofs.lemmas.Map.Views.{any-filter_same}
use Rattle.std.proofs.lemmas.Slice.Eq.{bytes_eq-Decides}
use Rattle.ota_core.proofs.KeysetListLemmas.{IsKeysetList-push}
use Rattle.ota_core.specs.KeysetList.{has_kvn}
use Rattle.ota_core.specs.declared.keysets.KeysetFacts.{KeysetFacts}
use Rattle.applet_registry.specs.declared.application.Application.{Application}
use Rattle.applet_registry.specs.declared.application.NewState.{NewState}
use Rattle.applet_registry.specs.declared.load.Load.{Load}
use Rattle.applet_registry.specs.declared.load_file.LoadFile.{LoadFile}
use Rattle.applet_registry.specs.Sound.{has, AreDistinct, IsSound}
use Rattle.applet_registry.specs.State.{State, keyset_in, with_state_of, total_of}

same-true : (a b : List ℕ) → bytes_eq a b ≡ true → a ≡ b
same-true a b e = (bytes_eq-Decides a b).0 e

pub same_refl : (a : List ℕ) → bytes_eq a a ≡ true
same_refl a = (bytes_eq-Decides a a).1 refl

turned : (a b : List ℕ) → bytes_eq a b ≡ false → bytes_eq b a ≡ false
turned a b f =
    elim (bytes_eq b a) as (λ t. bytes_eq b a ≡ t → t ≡ false) [
      | true ↦ λ e. let back : bytes_eq a b ≡ true = (bytes_eq-Decides a b).1 (sym (same-true b a e)) in cc
      | false ↦ λ e. refl
    ] refl

-- what one AID passes and another doesn't, they aren't the same
not-it : (p : List ℕ → Bool) (a b : List ℕ) → p a ≡ false → p b ≡ true → bytes_eq a b ≡ false
not-it p a b lacks there =
    elim (bytes_eq a b) as (λ t. bytes_eq a b ≡ t → t ≡ false) [
      | true ↦ λ e. let both : p a ≡ p b = ap p (same-true a b e) in let never : false ≡ true = sym lacks ∙ both ∙ there in cc
      | false ↦ λ e. refl
    ] refl

either : (a b : Bool) → a ≡ false → b ≡ false → (a || b) ≡ false
either false false e f = refl
either true b e f = cc
either false true e f = cc

-- where an AID stands behind others, one of them has it, or it is the last
last-has : {X : Type 0} (aid_in : X → List ℕ) (xs : List X) (x : X) (aid : List ℕ) → has aid_in (xs ++ x ∷ []) aid ≡ (has aid_in xs aid || (bytes_eq (aid_in x) aid || false))
last-has aid_in xs x aid = list_any-append (λ y. bytes_eq (aid_in y) aid) xs (x ∷ [])

none-behind : {X : Type 0} (aid_in : X → List ℕ) (xs : List X) (x : X) (aid : List ℕ) → has aid_in xs aid ≡ false → bytes_eq (aid_in x) aid ≡ false → has aid_in (xs ++ x ∷ []) aid ≡ false
none-behind aid_in xs x aid lacks other = last-has aid_in xs x aid ∙ either _ _ lacks (either _ _ other refl)

still-behind : {X : Type 0} (aid_in : X → List ℕ) (xs : List X) (x : X) (aid : List ℕ) → has aid_in xs aid ≡ true → has aid_in (xs ++ x ∷ []) aid ≡ true
still-behind aid_in xs x aid there = last-has aid_in xs x aid ∙ ap (λ b. b || (bytes_eq (aid_in x) aid || false)) there

-- by cases on which of them has it
behind : {X : Type 0} (aid_in : X → List ℕ) (xs : List X) (x : X) (aid : List ℕ) (P : Type 0) → (has aid_in xs aid ≡ true → P) → (bytes_eq (aid_in x) aid ≡ true → P) → has aid_in (xs ++ x ∷ []) aid ≡ true → P
behind aid_in xs x aid P before last there =
    elim (has aid_in xs aid) as (λ b. has aid_in xs aid ≡ b → (b || (bytes_eq (aid_in x) aid || false)) ≡ true → P) [
      | true ↦ λ e f. before e
      | false ↦ λ e f.
          elim (bytes_eq (aid_in x) aid) as (λ t. bytes_eq (aid_in x) aid ≡ t → (t || false) ≡ true → P) [
            | true ↦ λ g h. last g
            | false ↦ λ g h. let never : false ≡ true = h in cc
          ] refl f
    ] refl (sym (last-has aid_in xs x aid) ∙ there)

distinct-append : {X : Type 0} (aid_in : X → List ℕ) (xs : List X) (x : X) → AreDistinct aid_in xs → has aid_in xs (aid_in x) ≡ false → AreDistinct aid_in (xs ++ x ∷ [])
distinct-append aid_in [] x d none = (refl, tt)
distinct-append aid_in (y ∷ ys) x d none =
    let parts = or_parts (bytes_eq (aid_in y) (aid_in x)) (has aid_in ys (aid_in x)) none in
    (none-behind aid_in ys x (aid_in y) d.0 (turned (aid_in y) (aid_in x) parts.0), distinct-append aid_in ys x d.1 parts.1)

any-less : {X : Type 0} (test keep : X → Bool) (xs : List X) → list_any test xs ≡ false → list_any test (filter keep xs) ≡ false
any-less test keep [] none = refl
any-less test keep (x ∷ xs) none =
    let parts = or_parts (test x) (list_any test xs) none in
    let rest = any-less test keep xs parts.1 in
    elim (keep x) as (λ b. list_any test (cond b (x ∷ filter keep xs) (filter keep xs)) ≡ false) [
      | true ↦ either (test x) (list_any test (filter keep xs)) parts.0 rest
      | false ↦ rest
    ]

distinct-filter : {X : Type 0} (aid_in : X → List ℕ) (keep : X → Bool) (xs : List X) → AreDistinct aid_in xs → AreDistinct aid_in (filter keep xs)
distinct-filter aid_in keep [] d = tt
distinct-filter {X} aid_in keep (x ∷ xs) d =
    elim (keep x) as (λ b. AreDistinct aid_in (cond b (x ∷ filter keep xs) (filter keep xs))) [
      | true ↦ (any-less (λ y. bytes_eq (aid_in y) (aid_in x)) keep xs d.0, distinct-filter aid_in keep xs d.1)
      | false ↦ distinct-filter aid_in keep xs d.1
    ]

any-map : {X : Type 0} (aid_in : X → List ℕ) (f : X → X) → ((x : X) → aid_in (f x) ≡ aid_in x) → (xs : List X) (aid : List ℕ) → has aid_in (map f xs) aid ≡ has aid_in xs aid
any-map aid_in f same [] aid = refl
any-map aid_in f same (x ∷ xs) aid = ap (λ a. bytes_eq a aid || has aid_in (map f xs) aid) (same x) ∙ ap (λ b. bytes_eq (aid_in x) aid || b) (any-map aid_in f same xs aid)

distinct-map : {X : Type 0} (aid_in : X → List ℕ) (f : X → X) → ((x : X) → aid_in (f x) ≡ aid_in x) → (xs : List X) → AreDistinct aid_in xs → AreDistinct aid_in (map f xs)
distinct-map aid_in f same [] d = tt
distinct-map aid_in f same (x ∷ xs) d =
    (ap (has aid_in (map f xs)) (same x) ∙ any-map aid_in f same xs (aid_in x) ∙ d.0, distinct-map aid_in f same xs d.1)

shorter : {X : Type 0} (keep : X → Bool) (xs : List X) → length (filter keep xs) ≤ length xs
shorter keep [] = omega arith
shorter keep (x ∷ xs) =
    let rest = shorter keep xs in
    elim (keep x) as (λ b. length (cond b (x ∷ filter keep xs) (filter keep xs)) ≤ length (x ∷ xs)) [
      | true ↦ omega (arith, rest)
      | false ↦ omega (arith, rest)
    ]

abbrev size : LoadFile → ℕ
size file = length file.octets

less-held : (keep : LoadFile → Bool) (files : List LoadFile) → total_of (filter keep files) ≤ total_of files
less-held keep [] = omega arith
less-held keep (file ∷ files) =
    let rest = less-held keep files in
    let all : total_of (file ∷ files) ≡ length file.octets + total_of files = sum_by-cons size file files in
    let kept : total_of (file ∷ filter keep files) ≡ length file.octets + total_of (filter keep files) = sum_by-cons size file (filter keep files) in
    elim (keep file) as (λ b. total_of (cond b (file ∷ filter keep files) (filter keep files)) ≤ total_of (file ∷ files)) [
      | true ↦ omega (arith, rest, all, kept)
      | false ↦ (let less : total_of (filter keep files) ≤ total_of (file ∷ files) = omega (arith, rest, all) in less)
    ]

more-held : (files : List LoadFile) (file : LoadFile) → total_of (files ++ file ∷ []) ≡ total_of files + length file.octets
more-held files file = sum_by_push size files file

-- the state of these parts
abbrev pub state : List LoadFile → List Application → Option Load → List ℕ → List (ℕ × KeysetFacts) → State
state files applications load issued put = record { load_files = files; applications = applications; load = load; issued = issued; put = put }

pub sound-fresh : (issued : List ℕ) → IsSound (state [] [] None issued [])
sound-fresh issued = record {
  load_files = tt;
  applications = tt;
  apart = λ aid there. refl;
  loading = λ aid there. (refl, refl);
  comes_from = λ aid there. cc;
  few_files = omega arith;
  few_blocks = tt;
  few_applications = omega arith;
  room = omega arith;
  put = tt;
  not_issued = λ kvn there. cc;
}

-- INSTALL [for load]
pub sound-begun : (files : List LoadFile) (applications : List Application) (load : Option Load) (issued : List ℕ) (put : List (ℕ × KeysetFacts)) (aid : List ℕ) → IsSound (state files applications load issued put)
    → (has (λ (f : LoadFile). f.aid) files aid || has (λ (a : Application). a.aid) applications aid || option_map_or (λ (l : Load). bytes_eq l.aid aid) load false) ≡ false → length files < 32
    → IsSound (state files applications (Some (record { aid = aid; blocks = []; count = 0 })) issued put)
sound-begun files applications load issued put aid h unknown few =
    let all = or_parts (has (λ (f : LoadFile). f.aid) files aid || has (λ (a : Application). a.aid) applications aid) (option_map_or (λ (l : Load). bytes_eq l.aid aid) load false) unknown in
    let registered = or_parts (has (λ (f : LoadFile). f.aid) files aid) (has (λ (a : Application). a.aid) applications aid) all.0 in
    let room = h.room in record {
      load_files = h.load_files;
      applications = h.applications;
      apart = h.apart;
      loading = λ other there.
          let P : List ℕ → Type 0 = λ a. (has (λ (f : LoadFile). f.aid) files a ≡ false) × (has (λ (a : Application). a.aid) applications a ≡ false) in
          subst P (same-true aid other there) registered;
      comes_from = h.comes_from;
      few_files = h.few_files;
      few_blocks = (omega arith, few);
      few_applications = h.few_applications;
      room = omega (arith, room);
      put = h.put;
      not_issued = h.not_issued;
    }

-- the load under way is dropped
pub sound-dropped : (files : List LoadFile) (applications : List Application) (load : Option Load) (issued : List ℕ) (put : List (ℕ × KeysetFacts)) → IsSound (state files applications load issued put) → IsSound (state files applications None issued put)
sound-dropped files applications load issued put h =
    let room = h.room in record {
      load_files = h.load_files;
      applications = h.applications;
      apart = h.apart;
      loading = λ aid there. let never : false ≡ true = there in cc;
      comes_from = h.comes_from;
      few_files = h.few_files;
      few_blocks = tt;
      few_applications = h.few_applications;
      room = omega (arith, room);
      put = h.put;
      not_issued = h.not_issued;
    }

-- LOAD of a block
pub sound-block : (files : List LoadFile) (applications : List Application) (load : Load) (issued : List ℕ) (put : List (ℕ × KeysetFacts)) (block : List ℕ) → IsSound (state files applications (Some load) issued put)
    → load.count < 256 → total_of files + length load.blocks + length block ≤ 65536
    → IsSound (state files applications (Some (record load { blocks = load.blocks ++ block; count = load.count + 1 })) issued put)
sound-block files applications load issued put block h few room =
    let few_blocks = h.few_blocks in
    let grown : length (load.blocks ++ block) ≡ length load.blocks + length block = length-append load.blocks block in record {
      load_files = h.load_files;
      applications = h.applications;
      apart = h.apart;
      loading = h.loading;
      comes_from = h.comes_from;
      few_files = h.few_files;
      few_blocks = (omega (arith, few), few_blocks.1);
      few_applications = h.few_applications;
      room = omega (arith, grown, room);
      put = h.put;
      not_issued = h.not_issued;
    }

-- LOAD of the last block
sound-loaded : (files : List LoadFile) (applications : List Application) (load : Load) (issued : List ℕ) (put : List (ℕ × KeysetFacts)) (file : LoadFile) → IsSound (state files applications (Some load) issued put)
    → bytes_eq load.aid file.aid ≡ true → total_of files + length file.octets ≤ 65536
    → IsSound (state (files ++ file ∷ []) applications None issued put)
sound-loaded files applications load issued put file h under_way room =
    let few_blocks = h.few_blocks in
    let apart = h.loading file.aid under_way in
    let more : length (files ++ file ∷ []) ≡ length files + 1 = length-append files (file ∷ []) in
    let held = more-held files file in record {
      load_files = distinct-append (λ (f : LoadFile). f.aid) files file h.load_files apart.0;
      applications = h.applications;
      apart = λ other there.
          behind (λ (f : LoadFile). f.aid) files file other (has (λ (a : Application). a.aid) applications other ≡ false)
          (λ before. h.apart other before)
          (λ last. ap (has (λ (a : Application). a.aid) applications) (sym (same-true file.aid other last)) ∙ apart.1)
          there;
      loading = λ other there. let never : false ≡ true = there in cc;
      comes_from = λ other there. still-behind (λ (f : LoadFile). f.aid) files file other (h.comes_from other there);
      few_files = omega (arith, more, few_blocks.1);
      few_blocks = tt;
      few_applications = h.few_applications;
      room = omega (arith, held, room);
      put = h.put;
      not_issued = h.not_issued;
    }

pub sound-ended : (files : List LoadFile) (applications : List Application) (load : Option Load) (issued : List ℕ) (put : List (ℕ × KeysetFacts)) (file : LoadFile) → IsSound (state files applications load issued put)
    → option_map_or (λ (l : Load). bytes_eq l.aid file.aid) load false ≡ true → total_of files + length file.octets ≤ 65536
    → IsSound (state (files ++ file ∷ []) applications None issued put)
sound-ended files applications None issued put file h under_way room = let never : false ≡ true = under_way in cc
sound-ended files applications (Some load) issued put file h under_way room = sound-loaded files applications load issued put file h under_way room

-- INSTALL [for install]
pub sound-registered : (files : List LoadFile) (applications : List Application) (load : Option Load) (issued : List ℕ) (put : List (ℕ × KeysetFacts)) (new : Application) → IsSound (state files applications load issued put)
    → has (λ (f : LoadFile). f.aid) files new.load_file ≡ true
    → (has (λ (f : LoadFile). f.aid) files new.aid || has (λ (a : Application). a.aid) applications new.aid || option_map_or (λ (l : Load). bytes_eq l.aid new.aid) load false) ≡ false → length applications < 64
    → IsSound (state files (applications ++ new ∷ []) load issued put)
sound-registered files applications load issued put new h from unknown few =
    let all = or_parts (has (λ (f : LoadFile). f.aid) files new.aid || has (λ (a : Application). a.aid) applications new.aid) (option_map_or (λ (l : Load). bytes_eq l.aid new.aid) load false) unknown in
    let registered = or_parts (has (λ (f : LoadFile). f.aid) files new.aid) (has (λ (a : Application). a.aid) applications new.aid) all.0 in
    let more : length (applications ++ new ∷ []) ≡ length applications + 1 = length-append applications (new ∷ []) in record {
      load_files = h.load_files;
      applications = distinct-append (λ (a : Application). a.aid) applications new h.applications registered.1;
      apart = λ aid there. none-behind (λ (a : Application). a.aid) applications new aid (h.apart aid there) (not-it (has (λ (f : LoadFile). f.aid) files) new.aid aid registered.0 there);
      loading = λ aid there.
          let before = h.loading aid there in
          (before.0, none-behind (λ (a : Application). a.aid) applications new aid before.1 (not-it (λ a. option_map_or (λ (l : Load). bytes_eq l.aid a) load false) new.aid aid all.1 there));
      comes_from = λ aid there.
          behind (λ (a : Application). a.load_file) applications new aid (has (λ (f : LoadFile). f.aid) files aid ≡ true)
          (λ before. h.comes_from aid before)
          (λ last. ap (has (λ (f : LoadFile). f.aid) files) (sym (same-true new.load_file aid last)) ∙ from)
          there;
      few_files = h.few_files;
      few_blocks = h.few_blocks;
      few_applications = omega (arith, more, few);
      room = h.room;
      put = h.put;
      not_issued = h.not_issued;
    }

-- INSTALL [for make selectable], and SET STATUS
same-aid : (new : NewState) (a : Application) → (with_state_of new a).aid ≡ a.aid
same-aid new a = elim (bytes_eq a.aid new.aid) as (λ b. (cond b (record a { state = new.state }) a).aid ≡ a.aid) [ true ↦ refl | false ↦ refl ]

same-load_file : (new : NewState) (a : Application) → (with_state_of new a).load_file ≡ a.load_file
same-load_file new a = elim (bytes_eq a.aid new.aid) as (λ b. (cond b (record a { state = new.state }) a).load_file ≡ a.load_file) [ true ↦ refl | false ↦ refl ]

length-map : {X : Type 0} (f : X → X) (xs : List X) → length (map f xs) ≡ length xs
length-map f [] = refl
length-map f (x ∷ xs) = ap suc (length-map f xs)

pub sound-state : (files : List LoadFile) (applications : List Application) (load : Option Load) (issued : List ℕ) (put : List (ℕ × KeysetFacts)) (new : NewState) → IsSound (state files applications load issued put) → IsSound (state files (map (with_state_of new) applications) load issued put)
sound-state files applications load issued put new h =
    let as_many = length-map (with_state_of new) applications in
    let few = h.few_applications in record {
      load_files = h.load_files;
      applications = distinct-map (λ (a : Application). a.aid) (with_state_of new) (same-aid new) applications h.applications;
      apart = λ aid there. any-map (λ (a : Application). a.aid) (with_state_of new) (same-aid new) applications aid ∙ h.apart aid there;
      loading = λ aid there.
          let before = h.loading aid there in
          (before.0, any-map (λ (a : Application). a.aid) (with_state_of new) (same-aid new) applications aid ∙ before.1);
      comes_from = λ aid there. h.comes_from aid (sym (any-map (λ (a : Application). a.load_file) (with_state_of new) (same-load_file new) applications aid) ∙ there);
      few_files = h.few_files;
      few_blocks = h.few_blocks;
      few_applications = omega (arith, as_many, few);
      room = h.room;
      put = h.put;
      not_issued = h.not_issued;
    }

-- what is found among some of them is found among all
any-more : {X : Type 0} (test keep : X → Bool) (xs : List X) → list_any test (filter keep xs) ≡ true → list_any test xs ≡ true
any-more test keep xs there =
    elim (list_any test xs) as (λ b. list_any test xs ≡ b → b ≡ true) [
      | true ↦ λ e. refl
      | false ↦ λ e. let never : false ≡ true = sym (any-less test keep xs e) ∙ there in cc
    ] refl

-- DELETE of an application
pub sound-without-application : (files : List LoadFile) (applications : List Application) (load : Option Load) (issued : List ℕ) (put : List (ℕ × KeysetFacts)) (aid : List ℕ) → IsSound (state files applications load issued put)
    → IsSound (state files (filter (λ a. not (bytes_eq a.aid aid)) applications) load issued put)
sound-without-application files applications load issued put aid h =
    let keep : Application → Bool = λ a. not (bytes_eq a.aid aid) in
    let fewer = shorter keep applications in
    let few = h.few_applications in record {
      load_files = h.load_files;
      applications = distinct-filter (λ (a : Application). a.aid) keep applications h.applications;
      apart = λ other there. any-less (λ (a : Application). bytes_eq a.aid other) keep applications (h.apart other there);
      loading = λ other there.
          let before = h.loading other there in
          (before.0, any-less (λ (a : Application). bytes_eq a.aid other) keep applications before.1);
      comes_from = λ other there. h.comes_from other (any-more (λ (a : Application). bytes_eq a.load_file other) keep applications there);
      few_files = h.few_files;
      few_blocks = h.few_blocks;
      few_applications = omega (arith, fewer, few);
      room = h.room;
      put = h.put;
      not_issued = h.not_issued;
    }

-- none of those that stay has the AID, and of the others each stays
gone : {X : Type 0} (aid_in : X → List ℕ) (xs : List X) (aid : List ℕ) → has aid_in (filter (λ x. not (bytes_eq (aid_in x) aid)) xs) aid ≡ false
gone aid_in xs aid = any-filter_same (λ x. bytes_eq (aid_in x) aid) (λ x. not (bytes_eq (aid_in x) aid)) false (λ x is. ap not is) xs

stays : {X : Type 0} (aid_in : X → List ℕ) (xs : List X) (aid other : List ℕ) → bytes_eq other aid ≡ false → has aid_in (filter (λ x. not (bytes_eq (aid_in x) aid)) xs) other ≡ has aid_in xs other
stays aid_in xs aid other differs =
    any-filter_same (λ x. bytes_eq (aid_in x) other) (λ x. not (bytes_eq (aid_in x) aid)) true
    (λ x is. ap (λ a. not (bytes_eq a aid)) (same-true (aid_in x) other is) ∙ ap not differs) xs

-- DELETE of a load file, with the applications that come from it
few-left : (keep : LoadFile → Bool) (files : List LoadFile) (load : Option Load) → IfSome load (λ l. (l.count ≤ 256) × (length files < 32)) → IfSome load (λ l. (l.count ≤ 256) × (length (filter keep files) < 32))
few-left keep files None few = tt
few-left keep files (Some load) few = let fewer = shorter keep files in (few.0, omega (arith, fewer, few.1))

pub sound-without-load-file : (files : List LoadFile) (applications : List Application) (load : Option Load) (issued : List ℕ) (put : List (ℕ × KeysetFacts)) (aid : List ℕ) → IsSound (state files applications load issued put)
    → IsSound (state (filter (λ f. not (bytes_eq f.aid aid)) files) (filter (λ a. not (bytes_eq a.load_file aid)) applications) load issued put)
sound-without-load-file files applications load issued put aid h =
    let keep_file : LoadFile → Bool = λ f. not (bytes_eq f.aid aid) in
    let keep : Application → Bool = λ a. not (bytes_eq a.load_file aid) in
    let fewer_files = shorter keep_file files in
    let fewer = shorter keep applications in
    let less = less-held keep_file files in
    let few_files = h.few_files in
    let few = h.few_applications in
    let room = h.room in record {
      load_files = distinct-filter (λ (f : LoadFile). f.aid) keep_file files h.load_files;
      applications = distinct-filter (λ (a : Application). a.aid) keep applications h.applications;
      apart = λ other there. any-less (λ (a : Application). bytes_eq a.aid other) keep applications (h.apart other (any-more (λ (f : LoadFile). bytes_eq f.aid other) keep_file files there));
      loading = λ other there.
          let before = h.loading other there in
          (any-less (λ (f : LoadFile). bytes_eq f.aid other) keep_file files before.0, any-less (λ (a : Application). bytes_eq a.aid other) keep applications before.1);
      comes_from = λ other there.
          elim (bytes_eq other aid) as (λ b. bytes_eq other aid ≡ b → has (λ (f : LoadFile). f.aid) (filter keep_file files) other ≡ true) [
            | true ↦ λ e.
                let none : has (λ (a : Application). a.load_file) (filter keep applications) other ≡ false = ap (has (λ (a : Application). a.load_file) (filter keep applications)) (same-true other aid e) ∙ gone (λ (a : Application). a.load_file) applications aid in
                let never : false ≡ true = sym none ∙ there in
                cc
            | false ↦ λ e. stays (λ (f : LoadFile). f.aid) files aid other e ∙ h.comes_from other (any-more (λ (a : Application). bytes_eq a.load_file other) keep applications there)
          ] refl;
      few_files = omega (arith, fewer_files, few_files);
      few_blocks = few-left keep_file files load h.few_blocks;
      few_applications = omega (arith, fewer, few);
      room = omega (arith, less, room);
      put = h.put;
      not_issued = h.not_issued;
    }

-- PUT KEY
found-behind : (put : List (ℕ × KeysetFacts)) (kvn : ℕ) (facts : KeysetFacts) (other : ℕ) (P : Type 0) → (is_some (keyset_in put other) ≡ true → P) → (nat_eq kvn other ≡ true → P) → is_some (keyset_in (put ++ (kvn, facts) ∷ []) other) ≡ true → P
found-behind [] kvn facts other P before last there =
    elim (nat_eq kvn other) as (λ b. nat_eq kvn other ≡ b → is_some (option_map (λ (k : ℕ × KeysetFacts). k.1) (cond b (Some (kvn, facts)) None)) ≡ true → P) [
      | true ↦ λ e f. last e
      | false ↦ λ e f. let never : false ≡ true = f in cc
    ] refl there
found-behind (first ∷ put) kvn facts other P before last there =
    elim (nat_eq first.0 other) as (λ b. (is_some (option_map (λ (k : ℕ × KeysetFacts). k.1) (cond b (Some first) (find (λ (k : ℕ × KeysetFacts). nat_eq k.0 other) put))) ≡ true → P)
    → is_some (option_map (λ (k : ℕ × KeysetFacts). k.1) (cond b (Some first) (find (λ (k : ℕ × KeysetFacts). nat_eq k.0 other) (put ++ (kvn, facts) ∷ [])))) ≡ true → P) [
      | true ↦ λ was f. was refl
      | false ↦ λ was f. found-behind put kvn facts other P was last f
    ] before there

pub sound-put : (files : List LoadFile) (applications : List Application) (load : Option Load) (issued : List ℕ) (put : List (ℕ × KeysetFacts)) (kvn : ℕ) (facts : KeysetFacts) → IsSound (state files applications load issued put)
    → 1 ≤ kvn → kvn ≤ 15 → list_any (λ i. nat_eq i kvn) issued ≡ false → has_kvn kvn put ≡ false
    → IsSound (state files applications load issued (put ++ (kvn, facts) ∷ []))
sound-put files applications load issued put kvn facts h above below new free = record {
  load_files = h.load_files;
  applications = h.applications;
  apart = h.apart;
  loading = h.loading;
  comes_from = h.comes_from;
  few_files = h.few_files;
  few_blocks = h.few_blocks;
  few_applications = h.few_applications;
  room = h.room;
  put = IsKeysetList-push put kvn facts h.put above below free;
  not_issued = λ other there.
      found-behind put kvn facts other (list_any (λ i. nat_eq i other) issued ≡ false)
      (λ before. h.not_issued other before)
      (λ last.
      let same : kvn ≡ other = (Decides-eqb kvn other).0 last in
      ap (λ k. list_any (λ i. nat_eq i k) issued) (sym same) ∙ new)
      there;
}

-- what is written back to a vector through its slice
pub written_back : {X : Type 0} (old new : List X) (len : ℕ) → len ≡ length old → length new ≡ length old → take len (new ++ drop (length new) old) ≡ new
written_back old new len e same = grind (arith, common_steps, e, same)

pub as-many : (new : NewState) (applications : List Application) → length (map (with_state_of new) applications) ≡ length applications
as-many new applications = length-map (with_state_of new) applications
