-- Laws of the grammar, which other crates cite: octets are one script, or are refused for one reason.
use Rattle.std.proofs.Common.{◌≡◌, ◌⊎◌, inl, inr, ℕ, List, [], ◌∷◌, length, Result, Ok, Err, IfOk, IfErr, refl, sym, subst, ap, ◌∙◌, arith}
use Rattle.expanded_scripts.specs.declared.reading.TemplateErr.{TemplateErr}
use Rattle.expanded_scripts.specs.declared.reading.TemplateErr.TheVariants.{Tag, Length, Child, Command, Memory}
use Rattle.expanded_scripts.specs.Template.{HasValue, IsCommand, IsChild, AreChildren, IsOuter, IsTemplate}
use Rattle.expanded_scripts.specs.Refused.{IsRefused, IsRefusedChild, IsRefusedLater, IsRefusedOuter}
use Rattle.expanded_scripts.specs.Exact.{IsReadAs, IsRefusedAs}
use Rattle.expanded_scripts.proofs.Forms.{one-command}
use Rattle.expanded_scripts.proofs.Values.{one-value}

same-rest : (tag : ℕ) (octets rest other : List ℕ) → octets ≡ tag ∷ rest → octets ≡ tag ∷ other → rest ≡ other
same-rest tag octets rest other e f = cc

no-child : (plain behind : List ℕ) → IsChild [] plain behind → ⊥
no-child plain behind c =
    let tagged : [] ≡ 0x22 ∷ c.rest = c.tagged in
    cc

child-once : (octets plain behind other beyond : List ℕ) → IsChild octets plain behind → IsChild octets other beyond → (plain ≡ other) × (behind ≡ beyond)
child-once octets plain behind other beyond a b =
    let rests : b.rest ≡ a.rest = same-rest 0x22 octets b.rest a.rest b.tagged a.tagged in
    let P : List ℕ → Type 0 = λ r. HasValue r b.value beyond in
    let values = one-value a.rest b.value beyond a.value behind (subst P rests b.holds) a.holds in
    let Q : List ℕ → Type 0 = λ v. IsCommand v other in
    (one-command a.value plain other a.command (subst Q values.0 b.command), sym values.1)

-- ---- one script

children-once : (octets : List ℕ) (plains others : List (List ℕ)) → AreChildren octets plains [] → AreChildren octets others [] → plains ≡ others
children-once octets [] [] a b = refl
children-once octets [] (p ∷ ps) a b =
    let P : List ℕ → Type 0 = λ o. IsChild o p b.0 in
    absurd (no-child p b.0 (subst P a b.1))
children-once octets (p ∷ ps) [] a b =
    let P : List ℕ → Type 0 = λ o. IsChild o p a.0 in
    absurd (no-child p a.0 (subst P b a.1))
children-once octets (p ∷ ps) (q ∷ qs) a b =
    let first = child-once octets p a.0 q b.0 a.1 b.1 in
    let P : List ℕ → Type 0 = λ o. AreChildren o qs [] in
    let others : ps ≡ qs = children-once a.0 ps qs a.2 (subst P (sym first.1) b.2) in
    let heads : p ≡ q = first.0 in
    cc

outer-once : (octets children others : List ℕ) → IsOuter octets children → IsOuter octets others → children ≡ others
outer-once octets children others a b =
    let rests : b.rest ≡ a.rest = same-rest 0xAA octets b.rest a.rest b.tagged a.tagged in
    let P : List ℕ → Type 0 = λ r. HasValue r others [] in
    (one-value a.rest children [] others [] a.holds (subst P rests b.holds)).0

pub one-script : (octets : List ℕ) (commands others : List (List ℕ)) → IsTemplate octets commands → IsTemplate octets others → commands ≡ others
one-script octets commands others a b =
    let same = outer-once octets a.children b.children a.outer b.outer in
    let P : List ℕ → Type 0 = λ o. AreChildren o others [] in
    children-once a.children commands others a.filled (subst P (sym same) b.filled)

-- ---- one refusal of a child

no-child-refused : (all : ℕ) (left plain behind : List ℕ) (error : TemplateErr) → IsRefusedChild all left error → (error ≡ Memory → ⊥) → IsChild left plain behind → ⊥
no-child-refused all left plain behind Tag r other c = r
no-child-refused all left plain behind (Length place) r other c =
    let P : List ℕ → Type 0 = λ o. HasValue o c.value behind in
    r.cut c.value behind (subst P (same-rest 0x22 left c.rest r.rest c.tagged r.tagged) c.holds)
no-child-refused all left plain behind (Child place) r other c = r.2 c.rest c.tagged
no-child-refused all left plain behind (Command place) r other c =
    let P : List ℕ → Type 0 = λ o. HasValue o c.value behind in
    let values = one-value r.rest c.value behind r.value r.behind (subst P (same-rest 0x22 left c.rest r.rest c.tagged r.tagged) c.holds) r.holds in
    let Q : List ℕ → Type 0 = λ v. IsCommand v plain in
    r.wrong plain (subst Q values.0 c.command)
no-child-refused all left plain behind Memory r other c = other refl

nothing-refused : (all : ℕ) (error : TemplateErr) → IsRefusedChild all [] error → (error ≡ Memory → ⊥) → ⊥
nothing-refused all Tag r other = r
nothing-refused all (Length place) r other =
    let tagged : [] ≡ 0x22 ∷ r.rest = r.tagged in
    cc
nothing-refused all (Child place) r other = omega (arith, r.0)
nothing-refused all (Command place) r other =
    let tagged : [] ≡ 0x22 ∷ r.rest = r.tagged in
    cc
nothing-refused all Memory r other = other refl

-- a template's children aren't refused
children-refused : (all : ℕ) (octets left : List ℕ) (plains before : List (List ℕ)) (error : TemplateErr) → AreChildren octets plains [] → AreChildren octets before left → IsRefusedChild all left error → (error ≡ Memory → ⊥) → ⊥
children-refused all octets left [] [] error a b r other =
    let P : List ℕ → Type 0 = λ o. IsRefusedChild all o error in
    nothing-refused all error (subst P (sym b ∙ a) r) other
children-refused all octets left [] (q ∷ qs) error a b r other =
    let P : List ℕ → Type 0 = λ o. IsChild o q b.0 in
    no-child q b.0 (subst P a b.1)
children-refused all octets left (p ∷ ps) [] error a b r other =
    let P : List ℕ → Type 0 = λ o. IsChild o p a.0 in
    no-child-refused all left p a.0 error r other (subst P b a.1)
children-refused all octets left (p ∷ ps) (q ∷ qs) error a b r other =
    let first = child-once octets p a.0 q b.0 a.1 b.1 in
    let P : List ℕ → Type 0 = λ o. AreChildren o qs left in
    children-refused all a.0 left ps qs error a.2 (subst P (sym first.1) b.2) r other

-- children are refused at one place
left-once : (all : ℕ) (octets left beyond : List ℕ) (before others : List (List ℕ)) (error other : TemplateErr) → AreChildren octets before left → AreChildren octets others beyond → IsRefusedChild all left error → IsRefusedChild all beyond other → (error ≡ Memory → ⊥) → (other ≡ Memory → ⊥) → left ≡ beyond
left-once all octets left beyond [] [] error other a b r s n m = sym a ∙ b
left-once all octets left beyond [] (q ∷ qs) error other a b r s n m =
    let P : List ℕ → Type 0 = λ o. IsChild o q b.0 in
    absurd (no-child-refused all left q b.0 error r n (subst P a b.1))
left-once all octets left beyond (p ∷ ps) [] error other a b r s n m =
    let P : List ℕ → Type 0 = λ o. IsChild o p a.0 in
    absurd (no-child-refused all beyond p a.0 other s m (subst P b a.1))
left-once all octets left beyond (p ∷ ps) (q ∷ qs) error other a b r s n m =
    let first = child-once octets p a.0 q b.0 a.1 b.1 in
    let P : List ℕ → Type 0 = λ o. AreChildren o qs beyond in
    left-once all a.0 left beyond ps qs error other a.2 (subst P (sym first.1) b.2) r s n m

child-refused-once : (all : ℕ) (left : List ℕ) (error other : TemplateErr) → IsRefusedChild all left error → IsRefusedChild all left other → (error ≡ Memory → ⊥) → (other ≡ Memory → ⊥) → error ≡ other
child-refused-once all left Tag other r s n m = absurd r
child-refused-once all left Memory other r s n m = absurd (n refl)
child-refused-once all left (Length p) Tag r s n m = absurd s
child-refused-once all left (Length p) (Length q) r s n m =
    let rests = ap (λ (o : List ℕ). length o) (same-rest 0x22 left r.rest s.rest r.tagged s.tagged) in
    let same : p ≡ q = omega (arith, r.stands, s.stands, rests) in
    ap (λ (k : ℕ). Length k) same
child-refused-once all left (Length p) (Child q) r s n m = absurd (s.2 r.rest r.tagged)
child-refused-once all left (Length p) (Command q) r s n m =
    let P : List ℕ → Type 0 = λ o. HasValue o s.value s.behind in
    absurd (r.cut s.value s.behind (subst P (same-rest 0x22 left s.rest r.rest s.tagged r.tagged) s.holds))
child-refused-once all left (Length p) Memory r s n m = absurd (m refl)
child-refused-once all left (Child p) Tag r s n m = absurd s
child-refused-once all left (Child p) (Length q) r s n m = absurd (r.2 s.rest s.tagged)
child-refused-once all left (Child p) (Child q) r s n m =
    let same : p ≡ q = omega (arith, r.1, s.1) in
    ap (λ (k : ℕ). Child k) same
child-refused-once all left (Child p) (Command q) r s n m = absurd (r.2 s.rest s.tagged)
child-refused-once all left (Child p) Memory r s n m = absurd (m refl)
child-refused-once all left (Command p) Tag r s n m = absurd s
child-refused-once all left (Command p) (Length q) r s n m =
    let P : List ℕ → Type 0 = λ o. HasValue o r.value r.behind in
    absurd (s.cut r.value r.behind (subst P (same-rest 0x22 left r.rest s.rest r.tagged s.tagged) r.holds))
child-refused-once all left (Command p) (Child q) r s n m = absurd (s.2 r.rest r.tagged)
child-refused-once all left (Command p) (Command q) r s n m =
    let P : List ℕ → Type 0 = λ o. HasValue o s.value s.behind in
    let values = one-value r.rest r.value r.behind s.value s.behind r.holds (subst P (same-rest 0x22 left s.rest r.rest s.tagged r.tagged) s.holds) in
    let sizes = ap (λ (o : List ℕ). length o) values.0 in
    let ends = ap (λ (o : List ℕ). length o) values.1 in
    let same : p ≡ q = omega (arith, r.stands, s.stands, sizes, ends) in
    ap (λ (k : ℕ). Command k) same
child-refused-once all left (Command p) Memory r s n m = absurd (m refl)

-- ---- one refusal

-- a template that is whole isn't refused as a whole
outer-refused : (octets children : List ℕ) (error : TemplateErr) → IsOuter octets children → IsRefusedOuter octets error → (error ≡ Memory → ⊥) → ⊥
outer-refused octets children Tag o r other = r o.rest o.tagged
outer-refused octets children (Length place) o r other =
    let P : List ℕ → Type 0 = λ k. HasValue k children [] in
    let whole : HasValue r.1.rest children [] = subst P (same-rest 0xAA octets o.rest r.1.rest o.tagged r.1.tagged) o.holds in
    elim r.1.wrong [
      | inl long ↦ omega (arith, long, o.short)
      | inr cut ↦ cut children whole
    ]
outer-refused octets children (Child place) o r other = r
outer-refused octets children (Command place) o r other = r
outer-refused octets children Memory o r other = other refl

outer-refused-once : (octets : List ℕ) (error other : TemplateErr) → IsRefusedOuter octets error → IsRefusedOuter octets other → (error ≡ Memory → ⊥) → (other ≡ Memory → ⊥) → error ≡ other
outer-refused-once octets Tag Tag r s n m = refl
outer-refused-once octets Tag (Length q) r s n m = absurd (r s.1.rest s.1.tagged)
outer-refused-once octets Tag (Child q) r s n m = absurd s
outer-refused-once octets Tag (Command q) r s n m = absurd s
outer-refused-once octets Tag Memory r s n m = absurd (m refl)
outer-refused-once octets (Length p) Tag r s n m = absurd (s r.1.rest r.1.tagged)
outer-refused-once octets (Length p) (Length q) r s n m = ap (λ (k : ℕ). Length k) (r.0 ∙ sym s.0)
outer-refused-once octets (Length p) (Child q) r s n m = absurd s
outer-refused-once octets (Length p) (Command q) r s n m = absurd s
outer-refused-once octets (Length p) Memory r s n m = absurd (m refl)
outer-refused-once octets (Child p) other r s n m = absurd r
outer-refused-once octets (Command p) other r s n m = absurd r
outer-refused-once octets Memory other r s n m = absurd (n refl)

later-refused-once : (octets : List ℕ) (error other : TemplateErr) → IsRefusedLater octets error → IsRefusedLater octets other → (error ≡ Memory → ⊥) → (other ≡ Memory → ⊥) → error ≡ other
later-refused-once octets error other r s n m =
    let P : List ℕ → Type 0 = λ o. AreChildren o s.commands s.left in
    let before = subst P (sym (outer-once octets r.children s.children r.outer s.outer)) s.before in
    let left = left-once (length octets) r.children r.left s.left r.commands s.commands error other r.before before r.refused s.refused n m in
    let Q : List ℕ → Type 0 = λ o. IsRefusedChild (length octets) o other in
    child-refused-once (length octets) r.left error other r.refused (subst Q (sym left) s.refused) n m

pub one-refusal : (octets : List ℕ) (error other : TemplateErr) → IsRefused octets error → IsRefused octets other → (error ≡ Memory → ⊥) → (other ≡ Memory → ⊥) → error ≡ other
one-refusal octets error other (inl r) (inl s) n m = outer-refused-once octets error other r s n m
one-refusal octets error other (inl r) (inr s) n m = absurd (outer-refused octets s.children error s.outer r n)
one-refusal octets error other (inr r) (inl s) n m = absurd (outer-refused octets r.children other r.outer s m)
one-refusal octets error other (inr r) (inr s) n m = later-refused-once octets error other r s n m

-- ---- a script isn't refused

script-refused : (octets : List ℕ) (commands : List (List ℕ)) (error : TemplateErr) → IsTemplate octets commands → IsRefused octets error → (error ≡ Memory → ⊥) → ⊥
script-refused octets commands error t (inl r) other = outer-refused octets t.children error t.outer r other
script-refused octets commands error t (inr r) other =
    let P : List ℕ → Type 0 = λ o. AreChildren o r.commands r.left in
    let before = subst P (sym (outer-once octets t.children r.children t.outer r.outer)) r.before in
    children-refused (length octets) t.children r.left commands r.commands error t.filled before r.refused other

pub apart : (octets : List ℕ) (commands : List (List ℕ)) (error : TemplateErr) → IsTemplate octets commands → IsRefused octets error → error ≡ Memory
apart octets commands Tag t r = absurd (script-refused octets commands Tag t r (λ (e : Tag ≡ Memory). cc))
apart octets commands (Length p) t r = absurd (script-refused octets commands (Length p) t r (λ (e : Length p ≡ Memory). cc))
apart octets commands (Child p) t r = absurd (script-refused octets commands (Child p) t r (λ (e : Child p ≡ Memory). cc))
apart octets commands (Command p) t r = absurd (script-refused octets commands (Command p) t r (λ (e : Command p ≡ Memory). cc))
apart octets commands Memory t r = refl

-- ---- what a reading answers

pub read-as : (octets : List ℕ) (result : Result (List (List ℕ)) TemplateErr) → IfOk result (IsTemplate octets) → IfErr result (IsRefused octets) → (commands : List (List ℕ)) → IsTemplate octets commands → IsReadAs commands result
read-as octets (Ok script) script_read refusal commands t = one-script octets script commands script_read t
read-as octets (Err error) script_read refusal commands t = apart octets commands error t refusal

same-or-memory : (octets : List ℕ) (error other : TemplateErr) → IsRefused octets error → IsRefused octets other → (error ≡ Memory → ⊥) → (other ≡ error) ⊎ (other ≡ Memory)
same-or-memory octets error Tag r s n = inl (one-refusal octets Tag error s r (λ (e : Tag ≡ Memory). cc) n)
same-or-memory octets error (Length p) r s n = inl (one-refusal octets (Length p) error s r (λ (e : Length p ≡ Memory). cc) n)
same-or-memory octets error (Child p) r s n = inl (one-refusal octets (Child p) error s r (λ (e : Child p ≡ Memory). cc) n)
same-or-memory octets error (Command p) r s n = inl (one-refusal octets (Command p) error s r (λ (e : Command p ≡ Memory). cc) n)
same-or-memory octets error Memory r s n = inr refl

pub refused-as : (octets : List ℕ) (result : Result (List (List ℕ)) TemplateErr) → IfOk result (IsTemplate octets) → IfErr result (IsRefused octets) → (error : TemplateErr) → IsRefused octets error → (error ≡ Memory → ⊥) → IsRefusedAs error result
refused-as octets (Ok script) script_read refusal error r n = n (apart octets script error script_read r)
refused-as octets (Err other) script_read refusal error r n = same-or-memory octets error other r refusal n
