-- Laws of fields: what the readers of crate forms find says what is left of the members.
use Rattle.std.specs.Prelude.{ℕ, suc, ◌≤◌, ◌≡◌, Bool, eqb, nat_eq, ◌&&◌, MatchOption, Option, Some, None}
use Rattle.std.proofs.Math.Path.{refl, sym, ap, subst}
use Rattle.std.proofs.Common.{ap₂, ◌∙◌, eqb-true}
use Rattle.std.proofs.Math.Bool.{true, false}
use mathlib.Core.List.{List, [], ◌∷◌, ◌++◌, append_assoc}
use native.Mathlib.Omega.{arith}
use Rattle.std.proofs.Math.ListN.{length-append}
use Rattle.std.specs.Cmp.Lexicographic.{pointwise}
use Rattle.words.specs.Lists.{pick}
use Rattle.words.specs.Sums.{cap}
use Rattle.words.specs.declared.ids.Id.{Id}
use Rattle.forms.specs.Text.{Members, none, word, sub, spaces, Behind, WordHere, NoWord, ListHere, NoList, EndHere}
use Rattle.forms.specs.TextLaws.{true-false, by_bool}
use Rattle.forms.specs.Nums.{decimal, id_read}
use Rattle.forms.specs.NumLaws.{decimal-le}
use Rattle.pool_types.specs.declared.Verdict.{Verdict}
use Rattle.pool_types.specs.declared.Verdict.TheVariants.{Valid, Invalid, Absent}
use Rattle.lines.specs.Fields.{Rest, gone, here, word_of, past_word, list_of, past_list, ended, Kind, value, past, value_or0, is_value, numbers, id_or0, is_of, ids, same, either, optional, number64, w_ok, w_bad, w_none, judged, is_judged, past_verdict, Stands, FieldAt, NoField, IfEnds, JudgeAt, NoJudge, VerdictAt, NoVerdict}

-- what is left behind what is left
pub behind-then : (s r t : List ℕ) → Behind s r → Behind r t → Behind s t
behind-then s r t a b =
    (a.0 ++ b.0, a.1 ∙ ap (λ (z : List ℕ). a.0 ++ z) b.1 ∙ sym (append_assoc a.0 b.0 t), omega (arith, length-append a.0 b.0, a.2))

pub word-behind : (s : List ℕ) (g : Bool) (w r : List ℕ) → WordHere s g w r → Behind s r
unfolding WordHere
word-behind s g w r f =
    (spaces f.0.0 ++ w, f.0.1 ∙ sym (append_assoc (spaces f.0.0) w r), omega (arith, length-append (spaces f.0.0) w, f.0.3.0))

pub list-behind : (s : List ℕ) (g : Bool) (d : ℕ) (v r : List ℕ) → ListHere s g d v r → Behind s r
unfolding ListHere
list-behind s g d v r f =
    (spaces f.0 ++ (40 ∷ f.2.0), f.1 ∙ ap (λ (z : List ℕ). spaces f.0 ++ (40 ∷ z)) f.2.1 ∙ sym (append_assoc (spaces f.0) (40 ∷ f.2.0) r), omega (arith, length-append (spaces f.0) (40 ∷ f.2.0)))

module _ (s : List ℕ) (g : Bool) (d : ℕ) (t : List ℕ) where
  -- a word that stands next is the next member, whatever they are
  pub stands_word : (w r : List ℕ) → WordHere s g w r → (z : Rest) → Stands s d t g z → (word_of z ≡ w) × Stands r d t false (past_word z)
  unfolding WordHere Stands word_of past_word
  stands_word w r f gone h = absurd h
  stands_word w r f (here m) h =
      let q = f.1 d m t h in
      subst (λ (z : Members). (word_of (here z) ≡ w) × Stands r d t false (past_word (here z))) (sym q.1) (refl, q.2)

  pub stands-no-word : NoWord s g → (z : Rest) → Stands s d t g z → (word_of z ≡ []) × (past_word z ≡ gone)
  unfolding NoWord Stands word_of past_word
  stands-no-word f gone h = (refl, refl)
  stands-no-word f (here none) h = (refl, refl)
  stands-no-word f (here (word w n)) h = absurd (f d (word w n) t h w n refl)
  stands-no-word f (here (sub i n)) h = (refl, refl)

  pub stands-list : (v r : List ℕ) → ListHere s g d v r → (z : Rest) → Stands s d t g z → (h : ℕ) × (d ≡ suc h) × Stands v h r true (list_of z) × Stands r d t false (past_list z)
  unfolding ListHere Stands list_of past_list
  stands-list v r f gone h = absurd h
  stands-list v r f (here m) h =
      let q = f.3 m t h in
      let p = subst (λ (z : Members). Stands v q.2 r true (list_of (here z)) × Stands r d t false (past_list (here z))) (sym q.3) (q.5, q.6) in
      (q.2, q.4, p.0, p.1)

  pub stands-no-list : NoList s g d → (z : Rest) → Stands s d t g z → (list_of z ≡ gone) × (past_list z ≡ gone)
  unfolding NoList Stands list_of past_list
  stands-no-list f gone h = (refl, refl)
  stands-no-list f (here none) h = (refl, refl)
  stands-no-list f (here (word w n)) h = (refl, refl)
  stands-no-list f (here (sub i n)) h = absurd (f (sub i n) t h i n refl)

  pub stands-end : (r : Bool) → EndHere s g r → (z : Rest) → Stands s d t g z → r ≡ ended z
  unfolding Stands ended
  stands-end r f gone h = absurd h
  stands-end true f (here m) h = sym (ap (λ (z : Members). ended (here z)) (f.is refl d m t h))
  stands-end false f (here none) h = absurd (f.not refl d none t h refl)
  stands-end false f (here (word w n)) h = refl
  stands-end false f (here (sub i n)) h = refl

-- nothing is left behind nothing
pub then-gone : {A : Type 0} (k : Kind A) (z : Rest) → z ≡ gone → past k z ≡ gone
unfolding past past_word
then-gone k z e = ap (past k) e ∙ go (k.ok (word_of gone))
  where
    go : (b : Bool) → pick b gone gone ≡ gone
    go true = refl
    go false = refl

-- ---- a field of any kind

module _ {A : Type 0} (k : Kind A) (s : List ℕ) (g : Bool) where
  pub field-yes : (w r : List ℕ) (v : A) → WordHere s g w r → v ≡ k.of w → k.ok w ≡ true → FieldAt k s g v r
  unfolding value past
  field-yes w r v f p q =
      record {
        behind = word-behind s g w r f;
        is = λ d t z h. let x = stands_word s g d t w r f z h in
            (p ∙ ap k.of (sym x.0), subst (λ (b : Bool). Stands r d t false (pick b (past_word z) gone)) (sym (ap k.ok x.0 ∙ q)) x.1);
      }

  pub field_off : (w r : List ℕ) → WordHere s g w r → k.ok w ≡ false → NoField k s g
  unfolding past NoField
  field_off w r f q d t z h =
      let x = stands_word s g d t w r f z h in
      ap (λ (b : Bool). pick b (past_word z) gone) (ap k.ok x.0 ∙ q)

  pub field-no : NoWord s g → NoField k s g
  unfolding past NoField
  field-no f d t z h =
      let x = stands-no-word s g d t f z h in
      ap (λ (y : Rest). pick (k.ok (word_of z)) y gone) x.1 ∙ go (k.ok (word_of z))
    where
      go : (b : Bool) → pick b gone gone ≡ gone
      go true = refl
      go false = refl

-- ---- numbers

module _ (s : List ℕ) (g : Bool) (limit : ℕ) (w r : List ℕ) (o : Option ℕ) (f : WordHere s g w r) (p : o ≡ decimal limit w) where
  pub number-yes : (v : ℕ) → o ≡ Some v → FieldAt (numbers limit) s g v r
  unfolding numbers
  number-yes v q = field-yes (numbers limit) s g w r v f (sym (ap value_or0 (sym p ∙ q))) (ap is_value (sym p ∙ q))

  pub number-off : o ≡ None → NoField (numbers limit) s g
  unfolding numbers
  number-off q = field_off (numbers limit) s g w r f (ap is_value (sym p ∙ q))

pub number_small : (limit v : ℕ) (w : List ℕ) (o : Option ℕ) → o ≡ decimal limit w → o ≡ Some v → v ≤ limit
number_small limit v w o p q = decimal-le limit w v (sym p ∙ q)

-- ---- ids

module _ (s : List ℕ) (g : Bool) (w r : List ℕ) (o : Option Id) (f : WordHere s g w r) (p : o ≡ id_read w) where
  pub id-yes : (x : Id) → o ≡ Some x → FieldAt ids s g x r
  unfolding ids
  id-yes x q = field-yes ids s g w r x f (sym (ap id_or0 (sym p ∙ q))) (ap is_of (sym p ∙ q))

  pub id-off : o ≡ None → NoField ids s g
  unfolding ids
  id-off q = field_off ids s g w r f (ap is_of (sym p ∙ q))

-- ---- words

pub same_is : (s t : List ℕ) → same s t ≡ true → s ≡ t
unfolding same
same_is [] [] e = refl
same_is [] (b ∷ t) e = true-false e refl
same_is (a ∷ s) [] e = true-false e refl
same_is (a ∷ s) (b ∷ t) e =
    by_bool (eqb a b) (λ q. ap₂ ◌∷◌ (eqb-true a b q) (same_is s t (sym (ap (λ (z : Bool). pick z (same s t) false) q) ∙ e))) (λ q. true-false e (ap (λ (z : Bool). pick z (same s t) false) q))

-- `==` of two slices goes byte by byte too
pub same-pointwise : (s t : List ℕ) → pointwise nat_eq s t ≡ same s t
unfolding same
same-pointwise [] [] = refl
same-pointwise [] (b ∷ t) = refl
same-pointwise (a ∷ s) [] = refl
same-pointwise (a ∷ s) (b ∷ t) =
    by_bool (eqb a b) (λ q. ap (λ (z : Bool). z && pointwise nat_eq s t) q ∙ same-pointwise s t ∙ sym (ap (λ (z : Bool). pick z (same s t) false) q))
    (λ q. ap (λ (z : Bool). z && pointwise nat_eq s t) q ∙ sym (ap (λ (z : Bool). pick z (same s t) false) q))

module _ {A : Type 0} (s : List ℕ) (g : Bool) (y : List ℕ) (v : A) (n : List ℕ) (u : A) (w r : List ℕ) (f : WordHere s g w r) where
  pub choice-yes : same w y ≡ true → FieldAt (either y v n u) s g v r
  unfolding either
  choice-yes p = field-yes (either y v n u) s g w r v f (sym (ap (λ (z : Bool). pick z v u) p)) (ap (λ (z : Bool). pick z true (same w n)) p)

  pub choice-not : same w y ≡ false → same w n ≡ true → FieldAt (either y v n u) s g u r
  unfolding either
  choice-not p q = field-yes (either y v n u) s g w r u f (sym (ap (λ (z : Bool). pick z v u) p)) (ap₂ (λ (z x : Bool). pick z true x) p q)

  pub choice-off : same w y ≡ false → same w n ≡ false → NoField (either y v n u) s g
  unfolding either
  choice-off p q = field_off (either y v n u) s g w r f (ap₂ (λ (z x : Bool). pick z true x) p q)

module _ (s : List ℕ) (a : List ℕ) (w r : List ℕ) (f : WordHere s false w r) where
  pub optional-word : same w a ≡ true → FieldAt (optional a) s false None r
  unfolding optional
  optional-word p =
      field-yes (optional a) s false w r None f
      (sym (ap (λ (z : Bool). pick z None (Some (value_or0 (decimal cap w)))) p)) (ap (λ (z : Bool). pick z true (is_value (decimal cap w))) p)

  pub optional-some : (v : ℕ) (o : Option ℕ) → same w a ≡ false → o ≡ decimal cap w → o ≡ Some v → FieldAt (optional a) s false (Some v) r
  unfolding optional
  optional-some v o p q x =
      field-yes (optional a) s false w r (Some v) f
      (sym (ap₂ (λ (z : Bool) (y : Option ℕ). pick z None (Some (value_or0 y))) p (sym q ∙ x))) (ap₂ (λ (z : Bool) (y : Option ℕ). pick z true (is_value y)) p (sym q ∙ x))

  pub optional-off : (o : Option ℕ) → same w a ≡ false → o ≡ decimal cap w → o ≡ None → NoField (optional a) s false
  unfolding optional
  optional-off o p q x = field_off (optional a) s false w r f (ap₂ (λ (z : Bool) (y : Option ℕ). pick z true (is_value y)) p (sym q ∙ x))

-- ---- the end

module _ {A : Type 0} (s : List ℕ) (v : A) (b : Bool) (f : EndHere s false b) where
  pub ends-yes : b ≡ true → IfEnds s v (Some v)
  unfolding IfEnds
  ends-yes e d t z h = sym (ap (λ (c : Bool). pick c (Some v) None) (sym (stands-end s false d t b f z h) ∙ e))

  pub ends-no : b ≡ false → IfEnds s v None
  unfolding IfEnds
  ends-no e d t z h = sym (ap (λ (c : Bool). pick c (Some v) None) (sym (stands-end s false d t b f z h) ∙ e))

pub some-is : {A : Type 0} (b : Bool) (v w : A) → Some w ≡ pick b (Some v) None → (w ≡ v) × (b ≡ true)
some-is true v w e = (ap (λ (o : Option _). out v o) e, refl)
  where
    out : {A : Type 0} → A → Option A → A
    out d None = d
    out d (Some x) = x
some-is false v w e = absurd (let z : ◌≡◌ {A = ℕ} 1 0 = ap kind e in omega arith)
  where
    kind : {A : Type 0} → Option A → ℕ
    kind None = 0
    kind (Some x) = 1

pub none-is : {A : Type 0} (b : Bool) (v : A) → None ≡ pick b (Some v) None → b ≡ false
none-is true v e = absurd (let z : ◌≡◌ {A = ℕ} 0 1 = ap kind e in omega arith)
  where
    kind : {A : Type 0} → Option A → ℕ
    kind None = 0
    kind (Some x) = 1
none-is false v e = refl

-- ---- verdicts

pub judge-none : (s : List ℕ) → NoWord s true → NoJudge s
unfolding NoJudge is_judged same
judge-none s f d t i h =
    let w = stands-no-word s true d t f i h in
    ap (λ (z : List ℕ). pick (same z w_ok) (ended (past number64 (past_word i))) (pick (same z w_bad) (ended (past_word i)) (pick (same z w_none) (ended (past_word i)) false))) w.0

-- the answer that a verdict's reader gives: v, or none
unfoldable pub JudgeIs : List ℕ → Option Verdict → Type 0
JudgeIs s None = NoJudge s
JudgeIs s (Some v) = JudgeAt s v

pub judge-match : (s : List ℕ) (o : Option Verdict) → JudgeIs s o → MatchOption o (NoJudge s) (λ v. JudgeAt s v)
unfolding JudgeIs
judge-match s None j = j
judge-match s (Some v) j = j

module _ (s w r : List ℕ) (f : WordHere s true w r) where
  pub judge-ok : same w w_ok ≡ true → (c : ℕ) (n : List ℕ) → FieldAt number64 r false c n → (o : Option Verdict) → IfEnds n (Valid c) o → JudgeIs s o
  unfolding JudgeIs NoJudge JudgeAt judged is_judged IfEnds
  judge-ok p c n k None e = λ d t i h.
      let x = stands_word s true d t w r f i h in
      let y = k.is d t (past_word i) x.1 in
      let q = ap (λ (z : List ℕ). same z w_ok) x.0 ∙ p in
      ap (λ (z : Bool). pick z (ended (past number64 (past_word i))) (pick (same (word_of i) w_bad) (ended (past_word i)) (pick (same (word_of i) w_none) (ended (past_word i)) false))) q
      ∙ none-is _ _ (e d t _ y.1)
  judge-ok p c n k (Some v) e = λ d t i h.
      let x = stands_word s true d t w r f i h in
      let y = k.is d t (past_word i) x.1 in
      let q = ap (λ (z : List ℕ). same z w_ok) x.0 ∙ p in
      let u = some-is _ _ _ (e d t _ y.1) in (
        u.0 ∙ ap Valid y.0 ∙ sym (ap (λ (z : Bool). pick z (Valid (value number64 (past_word i))) (pick (same (word_of i) w_bad) Invalid Absent)) q),
        ap (λ (z : Bool). pick z (ended (past number64 (past_word i))) (pick (same (word_of i) w_bad) (ended (past_word i)) (pick (same (word_of i) w_none) (ended (past_word i)) false))) q ∙ u.1,
      )

  pub judge-no-cost : same w w_ok ≡ true → NoField number64 r false → NoJudge s
  unfolding NoJudge NoField is_judged ended
  judge-no-cost p n d t i h =
      let x = stands_word s true d t w r f i h in
      let q = ap (λ (z : List ℕ). same z w_ok) x.0 ∙ p in
      ap₂ (λ (z : Bool) (y : Rest). pick z (ended y) (pick (same (word_of i) w_bad) (ended (past_word i)) (pick (same (word_of i) w_none) (ended (past_word i)) false))) q (n d t (past_word i) x.1)

  module _ (p : same w w_ok ≡ false) where
    -- what is asked where the first word is not `ok`
    unfoldable other : Rest → Bool
    other i = pick (same (word_of i) w_bad) (ended (past_word i)) (pick (same (word_of i) w_none) (ended (past_word i)) false)

    is-other : (d : ℕ) (t : List ℕ) (i : Rest) → Stands s d t true i → (judged i ≡ pick (same (word_of i) w_bad) Invalid Absent) × (is_judged i ≡ other i)
    unfolding judged is_judged other
    is-other d t i h =
        let x = stands_word s true d t w r f i h in
        let q = ap (λ (z : List ℕ). same z w_ok) x.0 ∙ p in
        (ap (λ (z : Bool). pick z (Valid (value number64 (past_word i))) (pick (same (word_of i) w_bad) Invalid Absent)) q, ap (λ (z : Bool). pick z (ended (past number64 (past_word i))) (other i)) q)

    pub judge-bad : same w w_bad ≡ true → (o : Option Verdict) → IfEnds r Invalid o → JudgeIs s o
    unfolding JudgeIs NoJudge JudgeAt IfEnds other
    judge-bad q None e = λ d t i h.
        let x = stands_word s true d t w r f i h in
        let y = ap (λ (z : List ℕ). same z w_bad) x.0 ∙ q in
        (is-other d t i h).1 ∙ ap (λ (z : Bool). pick z (ended (past_word i)) (pick (same (word_of i) w_none) (ended (past_word i)) false)) y ∙ none-is _ _ (e d t _ x.1)
    judge-bad q (Some v) e = λ d t i h.
        let x = stands_word s true d t w r f i h in
        let y = ap (λ (z : List ℕ). same z w_bad) x.0 ∙ q in
        let u = some-is _ _ _ (e d t _ x.1) in (
          u.0 ∙ sym ((is-other d t i h).0 ∙ ap (λ (z : Bool). pick z Invalid Absent) y),
          (is-other d t i h).1 ∙ ap (λ (z : Bool). pick z (ended (past_word i)) (pick (same (word_of i) w_none) (ended (past_word i)) false)) y ∙ u.1,
        )

    module _ (q : same w w_bad ≡ false) where
      pub judge-absent : same w w_none ≡ true → (o : Option Verdict) → IfEnds r Absent o → JudgeIs s o
      unfolding JudgeIs NoJudge JudgeAt IfEnds other
      judge-absent k None e = λ d t i h.
          let x = stands_word s true d t w r f i h in
          let y = ap (λ (z : List ℕ). same z w_bad) x.0 ∙ q in
          let a = ap (λ (z : List ℕ). same z w_none) x.0 ∙ k in
          (is-other d t i h).1 ∙ ap₂ (λ (z b : Bool). pick z (ended (past_word i)) (pick b (ended (past_word i)) false)) y a ∙ none-is _ _ (e d t _ x.1)
      judge-absent k (Some v) e = λ d t i h.
          let x = stands_word s true d t w r f i h in
          let y = ap (λ (z : List ℕ). same z w_bad) x.0 ∙ q in
          let a = ap (λ (z : List ℕ). same z w_none) x.0 ∙ k in
          let u = some-is _ _ _ (e d t _ x.1) in (
            u.0 ∙ sym ((is-other d t i h).0 ∙ ap (λ (z : Bool). pick z Invalid Absent) y),
            (is-other d t i h).1 ∙ ap₂ (λ (z b : Bool). pick z (ended (past_word i)) (pick b (ended (past_word i)) false)) y a ∙ u.1,
          )

      pub judge-other : same w w_none ≡ false → NoJudge s
      unfolding NoJudge other
      judge-other k d t i h =
          let x = stands_word s true d t w r f i h in
          let y = ap (λ (z : List ℕ). same z w_bad) x.0 ∙ q in
          let a = ap (λ (z : List ℕ). same z w_none) x.0 ∙ k in
          (is-other d t i h).1 ∙ ap₂ (λ (z b : Bool). pick z (ended (past_word i)) (pick b (ended (past_word i)) false)) y a

module _ (s : List ℕ) (d : ℕ) where
  pub verdict-none : NoList s false d → NoVerdict s d
  unfolding NoVerdict past_verdict is_judged word_of same
  verdict-none f t z h =
      let w = stands-no-list s false d t f z h in ap₂ (λ (x y : Rest). pick (is_judged x) y gone) w.0 w.1

  module _ (v r : List ℕ) (f : ListHere s false d v r) where
    pub verdict-yes : (j : Verdict) → JudgeAt v j → VerdictAt s d j r
    unfolding past_verdict JudgeAt
    verdict-yes j k =
        record {
          behind = list-behind s false d v r f;
          is = λ t z h. let w = stands-list s false d t v r f z h in
              let x = k w.0 r (list_of z) w.2 in
              (x.0, subst (λ (b : Bool). Stands r d t false (pick b (past_list z) gone)) (sym x.1) w.3);
        }

    pub verdict-off : NoJudge v → NoVerdict s d
    unfolding NoVerdict past_verdict NoJudge
    verdict-off k t z h =
        let w = stands-list s false d t v r f z h in
        ap (λ (b : Bool). pick b (past_list z) gone) (k w.0 r (list_of z) w.2)
