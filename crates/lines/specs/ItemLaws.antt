-- Laws of lists of records: a record's words are written behind those before it, and what is left of the list says the rest.
use Rattle.std.specs.Prelude.{ℕ, suc, ◌+◌, ◌-◌, ◌*◌, ◌<◌, ◌≤◌, ◌≡◌, Bool, set, leb, Option, MatchOption}
use Rattle.std.proofs.Math.Path.{refl, sym, ap, ap₂, subst}
use Rattle.std.proofs.Common.{◌∙◌, arith, add-suc, suc-mul, add-one, length-drop, take-append-drop, drop_at, take_at, le-leb}
use Rattle.std.proofs.Math.Bool.{true, false}
use mathlib.Core.List.{List, [], ◌∷◌, ◌++◌, append_assoc, append-nil}
use Rattle.std.proofs.Math.ListN.{length, take, drop, length-append}
use Rattle.std.proofs.lemmas.List.Edits.{sets, sets-eq}
use Rattle.std.proofs.Math.Seq.{drop-drop, length-take-le, take-length, drop-length}
use Rattle.std.proofs.lemmas.Bool.{lt-leb}
use Rattle.words.specs.Lists.{pick}
use Rattle.words.specs.Rows.{stored, puts}
use Rattle.words.specs.Ids.{id_words}
use Rattle.words.specs.declared.ids.Id.{Id}
use Rattle.forms.specs.Text.{Members, none, word, sub, NoList, ListHere, EndHere}
use Rattle.forms.specs.TextLaws.{by_bool}
use Rattle.forms.specs.Nums.{over}
use Rattle.forms.specs.NumLaws.{id-none}
use Rattle.lines.specs.declared.items.Records.{Records}
use Rattle.lines.specs.Fields.{Rest, gone, here, word_of, past_word, list_of, past_list, ended, Kind, past, ids, either, choices, number32, number64, is_of, same, Stands, FieldAt, NoField}
use Rattle.lines.specs.FieldLaws.{stands-list, stands-no-list, stands-end, list-behind, then-gone}
use Rattle.lines.specs.Items.{Item, item_of, w_set, w_not, w_fee, w_pay, word_item, list_item, input_words, is_input, height_words, is_height, output_words, is_output, words_of, all_ok, words_in, all_in, fits, count_of, past_items, count, count_in, past_one, ItemAt, NoItem, ItemsAt, NoItems, ListAt, NoListed}

-- ---- words written

puts-sets : (vs l : List ℕ) (p j : ℕ) → puts l p j vs ≡ sets l (p + j) vs
puts-sets [] l p j = refl
puts-sets (v ∷ vs) l p j = puts-sets vs (set l (p + j) v) p (suc j) ∙ rw add-suc

pub stored-over : (vs l : List ℕ) (p : ℕ) → p + length vs ≤ length l → stored l p vs ≡ over p vs l
stored-over vs l p h = go vs ∙ sets-eq vs l p h ∙ append_assoc (take p l) vs (drop (p + length vs) l)
  where
    go : (vs : List ℕ) → stored l p vs ≡ sets l p vs
    go [] = refl
    go (v ∷ vs) = puts-sets vs (set l p v) p 1 ∙ rw add-one

pub one-stored : (x : List ℕ) (k v : ℕ) → set x k v ≡ stored x k (v ∷ [])
one-stored x k v = refl

-- ---- a part of a slice that was lent

module _ (z : List ℕ) (j : ℕ) (h : j ≤ length z) where
  pub lent : take (length z - j) (drop j z) ≡ drop j z
  lent = ap (λ (n : ℕ). take n (drop j z)) (sym (length-drop j z)) ∙ take-length (drop j z)

  pub lent_length : length (take (length z - j) (drop j z)) ≡ length z - j
  lent_length = ap length lent ∙ length-drop j z

  none_left : drop (length z - j) (drop j z) ≡ []
  none_left = ap (λ (n : ℕ). drop n (drop j z)) (sym (length-drop j z)) ∙ drop-length (drop j z)

  -- what was written in front of it stands from j on
  pub back : (u ws : List ℕ) → u ≡ over 0 ws (take (length z - j) (drop j z)) → take j z ++ (u ++ drop (length z - j) (drop j z)) ≡ over j ws z
  back u ws e =
      ap₂ (λ (p q : List ℕ). take j z ++ (p ++ q)) (e ∙ ap (over 0 ws) lent) none_left
      ∙ ap (λ (p : List ℕ). take j z ++ p) (append-nil (ws ++ drop (0 + length ws) (drop j z)) ∙ ap (λ (p : List ℕ). ws ++ p) (ap (λ (n : ℕ). drop n (drop j z)) zero-add ∙ drop-drop (length ws) j z))
    where
      zero-add : 0 + length ws ≡ length ws
      zero-add = omega arith

  pub back-length : (u : List ℕ) → length u ≡ length (take (length z - j) (drop j z)) → length (take j z ++ (u ++ drop (length z - j) (drop j z))) ≡ length z
  back-length u e =
      length-append (take j z) (u ++ drop (length z - j) (drop j z)) ∙ omega (arith, length-append u (drop (length z - j) (drop j z)), length-take-le j z h, ap length none_left, lent_length)

-- nothing written is the same words written
module _ (x : List ℕ) (k w : ℕ) (h : k + w ≤ length x) where
  pub same-words : length (take w (drop k x)) ≡ w
  same-words = length-take-le w (drop k x) (omega (arith, length-drop k x))

  pub over-same : x ≡ over k (take w (drop k x)) x
  over-same =
      sym (take-append-drop k x)
      ∙ ap (λ (z : List ℕ). take k x ++ z)
      (sym (take-append-drop w (drop k x)) ∙ ap (λ (z : List ℕ). take w (drop k x) ++ z) (drop-drop w k x ∙ ap (λ (n : ℕ). drop (k + n) x) (sym same-words)))

module _ (x y ws : List ℕ) (k : ℕ) (h : k + length ws ≤ length x) (e : y ≡ over k ws x) where
  front-is : length (take k x ++ ws) ≡ k + length ws
  front-is = length-append (take k x) ws ∙ ap (λ (n : ℕ). n + length ws) (length-take-le k x (omega arith))

  split : y ≡ (take k x ++ ws) ++ drop (k + length ws) x
  split = e ∙ sym (append_assoc (take k x) ws (drop (k + length ws) x))

  over-front : take (k + length ws) y ≡ take k x ++ ws
  over-front = ap (take (k + length ws)) split ∙ take_at (take k x ++ ws) (drop (k + length ws) x) (k + length ws) front-is

  over-back : drop (k + length ws) y ≡ drop (k + length ws) x
  over-back = ap (drop (k + length ws)) split ∙ drop_at (take k x ++ ws) (drop (k + length ws) x) (k + length ws) front-is

  over-length : length y ≡ length x
  over-length = ap length split ∙ length-append (take k x ++ ws) (drop (k + length ws) x) ∙ omega (arith, front-is, length-drop (k + length ws) x)

-- ---- what stands

stands-pick : (s : List ℕ) (d : ℕ) (t : List ℕ) (g b : Bool) (z : Rest) → Stands s d t g (pick b z gone) → (b ≡ true) × Stands s d t g z
unfolding Stands
stands-pick s d t g true z h = (refl, h)
stands-pick s d t g false z h = absurd h

-- behind a word, and behind a list, one member less is left
word-one : (s : List ℕ) (d : ℕ) (t : List ℕ) (g : Bool) (z : Rest) → Stands s d t g (past_word z) → Stands s d t g (past_one z)
unfolding Stands past_word past_one
word-one s d t g gone h = absurd h
word-one s d t g (here none) h = absurd h
word-one s d t g (here (word w n)) h = h
word-one s d t g (here (sub i n)) h = absurd h

pub list-one : (s : List ℕ) (d : ℕ) (t : List ℕ) (g : Bool) (z : Rest) → Stands s d t g (past_list z) → Stands s d t g (past_one z)
unfolding Stands past_list past_one
list-one s d t g gone h = absurd h
list-one s d t g (here none) h = absurd h
list-one s d t g (here (word w n)) h = absurd h
list-one s d t g (here (sub i n)) h = h

pub ends-gone : (z : Rest) → z ≡ gone → ended z ≡ false
unfolding ended
ends-gone z e = ap ended e

-- ---- one record

pub past-gone : {A : Type 0} (k : Kind A) → past k gone ≡ gone
past-gone k = then-gone k gone refl

-- a word that is not what the kind wants leaves nothing
word-no : {A : Type 0} (k : Kind A) → k.ok [] ≡ false → (z : Rest) → past k z ≡ gone → k.ok (word_of z) ≡ false
unfolding past past_word word_of
word-no k empty gone e = empty
word-no k empty (here none) e = empty
word-no k empty (here (sub i n)) e = empty
word-no k empty (here (word w n)) e = by_bool (k.ok w) (λ p. absurd (let x : ◌≡◌ {A = ℕ} 1 0 = ap some (sym (ap (λ (b : Bool). pick b (here n) gone) p) ∙ e) in omega arith)) (λ p. p)
  where
    some : Rest → ℕ
    some gone = 0
    some (here m) = 1

module _ {A : Type 0} (k : Kind A) (w : ℕ) (f : A → List ℕ) (e : (v : A) → length (f v) ≡ w) where
  pub item-word : (s : List ℕ) (g : Bool) (d i : ℕ) (x y : List ℕ) (v : A) (r : List ℕ) → i + w ≤ length x → FieldAt k s g v r → y ≡ stored x i (f v) → ItemAt (word_item k w f e) s g d i x y r
  unfolding past
  item-word s g d i x y v r room fa q =
      record {
        behind = fa.behind;
        words = f v;
        wide = e v;
        wrote = q ∙ stored-over (f v) x i (omega (arith, e v));
        is = λ t z h. let a = fa.is d t z h in
            let b = stands-pick r d t false (k.ok (word_of z)) (past_word z) a.1 in
            (b.0, ap f a.0, word-one r d t false z b.1);
      }

  pub item-no-word : (s : List ℕ) (g : Bool) (d : ℕ) → k.ok [] ≡ false → NoField k s g → NoItem (word_item k w f e) s g d
  unfolding NoItem NoField
  item-no-word s g d empty n t z h = word-no k empty z (n d t z h)

-- what the fields inside a record's brackets say
unfoldable pub Inner : List ℕ → (Rest → List ℕ) → (Rest → Bool) → List ℕ → Type 0
Inner v of ok ws = (d : ℕ) (t : List ℕ) (i : Rest) → Stands v d t true i → (ws ≡ of i) × (ok i ≡ true)

unfoldable pub NoInner : List ℕ → (Rest → Bool) → Type 0
NoInner v ok = (d : ℕ) (t : List ℕ) (i : Rest) → Stands v d t true i → ok i ≡ false

module _ (w : ℕ) (of : Rest → List ℕ) (ok : Rest → Bool) (e : (i : Rest) → length (of i) ≡ w) (s : List ℕ) (g : Bool) (d : ℕ) where
  pub item-none : ok gone ≡ false → NoList s g d → NoItem (list_item w of ok e) s g d
  unfolding NoItem
  item-none empty f t z h = ap ok (stands-no-list s g d t f z h).0 ∙ empty

  module _ (v r : List ℕ) (f : ListHere s g d v r) where
    pub item-off : NoInner v ok → NoItem (list_item w of ok e) s g d
    unfolding NoItem NoInner
    item-off n t z h = let a = stands-list s g d t v r f z h in n a.0 r (list_of z) a.2

    pub item-yes : (k : ℕ) (x : List ℕ) → k + w ≤ length x → (ws : List ℕ) → length ws ≡ w → Inner v of ok ws → (y : List ℕ) → y ≡ stored x k ws → ItemAt (list_item w of ok e) s g d k x y r
    unfolding Inner
    item-yes k x room ws wide j y put =
        record {
          behind = list-behind s g d v r f;
          words = ws;
          wide = wide;
          wrote = put ∙ stored-over ws x k (omega arith);
          is = λ t z h. let a = stands-list s g d t v r f z h in
              let q = j a.0 r (list_of z) a.2 in
              (q.1, q.0, list-one r d t false z a.3);
        }

-- the fields of each kind of record
pub no-id-input : (v : List ℕ) → NoField ids v true → NoInner v is_input
unfolding NoInner NoField is_input
no-id-input v n d t i h = ends-gone _ (then-gone (choices w_set w_not) _ (n d t i h))

pub no-id-height : (v : List ℕ) → NoField ids v true → NoInner v is_height
unfolding NoInner NoField is_height
no-id-height v n d t i h = ends-gone _ (then-gone number32 _ (n d t i h))

pub no-id-output : (v : List ℕ) → NoField ids v true → NoInner v is_output
unfolding NoInner NoField is_output
no-id-output v n d t i h = ends-gone _ (then-gone number32 _ (then-gone (choices w_fee w_pay) _ (then-gone number64 _ (n d t i h))))

module _ (v : List ℕ) (x : Id) (n1 : List ℕ) (f1 : FieldAt ids v true x n1) where
  pub no-flag : NoField (choices w_set w_not) n1 false → NoInner v is_input
  unfolding NoInner NoField is_input
  no-flag n d t i h = ends-gone _ (n d t _ (f1.is d t i h).1)

  pub no-height : NoField number32 n1 false → NoInner v is_height
  unfolding NoInner NoField is_height
  no-height n d t i h = ends-gone _ (n d t _ (f1.is d t i h).1)

  pub no-amount : NoField number64 n1 false → NoInner v is_output
  unfolding NoInner NoField is_output
  no-amount n d t i h = ends-gone _ (then-gone number32 _ (then-gone (choices w_fee w_pay) _ (n d t _ (f1.is d t i h).1)))

  module _ (c : ℕ) (n2 : List ℕ) (b : Bool) (en : EndHere n2 false b) where
    pub inner-input : FieldAt (choices w_set w_not) n1 false c n2 → b ≡ true → Inner v input_words is_input (id_words x ++ (c ∷ []))
    unfolding Inner input_words is_input
    inner-input f2 e d t i h =
        let p = f1.is d t i h in
        let q = f2.is d t _ p.1 in
        (λ u. id_words (p.0 u) ++ (q.0 u ∷ []), sym (stands-end n2 false d t b en _ q.1) ∙ e)

    pub no-input : FieldAt (choices w_set w_not) n1 false c n2 → b ≡ false → NoInner v is_input
    unfolding NoInner is_input
    no-input f2 e d t i h = sym (stands-end n2 false d t b en _ (f2.is d t _ (f1.is d t i h).1).1) ∙ e

    pub inner-height : FieldAt number32 n1 false c n2 → b ≡ true → Inner v height_words is_height (id_words x ++ (c ∷ []))
    unfolding Inner height_words is_height
    inner-height f2 e d t i h =
        let p = f1.is d t i h in
        let q = f2.is d t _ p.1 in
        (λ u. id_words (p.0 u) ++ (q.0 u ∷ []), sym (stands-end n2 false d t b en _ q.1) ∙ e)

    pub no-height-end : FieldAt number32 n1 false c n2 → b ≡ false → NoInner v is_height
    unfolding NoInner is_height
    no-height-end f2 e d t i h = sym (stands-end n2 false d t b en _ (f2.is d t _ (f1.is d t i h).1).1) ∙ e

  module _ (c2 : ℕ) (n2 : List ℕ) (f2 : FieldAt number64 n1 false c2 n2) where
    pub no-fee : NoField (choices w_fee w_pay) n2 false → NoInner v is_output
    unfolding NoInner NoField is_output
    no-fee n d t i h = ends-gone _ (then-gone number32 _ (n d t _ (f2.is d t _ (f1.is d t i h).1).1))

    module _ (c3 : ℕ) (n3 : List ℕ) (f3 : FieldAt (choices w_fee w_pay) n2 false c3 n3) where
      pub no-output-height : NoField number32 n3 false → NoInner v is_output
      unfolding NoInner NoField is_output
      no-output-height n d t i h = ends-gone _ (n d t _ (f3.is d t _ (f2.is d t _ (f1.is d t i h).1).1).1)

      module _ (c4 : ℕ) (n4 : List ℕ) (f4 : FieldAt number32 n3 false c4 n4) (b : Bool) (en : EndHere n4 false b) where
        pub inner-output : b ≡ true → Inner v output_words is_output (id_words x ++ (c2 ∷ c3 ∷ c4 ∷ []))
        unfolding Inner output_words is_output
        inner-output e d t i h =
            let p = f1.is d t i h in
            let q = f2.is d t _ p.1 in
            let r = f3.is d t _ q.1 in
            let u = f4.is d t _ r.1 in
            (λ z. id_words (p.0 z) ++ (q.0 z ∷ r.0 z ∷ u.0 z ∷ []), sym (stands-end n4 false d t b en _ u.1) ∙ e)

        pub no-output : b ≡ false → NoInner v is_output
        unfolding NoInner is_output
        no-output e d t i h = sym (stands-end n4 false d t b en _ (f4.is d t _ (f3.is d t _ (f2.is d t _ (f1.is d t i h).1).1).1).1) ∙ e

pub ids-none : ids.ok [] ≡ false
unfolding ids
ids-none = ap is_of (id-none [] refl)

pub flags-none : (choices w_set w_not).ok [] ≡ false
unfolding either same
flags-none = refl

pub input-gone : is_input gone ≡ false
unfolding is_input
input-gone = ends-gone _ (then-gone (choices w_set w_not) _ (past-gone ids))

pub height-gone : is_height gone ≡ false
unfolding is_height
height-gone = ends-gone _ (then-gone number32 _ (past-gone ids))

pub output-gone : is_output gone ≡ false
unfolding is_output
output-gone = ends-gone _ (then-gone number32 _ (then-gone (choices w_fee w_pay) _ (then-gone number64 _ (past-gone ids))))

-- ---- all records: reading on from r, over the words that were written, is reading from s

unfoldable pub Tie : Item → List ℕ → ℕ → Rest → Rest → Type 0
Tie it y k z gone = ⊥
Tie it y k z (here n) = (all_in it z ≡ all_ok it n) × (all_ok it n ≡ true → words_in it z ≡ take k y ++ words_of it n)

pub record Goes (it : Item) (s : List ℕ) (d : ℕ) (r : List ℕ) (g : Bool) (x y : List ℕ) (k : ℕ) : Type 0 where
  pub room : k ≤ length x
  pub same : length y ≡ length x
  pub kept : drop k y ≡ drop k x
  pub read : (t : List ℕ) (z : Rest) → Stands s d t true z → (n : Rest) × Stands r d t g n × Tie it y k z n

pub goes-start : (it : Item) (s : List ℕ) (d : ℕ) (x : List ℕ) → Goes it s d s true x x 0
unfolding Tie Stands all_in words_in
goes-start it s d x = record { room = omega arith; same = refl; kept = refl; read = λ t z h. (z, h, tie t z h) }
  where
    tie : (t : List ℕ) (z : Rest) → Stands s d t true z → Tie it x 0 z z
    tie t gone h = absurd h
    tie t (here m) h = (refl, λ o. refl)

module _ (it : Item) (s : List ℕ) (d : ℕ) (r : List ℕ) (g : Bool) (x y : List ℕ) (k : ℕ) (o : Goes it s d r g x y k) where
  -- one member m more, of which n is behind
  member : (y' next t : List ℕ) (z : Rest) (m n : Members) → (room : k + it.width ≤ length y) (a : ItemAt it r g d k y y' next)
      → all_ok it m ≡ pick (it.ok (here m)) (all_ok it n) false → words_of it m ≡ it.of (here m) ++ words_of it n → past_one (here m) ≡ here n
      → Stands r d t g (here m) → Tie it y k z (here m) → (n : Rest) × Stands next d t false n × Tie it y' (k + it.width) z n
  unfolding Tie
  member y' next t z m n room a am wm pm st ti =
      let q = a.is t (here m) st in
      let len : k + it.width ≡ k + length a.words = ap (λ (u : ℕ). k + u) (sym a.wide) in
      let fr : take (k + it.width) y' ≡ take k y ++ a.words = ap (λ (u : ℕ). take u y') len ∙ over-front y y' a.words k (omega (arith, a.wide)) a.wrote in
      let am' = am ∙ ap (λ (b : Bool). pick b (all_ok it n) false) q.0 in (
        here n,
        subst (λ (u : Rest). Stands next d t false u) pm q.2,
        (ti.0 ∙ am', λ u. ti.1 (am' ∙ u) ∙ ap (λ (c : List ℕ). take k y ++ c) (wm ∙ ap (λ (c : List ℕ). c ++ words_of it n) (sym q.1)) ∙ sym (append_assoc (take k y) a.words (words_of it n)) ∙ ap (λ (c : List ℕ). c ++ words_of it n) (sym fr)),
      )

  pub goes_on : (y' next : List ℕ) → EndHere r g false → k + it.width ≤ length y → ItemAt it r g d k y y' next → Goes it s d next false x y' (k + it.width)
  unfolding Tie past_one all_ok words_of Stands
  goes_on y' next en room a =
      let len : k + it.width ≡ k + length a.words = ap (λ (u : ℕ). k + u) (sym a.wide) in
      record {
        room = omega (arith, o.same);
        same = over-length y y' a.words k (omega (arith, a.wide)) a.wrote ∙ o.same;
        kept = ap (λ (u : ℕ). drop u y') len ∙ over-back y y' a.words k (omega (arith, a.wide)) a.wrote ∙ ap (λ (u : ℕ). drop u y) (sym len)
            ∙ sym (drop-drop it.width k y) ∙ ap (drop it.width) o.kept ∙ drop-drop it.width k x;
        read = λ t z h. let q = o.read t z h in step t z q.0 q.1 q.2;
      }
    where
      step : (t : List ℕ) (z n : Rest) → Stands r d t g n → Tie it y k z n → (n : Rest) × Stands next d t false n × Tie it y' (k + it.width) z n
      step t z gone st ti = absurd st
      step t z (here none) st ti = absurd (en.not refl d none t st refl)
      step t z (here (word w n)) st ti = member y' next t z (word w n) n room a refl refl refl st ti
      step t z (here (sub j n)) st ti = member y' next t z (sub j n) n room a refl refl refl st ti

  pub ends-whole : EndHere r g true → ItemsAt it s d x y k
  unfolding Tie Stands fits count_of all_ok words_of
  ends-whole en =
      record {
        room = o.room;
        is = λ t z h. let f = words t z h in (
          f.0,
          sym (ap (λ (b : Bool). pick b (length (words_in it z)) 0) f.0 ∙ f.1),
          sym (take-append-drop k y) ∙ ap₂ (λ (u v : List ℕ). u ++ v) (sym f.2) (o.kept ∙ ap (λ (u : ℕ). drop u x) (let e : k ≡ 0 + length (words_in it z) = omega (arith, f.1) in e)),
        );
      }
    where
      words : (t : List ℕ) (z : Rest) → Stands s d t true z → (fits it (length x) z ≡ true) × (length (words_in it z) ≡ k) × (words_in it z ≡ take k y)
      words t z h = let q = o.read t z h in go q.0 q.1 q.2
        where
          go : (n : Rest) → Stands r d t g n → Tie it y k z n → (fits it (length x) z ≡ true) × (length (words_in it z) ≡ k) × (words_in it z ≡ take k y)
          go gone st ti = absurd st
          go (here m) st ti =
              let e = en.is refl d m t st in
              let all = ti.0 ∙ ap (all_ok it) e in
              let ws = ti.1 (ap (all_ok it) e) ∙ ap (λ (u : Members). take k y ++ words_of it u) e ∙ append-nil (take k y) in
              let len : length (words_in it z) ≡ k = ap length ws ∙ length-take-le k y (omega (arith, o.room, o.same)) in
              (ap₂ (λ (b c : Bool). pick b c false) all (le-leb (length (words_in it z)) (length x) (omega (arith, o.room))), len, ws)

  -- the members that are left are no records, or their words have no room
  no-fit : EndHere r g false
      → ((z : Rest) (m n : Members) → (t : List ℕ) → Stands r d t g (here m) → all_ok it m ≡ pick (it.ok (here m)) (all_ok it n) false → words_of it m ≡ it.of (here m) ++ words_of it n → Tie it y k z (here m) → fits it (length x) z ≡ false)
      → NoItems it s d (length x)
  unfolding NoItems Tie Stands all_ok words_of
  no-fit en f t z h = let q = o.read t z h in go q.0 q.1 q.2
    where
      go : (n : Rest) → Stands r d t g n → Tie it y k z n → fits it (length x) z ≡ false
      go gone st ti = absurd st
      go (here none) st ti = absurd (en.not refl d none t st refl)
      go (here (word w n)) st ti = f z (word w n) n t st refl refl ti
      go (here (sub j n)) st ti = f z (sub j n) n t st refl refl ti

  pub ends-full : EndHere r g false → length y - k < it.width → NoItems it s d (length x)
  unfolding Tie fits
  ends-full en full =
      no-fit en
      (λ z m n t st am wm ti.
      by_bool (all_ok it m)
      (λ e. let ws = ti.1 e ∙ ap (λ (u : List ℕ). take k y ++ u) wm in
      let len = ap length ws ∙ length-append (take k y) (it.of (here m) ++ words_of it n) in
      let two = length-append (it.of (here m)) (words_of it n) in
      ap₂ (λ (b c : Bool). pick b c false) (ti.0 ∙ e) (lt-leb (length (words_in it z)) (length x) (omega (arith, it.wide (here m), length-take-le k y (omega (arith, o.room, o.same)), o.same))))
      (λ e. ap (λ (b : Bool). pick b (leb (length (words_in it z)) (length x)) false) (ti.0 ∙ e)))

  pub ends-item : EndHere r g false → NoItem it r g d → NoItems it s d (length x)
  unfolding Tie fits NoItem
  ends-item en off =
      no-fit en
      (λ z m n t st am wm ti. ap (λ (b : Bool). pick b (leb (length (words_in it z)) (length x)) false) (ti.0 ∙ am ∙ ap (λ (b : Bool). pick b (all_ok it n) false) (off t (here m) st)))

  -- the same with the width as the code has it
  pub goes_by : (y' next : List ℕ) (w : ℕ) → EndHere r g false → k + it.width ≤ length y → ItemAt it r g d k y y' next → w ≡ it.width → Goes it s d next false x y' (k + w)
  goes_by y' next w en room a e = subst (λ (z : ℕ). Goes it s d next false x y' (k + z)) (sym e) (goes_on y' next en room a)

pub end_is : (s : List ℕ) (g r b : Bool) → EndHere s g r → r ≡ b → EndHere s g b
end_is s g r b f e = subst (λ (z : Bool). EndHere s g z) e f

-- of a record that was written to the front of a part from k on
pub item-part : (it : Item) (s : List ℕ) (g : Bool) (d k : ℕ) (y u r : List ℕ) → k ≤ length y → ItemAt it s g d 0 (take (length y - k) (drop k y)) u r
    → ItemAt it s g d k y (take k y ++ (u ++ drop (length y - k) (drop k y))) r
item-part it s g d k y u r h a = record { behind = a.behind; words = a.words; wide = a.wide; wrote = back y k h u a.words a.wrote; is = a.is }

-- a record of any kind is one of that kind
pub kind-room : (kind other : Records) (n : ℕ) → kind ≡ other → (item_of kind).width ≤ n → (item_of other).width ≤ n
kind-room kind other n e h = subst (λ (z : Records). (item_of z).width ≤ n) e h

pub item-kind : {A : Type 0} (kind other : Records) (s : List ℕ) (g : Bool) (d k : ℕ) (x y : List ℕ) (o : Option A) (now : A → List ℕ) → kind ≡ other
    → MatchOption o (NoItem (item_of other) s g d) (λ r. ItemAt (item_of other) s g d k x y (now r)) → MatchOption o (NoItem (item_of kind) s g d) (λ r. ItemAt (item_of kind) s g d k x y (now r))
item-kind kind other s g d k x y o now e a =
    subst (λ (z : Records). MatchOption o (NoItem (item_of z) s g d) (λ r. ItemAt (item_of z) s g d k x y (now r))) (sym e) a

-- ---- how many words there are

pub words-length : (it : Item) (m : Members) → length (words_of it m) ≡ count m * it.width
unfolding words_of count
words-length it none = omega arith
words-length it (word w n) = length-append (it.of (here (word w n))) (words_of it n) ∙ ap₂ (λ (x y : ℕ). x + y) (it.wide (here (word w n))) (words-length it n) ∙ omega (arith, suc-mul (count n) it.width)
words-length it (sub i n) = length-append (it.of (here (sub i n))) (words_of it n) ∙ ap₂ (λ (x y : ℕ). x + y) (it.wide (here (sub i n))) (words-length it n) ∙ omega (arith, suc-mul (count n) it.width)

pub words-in-length : (it : Item) (s : Rest) → length (words_in it s) ≡ count_in s * it.width
unfolding words_in count_in
words-in-length it gone = omega arith
words-in-length it (here m) = words-length it m

-- ---- a list as a field

module _ (it : Item) (s : List ℕ) (d : ℕ) where
  pub list-none : (room : ℕ) → NoList s false d → NoListed it s d room
  unfolding NoListed past_items fits all_in
  list-none room f t z h =
      let w = stands-no-list s false d t f z h in
      ap₂ (λ (a b : Rest). pick (fits it room a) b gone) w.0 w.1

  module _ (v r : List ℕ) (f : ListHere s false d v r) where
    inner : (t : List ℕ) (z : Rest) → Stands s d t false z → Stands v (d - 1) r true (list_of z) × Stands r d t false (past_list z)
    inner t z h =
        let w = stands-list s false d t v r f z h in
        let e : w.0 ≡ d - 1 = omega (arith, w.1) in
        (subst (λ (m : ℕ). Stands v m r true (list_of z)) e w.2, w.3)

    pub list-off : (room : ℕ) → NoItems it v (d - 1) room → NoListed it s d room
    unfolding NoListed NoItems past_items
    list-off room n t z h = ap (λ (b : Bool). pick b (past_list z) gone) (n r (list_of z) (inner t z h).0)

    pub list-yes : (x y : List ℕ) (n : ℕ) → ItemsAt it v (d - 1) x y n → ListAt it s d x y n r
    unfolding past_items
    list-yes x y n j =
        record {
          behind = list-behind s false d v r f;
          room = j.room;
          is = λ t z h. let w = inner t z h in
              let q = j.is r (list_of z) w.0 in
              (q.1, subst (λ (b : Bool). Stands r d t false (pick b (past_list z) gone)) (sym q.0) w.1);
          fit = λ t z h. (j.is r (list_of z) (inner t z h).0).0;
          wrote = λ t z h. (j.is r (list_of z) (inner t z h).0).2;
        }
