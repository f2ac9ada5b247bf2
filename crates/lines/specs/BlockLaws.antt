-- Laws of a block's transactions: the record of each is written behind those before it, and its boxes behind theirs.
use Rattle.std.specs.Prelude.{ℕ, ◌+◌, ◌-◌, ◌/◌, ◌<◌, ◌≤◌, ◌≡◌, Bool, take, drop, leb}
use Rattle.std.proofs.Math.Path.{refl, sym, ap, ap₂, subst}
use Rattle.std.proofs.Common.{◌∙◌, arith}
use Rattle.std.proofs.Math.Bool.{true, false}
use mathlib.Core.List.{List, [], ◌∷◌, ◌++◌, append_assoc, append-nil}
use Rattle.std.proofs.Math.ListN.{length, length-append}
use borrow.Author.Tests.{le-leb, lt-leb, leb-false}
use Rattle.words.specs.Lists.{pick}
use Rattle.words.specs.Rows.{stored}
use Rattle.words.specs.Ids.{id_words}
use Rattle.words.specs.declared.ids.Id.{Id}
use Rattle.forms.specs.Text.{Members, none, word, sub, NoList, ListHere, EndHere}
use Rattle.forms.specs.TextLaws.{true-false, by_bool}
use Rattle.forms.specs.Nums.{over}
use Rattle.forms.specs.NumLaws.{wrote_then}
use Rattle.lines.specs.Fields.{Rest, gone, here, list_of, past_list, ended, value, past, ids, Stands, FieldAt, NoField}
use Rattle.lines.specs.FieldLaws.{stands-list, stands-no-list, stands-end, list-behind}
use Rattle.lines.specs.Items.{boxes, words_of, all_ok, words_in, all_in, fits, count_of, past_items, count_in, past_one, ListAt, NoListed}
use Rattle.lines.specs.ItemLaws.{lent_length, back, back-length, stored-over, past-gone, list-one, ends-gone, words-in-length}
use Rattle.lines.specs.Blocks.{box_list, tx_words, box_words, is_tx, transactions, inputs_of, inputs_in, fits_block, txs_count, inputs_count, past_block, tx_fits, TxAt, NoTx, TxsAt, NoTxs, BlockAt, NoBlock}

-- ---- one transaction

-- what is left behind a transaction's boxes, where they have room, says whether it is one
tx-test : (b : ℕ) (i : Rest) → ended (past_items boxes b (past ids i)) ≡ tx_fits b i
unfolding past_items fits tx_fits is_tx box_words box_list ended
tx-test b i = go (all_in boxes (list_of (past ids i))) (leb (length (words_in boxes (list_of (past ids i)))) b) (past_list (past ids i))
  where
    itself : (t : Bool) → t ≡ pick t true false
    itself true = refl
    itself false = refl

    never : (t : Bool) → false ≡ pick t false false
    never true = refl
    never false = refl

    go : (x y : Bool) (p : Rest) → ended (pick (pick x y false) p gone) ≡ pick (pick x (ended p) false) y false
    go true true p = itself (ended p)
    go true false p = never (ended p)
    go false y p = refl

tx-gone : (b : ℕ) → tx_fits b gone ≡ false
unfolding tx_fits is_tx box_list all_in list_of
tx-gone b = ap (λ (z : Rest). pick (pick (all_in boxes (list_of z)) (ended (past_list z)) false) (leb (length (box_words gone)) b) false) (past-gone ids)

tx-wide : (i : Rest) → length (tx_words i) ≡ 5
unfolding tx_words
tx-wide i = refl

no-boxes : box_words gone ≡ []
unfolding box_words box_list words_in list_of
no-boxes = ap (λ (z : Rest). words_in boxes (list_of z)) (past-gone ids)

-- the boxes of a transaction have room
tx-room : (b : ℕ) (i : Rest) → tx_fits b i ≡ true → fits boxes b (box_list i) ≡ true
unfolding tx_fits is_tx box_words fits
tx-room b i e = go (all_in boxes (box_list i)) (ended (past_list (past ids i))) (leb (length (words_in boxes (box_list i))) b) e
  where
    go : (x p y : Bool) → pick (pick x p false) y false ≡ true → pick x y false ≡ true
    go true true y e = e
    go true false y e = true-false e refl
    go false p y e = true-false e refl

items-gone : (b : ℕ) (i : Rest) → i ≡ gone → past_items boxes b i ≡ gone
unfolding past_items list_of past_list
items-gone b i e = ap (past_items boxes b) e ∙ go (fits boxes b gone)
  where
    go : (c : Bool) → pick c gone gone ≡ gone
    go true = refl
    go false = refl

module _ (s : List ℕ) (g : Bool) (d : ℕ) where
  pub tx-none : (room : ℕ) → NoList s g d → NoTx s g d room
  unfolding NoTx
  tx-none room f t q h = ap (tx_fits room) (stands-no-list s g d t f q h).0 ∙ tx-gone room

  module _ (u r : List ℕ) (f : ListHere s g d u r) where
    pub tx-no-id : (room : ℕ) → NoField ids u true → NoTx s g d room
    unfolding NoTx NoField
    tx-no-id room n t q h =
        let w = stands-list s g d t u r f q h in
        sym (tx-test room (list_of q)) ∙ ends-gone _ (items-gone room _ (n w.0 r (list_of q) w.2))

    module _ (w : Id) (n1 : List ℕ) (f1 : FieldAt ids u true w n1) where
      stood : (t : List ℕ) (q : Rest) → Stands s d t g q → Stands n1 (d - 1) r false (past ids (list_of q)) × (w ≡ value ids (list_of q)) × Stands r d t false (past_list q)
      stood t q h =
          let a = stands-list s g d t u r f q h in
          let p = f1.is a.0 r (list_of q) a.2 in
          let e : a.0 ≡ d - 1 = omega (arith, a.1) in
          (subst (λ (m : ℕ). Stands n1 m r false (past ids (list_of q))) e p.1, p.0, a.3)

      pub tx-no-boxes : (room : ℕ) → NoListed boxes n1 (d - 1) room → NoTx s g d room
      unfolding NoTx NoListed
      tx-no-boxes room n t q h = sym (tx-test room (list_of q)) ∙ ends-gone _ (n r _ (stood t q h).0)

      module _ (v z : List ℕ) (n : ℕ) (n2 : List ℕ) (f2 : ListAt boxes n1 (d - 1) v z n n2) (b : Bool) (en : EndHere n2 false b) where
        tested : (t : List ℕ) (q : Rest) → Stands s d t g q → b ≡ tx_fits (length v) (list_of q)
        tested t q h = stands-end n2 false (d - 1) r b en _ (f2.is r _ (stood t q h).0).1 ∙ tx-test (length v) (list_of q)

        pub tx-off : b ≡ false → NoTx s g d (length v)
        unfolding NoTx
        tx-off e t q h = sym (tested t q h) ∙ e

        -- y is x with its id and m
        pub tx-yes : (k : ℕ) (x y : List ℕ) (m : ℕ) → b ≡ true → k + 5 ≤ length x → y ≡ stored x k (id_words w ++ (m ∷ [])) → m ≡ n / 4 → TxAt s g d k x y v z n r
        unfolding count_of boxes box_words box_list tx_words
        tx-yes k x y m p room put num =
            record {
              behind = list-behind s g d u r f;
              room = f2.room;
              is = λ t q h. (sym (tested t q h) ∙ p, list-one r d t false q (stood t q h).2);
              wrote = λ t q h. let st = stood t q h in
                  let fit = f2.fit r _ st.0 in
                  let i = list_of (past ids (list_of q)) in
                  let len : n ≡ length (words_in boxes i) = (f2.is r _ st.0).0 ∙ ap (λ (c : Bool). pick c (length (words_in boxes i)) 0) fit in
                  let count : m ≡ count_in i = omega (arith, words-in-length boxes i) in (
                    put ∙ stored-over (id_words w ++ (m ∷ [])) x k room ∙ ap₂ (λ (a : Id) (c : ℕ). over k (id_words a ++ (c ∷ [])) x) st.1 count,
                    f2.wrote r _ st.0,
                    len,
                  );
            }

-- of a record that was written to the front of a part from k on
pub tx-part : (s : List ℕ) (g : Bool) (d k : ℕ) (y u v z : List ℕ) (n : ℕ) (r : List ℕ) → k ≤ length y → TxAt s g d 0 (take (length y - k) (drop k y)) u v z n r
    → TxAt s g d k y (take k y ++ (u ++ drop (length y - k) (drop k y))) v z n r
tx-part s g d k y u v z n r h a =
    record { behind = a.behind; room = a.room; is = a.is; wrote = λ t q p. let w = a.wrote t q p in (back y k h u (tx_words (list_of q)) w.0, w.1, w.2) }

-- ---- lists that have no room

module _ (a b : ℕ) (s : Rest) where
  not-all : all_in transactions s ≡ false → fits_block a b s ≡ false
  unfolding fits_block fits
  not-all e = ap (λ (c : Bool). pick (pick c (leb (length (words_in transactions s)) a) false) (leb (length (inputs_in s)) b) false) e

  no_words : a < length (words_in transactions s) → fits_block a b s ≡ false
  unfolding fits_block fits
  no_words h = ap (λ (c : Bool). pick (pick (all_in transactions s) c false) (leb (length (inputs_in s)) b) false) (lt-leb _ _ h) ∙ go (all_in transactions s)
    where
      go : (c : Bool) → pick (pick c false false) (leb (length (inputs_in s)) b) false ≡ false
      go true = refl
      go false = refl

  no-inputs : b < length (inputs_in s) → fits_block a b s ≡ false
  unfolding fits_block
  no-inputs h = ap (λ (c : Bool). pick (fits transactions a s) c false) (lt-leb _ _ h) ∙ go (fits transactions a s)
    where
      go : (c : Bool) → pick c false false ≡ false
      go true = refl
      go false = refl

  all_room : all_in transactions s ≡ true → length (words_in transactions s) ≤ a → length (inputs_in s) ≤ b → fits_block a b s ≡ true
  unfolding fits_block fits
  all_room e p q =
      ap₂ (λ (c u : Bool). pick (pick c u false) (leb (length (inputs_in s)) b) false) e (le-leb _ _ p) ∙ le-leb _ _ q

-- ---- all transactions: reading on from r, over the words that were written, is reading from s

-- the words of the transactions that were read, those of n being left
pub record Sofar (x y v z : List ℕ) (k j : ℕ) (q : Rest) (n : Members) : Type 0 where
  pub first : List ℕ
  pub second : List ℕ
  pub all : all_in transactions q ≡ all_ok transactions n
  pub words : words_in transactions q ≡ first ++ words_of transactions n
  pub inputs : inputs_in q ≡ second ++ inputs_of n
  pub long : length first ≡ k
  pub long-2 : length second ≡ j
  pub wrote : y ≡ over 0 first x
  pub wrote-2 : z ≡ over 0 second v

unfoldable pub Left : (x y v z : List ℕ) (k j : ℕ) (q : Rest) → Rest → Type 0
Left x y v z k j q gone = ⊥
Left x y v z k j q (here n) = Sofar x y v z k j q n

pub record Moves (s : List ℕ) (d : ℕ) (r : List ℕ) (g : Bool) (x y v z : List ℕ) (k j : ℕ) : Type 0 where
  pub room : k ≤ length x
  pub room-2 : j ≤ length v
  pub same : length y ≡ length x
  pub same-2 : length z ≡ length v
  pub read : (t : List ℕ) (q : Rest) → Stands s d t true q → (n : Rest) × Stands r d t g n × Left x y v z k j q n

pub moves-start : (s : List ℕ) (d : ℕ) (x v : List ℕ) → Moves s d s true x x v v 0 0
unfolding Left Stands all_in words_in inputs_in
moves-start s d x v = record { room = omega arith; room-2 = omega arith; same = refl; same-2 = refl; read = λ t q h. (q, h, left t q h) }
  where
    left : (t : List ℕ) (q : Rest) → Stands s d t true q → Left x x v v 0 0 q q
    left t gone h = absurd h
    left t (here m) h = record { first = []; second = []; all = refl; words = refl; inputs = refl; long = refl; long-2 = refl; wrote = refl; wrote-2 = refl }

module _ (s : List ℕ) (d : ℕ) (r : List ℕ) (g : Bool) (x y v z : List ℕ) (k j : ℕ) (o : Moves s d r g x y v z k j) where
  abbrev tail-room : ℕ
  tail-room = length (take (length z - j) (drop j z))

  room-left : tail-room ≡ length v - j
  room-left = omega (arith, lent_length z j (omega (arith, o.room-2, o.same-2)), o.same-2)

  module _ (y' u : List ℕ) (n : ℕ) (next : List ℕ) (room : k + 5 ≤ length y) (a : TxAt r g d k y y' (take (length z - j) (drop j z)) u n next) where
    -- the second slice with the part that was lent
    abbrev z' : List ℕ
    z' = take j z ++ (u ++ drop (length z - j) (drop j z))

    -- one member m more, of which w is behind
    member : (t : List ℕ) (q : Rest) (m w : Members) → all_ok transactions m ≡ pick (is_tx (list_of (here m))) (all_ok transactions w) false
        → words_of transactions m ≡ tx_words (list_of (here m)) ++ words_of transactions w → inputs_of m ≡ box_words (list_of (here m)) ++ inputs_of w → past_one (here m) ≡ here w
        → Stands r d t g (here m) → Sofar x y v z k j q m → (p : Rest) × Stands next d t false p × Left x y' v z' (k + 5) (j + n) q p
    unfolding Left tx_fits
    member t q m w am wm im pm st ti =
        let e = a.is t (here m) st in
        let c = a.wrote t (here m) st in
        let five : length (tx_words (list_of (here m))) ≡ 5 = tx-wide (list_of (here m)) in
        let p = pick-test (is_tx (list_of (here m))) _ e.0 in (
          here w,
          subst (λ (b : Rest). Stands next d t false b) pm e.1,
          record {
            first = ti.first ++ tx_words (list_of (here m));
            second = ti.second ++ box_words (list_of (here m));
            all = ti.all ∙ am ∙ ap (λ (b : Bool). pick b (all_ok transactions w) false) p;
            words = ti.words ∙ ap (λ (b : List ℕ). ti.first ++ b) wm ∙ sym (append_assoc ti.first (tx_words (list_of (here m))) (words_of transactions w));
            inputs = ti.inputs ∙ ap (λ (b : List ℕ). ti.second ++ b) im ∙ sym (append_assoc ti.second (box_words (list_of (here m))) (inputs_of w));
            long = length-append ti.first (tx_words (list_of (here m))) ∙ omega (arith, ti.long);
            long-2 = length-append ti.second (box_words (list_of (here m))) ∙ omega (arith, ti.long-2, c.2);
            wrote =
                wrote_then 0 x ti.first y (tx_words (list_of (here m))) y' (omega (arith, ti.long, o.room)) ti.wrote (c.0 ∙ ap (λ (b : ℕ). over b (tx_words (list_of (here m))) y) (let e1 : k ≡ 0 + length ti.first = omega (arith, ti.long) in e1));
            wrote-2 =
                wrote_then 0 v ti.second z (box_words (list_of (here m))) z' (omega (arith, ti.long-2, o.room-2)) ti.wrote-2
                (back z j (omega (arith, o.room-2, o.same-2)) u (box_words (list_of (here m))) c.1 ∙ ap (λ (b : ℕ). over b (box_words (list_of (here m))) z) (let e2 : j ≡ 0 + length ti.second = omega (arith, ti.long-2) in e2));
          },
        )
      where
        pick-test : (p q : Bool) → pick p q false ≡ true → p ≡ true
        pick-test true q e = refl
        pick-test false q e = e

    moves-on : EndHere r g false → length y' ≡ length y → length u ≡ tail-room → Moves s d next false x y' v z' (k + 5) (j + n)
    unfolding Left past_one all_ok words_of inputs_of Stands transactions list_of
    moves-on en sy su =
        record {
          room = omega (arith, o.same);
          room-2 = omega (arith, a.room, lent_length z j (omega (arith, o.room-2, o.same-2)), o.room-2, o.same-2);
          same = sy ∙ o.same;
          same-2 = back-length z j (omega (arith, o.room-2, o.same-2)) u su ∙ o.same-2;
          read = λ t q h. let p = o.read t q h in step t q p.0 p.1 p.2;
        }
      where
        step : (t : List ℕ) (q m : Rest) → Stands r d t g m → Left x y v z k j q m → (p : Rest) × Stands next d t false p × Left x y' v z' (k + 5) (j + n) q p
        step t q gone st ti = absurd st
        step t q (here none) st ti = absurd (en.not refl d none t st refl)
        step t q (here (word w b)) st ti = member t q (word w b) b refl refl (ap (λ (c : List ℕ). c ++ inputs_of b) (sym no-boxes)) refl st ti
        step t q (here (sub h b)) st ti = member t q (sub h b) b refl refl refl refl st ti

  -- the same with the part's start as the code has it
  pub moves_from : (from : ℕ) (y' u : List ℕ) (n : ℕ) (next : List ℕ) → k + 5 ≤ length y → TxAt r g d k y y' (take (length z - from) (drop from z)) u n next → from ≡ j
      → EndHere r g false → length y' ≡ length y → length u ≡ length (take (length z - from) (drop from z))
      → Moves s d next false x y' v (take from z ++ (u ++ drop (length z - from) (drop from z))) (k + 5) (j + n)
  moves_from from y' u n next room a e en sy su =
      subst (λ (f : ℕ). TxAt r g d k y y' (take (length z - f) (drop f z)) u n next → length u ≡ length (take (length z - f) (drop f z)) → Moves s d next false x y' v (take f z ++ (u ++ drop (length z - f) (drop f z))) (k + 5) (j + n))
      (sym e) (λ b h. moves-on y' u n next room b en sy h) a su

  -- all transactions were read
  pub ends-whole : EndHere r g true → TxsAt s d x y v z k j
  unfolding Left Stands all_ok words_of inputs_of txs_count inputs_count
  ends-whole en =
      record {
        is = λ t q h. let f = found t q h in
            let e = fit q f in
            (e, sym (ap (λ (c : Bool). pick c (length (words_in transactions q)) 0) e ∙ len q f), sym (ap (λ (c : Bool). pick c (length (inputs_in q)) 0) e ∙ len-2 q f));
        wrote = λ t q h. let f = found t q h in (f.wrote ∙ ap (λ (c : List ℕ). over 0 c x) (sym (words q f)), f.wrote-2 ∙ ap (λ (c : List ℕ). over 0 c v) (sym (inputs q f)));
      }
    where
      found : (t : List ℕ) (q : Rest) → Stands s d t true q → Sofar x y v z k j q none
      found t q h = let p = o.read t q h in go p.0 p.1 p.2
        where
          go : (n : Rest) → Stands r d t g n → Left x y v z k j q n → Sofar x y v z k j q none
          go gone st ti = absurd st
          go (here m) st ti = subst (λ (b : Members). Sofar x y v z k j q b) (en.is refl d m t st) ti

      words : (q : Rest) (f : Sofar x y v z k j q none) → words_in transactions q ≡ f.first
      words q f = f.words ∙ append-nil f.first

      inputs : (q : Rest) (f : Sofar x y v z k j q none) → inputs_in q ≡ f.second
      inputs q f = f.inputs ∙ append-nil f.second

      len : (q : Rest) → Sofar x y v z k j q none → length (words_in transactions q) ≡ k
      len q f = ap length (words q f) ∙ f.long

      len-2 : (q : Rest) → Sofar x y v z k j q none → length (inputs_in q) ≡ j
      len-2 q f = ap length (inputs q f) ∙ f.long-2

      fit : (q : Rest) → Sofar x y v z k j q none → fits_block (length x) (length v) q ≡ true
      fit q f = all_room (length x) (length v) q f.all (omega (arith, len q f, o.room)) (omega (arith, len-2 q f, o.room-2))

  -- the members that are left are no transactions, or have no room
  no-fit : EndHere r g false
      → ((q : Rest) (m w : Members) (t : List ℕ) → Stands r d t g (here m) → all_ok transactions m ≡ pick (is_tx (list_of (here m))) (all_ok transactions w) false
      → words_of transactions m ≡ transactions.of (here m) ++ words_of transactions w → inputs_of m ≡ box_words (list_of (here m)) ++ inputs_of w → Sofar x y v z k j q m → fits_block (length x) (length v) q ≡ false)
      → NoTxs s d (length x) (length v)
  unfolding NoTxs Left Stands all_ok words_of inputs_of transactions list_of
  no-fit en f t q h = let p = o.read t q h in go p.0 p.1 p.2
    where
      go : (n : Rest) → Stands r d t g n → Left x y v z k j q n → fits_block (length x) (length v) q ≡ false
      go gone st ti = absurd st
      go (here none) st ti = absurd (en.not refl d none t st refl)
      go (here (word w b)) st ti = f q (word w b) b t st refl refl (ap (λ (c : List ℕ). c ++ inputs_of b) (sym no-boxes)) ti
      go (here (sub i b)) st ti = f q (sub i b) b t st refl refl refl ti

  -- a transaction more has no room
  pub ends-full : EndHere r g false → length y - k < 5 → NoTxs s d (length x) (length v)
  unfolding transactions
  ends-full en full =
      no-fit en
      (λ q m w t st am wm im ti.
      let n1 = ap length (ti.words ∙ ap (λ (b : List ℕ). ti.first ++ b) wm) ∙ length-append ti.first (transactions.of (here m) ++ words_of transactions w) in
      let n2 = length-append (transactions.of (here m)) (words_of transactions w) in
      no_words (length x) (length v) q (omega (arith, ti.long, o.room, o.same, transactions.wide (here m))))

  -- the next member is no transaction, or its boxes have no room
  pub ends-tx : (from : ℕ) → from ≡ j → EndHere r g false → NoTx r g d (length (take (length z - from) (drop from z))) → NoTxs s d (length x) (length v)
  unfolding NoTx tx_fits
  ends-tx from e en n =
      no-fit en
      (λ q m w t st am wm im ti.
      let a = subst (λ (f : ℕ). tx_fits (length (take (length z - f) (drop f z))) (list_of (here m)) ≡ false) e (n t (here m) st) in
      by_bool (is_tx (list_of (here m)))
      (λ p. no-inputs (length x) (length v) q (let f = leb-false (length (box_words (list_of (here m)))) tail-room (sym (ap (λ (b : Bool). pick b (leb (length (box_words (list_of (here m)))) tail-room) false) p) ∙ a) in
      let n1 = ap length (ti.inputs ∙ ap (λ (b : List ℕ). ti.second ++ b) im) ∙ length-append ti.second (box_words (list_of (here m)) ++ inputs_of w) in
      let n2 = length-append (box_words (list_of (here m))) (inputs_of w) in
      omega (arith, f, ti.long-2, room-left)))
      (λ p. not-all (length x) (length v) q (ti.all ∙ am ∙ ap (λ (b : Bool). pick b (all_ok transactions w) false) p)))

-- ---- the list as a field

module _ (s : List ℕ) (d a b : ℕ) where
  pub block_none : NoList s false d → NoBlock s d a b
  unfolding NoBlock past_block fits_block fits all_in
  block_none f t q h =
      let w = stands-no-list s false d t f q h in
      ap₂ (λ (c e : Rest). pick (fits_block a b c) e gone) w.0 w.1

module _ (s : List ℕ) (d : ℕ) (u r : List ℕ) (f : ListHere s false d u r) where
  inner : (t : List ℕ) (q : Rest) → Stands s d t false q → Stands u (d - 1) r true (list_of q) × Stands r d t false (past_list q)
  inner t q h =
      let w = stands-list s false d t u r f q h in
      let e : w.0 ≡ d - 1 = omega (arith, w.1) in
      (subst (λ (i : ℕ). Stands u i r true (list_of q)) e w.2, w.3)

  pub block-off : (a b : ℕ) → NoTxs u (d - 1) a b → NoBlock s d a b
  unfolding NoBlock NoTxs past_block
  block-off a b n t q h = ap (λ (c : Bool). pick c (past_list q) gone) (n r (list_of q) (inner t q h).0)

  pub block-yes : (x y v z : List ℕ) (n m : ℕ) → TxsAt u (d - 1) x y v z n m → BlockAt s d x y v z n m r
  unfolding past_block
  block-yes x y v z n m j =
      record {
        behind = list-behind s false d u r f;
        is = λ t q h. let w = inner t q h in
            let p = j.is r (list_of q) w.0 in
            (p.1, p.2, subst (λ (c : Bool). Stands r d t false (pick c (past_list q) gone)) (sym p.0) w.1);
        wrote = λ t q h. j.wrote r (list_of q) (inner t q h).0;
      }

-- nothing is left behind nothing
pub block-then : (a b : ℕ) (q : Rest) → q ≡ gone → past_block a b q ≡ gone
unfolding past_block fits_block fits all_in list_of
block-then a b q e = ap (past_block a b) e
