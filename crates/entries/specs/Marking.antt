-- A slot comes into use and is linked in where it belongs in its bucket's chain; a slot goes out of use and out of its chain.
use Prim.Native.Nat.{ℕ, zero, suc, ◌+◌, ◌≤◌, ◌<◌}
use Rattle.std.specs.Prelude.{◌≡◌, Bool, true, false, List, length, eqb}
use Rattle.std.proofs.Math.Path.{refl, sym}
use Rattle.std.proofs.Common.{ap, ◌∙◌}
use Rattle.std.proofs.Math.Bool.{not}
use native.Mathlib.Omega.{arith}
use Rattle.words.specs.Chains.{prev, prev-le, prev-ext, bounded}
use Rattle.entries.specs.Splice.{Linked, spliced, prev-gone, prev-new, bounded-small}
use Rattle.entries.specs.Cells.{slot_count, slot_words, last_word, use_word, link_word, head_word, cell, raw_at, bucket_key, key-same, put_cell, put-length, put-here, put-else, put-raw}
use Rattle.entries.specs.Index.{used, home_of, home-low, home_same, hash_at, link_at, head_at, Indexed, hash-used, hash-free, hash-same, Cutting}

-- the chain of b is mended at a place: `p` names a slot, or 0 the head
unfoldable pub mended : List ℕ → ℕ → ℕ → ℕ → List ℕ
mended l b zero x = put_cell l b head_word x
mended l b (suc k) x = put_cell l k link_word x

pub mend-top : (l : List ℕ) (b p x : ℕ) → p ≡ 0 → put_cell l b head_word x ≡ mended l b p x
unfolding mended
mend-top l b p x e = rw e

pub mend-mid : (l : List ℕ) (b p x k : ℕ) → p ≡ suc k → put_cell l k link_word x ≡ mended l b p x
unfolding mended
mend-mid l b p x k e = rw e

pub mend-length : (l : List ℕ) (b p x : ℕ) → length (mended l b p x) ≡ length l
unfolding mended
mend-length l b zero x = put-length l b head_word x
mend-length l b (suc k) x = put-length l k link_word x

module _ (l : List ℕ) (b x : ℕ) (h : b < slot_count l) where
  mend-else : (p : ℕ) → p ≤ slot_count l → (j a : ℕ) → a < slot_words → (p ≡ 0 → j ≡ b → a ≡ head_word → ⊥) → ((k : ℕ) → p ≡ suc k → j ≡ k → a ≡ link_word → ⊥) → cell (mended l b p x) j a ≡ cell l j a
  unfolding mended
  mend-else zero q j a r d e = put-else l b head_word x h (omega arith) j a r (λ y z. d refl y z)
  mend-else (suc k) q j a r d e = put-else l k link_word x q (omega arith) j a r (λ y z. e k refl y z)

  mend-raw : (p : ℕ) → p ≤ slot_count l → (r : ℕ) → raw_at (mended l b p x) r ≡ raw_at l r
  unfolding mended
  mend-raw zero q r = put-raw l b head_word x h (omega arith) r
  mend-raw (suc k) q r = put-raw l k link_word x q (omega arith) r

  mend-head : (p : ℕ) → p ≡ 0 → cell (mended l b p x) b head_word ≡ x
  unfolding mended
  mend-head zero e = put-here l b head_word x h (omega arith)
  mend-head (suc k) e = absurd (omega arith)

  mend-link : (p : ℕ) → p ≤ slot_count l → (k : ℕ) → p ≡ suc k → cell (mended l b p x) k link_word ≡ x
  unfolding mended
  mend-link zero q k e = absurd (omega arith)
  mend-link (suc j) q k e = let z : j ≡ k = omega arith in rw (← z) (put-here l j link_word x q (omega arith))

-- ---- the index, where one slot changes its bucket and the chain is mended

module _ (l m : List ℕ) (u b i p v x : ℕ) (len : length m ≡ length l) (low : i < u) (lowb : b < slot_count l) (c : Cutting l u b i p v) (ix : Indexed l u)
    (same : (j : ℕ) → (j ≡ i → ⊥) → hash_at m j ≡ hash_at l j) (apart : (o : ℕ) → o < slot_count l → (o ≡ b → ⊥) → (hash_at l i ≡ o → ⊥) × (hash_at m i ≡ o → ⊥))
    (own : hash_at m i < slot_count l → bounded i (link_at m i) ≡ prev (hash_at m) i (hash_at m i))
    (val : (q : ℕ) → i < q → prev (hash_at l) q b ≤ suc i → x ≡ prev (hash_at m) q b)
    (links : (j : ℕ) → (j ≡ i → ⊥) → ((k : ℕ) → p ≡ suc k → j ≡ k → ⊥) → link_at m j ≡ link_at l j) (link : (k : ℕ) → p ≡ suc k → link_at m k ≡ x)
    (heads : (o : ℕ) → (p ≡ 0 → o ≡ b → ⊥) → head_at m o ≡ head_at l o) (head : p ≡ 0 → head_at m b ≡ x) where
  at_place : (o : ℕ) → p ≡ o → Linked (hash_at m) (link_at m) (head_at m) (slot_count l) u
  unfolding Indexed
  at_place zero e =
      let y : prev (hash_at l) u b ≤ suc i = omega (arith, c.below, c.cut.top ix e) in
      spliced (hash_at l) (hash_at m) i same (link_at l) (head_at l) (link_at m) (head_at m) (slot_count l) u b u low lowb ix apart low (omega arith) (λ z. absurd (omega arith)) y own
      (λ z. absurd (omega arith))
      (λ z. head e ∙ val u low y)
      (λ z. absurd (omega arith))
      (λ j a d f. links j d (λ k g z. omega arith))
      (λ o a d. heads o (λ g z. d z))
  at_place (suc k) e =
      let g = c.cut.mid ix k e in
      let y : prev (hash_at l) k b ≤ suc i = omega (arith, c.below, g.1) in
      let z : i < k = c.cut.far k e in
      spliced (hash_at l) (hash_at m) i same (link_at l) (head_at l) (link_at m) (head_at m) (slot_count l) u b k low lowb ix apart z (omega (arith, c.cut.most)) (λ n. g.0) y own
      (λ n. link k e ∙ val k z y)
      (λ n. absurd (omega (arith, c.cut.most)))
      (λ n. heads b (λ o r. omega arith))
      (λ j a d f. links j d (λ o r s. f (omega arith)))
      (λ o a d. heads o (λ r s. omega arith))

  mend-index : Indexed m u
  unfolding Indexed
  mend-index = rw len (at_place p refl)

-- ---- a slot goes into or out of use

pub record Marked (l m : List ℕ) (u i : ℕ) (t : Bool) : Type 0 where
  pub len : length m ≡ length l
  pub cells : (j a : ℕ) → a < use_word → cell m j a ≡ cell l j a
  pub raws : (r : ℕ) → raw_at m r ≡ raw_at l r
  pub here : used m i ≡ t
  pub others : (j : ℕ) → (j ≡ i → ⊥) → cell m j use_word ≡ cell l j use_word
  pub index : Indexed l u → i < u → used l i ≡ not t → Indexed m u

used-is : (l : List ℕ) (i w : ℕ) → cell l i use_word ≡ w → used l i ≡ eqb w 1
unfolding used
used-is l i w e = ap (λ (y : ℕ). eqb y 1) e

link-is : (l : List ℕ) (u i : ℕ) → Indexed l u → i < u → hash_at l i < slot_count l → bounded i (cell l i link_word) ≡ prev (hash_at l) i (hash_at l i)
unfolding Indexed link_at
link-is l u i x a b = x.links i a b

-- what follows at a place above i, where i is not in the bucket, is the last of the bucket before i
follows : (l : List ℕ) (g : ℕ → ℕ) (u b i v q : ℕ) → i < q → v ≤ suc i → v ≡ prev (hash_at l) q b → (hash_at l i ≡ b → ⊥) → ((j : ℕ) → (j ≡ i → ⊥) → g j ≡ hash_at l j) → bounded i v ≡ prev g i b
follows l g u b i v q a s e d f =
    let z : v ≡ prev (hash_at l) i b = e ∙ prev-gone (hash_at l) (hash_at l) i (λ j n. refl) q b a (omega (arith, e)) d in
    bounded-small i v (omega (arith, z, prev-le (hash_at l) i b)) ∙ z ∙ prev-ext (hash_at l) g i b (λ j y. sym (f j (λ n. omega arith)))

-- out of use: the chain is mended with what slot i linked to
module _ (l : List ℕ) (u b i p v x : ℕ) (room : u ≤ slot_count l) (lowi : i < slot_count l) (eb : b ≡ home_of l (cell l i last_word)) (c : Cutting l u b i p v) (ex : x ≡ bounded i (link_at l i)) where
  abbrev half : List ℕ
  half = mended l b p x

  abbrev out : List ℕ
  out = put_cell half i use_word 0

  lowb : b < slot_count l
  lowb = rw eb (home-low l (cell l i last_word) (omega arith))

  lowp : p ≤ slot_count l
  lowp = omega (arith, c.cut.most)

  half-low : i < slot_count half
  half-low = rw (mend-length l b p x) lowi

  out-length : length out ≡ length l
  out-length = put-length half i use_word 0 ∙ mend-length l b p x

  -- a word that is neither the use of slot i nor mended
  out-else : (j a : ℕ) → a < slot_words → (j ≡ i → a ≡ use_word → ⊥) → (p ≡ 0 → j ≡ b → a ≡ head_word → ⊥) → ((k : ℕ) → p ≡ suc k → j ≡ k → a ≡ link_word → ⊥) → cell out j a ≡ cell l j a
  out-else j a q d f g = put-else half i use_word 0 half-low (omega arith) j a q d ∙ mend-else l b x lowb p lowp j a q f g

  out-raws : (r : ℕ) → raw_at out r ≡ raw_at l r
  out-raws r = put-raw half i use_word 0 half-low (omega arith) r ∙ mend-raw l b x lowb p lowp r

  out-key : bucket_key out ≡ bucket_key l
  out-key = key-same l out out-length (out-raws (slot_count l + 1))

  out-here : used out i ≡ false
  out-here = used-is out i 0 (put-here half i use_word 0 half-low (omega arith))

  out-same : (j : ℕ) → (j ≡ i → ⊥) → hash_at out j ≡ hash_at l j
  out-same j d =
      hash-same l out j out-length out-key (out-else j last_word (omega arith) (λ y z. d y) (λ y z r. omega arith) (λ k y z r. omega arith)) (out-else j use_word (omega arith) (λ y z. d y) (λ y z r. omega arith) (λ k y z r. omega arith))

  out-hash : hash_at out i ≡ slot_count l
  out-hash = sym (hash-free out i out-here) ∙ rw out-length

  out-index : Indexed l u → i < u → used l i ≡ true → Indexed out u
  unfolding link_at head_at
  out-index ix low t =
      mend-index l out u b i p v x out-length low lowb c ix out-same
      (λ o q d. (λ e. d (sym (sym in_b ∙ e)), λ e. omega (arith, out-hash)))
      (λ q. absurd (omega (arith, out-hash)))
      (λ q a y. ex ∙ was ix ∙ sym (prev-gone (hash_at l) (hash_at out) i out-same q b a y (λ e. omega (arith, out-hash, lowb))))
      (λ j d f. out-else j link_word (omega arith) (λ y z. omega arith) (λ y z r. omega arith) (λ k y z r. f k y z))
      (λ k e. put-else half i use_word 0 half-low (omega arith) k link_word (omega arith) (λ y z. omega arith) ∙ mend-link l b x lowb p lowp k e)
      (λ o f. out-else o head_word (omega arith) (λ y z. omega arith) (λ y z r. f y z) (λ k y z r. omega arith))
      (λ e. put-else half i use_word 0 half-low (omega arith) b head_word (omega arith) (λ y z. omega arith) ∙ mend-head l b x lowb p e)
    where
      in_b : hash_at l i ≡ b
      in_b = sym (hash-used l i t) ∙ sym eb

      was : Indexed l u → bounded i (cell l i link_word) ≡ prev (hash_at l) i b
      was y = link-is l u i y low (rw in_b lowb) ∙ ap (prev (hash_at l) i) in_b

  pub marked-out : Marked l out u i false
  marked-out =
      record {
        len = out-length;
        cells = λ j a q. out-else j a (omega arith) (λ y z. omega arith) (λ y z r. omega arith) (λ k y z r. omega arith);
        raws = out-raws;
        here = out-here;
        others = λ j d. out-else j use_word (omega arith) (λ y z. d y) (λ y z r. omega arith) (λ k y z r. omega arith);
        index = out-index;
      }

-- into use: slot i links to what followed at the place, and the place to slot i
module _ (l : List ℕ) (u b i p v : ℕ) (room : u ≤ slot_count l) (lowi : i < slot_count l) (eb : b ≡ home_of l (cell l i last_word)) (c : Cutting l u b i p v) where
  abbrev one : List ℕ
  one = put_cell l i link_word v

  abbrev two : List ℕ
  two = mended one b p (suc i)

  abbrev new : List ℕ
  new = put_cell two i use_word 1

  inb : b < slot_count l
  inb = rw eb (home-low l (cell l i last_word) (omega arith))

  one_b : b < slot_count one
  one_b = rw (put-length l i link_word v) inb

  one-p : p ≤ slot_count one
  one-p = rw (put-length l i link_word v) (omega (arith, c.cut.most))

  two-length : length two ≡ length l
  two-length = mend-length one b p (suc i) ∙ put-length l i link_word v

  two-low : i < slot_count two
  two-low = rw two-length lowi

  new-length : length new ≡ length l
  new-length = put-length two i use_word 1 ∙ two-length

  new-else : (j a : ℕ) → a < slot_words → (j ≡ i → a ≡ use_word → ⊥) → (j ≡ i → a ≡ link_word → ⊥) → (p ≡ 0 → j ≡ b → a ≡ head_word → ⊥) → ((k : ℕ) → p ≡ suc k → j ≡ k → a ≡ link_word → ⊥) → cell new j a ≡ cell l j a
  new-else j a q d e f g =
      put-else two i use_word 1 two-low (omega arith) j a q d ∙ mend-else one b (suc i) one_b p one-p j a q f g ∙ put-else l i link_word v lowi (omega arith) j a q e

  new-raws : (r : ℕ) → raw_at new r ≡ raw_at l r
  new-raws r =
      put-raw two i use_word 1 two-low (omega arith) r ∙ mend-raw one b (suc i) one_b p one-p r ∙ put-raw l i link_word v lowi (omega arith) r

  new-key : bucket_key new ≡ bucket_key l
  new-key = key-same l new new-length (new-raws (slot_count l + 1))

  new-here : used new i ≡ true
  new-here = used-is new i 1 (put-here two i use_word 1 two-low (omega arith))

  new-last : (j : ℕ) → cell new j last_word ≡ cell l j last_word
  new-last j = new-else j last_word (omega arith) (λ y z. omega arith) (λ y z. omega arith) (λ y z r. omega arith) (λ k y z r. omega arith)

  new-same : (j : ℕ) → (j ≡ i → ⊥) → hash_at new j ≡ hash_at l j
  new-same j d = hash-same l new j new-length new-key (new-last j) (new-else j use_word (omega arith) (λ y z. d y) (λ y z. omega arith) (λ y z r. omega arith) (λ k y z r. omega arith))

  new-hash : hash_at new i ≡ b
  new-hash = sym (hash-used new i new-here) ∙ home_same l new (cell new i last_word) (cell l i last_word) new-length new-key (new-last i) ∙ sym eb

  new-link : cell new i link_word ≡ v
  new-link =
      put-else two i use_word 1 two-low (omega arith) i link_word (omega arith) (λ y z. omega arith)
      ∙ mend-else one b (suc i) one_b p one-p i link_word (omega arith) (λ y z r. omega arith) (λ k y z r. omega (arith, c.cut.far k y))
      ∙ put-here l i link_word v lowi (omega arith)

  new-index : Indexed l u → i < u → used l i ≡ false → Indexed new u
  unfolding link_at head_at
  new-index ix low t =
      mend-index l new u b i p v (suc i) new-length low inb c ix new-same
      (λ o q d. (λ e. omega (arith, hash-free l i t), λ e. d (sym (sym new-hash ∙ e))))
      (λ q. rw (new-link, new-hash) (own p refl))
      (λ q a y. sym (prev-new (hash_at l) (hash_at new) i new-same q b a y new-hash))
      (λ j d f. new-else j link_word (omega arith) (λ y z. omega arith) (λ y z. d y) (λ y z r. omega arith) (λ k y z r. f k y z))
      (λ k e. put-else two i use_word 1 two-low (omega arith) k link_word (omega arith) (λ y z. omega arith) ∙ mend-link one b (suc i) one_b p one-p k e)
      (λ o f. new-else o head_word (omega arith) (λ y z. omega arith) (λ y z. omega arith) (λ y z r. f y z) (λ k y z r. omega arith))
      (λ e. put-else two i use_word 1 two-low (omega arith) b head_word (omega arith) (λ y z. omega arith) ∙ mend-head one b (suc i) one_b p e)
    where
      -- what followed is the last of the bucket before i, since i itself was not in it
      own : (o : ℕ) → p ≡ o → bounded i v ≡ prev (hash_at new) i b
      own zero e = follows l (hash_at new) u b i v u low c.below (c.cut.top ix e) (λ f. omega (arith, hash-free l i t, inb)) new-same
      own (suc k) e = follows l (hash_at new) u b i v k (c.cut.far k e) c.below (c.cut.mid ix k e).1 (λ f. omega (arith, hash-free l i t, inb)) new-same

  pub marked-in : Marked l new u i true
  marked-in =
      record {
        len = new-length;
        cells = λ j a q. new-else j a (omega arith) (λ y z. omega arith) (λ y z. omega arith) (λ y z r. omega arith) (λ k y z r. omega arith);
        raws = new-raws;
        here = new-here;
        others = λ j d. new-else j use_word (omega arith) (λ y z. d y) (λ y z. omega arith) (λ y z r. omega arith) (λ k y z r. omega arith);
        index = new-index;
      }

-- what the code writes
pub linked-in : (l a o m : List ℕ) (u b i p v below this : ℕ) → u ≤ slot_count l → i < slot_count l → b ≡ home_of l (cell l i last_word) → Cutting l u b i p v → below ≡ v → this ≡ suc i
    → a ≡ put_cell l i link_word below → o ≡ mended a b p this → m ≡ put_cell o i use_word 1 → Marked l m u i true
linked-in l a o m u b i p v below this room low eb c x y e f g = rw (g, f, e, x, y) (marked-in l u b i p v room low eb c)

pub linked-out : (l a m : List ℕ) (u b i p v next : ℕ) → u ≤ slot_count l → i < slot_count l → b ≡ home_of l (cell l i last_word) → Cutting l u b i p v → next ≡ bounded i (link_at l i)
    → a ≡ mended l b p next → m ≡ put_cell a i use_word 0 → Marked l m u i false
linked-out l a m u b i p v next room low eb c x e f = rw (f, e) (marked-out l u b i p v next room low eb c x)
