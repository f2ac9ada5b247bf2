-- The words of the order from `at` to `last` turn by one place, by functions alone: `inward` says where the word of a rank comes from when the last comes to
-- `at`, and `outward` when that at `at` becomes the last. The slots that the first u ranks name stay those, each once (`Perm`).
use Rattle.std.specs.Prelude.{ℕ, zero, suc, ◌-◌, ◌≤◌, ◌<◌, ◌≡◌, refl, eqb, ltb}
use Rattle.std.proofs.Common.{sym, ap, ◌∙◌, arith}
use Rattle.std.proofs.Math.Decide.{ℕ_discrete, dec_lt}
use borrow.Author.Tests.{eq-eqb, ne_eqb, lt-ltb, le-ltb}
use Rattle.words.specs.Lists.{pick}

unfoldable pub inward : ℕ → ℕ → ℕ → ℕ
inward at last r = pick (eqb r at) last (pick (ltb r at) r (pick (ltb last r) r (r - 1)))

unfoldable pub outward : ℕ → ℕ → ℕ → ℕ
outward at last r = pick (eqb r last) at (pick (ltb r at) r (pick (ltb last r) r (suc r)))

module _ (at last : ℕ) (h : at ≤ last) where
  pub in-low : (r : ℕ) → r < at → inward at last r ≡ r
  unfolding inward
  in-low r a = rw (ne_eqb r at (λ e. omega arith), lt-ltb r at a)

  pub in-at : inward at last at ≡ last
  unfolding inward
  in-at = rw (eq-eqb at at refl)

  pub in-mid : (r : ℕ) → at ≤ r → r < last → inward at last (suc r) ≡ r
  unfolding inward
  in-mid r a b = rw (ne_eqb (suc r) at (λ e. omega arith), le-ltb (suc r) at (omega arith), le-ltb last (suc r) b) (omega arith)

  pub in-high : (r : ℕ) → last < r → inward at last r ≡ r
  unfolding inward
  in-high r a = rw (ne_eqb r at (λ e. omega arith), le-ltb r at (omega arith), lt-ltb last r a)

  pub out-low : (r : ℕ) → r < at → outward at last r ≡ r
  unfolding outward
  out-low r a = rw (ne_eqb r last (λ e. omega arith), lt-ltb r at a)

  pub out-last : outward at last last ≡ at
  unfolding outward
  out-last = rw (eq-eqb last last refl)

  pub out-mid : (r : ℕ) → at ≤ r → r < last → outward at last r ≡ suc r
  unfolding outward
  out-mid r a b = rw (ne_eqb r last (λ e. omega arith), le-ltb r at a, le-ltb last r (omega arith))

  pub out-high : (r : ℕ) → last < r → outward at last r ≡ r
  unfolding outward
  out-high r a = rw (ne_eqb r last (λ e. omega arith), le-ltb r at (omega arith), lt-ltb last r a)

  -- where a rank is, seen from each side
  pub data In : ℕ → Type 0 where
    low : (r : ℕ) → r < at → In r
    here : In at
    mid : (r : ℕ) → at ≤ r → r < last → In (suc r)
    high : (r : ℕ) → last < r → In r

  pub in_view : (r : ℕ) → In r
  in_view r = go r (dec_lt r at) (ℕ_discrete r at) (dec_lt last r)
    where
      go : (r : ℕ) → Dec (r < at) → Dec (r ≡ at) → Dec (last < r) → In r
      go r (yes a) b c = low r a
      go r (no a) (yes b) c = rw b here
      go r (no a) (no b) (yes c) = high r c
      go zero (no a) (no b) (no c) = absurd (omega (arith, a, b))
      go (suc r) (no a) (no b) (no c) = mid r (omega (arith, a, b)) (omega (arith, c))

  pub data Out : ℕ → Type 0 where
    low : (r : ℕ) → r < at → Out r
    mid : (r : ℕ) → at ≤ r → r < last → Out r
    here : Out last
    high : (r : ℕ) → last < r → Out r

  pub out_view : (r : ℕ) → Out r
  out_view r = go (dec_lt r at) (dec_lt r last) (ℕ_discrete r last)
    where
      go : Dec (r < at) → Dec (r < last) → Dec (r ≡ last) → Out r
      go (yes a) b c = low r a
      go (no a) (yes b) c = mid r (omega (arith, a)) b
      go (no a) (no b) (yes c) = rw c here
      go (no a) (no b) (no c) = high r (omega (arith, b, c))

-- ---- a turn of the first k ranks

pub record Turn (σ τ : ℕ → ℕ) (k : ℕ) : Type 0 where
  pub back : (r : ℕ) → σ (τ r) ≡ r
  pub forth : (r : ℕ) → τ (σ r) ≡ r
  pub keeps : (r : ℕ) → r < k → σ r < k
  pub keeps' : (r : ℕ) → r < k → τ r < k
  pub stays : (r : ℕ) → k ≤ r → σ r ≡ r
  pub stays' : (r : ℕ) → k ≤ r → τ r ≡ r

module _ (at last : ℕ) (h : at ≤ last) where
  io : {r : ℕ} → Out at last h r → inward at last (outward at last r) ≡ r
  io (low r a) = rw (out-low at last h r a) (in-low at last h r a)
  io (mid r a b) = rw (out-mid at last h r a b) (in-mid at last h r a b)
  io here = rw (out-last at last h) (in-at at last h)
  io (high r a) = rw (out-high at last h r a) (in-high at last h r a)

  oi : {r : ℕ} → In at last h r → outward at last (inward at last r) ≡ r
  oi (low r a) = rw (in-low at last h r a) (out-low at last h r a)
  oi here = rw (in-at at last h) (out-last at last h)
  oi (mid r a b) = rw (in-mid at last h r a b) (out-mid at last h r a b)
  oi (high r a) = rw (in-high at last h r a) (out-high at last h r a)

  ik : {r : ℕ} → In at last h r → r < suc last → inward at last r < suc last
  ik (low r a) g = rw (in-low at last h r a) g
  ik here g = rw (in-at at last h) (omega arith)
  ik (mid r a b) g = rw (in-mid at last h r a b) (omega arith)
  ik (high r a) g = rw (in-high at last h r a) g

  ok : {r : ℕ} → Out at last h r → r < suc last → outward at last r < suc last
  ok (low r a) g = rw (out-low at last h r a) g
  ok (mid r a b) g = rw (out-mid at last h r a b) (omega arith)
  ok here g = rw (out-last at last h) (omega arith)
  ok (high r a) g = rw (out-high at last h r a) g

  pub turn_in : Turn (inward at last) (outward at last) (suc last)
  turn_in =
      record {
        back = λ r. io (out_view at last h r);
        forth = λ r. oi (in_view at last h r);
        keeps = λ r. ik (in_view at last h r);
        keeps' = λ r. ok (out_view at last h r);
        stays = λ r a. in-high at last h r a;
        stays' = λ r a. out-high at last h r a;
      }

  pub turn-out : Turn (outward at last) (inward at last) (suc last)
  turn-out =
      record {
        back = turn_in.forth;
        forth = turn_in.back;
        keeps = turn_in.keeps';
        keeps' = turn_in.keeps;
        stays = turn_in.stays';
        stays' = turn_in.stays;
      }

-- a turn of some ranks is a turn of more
wider : (σ : ℕ → ℕ) (k n : ℕ) → k ≤ n → ((r : ℕ) → r < k → σ r < k) → ((r : ℕ) → k ≤ r → σ r ≡ r) → (r : ℕ) → r < n → σ r < n
wider σ k n h f g r a = go (dec_lt r k)
  where
    go : Dec (r < k) → σ r < n
    go (yes b) = omega (arith, f r b)
    go (no b) = rw (g r (omega (arith, b))) a

pub turn_more : (σ τ : ℕ → ℕ) (k n : ℕ) → k ≤ n → Turn σ τ k → Turn σ τ n
turn_more σ τ k n h t =
    record {
      back = t.back;
      forth = t.forth;
      keeps = wider σ k n h t.keeps t.stays;
      keeps' = wider τ k n h t.keeps' t.stays';
      stays = λ r a. t.stays r (omega arith);
      stays' = λ r a. t.stays' r (omega arith);
    }

-- ---- the first u ranks name the first u slots, each once

-- slot i has a rank
pub record Named (n : ℕ) (ord : ℕ → ℕ) (i : ℕ) : Type 0 where
  pub at : ℕ
  pub low : at < n
  pub is : ord at ≡ i

pub record Perm (u : ℕ) (ord : ℕ → ℕ) : Type 0 where
  pub low : (r : ℕ) → r < u → ord r < u
  pub named : (i : ℕ) → i < u → Named u ord i
  pub once : (r q : ℕ) → r < u → q < u → ord r ≡ ord q → r ≡ q

pub perm-none : (ord : ℕ → ℕ) → Perm 0 ord
perm-none ord = record { low = λ r h. absurd (omega arith); named = λ i h. absurd (omega arith); once = λ r q h g e. absurd (omega arith) }

module _ (σ τ ord ord' : ℕ → ℕ) (k u : ℕ) (t : Turn σ τ k) (h : k ≤ u) (is : (r : ℕ) → r < u → ord' r ≡ ord (σ r)) where
  pub turn_low : (r : ℕ) → r < u → σ r < u
  turn_low = wider σ k u h t.keeps t.stays

  back_low : (r : ℕ) → r < u → τ r < u
  back_low = wider τ k u h t.keeps' t.stays'

  pub perm-turn : Perm u ord → Perm u ord'
  perm-turn p =
      record {
        low = λ r a. rw (is r a) (p.low (σ r) (turn_low r a));
        named = λ i a. go i (p.named i a);
        once = λ r q a b e. sym (t.forth r) ∙ ap τ (p.once (σ r) (σ q) (turn_low r a) (turn_low q b) (sym (is r a) ∙ e ∙ is q b)) ∙ t.forth q;
      }
    where
      go : (i : ℕ) → Named u ord i → Named u ord' i
      go i n = record { at = τ n.at; low = back_low n.at n.low; is = is (τ n.at) (back_low n.at n.low) ∙ ap ord (t.back n.at) ∙ n.is }

  -- a test of the first k ranks is kept
  pub turn-test : (r : ℕ) → ltb (σ r) k ≡ ltb r k
  turn-test r = go (dec_lt r k)
    where
      go : Dec (r < k) → ltb (σ r) k ≡ ltb r k
      go (yes b) = rw (lt-ltb (σ r) k (t.keeps r b), lt-ltb r k b)
      go (no b) = let c : k ≤ r = omega (arith, b) in rw (t.stays r c)

-- one rank more names one slot more
pub perm-more : (u : ℕ) (ord ord' : ℕ → ℕ) → ((r : ℕ) → r < u → ord' r ≡ ord r) → ord' u ≡ u → Perm u ord → Perm (suc u) ord'
perm-more u ord ord' is new p =
    record {
      low = λ r a. low' r a (ℕ_discrete r u);
      named = λ i a. named' i a (ℕ_discrete i u);
      once = λ r q a b e. once' r q a b e (ℕ_discrete r u) (ℕ_discrete q u);
    }
  where
    low' : (r : ℕ) → r < suc u → Dec (r ≡ u) → ord' r < suc u
    low' r a (yes e) = rw (e, new) (omega arith)
    low' r a (no e) = rw (is r (omega (arith, e))) (omega (arith, p.low r (omega (arith, e))))

    named' : (i : ℕ) → i < suc u → Dec (i ≡ u) → Named (suc u) ord' i
    named' i a (yes e) = record { at = u; low = omega arith; is = new ∙ sym e }
    named' i a (no e) = let m = p.named i (omega (arith, e)) in record { at = m.at; low = omega (arith, m.low); is = is m.at m.low ∙ m.is }

    once' : (r q : ℕ) → r < suc u → q < suc u → ord' r ≡ ord' q → Dec (r ≡ u) → Dec (q ≡ u) → r ≡ q
    once' r q a b e (yes x) (yes y) = x ∙ sym y
    once' r q a b e (yes x) (no y) =
        let z : q < u = omega (arith, y) in absurd (omega (arith, p.low q z, sym (ap ord' x ∙ new) ∙ e ∙ is q z))
    once' r q a b e (no x) (yes y) =
        let z : r < u = omega (arith, x) in absurd (omega (arith, p.low r z, sym (is r z) ∙ e ∙ ap ord' y ∙ new))
    once' r q a b e (no x) (no y) =
        let z : r < u = omega (arith, x) in
        let o : q < u = omega (arith, y) in
        p.once r q z o (sym (is r z) ∙ e ∙ is q o)
