-- The theorem: after every list of puts and turns from an empty queue, refused ones included, `Fair` holds.
use Rattle.std.specs.Prelude.{ℕ, suc, ◌+◌, ◌-◌, ◌*◌, ◌≤◌, ◌<◌, ◌≡◌, refl, Bool, true, false, List, [], ◌∷◌, ◌++◌, eqb, ltb, length, get_or, Some, None, Ok, Err}
use Rattle.std.proofs.Common.{sym, ap, ◌∙◌, append_assoc, append-nil, arith, length-append, ltb-true, ltb-false, eqb-true, eq-eqb}
use Rattle.std.proofs.Math.ListN.{get_or-append}
use Rattle.std.proofs.Math.Seq.{get_or-append_seam}
use Rattle.std.proofs.lemmas.Bool.{eqb-false}
use Rattle.words.specs.Lists.{pick}
use Rattle.words.specs.Rows.{get_or-tab}
use Rattle.intake.specs.Queue.{Said, Queue, empty}
use Rattle.intake.specs.Words.{Room, line_of, last_of}
use Rattle.intake.specs.Laws.{lines_at}
use Rattle.intake.specs.Circle.{between}
use Rattle.intake.specs.Promises.{StartPromise, PutPromise}
use Rattle.intake.specs.Steps.{PutStep, TurnStep, put_step, turn_step, none-step}
use Rattle.intake.specs.Run.{Event, Puts, Turns, Empty, Run, begin, puts, turns, stored_in, handed_out, turns_in, Fair}

-- ---- in the order stored, once each

pub run_room : {h : List Event} {m : List ℕ} → Run h m → Room m
run_room (begin e) = e.room
run_room (puts r i x o p) = omega (arith, run_room r, p.outside.size)
run_room (turns r o p) = omega (arith, run_room r, p.outside.size)

-- one more stored in line k, or handed out of it: a was handed out of line i before, and s stored
module _ (m n : List ℕ) (k x i : ℕ) (b : i < 256) (a s : List ℕ) (e : a ++ line_of m i ≡ s) where
  order-put : PutStep m k x n → (t : Bool) → eqb k i ≡ t → a ++ line_of n i ≡ s ++ pick t (x ∷ []) []
  order-put p true t =
      let is : k ≡ i = eqb-true k i t in
      ap (λ (z : List ℕ). a ++ z) (rw is at p.own) ∙ sym (append_assoc a (line_of m i) (x ∷ [])) ∙ ap (λ (z : List ℕ). z ++ (x ∷ [])) e
  order-put p false t = ap (λ (z : List ℕ). a ++ z) (p.others i b t) ∙ e ∙ sym (append-nil s)

  order-turn : TurnStep m n k x → (t : Bool) → eqb k i ≡ t → (a ++ pick t (x ∷ []) []) ++ line_of n i ≡ s
  order-turn p true t =
      let is : k ≡ i = eqb-true k i t in
      append_assoc a (x ∷ []) (line_of n i) ∙ ap (λ (z : List ℕ). a ++ z) (sym (rw is at p.own)) ∙ e
  order-turn p false t = ap (λ (z : List ℕ). z ++ line_of n i) (append-nil a) ∙ ap (λ (z : List ℕ). a ++ z) (p.others i b t) ∙ e

order : {h : List Event} {m : List ℕ} → Run h m → (i : ℕ) → i < 256 → handed_out i h ++ line_of m i ≡ stored_in i h
order (begin e) i b = e.none i b
order (puts {h = h} r k x (Err c) p) i b = ap (λ (w : List ℕ). handed_out i h ++ line_of w i) (p.refused c refl) ∙ order r i b
order (puts {h = h} {m = m} r k x (Ok done) {n = n} p) i b =
    order-put m n k x i b (handed_out i h) (stored_in i h) (order r i b) (put_step m n (run_room r) k x p) (eqb k i) refl
order (turns {h = h} r None p) i b = ap (λ (w : List ℕ). handed_out i h ++ line_of w i) (p.nothing refl) ∙ order r i b
order (turns {h = h} {m = m} r (Some s) {n = n} p) i b =
    order-turn m n s.line s.handle i b (handed_out i h) (stored_in i h) (order r i b) (turn_step m n (run_room r) s.line s.handle p) (eqb s.line i) refl

-- ---- never more than 16

module _ (m n : List ℕ) (k x i : ℕ) (b : i < 256) (e : length (line_of m i) ≤ 16) where
  few-put : PutStep m k x n → (t : Bool) → eqb k i ≡ t → length (line_of n i) ≤ 16
  few-put p true t =
      let is : k ≡ i = eqb-true k i t in
      omega (arith, ap length (rw is at p.own), length-append (line_of m i) (x ∷ []), rw is at p.room)
  few-put p false t = omega (arith, ap length (p.others i b t))

  few-turn : TurnStep m n k x → (t : Bool) → eqb k i ≡ t → length (line_of n i) ≤ 16
  few-turn p true t = let is : k ≡ i = eqb-true k i t in omega (arith, ap length (rw is at p.own))
  few-turn p false t = omega (arith, ap length (p.others i b t))

few : {h : List Event} {m : List ℕ} → Run h m → (i : ℕ) → i < 256 → length (line_of m i) ≤ 16
few (begin e) i b = omega (arith, ap length (e.none i b))
few (puts {m = m} r k x (Err c) p) i b = rw (p.refused c refl) (few r i b)
few (puts {m = m} r k x (Ok done) {n = n} p) i b = few-put m n k x i b (few r i b) (put_step m n (run_room r) k x p) (eqb k i) refl
few (turns {m = m} r None p) i b = rw (p.nothing refl) (few r i b)
few (turns {m = m} r (Some s) {n = n} p) i b = few-turn m n s.line s.handle i b (few r i b) (turn_step m n (run_room r) s.line s.handle p) (eqb s.line i) refl

-- ---- within 256 × (k + 1) turns

-- of the handle of number `number` in line i, stored with k before it: as long as b stand before it yet, so many turns are left to it. The line at
-- the front is reached after those between, and every handle before it costs a whole round
pub record Due (m : List ℕ) (i number out k turned : ℕ) : Type 0 where
  pub left : (b : ℕ) → number ≡ out + b → b * 256 + between (last_of m) i + 1 + turned ≤ 256 * (k + 1)

nearer : (s j i : ℕ) → s < 256 → j < 256 → i < 256 → (j ≡ i → ⊥) → between s j ≤ between s i → between j i + 1 ≤ between s i
nearer s j i sb jb ib n h = omega arith

module _ (m n : List ℕ) (i number k t : ℕ) (b : i < 256) where
  due-stays : (out : ℕ) → last_of n ≡ last_of m → Due m i number out k t → Due n i number out k t
  due-stays out e d = record { left = λ c is. rw e (d.left c is) }

  -- a turn that serves another line comes nearer
  due-other : (out j x : ℕ) → TurnStep m n j x → eqb j i ≡ false → number < out + length (line_of m i) → Due m i number out k t → Due n i number out k (suc t)
  due-other out j x p f some d =
      record { left = λ c is. rw p.last (sum (c * 256) (between j i) (between (last_of m) i) (256 * (k + 1)) (closer c is) (d.left c is)) }
    where
      ne : j ≡ i → ⊥
      ne = eqb-false j i f

      sum : (c y z w : ℕ) → y + 1 ≤ z → c + z + 1 + t ≤ w → c + y + 1 + suc t ≤ w
      sum c y z w h g = omega arith

      near : (c : ℕ) → number ≡ out + c → between (last_of m) j ≤ between (last_of m) i
      near c is = p.next.nearest i b (rw (lines_at m i b) (omega (arith, is)))

      closer : (c : ℕ) → number ≡ out + c → between j i + 1 ≤ between (last_of m) i
      closer c is = nearer (last_of m) j i (omega arith) p.next.below b ne (near c is)

  -- one that serves its own line hands out one before it, or itself
  due-own : (out j x : ℕ) → TurnStep m n j x → eqb j i ≡ true → Due m i number out k t → Due n i number (out + 1) k (suc t)
  due-own out j x p f d =
      record { left = λ c is. omega (arith, d.left (c + 1) (omega (arith, is)), p.last, eqb-true j i f) }

-- what a line stored begins with what it stored earlier, then x
record Begins (i x : ℕ) (s : List ℕ) (h : List Event) : Type 0 where
  more : List ℕ
  is : stored_in i h ≡ (s ++ (x ∷ [])) ++ more

begins : (later earlier : List Event) (i x : ℕ) → Begins i x (stored_in i earlier) (later ++ (Puts i x (Ok tt) ∷ earlier))
begins [] earlier i x =
    record { more = []; is = ap (λ (t : Bool). stored_in i earlier ++ pick t (x ∷ []) []) (eq-eqb i i refl) ∙ sym (append-nil (stored_in i earlier ++ (x ∷ []))) }
begins (Puts j y (Ok done) ∷ later) earlier i x =
    let g = begins later earlier i x in
    record {
      more = g.more ++ pick (eqb j i) (y ∷ []) [];
      is = ap (λ (z : List ℕ). z ++ pick (eqb j i) (y ∷ []) []) g.is ∙ append_assoc (stored_in i earlier ++ (x ∷ [])) g.more (pick (eqb j i) (y ∷ []) []);
    }
begins (Puts j y (Err c) ∷ later) earlier i x = let g = begins later earlier i x in record { more = g.more; is = g.is }
begins (Turns o ∷ later) earlier i x = let g = begins later earlier i x in record { more = g.more; is = g.is }

module _ (i x : ℕ) (s : List ℕ) (h : List Event) (g : Begins i x s h) where
  numbered : length s < length (stored_in i h)
  numbered = omega (arith, ap length g.is, length-append (s ++ (x ∷ [])) g.more, length-append s (x ∷ []))

  at-number : get_or (stored_in i h) (length s) 0 ≡ x
  at-number =
      ap (λ (z : List ℕ). get_or z (length s) 0) g.is
      ∙ get_or-append (s ++ (x ∷ [])) g.more 0 (length s) (omega (arith, length-append s (x ∷ [])))
      ∙ get_or-append_seam s x [] 0

in-range : (later earlier : List Event) (i x : ℕ) {m : List ℕ} → Run (later ++ (Puts i x (Ok tt) ∷ earlier)) m → i < 256
in-range [] earlier i x (puts {m = m} r k y o {n = n} p) = (put_step m n (run_room r) i x p).below
in-range (e ∷ later) earlier i x (puts r k y o p) = in-range later earlier i x r
in-range (e ∷ later) earlier i x (turns r o p) = in-range later earlier i x r

-- what is held of a line is what was stored and not handed out
held-yet : (later earlier : List Event) (i x : ℕ) {m : List ℕ} → Run (later ++ (Puts i x (Ok tt) ∷ earlier)) m
    → length (stored_in i earlier) < length (handed_out i (later ++ (Puts i x (Ok tt) ∷ earlier))) + length (line_of m i)
held-yet later earlier i x {m} r =
    let h = later ++ (Puts i x (Ok tt) ∷ earlier) in
    omega (arith, numbered i x (stored_in i earlier) h (begins later earlier i x), ap length (order r i (in-range later earlier i x r)), length-append (handed_out i h) (line_of m i))

same-last : (m n : List ℕ) (j y : ℕ) (o : Said) → Room m → PutPromise m j y n o → last_of n ≡ last_of m
same-last m n j y (Ok done) room p = (put_step m n room j y p).last
same-last m n j y (Err c) room p = ap last_of (p.refused c refl)

module _ (earlier : List Event) (i x k : ℕ) (e : length (stored_in i earlier) ≡ length (handed_out i earlier) + k) where
  due : (later : List Event) {m : List ℕ} → Run (later ++ (Puts i x (Ok tt) ∷ earlier)) m
      → Due m i (length (stored_in i earlier)) (length (handed_out i (later ++ (Puts i x (Ok tt) ∷ earlier)))) k (turns_in later)
  due [] {m} (puts r j y o p) = record { left = λ c is. omega (arith, e, is) }
  due (Puts j y o ∷ later) (puts {m = m} r j' y' o' {n = n} p) =
      due-stays m n i (length (stored_in i earlier)) k (turns_in later) (in-range later earlier i x r) (length (handed_out i (later ++ (Puts i x (Ok tt) ∷ earlier)))) (same-last m n j y o (run_room r) p) (due later r)
  due (Turns None ∷ later) (turns {m = m} r o {n = n} p) =
      record { left = λ c is. absurd (omega (arith, is, held-yet later earlier i x r, none-step m n (run_room r) p i (in-range later earlier i x r))) }
  due (Turns (Some v) ∷ later) (turns {m = m} r o {n = n} p) =
      go (turn_step m n (run_room r) v.line v.handle p) (due later r) (in-range later earlier i x r) (held-yet later earlier i x r) (eqb v.line i) refl
    where
      h : List Event
      h = later ++ (Puts i x (Ok tt) ∷ earlier)

      go : TurnStep m n v.line v.handle → Due m i (length (stored_in i earlier)) (length (handed_out i (later ++ (Puts i x (Ok tt) ∷ earlier)))) k (turns_in later) → i < 256
          → length (stored_in i earlier) < length (handed_out i (later ++ (Puts i x (Ok tt) ∷ earlier))) + length (line_of m i)
          → (t : Bool) → eqb v.line i ≡ t → Due n i (length (stored_in i earlier)) (length (handed_out i (later ++ (Puts i x (Ok tt) ∷ earlier)) ++ pick t (v.handle ∷ []) [])) k (suc (turns_in later))
      go s d b held true t = rw length-append (due-own m n i (length (stored_in i earlier)) k (turns_in later) b (length (handed_out i h)) v.line v.handle s t d)
      go s d b held false t = rw append-nil (due-other m n i (length (stored_in i earlier)) k (turns_in later) b (length (handed_out i h)) v.line v.handle s t held d)

  out-soon : (later : List Event) {m : List ℕ} → Run (later ++ (Puts i x (Ok tt) ∷ earlier)) m → 256 * (k + 1) ≤ turns_in later
      → length (stored_in i earlier) < length (handed_out i (later ++ (Puts i x (Ok tt) ∷ earlier)))
  out-soon later {m} r enough = go (ltb (length (stored_in i earlier)) (length (handed_out i (later ++ (Puts i x (Ok tt) ∷ earlier))))) refl
    where
      out : ℕ
      out = length (handed_out i (later ++ (Puts i x (Ok tt) ∷ earlier)))

      number : ℕ
      number = length (stored_in i earlier)

      go : (t : Bool) → ltb number out ≡ t → number < out
      go true t = ltb-true number out t
      go false t = absurd (omega (arith, (due later r).left (number - out) (omega (arith, ltb-false number out t)), enough))

-- ---- the theorem

pub fair : {h : List Event} {m : List ℕ} → Run h m → Fair h m
fair {h} {m} r = record { order = order r; few = few r; soon = λ later earlier i x k is e enough. soon later earlier i x k e enough (rw is at r) is }
  where
    soon : (later earlier : List Event) (i x k : ℕ) → length (stored_in i earlier) ≡ length (handed_out i earlier) + k → 256 * (k + 1) ≤ turns_in later
        → Run (later ++ (Puts i x (Ok tt) ∷ earlier)) m → h ≡ later ++ (Puts i x (Ok tt) ∷ earlier)
        → (length (stored_in i earlier) < length (handed_out i h)) × (get_or (handed_out i h) (length (stored_in i earlier)) 0 ≡ x)
    soon later earlier i x k e enough r is =
        let g = later ++ (Puts i x (Ok tt) ∷ earlier) in
        let out : length (stored_in i earlier) < length (handed_out i g) = out-soon earlier i x k e later r enough in
        rw is (
          out,
          sym (get_or-append (handed_out i g) (line_of m i) 0 (length (stored_in i earlier)) out)
              ∙ ap (λ (z : List ℕ). get_or z (length (stored_in i earlier)) 0) (order r i (in-range later earlier i x r))
              ∙ at-number i x (stored_in i earlier) g (begins later earlier i x),
        )

-- a start leaves an empty queue
pub started-empty : {was is : List ℕ} → Room was → StartPromise was is (Ok tt) → Empty is
unfolding empty
started-empty {was} {is} room p =
    record { room = omega (arith, p.outside.size); none = λ i b. sym (lines_at is i b) ∙ ap (λ (q : Queue). get_or q.lines i []) (p.ready refl) ∙ get_or-tab (λ k. []) 256 i [] b }
