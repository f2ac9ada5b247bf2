-- What a call's promise says of the lines one by one: the steps of the theorem.
use Rattle.std.specs.Prelude.{ℕ, ◌<◌, ◌≡◌, refl, Bool, true, false, List, [], ◌∷◌, ◌++◌, eqb, ltb, leb, length, get_or, drop, set, Option, Some, None, Ok, Err}
use Rattle.std.proofs.Common.{sym, ap, drop-cons, ◌∙◌, arith, get_or-set_same, get_or-set_other, ltb-false, leb-false}
use Rattle.std.proofs.lemmas.Bool.{eqb-false}
use Rattle.words.specs.Lists.{pick}
use Rattle.words.specs.Rows.{length-tab}
use Rattle.intake.specs.declared.calls.Refusal.TheVariants.{NoRoom}
use Rattle.intake.specs.declared.calls.Served.{Served}
use Rattle.intake.specs.Queue.{served, queue, circle, first_held, serve, AfterPut, AfterTurn, after_put, after_turn}
use Rattle.intake.specs.Words.{Room, line_of, lines_of, last_of, queue_of}
use Rattle.intake.specs.Laws.{lines_at}
use Rattle.intake.specs.Circle.{NextIs, next-is, none-held}
use Rattle.intake.specs.Promises.{PutPromise, TurnPromise}

-- a put that stored x in line k
pub record PutStep (m : List ℕ) (k x : ℕ) (n : List ℕ) : Type 0 where
  pub below : k < 256
  pub room : length (line_of m k) < 16
  pub own : line_of n k ≡ line_of m k ++ (x ∷ [])
  pub others : (i : ℕ) → i < 256 → eqb k i ≡ false → line_of n i ≡ line_of m i
  pub last : last_of n ≡ last_of m

-- a turn that handed out x of line k
pub record TurnStep (m n : List ℕ) (k x : ℕ) : Type 0 where
  pub next : NextIs (lines_of m) (last_of m) k
  pub own : line_of m k ≡ x ∷ line_of n k
  pub others : (i : ℕ) → i < 256 → eqb k i ≡ false → line_of n i ≡ line_of m i
  pub last : last_of n ≡ k

length-lines : (l : List ℕ) → length (lines_of l) ≡ 256
unfolding lines_of
length-lines l = length-tab (line_of l) 256

-- the lines after one of them was replaced
module _ (m n : List ℕ) (k : ℕ) (l : List ℕ) (b : k < 256) (e : lines_of n ≡ set (lines_of m) k l) where
  own_line : line_of n k ≡ l
  own_line = sym (lines_at n k b) ∙ ap (λ (z : List (List ℕ)). get_or z k []) e ∙ get_or-set_same (lines_of m) k l [] (omega (arith, length-lines m))

  other-line : (i : ℕ) → i < 256 → eqb k i ≡ false → line_of n i ≡ line_of m i
  other-line i c t =
      sym (lines_at n i c) ∙ ap (λ (z : List (List ℕ)). get_or z i []) e
      ∙ get_or-set_other (lines_of m) k i l [] (λ q. eqb-false k i t (sym q)) ∙ lines_at m i c

module _ (m n : List ℕ) (room : Room m) where
  pub put_step : (k x : ℕ) → PutPromise m k x n (Ok tt) → PutStep m k x n
  put_step k x p = go (ltb 255 k) refl (leb 16 (length (get_or (lines_of m) k []))) refl (p.puts room)
    where
      go : (s : Bool) → ltb 255 k ≡ s → (t : Bool) → leb 16 (length (get_or (lines_of m) k [])) ≡ t
          → after_put (queue_of n) (Ok tt) ≡ pick (pick s true t) (after_put (queue_of m) (Err NoRoom)) (after_put (queue (set (lines_of m) k (get_or (lines_of m) k [] ++ (x ∷ []))) (last_of m)) (Ok tt))
          → PutStep m k x n
      go true s t f e = let z : ◌≡◌ {A = ℕ} 0 1 = cc (ap (λ (a : AfterPut). a.outcome) e) in absurd (omega arith)
      go false s true t e = let z : ◌≡◌ {A = ℕ} 0 1 = cc (ap (λ (a : AfterPut). a.outcome) e) in absurd (omega arith)
      go false s false t e =
          let b : k < 256 = omega (arith, ltb-false 255 k s) in
          let lines = ap (λ (a : AfterPut). a.queue.lines) e in
          let at : get_or (lines_of m) k [] ≡ line_of m k = lines_at m k b in
          record {
            below = b;
            room = rw at at (leb-false 16 (length (get_or (lines_of m) k [])) t);
            own = own_line m n k (get_or (lines_of m) k [] ++ (x ∷ [])) b lines ∙ ap (λ (z : List ℕ). z ++ (x ∷ [])) at;
            others = other-line m n k (get_or (lines_of m) k [] ++ (x ∷ [])) b lines;
            last = ap (λ (a : AfterPut). a.queue.last) e;
          }

  -- what a turn answered, field by field
  abbrev line_in : Option Served → ℕ
  line_in None = 0
  line_in (Some s) = s.line

  abbrev handle_in : Option Served → ℕ
  handle_in None = 0
  handle_in (Some s) = s.handle

  pub turn_step : (k x : ℕ) → TurnPromise m n (served k x) → TurnStep m n k x
  turn_step k x p = go (first_held (lines_of m) (circle (last_of m))) refl (p.turns room)
    where
      go : (f : Option ℕ) → first_held (lines_of m) (circle (last_of m)) ≡ f → after_turn (queue_of n) (served k x) ≡ serve (queue_of m) f → TurnStep m n k x
      go None f e = let z : ◌≡◌ {A = ℕ} 0 1 = cc (ap (λ (a : AfterTurn). a.outcome) e) in absurd (omega arith)
      go (Some j) f e =
          let o = ap (λ (a : AfterTurn). a.outcome) e in
          let is : k ≡ j = ap line_in o in
          let y = next-is (lines_of m) (last_of m) (omega arith) k (f ∙ ap Some (sym is)) in
          let b : k < 256 = y.below in
          let at : get_or (lines_of m) k [] ≡ line_of m k = lines_at m k b in
          let got : x ≡ get_or (get_or (lines_of m) j []) 0 0 = ap handle_in o in
          let lines : lines_of n ≡ set (lines_of m) k (drop 1 (get_or (lines_of m) k [])) = rw is (ap (λ (a : AfterTurn). a.queue.lines) e) in
          let handed : x ≡ get_or (line_of m k) 0 0 = got ∙ rw (← is) (ap (λ (z : List ℕ). get_or z 0 0) at) in
          let left : line_of n k ≡ drop 1 (line_of m k) = own_line m n k (drop 1 (get_or (lines_of m) k [])) b lines ∙ ap (drop 1) at in
          record {
            next = y;
            own = drop-cons (line_of m k) 0 0 (rw at at y.some) ∙ (λ z. sym handed z ∷ sym left z);
            others = other-line m n k (drop 1 (get_or (lines_of m) k [])) b lines;
            last = ap (λ (a : AfterTurn). a.queue.last) e ∙ sym is;
          }

  pub none-step : TurnPromise m n None → (i : ℕ) → i < 256 → length (line_of m i) ≡ 0
  none-step p i b = go (first_held (lines_of m) (circle (last_of m))) refl (p.turns room)
    where
      go : (f : Option ℕ) → first_held (lines_of m) (circle (last_of m)) ≡ f → after_turn (queue_of n) None ≡ serve (queue_of m) f → length (line_of m i) ≡ 0
      go None f e = rw (lines_at m i b) at (none-held (lines_of m) (last_of m) (omega arith) f i b)
      go (Some j) f e = let z : ◌≡◌ {A = ℕ} 0 1 = cc (ap (λ (a : AfterTurn). a.outcome) e) in absurd (omega arith)
