-- That the steps of a call keep its promise, case by case. The calls' proofs cite these.
use Rattle.std.specs.Prelude.{ℕ, ◌+◌, ◌*◌, ◌%◌, ◌≤◌, ◌<◌, ◌≡◌, refl, Bool, true, false, List, [], ◌∷◌, ◌++◌, ltb, length, get_or, drop, set, Option, Some, None, Ok, Err}
use Rattle.std.proofs.Common.{sym, ap, ◌∙◌, arith, length-set, get_or-set_same, get_or-set_other, drop-set-lt, ltb-true, ltb-false, lt-ltb, le-ltb, le-leb}
use Rattle.std.proofs.lemmas.Bool.{lt-leb}
use Rattle.words.specs.Lists.{yes, no}
use Rattle.words.specs.Rows.{tab-ext}
use Rattle.intake.specs.declared.calls.Refusal.TheVariants.{NoRoom}
use Rattle.intake.specs.declared.calls.Served.{Served}
use Rattle.intake.specs.Queue.{Said, served, queue, empty, circle, first_held, serve, after_put, after_turn}
use Rattle.intake.specs.Words.{Room, held_of, line_of, lines_of, last_of, queue_of, Outside, Cleared, Appended, Taken}
use Rattle.intake.specs.Laws.{lines_at, held_at, length-line, line-apart}
use Rattle.intake.specs.Circle.{NextIs, next-is}
use Rattle.intake.specs.Promises.{StartPromise, PutPromise, TurnPromise}

as_before : (l : List ℕ) → Outside l l
as_before l = record { size = refl; rest = refl }

-- what a promise says of the words that are left, it says of equal ones
module _ {l m n : List ℕ} (e : n ≡ m) where
  pub start-at : {r : Said} → StartPromise l m r → StartPromise l n r
  start-at p = rw e p

  pub put-at : {i x : ℕ} {r : Said} → PutPromise l i x m r → PutPromise l i x n r
  put-at p = rw e p

  pub turn-at : {r : Option Served} → TurnPromise l m r → TurnPromise l n r
  turn-at p = rw e p

-- ---- put

module _ (l : List ℕ) (i x : ℕ) (room : Room l) where
  pub put-high : 255 < i → PutPromise l i x l (Err NoRoom)
  put-high h = record { short = λ _. refl; puts = λ _. sym (yes _ _ _ (yes _ _ _ (lt-ltb 255 i h))); refused = λ _ _. refl; outside = as_before l }

  pub put_full : i ≤ 255 → 16 ≤ held_of l i → PutPromise l i x l (Err NoRoom)
  put_full b h =
      let full : 16 ≤ length (get_or (lines_of l) i []) = omega (arith, held_at l i (omega arith)) in
      record {
        short = λ _. refl;
        puts = λ _. sym (yes _ _ _ (no _ _ _ (le-ltb 255 i b) ∙ le-leb 16 (length (get_or (lines_of l) i [])) full));
        refused = λ _ _. refl;
        outside = as_before l;
      }

  pub put-stored : (m : List ℕ) → i ≤ 255 → held_of l i < 16 → Appended l i x m → PutPromise l i x m (Ok tt)
  put-stored m b h a =
      let few : length (get_or (lines_of l) i []) < 16 = omega (arith, held_at l i (omega arith)) in
      record {
        short = λ s. absurd (omega arith);
        puts = λ _. (λ k. after_put (queue (a.lines k) (a.last k)) (Ok tt))
            ∙ (λ k. after_put (queue (set (lines_of l) i (sym (lines_at l i (omega arith)) k ++ (x ∷ []))) (last_of l)) (Ok tt))
            ∙ sym (no _ _ _ (no _ _ _ (le-ltb 255 i b) ∙ lt-leb 16 (length (get_or (lines_of l) i [])) few));
        refused = λ code e. let z : ◌≡◌ {A = ℕ} 0 1 = cc in absurd (omega arith);
        outside = record { size = a.size; rest = a.rest };
      }

-- ---- turn

-- the word for the line served last is no line's
module _ (l : List ℕ) (v : ℕ) (room : Room l) where
  same_line : (i : ℕ) → i < 256 → line_of (set l 4608 v) i ≡ line_of l i
  same_line i b = line-apart l 4608 v i (λ k c e. omega (arith, e))

  same_lines : lines_of (set l 4608 v) ≡ lines_of l
  unfolding lines_of
  same_lines = tab-ext (line_of (set l 4608 v)) (line_of l) 256 same_line

  same-held : (i : ℕ) → i < 256 → held_of (set l 4608 v) i ≡ held_of l i
  same-held i b = sym (length-line (set l 4608 v) i) ∙ ap length (same_line i b) ∙ length-line l i

  new-last : last_of (set l 4608 v) ≡ v % 256
  new-last = ap (λ (w : ℕ). w % 256) (get_or-set_same l 4608 v 0 room)

pub turned-none : (l : List ℕ) → Room l → None ≡ first_held (lines_of l) (circle (last_of l)) → TurnPromise l l None
turned-none l room e = record { short = λ _. refl; turns = λ _. ap (serve (queue_of l)) e; nothing = λ _. refl; outside = as_before l }

module _ (l : List ℕ) (room : Room l) (i : ℕ) (e : Some i ≡ first_held (lines_of l) (circle (last_of l))) where
  next : NextIs (lines_of l) (last_of l) i
  next = next-is (lines_of l) (last_of l) (omega arith) i (sym e)

  -- the line that the search found holds a handle
  pub able : 0 < held_of (set l 4608 i) i
  able = omega (arith, same-held l i room i next.below, held_at l i next.below, next.some)

  pub turned : (x : ℕ) (m : List ℕ) → Taken (set l 4608 i) i x m → TurnPromise l m (served i x)
  turned x m t =
      let b : i < 256 = next.below in
      let own : line_of (set l 4608 i) i ≡ get_or (lines_of l) i [] = same_line l i room i b ∙ sym (lines_at l i b) in
      let handle : x ≡ get_or (get_or (lines_of l) i []) 0 0 = t.handle ∙ ap (λ (z : List ℕ). get_or z 0 0) own in
      let last : last_of m ≡ i = t.last ∙ new-last l i room ∙ omega arith in
      record {
        short = λ s. absurd (omega arith);
        turns = λ _. (λ k. after_turn (queue (t.lines k) (last k)) (served i x))
            ∙ (λ k. after_turn (queue (set (same_lines l i room k) i (drop 1 (own k))) i) (served i (handle k)))
            ∙ ap (serve (queue_of l)) e;
        nothing = λ z. let q : ◌≡◌ {A = ℕ} 0 1 = cc z in absurd (omega arith);
        outside = record { size = t.size ∙ length-set l 4608 i; rest = t.rest ∙ drop-set-lt 4609 l 4608 i (omega arith) };
      }

-- ---- start

-- a line with head and tail 0 is empty
cleared-line : (l : List ℕ) (i : ℕ) → get_or l (i * 18) 0 ≡ 0 → get_or l (i * 18 + 1) 0 ≡ 0 → line_of l i ≡ []
unfolding line_of
cleared-line l i h t = rw (h, t)

pub started : (l m : List ℕ) → Room l → Cleared l m 256 → StartPromise l (set m 4608 255) (Ok tt)
unfolding empty lines_of
started l m room c =
    let size : length m ≡ length l = c.outside.size in
    let big : Room m = omega arith in
    let zero-at : (i : ℕ) → i < 256 → (get_or (set m 4608 255) (i * 18) 0 ≡ 0) × (get_or (set m 4608 255) (i * 18 + 1) 0 ≡ 0) =
    λ i b. (get_or-set_other m 4608 (i * 18) 255 0 (λ e. omega (arith, e)) ∙ (c.zeroes i b).0, get_or-set_other m 4608 (i * 18 + 1) 255 0 (λ e. omega (arith, e)) ∙ (c.zeroes i b).1) in
    record {
      short = λ s. absurd (omega arith);
      enough = λ _. refl;
      ready = λ _. (λ k. queue (tab-ext (line_of (set m 4608 255)) (λ i. []) 256 (λ i b. cleared-line (set m 4608 255) i (zero-at i b).0 (zero-at i b).1) k) (new-last m 255 big k));
      zeroes = λ _. zero-at;
      refused = λ code e. let z : ◌≡◌ {A = ℕ} 0 1 = cc in absurd (omega arith);
      outside = record { size = length-set m 4608 255 ∙ size; rest = drop-set-lt 4609 m 4608 255 (omega arith) ∙ c.outside.rest };
    }

-- one line more, its head and then its tail
pub cleared_more : (l m : List ℕ) (i : ℕ) → Room l → i < 256 → Cleared l m i → Cleared l (set (set m (i * 18) 0) (i * 18 + 1) 0) (i + 1)
cleared_more l m i room b c =
    let size : length m ≡ length l = c.outside.size in
    let o = set m (i * 18) 0 in
    let size-o : length o ≡ length m = length-set m (i * 18) 0 in
    record {
      zeroes = λ k h. zero-at k h (ltb k i) refl;
      outside = record { size = length-set o (i * 18 + 1) 0 ∙ size-o ∙ size; rest = drop-set-lt 4609 o (i * 18 + 1) 0 (omega arith) ∙ drop-set-lt 4609 m (i * 18) 0 (omega arith) ∙ c.outside.rest };
    }
  where
    new : List ℕ
    new = set (set m (i * 18) 0) (i * 18 + 1) 0

    zero-at : (k : ℕ) → k < i + 1 → (t : Bool) → ltb k i ≡ t → (get_or new (k * 18) 0 ≡ 0) × (get_or new (k * 18 + 1) 0 ≡ 0)
    zero-at k h true t =
        let old : k < i = ltb-true k i t in
        let o = set m (i * 18) 0 in (
          get_or-set_other o (i * 18 + 1) (k * 18) 0 0 (λ e. omega (arith, e)) ∙ get_or-set_other m (i * 18) (k * 18) 0 0 (λ e. omega (arith, e)) ∙ (c.zeroes k old).0,
          get_or-set_other o (i * 18 + 1) (k * 18 + 1) 0 0 (λ e. omega (arith, e)) ∙ get_or-set_other m (i * 18) (k * 18 + 1) 0 0 (λ e. omega (arith, e)) ∙ (c.zeroes k old).1,
        )
    zero-at k h false t =
        let is : k ≡ i = omega (arith, ltb-false k i t) in
        let o = set m (i * 18) 0 in
        let size : length m ≡ length l = c.outside.size in
        let size-o : length o ≡ length m = length-set m (i * 18) 0 in
        rw is (
          get_or-set_other o (i * 18 + 1) (i * 18) 0 0 (λ e. omega (arith, e)) ∙ get_or-set_same m (i * 18) 0 0 (omega arith),
          get_or-set_same o (i * 18 + 1) 0 0 (omega arith),
        )
