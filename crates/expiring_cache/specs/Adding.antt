-- What an insertion and a pruning leave.
use Rattle.std.specs.Prelude.{ℕ, suc, ◌+◌, ◌-◌, ◌*◌, ◌≤◌, ◌<◌, max, ◌≡◌, refl, true, false, length, set}
use Rattle.std.proofs.Math.Path.{sym, ap}
use Rattle.std.proofs.Common.{subst, ◌∙◌, add-one, arith, length-set}
use mathlib.Core.List.{List, [], ◌∷◌, ◌++◌}
use Rattle.std.proofs.Math.ListN.{drop}
use Rattle.expiring_cache.specs.Cache.{Held, present, enter, remember, prune}
use Rattle.expiring_cache.specs.Laws.{remember-once, prune-once}
use Rattle.expiring_cache.specs.Layout.{slots_in, first_of, first-put, first-front, window_of, window-length, window-ext, window-drop, cache_of, cache_room, CacheOk, Windowed, CacheKept, no_rows, rows-length, kept-none, ok-still, ok-slots, ok-room, Inserted, Pruned}
use Rattle.expiring_cache.specs.Index.{windowed-from, windowed-first, slot-first}
use Rattle.expiring_cache.specs.Entering.{Pushed, push-rows}
use Rattle.expiring_cache.specs.Gathering.{Fresh, Gathered, all_stay}

-- ---- room behind n rows, which stood from slot f on and stand from r on

pub record Roomy (l m : List ℕ) (f n r : ℕ) : Type 0 where
  pub fits : r + n < slots_in l
  pub rows : window_of m r n ≡ window_of l f n
  pub index : Windowed l f n → Windowed m r n

pub roomy-stay : (l : List ℕ) (f n : ℕ) → f + n < slots_in l → Roomy l l f n f
roomy-stay l f n h = record { fits = h; rows = refl; index = λ x. x }

pub roomy_moved : (l m : List ℕ) (f n r : ℕ) → n < slots_in l → Gathered l m f n r 1 0 → Roomy l m f n 0
roomy_moved l m f n r h g =
    record {
      fits = omega arith;
      rows = ap (λ (y : ℕ). window_of m 0 y) (sym e) ∙ g.rows ∙ all_stay (window_of l f n);
      index = λ x. rw e at g.index;
    }
  where
    e : r ≡ n
    e = sym (window-length m 0 r) ∙ ap length (g.rows ∙ all_stay (window_of l f n)) ∙ window-length l f n

-- ---- a row enters

pub record Added (l m : List ℕ) (n r capacity time k : ℕ) : Type 0 where
  pub size : length m ≡ length l
  pub ok : CacheOk m r
  pub rows : cache_of m r ≡ enter capacity time k (cache_of l n)
  pub index : Windowed l (first_of l n) n → Windowed m (first_of m r) r

module _ (l a b m : List ℕ) (n k left s f capacity : ℕ) (x : Held) (ok : CacheOk l n) (cap : max capacity 1 ≤ cache_room l)
    (ek : k ≡ n + 1 - max capacity 1) (el : left ≡ n - k) (ea : length a ≡ length l) (eb : length b ≡ length a)
    (es : s ≡ first_of l n) (roomy : Roomy l a (s + k) left f) (push : Pushed a b f left x) (em : m ≡ set b (slots_in b * 7) f) where
  room : Roomy l a (first_of l n + k) left f
  room = subst (λ (y : ℕ). Roomy l a (y + k) left f) es roomy

  split : n ≡ k + left
  split = omega arith

  fits : f + left < slots_in b
  fits = rw (eb ∙ ea) room.fits

  len : length m ≡ length l
  len = ap length em ∙ length-set b (slots_in b * 7) f ∙ eb ∙ ea

  starts : first_of m (left + 1) ≡ f
  starts = rw (em, add-one left) (first-put b f left (omega (arith, fits)) (omega (arith, fits)))

  rows_in_window : window_of m f (left + 1) ≡ window_of l (first_of l n + k) left ++ (x ∷ [])
  rows_in_window =
      window-ext b m f f (left + 1) (λ i q. rw em (slot-first b f (f + i) (omega (arith, fits))))
      ∙ push-rows a b f left x push
      ∙ ap (λ (y : List Held). y ++ (x ∷ [])) room.rows

  rest : window_of l (first_of l n + k) left ≡ drop k (cache_of l n)
  unfolding cache_of
  rest = sym (window-drop l (first_of l n) k left) ∙ ap (λ (y : ℕ). drop k (window_of l (first_of l n) y)) (sym split)

  excess : k ≡ suc (length (cache_of l n)) - max capacity 1
  excess = rw (rows-length l n) (omega arith)

  pub added : Added l m n (left + 1) capacity x.since x.id
  unfolding cache_of
  added =
      record {
        size = len;
        ok = ok-still l m (left + 1) (max capacity 1) (ok-room l (max capacity 1) cap) len (omega arith);
        rows =
            ap (λ (y : ℕ). window_of m y (left + 1)) starts
            ∙ rows_in_window
            ∙ ap (λ (y : List Held). y ++ (x ∷ [])) (rest ∙ ap (λ (y : ℕ). drop y (cache_of l n)) excess);
        index = λ w. rw (starts, em) (windowed-first b f f (left + 1) (omega (arith, fits)) (push.index (room.index (windowed-from l (first_of l n) k left (subst (λ (y : ℕ). Windowed l (first_of l n) y) split w)))));
      }

-- ---- an insertion

module _ (l : List ℕ) (n capacity time k : ℕ) (kept : CacheKept l n) where
  pub inserted-none : CacheOk l n → present k (cache_of l n) ≡ true → Inserted l l n n capacity time k
  inserted-none ok t = record { size = refl; ok = ok; rows = rw t; kept = kept }

  pub inserted-one : (m : List ℕ) (r : ℕ) → present k (cache_of l n) ≡ false → Added l m n r capacity time k → Inserted l m n r capacity time k
  inserted-one m r t a =
      record {
        size = a.size;
        ok = a.ok;
        rows = is;
        kept = record { index = a.index kept.index; once = rw is (remember-once capacity time k (cache_of l n) kept.once) };
      }
    where
      is : cache_of m r ≡ remember capacity time k (cache_of l n)
      is = rw t a.rows

-- ---- a pruning

pub pruned-none : (l : List ℕ) (ttl time : ℕ) → Pruned l l 0 0 ttl time
pruned-none l ttl time =
    record { size = refl; ok = ok-room l 0 (omega arith); fewer = omega arith; rows = rw (no_rows l); kept = kept-none l }

module _ (l : List ℕ) (n ttl time s : ℕ) (ok : CacheOk l n) (es : s ≡ first_of l n) where
  pub pruned-same : CacheKept l n → Fresh l s n ttl time → Pruned l l n n ttl time
  unfolding cache_of
  pruned-same kept f =
      record { size = refl; ok = ok; fewer = omega arith; rows = sym (subst (λ (y : ℕ). Fresh l y n ttl time) es f).all; kept = kept }

  module _ (a m : List ℕ) (r : ℕ) (p : 0 < n) (e : length a ≡ length l) (g : Gathered l a s n r ttl time) (em : m ≡ set a (slots_in a * 7) 0) where
    some : 0 < slots_in a
    some = rw e (omega (arith, ok-slots l n ok))

    front : first_of m r ≡ 0
    front = rw em (first-front a r some)

    is : cache_of m r ≡ prune ttl time (cache_of l n)
    unfolding cache_of
    is =
        ap (λ (y : ℕ). window_of m y r) front
        ∙ window-ext a m 0 0 r (λ i q. rw em (slot-first a 0 (0 + i) (omega (arith, g.low, rw (← e) at (ok-slots l n ok)))))
        ∙ g.rows
        ∙ ap (λ (y : ℕ). prune ttl time (window_of l y n)) es

    pub pruned-moved : CacheKept l n → Pruned l m n r ttl time
    pruned-moved kept =
        record {
          size = ap length em ∙ length-set a (slots_in a * 7) 0 ∙ e;
          ok = ok-still l m r n ok (ap length em ∙ length-set a (slots_in a * 7) 0 ∙ e) g.low;
          fewer = g.low;
          rows = is;
          kept =
              record {
                index = rw (front, em) (windowed-first a 0 0 r (omega (arith, g.low, rw (← e) at (ok-slots l n ok))) g.index);
                once = rw is (prune-once ttl time (cache_of l n) kept.once);
              };
        }
