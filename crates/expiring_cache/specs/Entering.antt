-- A row enters behind n rows, which stand from slot f on.
use Rattle.std.specs.Prelude.{ℕ, ◌+◌, ◌*◌, ◌<◌, ◌≡◌, List, [], ◌∷◌, ◌++◌}
use Rattle.std.proofs.Common.{ap, ◌∙◌, add-one, arith}
use Rattle.words.specs.Rows.{stored}
use Rattle.expiring_cache.specs.Cache.{Held}
use Rattle.expiring_cache.specs.Layout.{slots_in, held_of, row_words, slot_at, window_of, window-ext, window-suc, Windowed}
use Rattle.expiring_cache.specs.Index.{one-length, one-here, one-rest, one_index, linked_in, linked-slot, linked-more}
use Rattle.expiring_cache.specs.declared.rows.Row.{Row}

-- on any words the row stands at place n and the others stay; an index stays an index
pub record Pushed (l m : List ℕ) (f n : ℕ) (x : Held) : Type 0 where
  pub here : slot_at m (f + n) ≡ x
  pub rest : (i : ℕ) → (i ≡ f + n → ⊥) → slot_at m i ≡ slot_at l i
  pub index : Windowed l f n → Windowed m f (n + 1)

module _ (l : List ℕ) (f n : ℕ) (r : Row) (h : f + n < slots_in l) where
  abbrev wrote : List ℕ
  wrote = stored l ((f + n) * 7) (row_words r)

  room : f + n < slots_in wrote
  room = rw (one-length l (f + n) r h) h

  pub pushed : Pushed l (linked_in wrote f n) f n (held_of r)
  pushed =
      record {
        here = linked-slot wrote f n room (f + n) ∙ one-here l (f + n) r h;
        rest = λ i d. linked-slot wrote f n room i ∙ one-rest l (f + n) r h i d;
        index = λ x. rw (add-one n) (linked-more wrote f n room (one_index l (f + n) r h f n (omega arith) x));
      }

-- the rows are one more
pub push-rows : (l m : List ℕ) (f n : ℕ) (x : Held) → Pushed l m f n x → window_of m f (n + 1) ≡ window_of l f n ++ (x ∷ [])
push-rows l m f n x p =
    window-suc m f n
    ∙ ap (λ (y : Held). window_of m f n ++ (y ∷ [])) p.here
    ∙ ap (λ (y : List Held). y ++ (x ∷ [])) (window-ext l m f f n (λ i q. p.rest (f + i) (λ e. omega arith)))
