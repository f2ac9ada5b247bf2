-- What the walk's functions leave: words of the entries before and after, the frames before and after, over the slots rs of the box records.
use Rattle.std.specs.Prelude.{Option, Some, None, ℕ, ◌+◌, ◌-◌, ◌≤◌, ◌<◌, ◌≡◌, length, slice_index_or, slice_set}
use Rattle.std.proofs.Common.{sym, ◌∙◌, arith, length-set}
use Rattle.std.proofs.Math.Path.{ap}
use Rattle.std.proofs.Math.Bool.{true}
use mathlib.Core.List.{List, [], ◌∷◌, ◌++◌, reverse_aux}
use Rattle.words.specs.Lists.{flat}
use Rattle.words.specs.Ids.{id_of}
use Rattle.words.specs.declared.ids.Id.{Id}
use Rattle.pool_types.specs.declared.Counts.{Counts}
use Rattle.entries.specs.Entries.{credit}
use Rattle.entries.specs.Layout.{EntriesKept, entries_of, ok-still as entries-still}
use Rattle.entries.specs.Layout.{Left as Rows}
use Rattle.boxes.specs.Records.{BoxRec, index, lookup, parents}
use Rattle.boxes.specs.Layout.{boxes_of, all_rows, rows_bound, index-rows, inputs-rows}
use Rattle.indexes.specs.Parents.{links_of, last_parent, lookup-one, last_none, last-push}
use Rattle.indexes.specs.declared.inputs.Parent.{Parent}
use Rattle.pool.specs.Pool.{PoolFits, PoolKept, Left, tables_of, credits}
use Rattle.family.specs.Frames.{Todo, todo_of, frames_of, next-frame, put-frame}
use Rattle.family.specs.Chains.{walked}
use Rattle.family.specs.Turns.{todo, whole, rest, rest_all, rest-none, rest-pop, rest-visit}
use Rattle.family.specs.Family.{propagated}
use Rattle.family.specs.declared.Progress.{Progress}
use Rattle.family.specs.declared.Frame.{Frame}

-- parent p was credited and has its frame, of the first m slots, on top of the frame of the child
pub record Visited (e e' : List ℕ) (fs fs' : List Frame) (m n depth c p : ℕ) (child : Todo) : Type 0 where
  pub kept : EntriesKept e' n
  pub rows : entries_of e' n ≡ credit c p (entries_of e n)
  pub frames : frames_of fs' (depth + 1) ≡ (frames_of fs (depth - 1) ++ (child ∷ [])) ++ (whole m p ∷ [])

-- a turn comes nearer to the walk's end, on any words
pub record Nearer (w w' : Progress) : Type 0 where
  pub room : w'.depth + w'.budget ≤ w.depth + w.budget
  pub less : w'.budget + w'.budget + w'.depth < w.budget + w.budget + w.depth

-- .. and what is left of the walk is the same
pub record Turned (e e' : List ℕ) (fs fs' : List Frame) (rs : List BoxRec) (n c : ℕ) (w w' : Progress) : Type 0 where
  pub kept : EntriesKept e' n
  pub same : rest rs c w'.budget (frames_of fs' w'.depth) (entries_of e' n) ≡ rest rs c w.budget (frames_of fs w.depth) (entries_of e n)

-- ---- a visit

-- the frame that the code opens
opened : (k : Id) (m bound : ℕ) → bound ≡ m → todo_of (record { id = k; bound = bound }) ≡ whole m (id_of k)
unfolding todo_of
opened k m bound e = ap (λ (m : ℕ). record { id = id_of k; bound = m }) e

module _ (m n c : ℕ) where
  pub visited : (e e' : List ℕ) (fs : List Frame) (depth : ℕ) (child : Frame) (p : Id) (bound : ℕ) → 0 < depth → depth < length fs → Rows e e' n (credit c (id_of p) (entries_of e n)) → bound ≡ m
      → Visited e e' fs (slice_set (slice_set fs (depth - 1) child) depth (record { id = p; bound = bound })) m n depth c (id_of p) (todo_of child)
  visited e e' fs depth child p bound h g q l =
      let d : depth ≡ depth - 1 + 1 = omega arith in
      let below = slice_set fs (depth - 1) child in
      record {
        kept = q.kept;
        rows = q.rows;
        frames =
            put-frame below depth _ (omega (arith, length-set fs (depth - 1) child))
            ∙ rw (opened p m bound l) (ap (λ (ts : List Todo). ts ++ (whole m (id_of p) ∷ [])) (ap (frames_of below) d ∙ put-frame fs (depth - 1) child (omega arith)));
      }

-- ---- a turn: with no visit left, with no parent left in the top frame, and with one that was visited

module _ (rs : List BoxRec) (n c : ℕ) where
  pub stopped : (e : List ℕ) (fs : List Frame) (w : Progress) → 0 < w.depth → w.budget ≡ 0 → EntriesKept e n → Turned e e fs fs rs n c w (record { depth = 0; budget = 0 })
  stopped e fs w h z o = record { kept = o; same = rw z }

  module _ (e : List ℕ) (fs : List Frame) (w : Progress) (h : 0 < w.depth) (g : w.depth ≤ length fs) (d : Frame) (r : Option Parent) (top : Frame) (at : top ≡ slice_index_or fs (w.depth - 1) d)
      (found : links_of r ≡ last_parent (lookup (index true rs)) (id_of top.id) rs top.bound) where
    split : frames_of fs w.depth ≡ frames_of fs (w.depth - 1) ++ (todo_of top ∷ [])
    split = let z : w.depth ≡ w.depth - 1 + 1 = omega arith in ap (frames_of fs) z ∙ next-frame fs (w.depth - 1) d (omega arith) ∙ rw at

    pub popped : r ≡ None → EntriesKept e n → Turned e e fs fs rs n c w (record { depth = w.depth - 1; budget = w.budget })
    unfolding todo_of
    popped q o =
        record {
          kept = o;
          same = rest-pop rs c w.budget (frames_of fs (w.depth - 1)) (todo_of top) (entries_of e n) (λ st. ap (λ (l : List ℕ). reverse_aux l st) none) ∙ rw split;
        }
      where
        none : todo rs (todo_of top) ≡ []
        none = last_none (lookup (index true rs)) (lookup-one (index true rs)) (id_of top.id) rs top.bound (sym found ∙ ap links_of q)

    pub went_up : (m : ℕ) → length rs ≤ m → (p : Parent) → r ≡ Some p → (w.budget ≡ 0 → ⊥) → (e' : List ℕ) (fs' : List Frame) → Visited e e' fs fs' m n w.depth c (id_of p.id) (todo_of (record { id = top.id; bound = p.slot }))
        → Turned e e' fs fs' rs n c w (record { depth = w.depth + 1; budget = w.budget - 1 })
    unfolding todo_of
    went_up m l p q z e' fs' v =
        record {
          kept = v.kept;
          same =
              rw (v.frames, v.rows, split)
              (rest-visit rs c m l w.budget (frames_of fs (w.depth - 1)) (todo_of top) (todo_of (record { id = top.id; bound = p.slot })) (id_of p.id) (entries_of e n) (omega (arith, z))
              (λ st. last-push (lookup (index true rs)) (lookup-one (index true rs)) (id_of top.id) rs top.bound (id_of p.id) p.slot st (sym found ∙ ap links_of q)));
        }

-- ---- the whole walk, from w₀ to w

pub record Walking (e₀ e : List ℕ) (fs₀ fs : List Frame) (rs : List BoxRec) (n c : ℕ) (w₀ w : Progress) : Type 0 where
  pub kept : EntriesKept e n
  pub same : rest rs c w.budget (frames_of fs w.depth) (entries_of e n) ≡ rest rs c w₀.budget (frames_of fs₀ w₀.depth) (entries_of e₀ n)

module _ (e₀ e : List ℕ) (fs₀ fs : List Frame) (rs : List BoxRec) (n c : ℕ) (w₀ w : Progress) (k : Walking e₀ e fs₀ fs rs n c w₀ w) where
  pub walk-on : (e' : List ℕ) (fs' : List Frame) (w' : Progress) → Turned e e' fs fs' rs n c w w' → Walking e₀ e' fs₀ fs' rs n c w₀ w'
  walk-on e' fs' w' t = record { kept = t.kept; same = t.same ∙ k.same }

  walk_end : w.depth ≤ 0 → entries_of e n ≡ rest rs c w₀.budget (frames_of fs₀ w₀.depth) (entries_of e₀ n)
  walk_end h =
      let z : w.depth ≡ 0 = omega arith in
      sym (rest-none rs c w.budget (entries_of e n)) ∙ ap (λ (ts : List Todo). rest rs c w.budget ts (entries_of e n)) (sym (ap (frames_of fs) z)) ∙ k.same

-- those that are gone are nobody's parents
parents-rows : (l : List ℕ) (n : ℕ) → parents (all_rows l n) ≡ parents (boxes_of l n)
parents-rows l n = λ i k. flat (lookup (index-rows true l n i)) (inputs-rows k l n i)

-- it began with the frame of k alone and ended with none
pub walked_whole : (e e' b : List ℕ) (fs fs' : List Frame) (x : Counts) (k : Id) (bound m c : ℕ) (w : Progress) → PoolFits e b x → length e' ≡ length e → bound ≡ length b → 0 < length fs
    → w.depth ≤ 0 → PoolKept e b x → Walking e e' (slice_set fs 0 (record { id = k; bound = bound })) fs' (all_rows b x.records) x.pooled c (record { depth = 1; budget = m }) w
    → Left e' b x (propagated m c (id_of k) (tables_of e b x))
walked_whole e e' b fs fs' x k bound m c w f l q s h p g =
    record {
      fits = record { entries = entries-still e e' n n f.entries l (omega arith); boxes = f.boxes };
      kept = record { entries = g.kept; boxes = p.boxes };
      tables = λ t. record { entries = (walk_end e e' fs₀ fs' rs n c _ w g h ∙ ap (λ (ts : List Todo). rest rs c m ts (entries_of e n)) first ∙ rest_all rs c (length b) few m (id_of k) (entries_of e n) ∙ ap (λ (f : ℕ → List ℕ). credits c (walked f m (id_of k)) (entries_of e n)) (parents-rows b x.records)) t; boxes = boxes_of b x.records };
    }
  where
    rs : List BoxRec
    rs = all_rows b x.records

    n : ℕ
    n = x.pooled

    few : length rs ≤ length b
    few = rows_bound b x.records f.boxes

    fs₀ : List Frame
    fs₀ = slice_set fs 0 (record { id = k; bound = bound })

    first : frames_of fs₀ 1 ≡ whole (length b) (id_of k) ∷ []
    first = put-frame fs 0 _ s ∙ rw (opened k (length b) bound q)
