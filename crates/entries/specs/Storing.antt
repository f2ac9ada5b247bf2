-- The fourteen words of an entry are written in a slot.
use Rattle.std.specs.Prelude.{None, Option, Some}
use Rattle.std.specs.Prelude.{ℕ, zero, suc, ◌+◌, ◌*◌, ◌≤◌, ◌<◌, ◌≡◌, refl, List, [], ◌∷◌, ◌++◌, length, set}
use Rattle.std.proofs.Common.{◌∙◌, add-zero, add-suc, suc-add, arith, length-set, get_or-set_same}
use Rattle.std.proofs.Math.Decide.{dec_lt}
use Rattle.std.proofs.Math.ListN.{get_or}
use Rattle.std.proofs.lemmas.List.Edits.{sets}
use Rattle.std.proofs.Math.Seq.{length-sets}
use Rattle.words.specs.Rows.{stored, stored-sets, sets-before, sets-after}
use Rattle.words.specs.Ids.{id_of, id_words}
use Rattle.entries.specs.Cells.{entry_of, cost_of, tag_of, value_of, slot_count, slot_words, use_word, cell, raw_at, entry_in, entry_from, from-ext}
use Rattle.entries.specs.Held.{EntryPut}
use Rattle.entries.specs.declared.fields.PoolEntry.{PoolEntry}

abbrev pub entry_words : PoolEntry → List ℕ
entry_words e =
    id_words e.id
    ++ (e.weight ∷ e.base ∷ e.size ∷ e.cost ∷ tag_of e.validation_cost ∷ value_of e.validation_cost ∷ e.created ∷ e.last_checked ∷ e.height_key ∷ e.inputs ∷ [])

pub cost-of : (c : Option ℕ) → cost_of (tag_of c) (value_of c) ≡ c
cost-of None = refl
cost-of (Some v) = refl

sets-in : (vs l : List ℕ) (p j : ℕ) → j < length vs → p + length vs ≤ length l → get_or (sets l p vs) (p + j) 0 ≡ get_or vs j 0
sets-in [] l p j h r = absurd (omega arith)
sets-in (v ∷ vs) l p zero h r = rw (add-zero p) (sets-before vs (set l p v) (suc p) p (omega arith) ∙ get_or-set_same l p v 0 (omega arith))
sets-in (v ∷ vs) l p (suc j) h r = rw (add-suc p j, ← suc-add p j) (sets-in vs (set l p v) (suc p) j (omega arith) (simp length-set (omega arith)))

module _ (l : List ℕ) (i : ℕ) (e : PoolEntry) (h : i < slot_count l) where
  abbrev after : List ℕ
  after = stored l (i * slot_words) (entry_words e)

  row_in : (j : ℕ) → j < use_word → cell after i j ≡ get_or (entry_words e) j 0
  unfolding cell
  row_in j q = rw (stored-sets (entry_words e) l (i * slot_words)) (sets-in (entry_words e) l (i * slot_words) j q (omega arith))

  row_out : (k : ℕ) → (i * slot_words ≤ k → k < i * slot_words + use_word → ⊥) → get_or after k 0 ≡ get_or l k 0
  row_out k d = rw (stored-sets (entry_words e) l (i * slot_words)) (go (dec_lt k (i * slot_words)))
    where
      go : Dec (k < i * slot_words) → get_or (sets l (i * slot_words) (entry_words e)) k 0 ≡ get_or l k 0
      go (yes b) = sets-before (entry_words e) l (i * slot_words) k b
      go (no b) = sets-after (entry_words e) l (i * slot_words) k (far (dec_lt k (i * slot_words + use_word)))
        where
          far : Dec (k < i * slot_words + use_word) → i * slot_words + use_word ≤ k
          far (yes x) = absurd (d (omega (arith, b)) x)
          far (no x) = omega (arith, x)

  row_len : length after ≡ length l
  row_len = rw (stored-sets (entry_words e) l (i * slot_words)) (length-sets l (i * slot_words) (entry_words e))

  row_here : entry_in after i ≡ entry_of e
  unfolding entry_in entry_from entry_of id_of
  row_here = from-ext (cell after i) (λ j. get_or (entry_words e) j 0) row_in ∙ rw (cost-of e.validation_cost)

  row-else : (j a : ℕ) → a < slot_words → (i * slot_words ≤ j * slot_words + a → j * slot_words + a < i * slot_words + use_word → ⊥) → cell after j a ≡ cell l j a
  unfolding cell
  row-else j a q d = row_out (j * slot_words + a) d

  row-raw : (r : ℕ) → raw_at after r ≡ raw_at l r
  unfolding raw_at
  row-raw r = rw row_len (row_out (slot_count l * slot_words + r) (λ x y. omega arith))

  pub entry-put : EntryPut l after i (entry_of e)
  entry-put =
      record {
        len = row_len;
        here = row_here;
        others = λ j a q d. row-else j a q (λ x y. other j a q d x y (dec_lt j i));
        high = λ j a q b. row-else j a b (λ x y. above j a q b x y (dec_lt j i) (dec_lt i j));
        raws = row-raw;
      }
    where
      other : (j a : ℕ) → a < slot_words → (j ≡ i → ⊥) → i * slot_words ≤ j * slot_words + a → j * slot_words + a < i * slot_words + use_word → Dec (j < i) → ⊥
      other j a q d x y (yes z) = omega arith
      other j a q d x y (no z) = omega (arith, d, z)

      above : (j a : ℕ) → use_word ≤ a → a < slot_words → i * slot_words ≤ j * slot_words + a → j * slot_words + a < i * slot_words + use_word → Dec (j < i) → Dec (i < j) → ⊥
      above j a q b x y (yes z) w = omega arith
      above j a q b x y (no z) (yes w) = omega arith
      above j a q b x y (no z) (no w) = let e : i ≡ j = omega (arith, z, w) in omega arith
