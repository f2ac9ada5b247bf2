-- What an admission leaves, way by way.
use Rattle.std.specs.Prelude.{None, Some}
use Rattle.std.specs.Prelude.{ℕ, ◌+◌, ◌*◌, ◌≤◌, ◌<◌, min, ◌≡◌, Bool, ◌||◌, List, [], ◌∷◌, eqb, ltb, length, take}
use Rattle.std.proofs.Math.Path.{refl, ap}
use Rattle.std.proofs.Common.{sym, subst, ◌∙◌, zero-add, length-take, get_or-take}
use Rattle.std.proofs.Math.Bool.{true, false}
use native.Mathlib.Omega.{arith}
use borrow.Author.Tests.{lt-ltb, le-ltb, ne_eqb}
use Rattle.words.specs.Lists.{pick}
use Rattle.words.specs.Find.{without}
use Rattle.pool_types.specs.Refusals.{refusal_number}
use Rattle.pool_types.specs.declared.Refusal.{Refusal}
use Rattle.pool_types.specs.declared.Refusal.TheVariants.{FeeBelowMinimum, PoolFull}
use Rattle.pool_types.specs.Outcomes.{processed_of, refused, done, wrote}
use Rattle.words.specs.Sums.{cap}
use Rattle.words.specs.Ids.{id_of, id_at}
use Rattle.words.specs.Rows.{tab-ext}
use Rattle.pool_types.specs.declared.Counts.{Counts}
use Rattle.pool_types.specs.declared.MempoolConfig.{MempoolConfig}
use Rattle.pool_types.specs.declared.Submission.{Submission}
use Rattle.pool_types.specs.declared.ProcessingOutcome.{ProcessingOutcome}
use Rattle.pool_types.specs.declared.ProcessingOutcome.TheVariants.{Declined, DoubleSpendLoser}
use Rattle.weight.specs.Weight.{fee_per_factor}
use Rattle.arguments.specs.Arguments.{fee_of, fee_sum}
use Rattle.entries.specs.Entries.{Entry, key_of, pooled}
use Rattle.entries.specs.declared.fields.PoolEntry.{PoolEntry}
use Rattle.entries.specs.Layout.{entry_of, entries_of}
use Rattle.entries.specs.Layout.{ok-still as entries-still}
use Rattle.boxes.specs.Records.{drop_owner, index, conflicts}
use Rattle.boxes.specs.Flat.{count_of, ids_to, ids_of}
use Rattle.boxes.specs.Layout.{room-still}
use Rattle.pool.specs.Pool.{Tables, Room, Fewer, Left, insert_tx, remove_tx, remove_all, evicted}
use Rattle.family.specs.Family.{propagated}
use Rattle.answers.specs.Answers.{Wrote, wrote_nothing, wrote-both}
use Rattle.admit.specs.Admit.{Admitted, cost_of, loses, crowded, newcomer, joined, settled, seated, contested, admit_spec}
use Rattle.admit.specs.Evictions.{Evicts}
use Rattle.admit.specs.Placed.{of_admission}
use Rattle.pool_types.specs.Outcomes.{written_of}

-- an admission of outcome o leaves what s says in words e and b with counts c, and in an answer buffer a that was a₀
pub record Leaves (e b : List ℕ) (c : Counts) (o : ProcessingOutcome) (a₀ a : List ℕ) (s : Admitted) : Type 0 where
  pub left : Left e b c s.tables
  pub outcome : processed_of o ≡ s.outcome
  pub wrote : Wrote a₀ a 0 s.written

-- ---- room

-- removals leave no more than there was, and so no less room
pub room_after : (e b m o : List ℕ) (c d : Counts) (needed : ℕ) → Room e b c needed → length m ≡ length e → length o ≡ length b → Fewer m o c d → Room m o d needed
room_after e b m o c d needed r p q f =
    record {
      entries = entries-still e m (d.pooled + 1) (c.pooled + 1) r.entries p (omega (arith, f.entries));
      boxes = f.fits.boxes;
      free = omega (arith, f.records, r.free, room-still b o q);
    }

-- ---- an id that is not pooled is not pooled after removals

module _ (k : ℕ) where
  off-one : (j : ℕ) (es : List Entry) → pooled k es ≡ false → pooled k (without key_of j es) ≡ false
  off-one j [] h = refl
  off-one j (e ∷ es) h = go (eqb e.id j) (eqb e.id k) refl (off-one j es) h
    where
      go : (t u : Bool) → eqb e.id k ≡ u → (pooled k es ≡ false → pooled k (without key_of j es) ≡ false) → pick u true (pooled k es) ≡ false → pooled k (pick t es (e ∷ without key_of j es)) ≡ false
      go t true q ih z = let z' : ◌≡◌ {A = ℕ} 0 1 = cc in absurd (omega arith)
      go true false q ih z = z
      go false false q ih z = rw q (ih z)

  off-tx : (j : ℕ) (t : Tables) → pooled k t.entries ≡ false → pooled k (remove_tx j t).entries ≡ false
  off-tx j t h = go (pooled j t.entries)
    where
      go : (u : Bool) → pooled k (pick u (record { entries = without key_of j t.entries; boxes = drop_owner j t.boxes }) t).entries ≡ false
      go true = off-one j t.entries h
      go false = h

  off-all : (ks : List ℕ) (t : Tables) → pooled k t.entries ≡ false → pooled k (remove_all ks t).entries ≡ false
  off-all [] t h = h
  off-all (j ∷ ks) t h = off-all ks (remove_tx j t) (off-tx j t h)

  pub still-new : (m o : List ℕ) (d : Counts) (ks : List ℕ) (t : Tables) → Left m o d (remove_all ks t) → pooled k t.entries ≡ false → pooled k (entries_of m d.pooled) ≡ false
  still-new m o d ks t l h = ap (λ (u : Tables). pooled k u.entries) l.tables ∙ off-all ks t h

-- ---- on any words

-- an outcome of an admission's own, and no more ids told than the buffer has places
pub record Sound (room : ℕ) (o : ProcessingOutcome) : Type 0 where
  pub ours : of_admission (processed_of o) ≡ true
  pub told : written_of (processed_of o) ≤ room

module _ (room : ℕ) where
  -- 10 and 30
  pub sound_declined : (r : Refusal) → (eqb (refusal_number r) 10 || (eqb (refusal_number r) 29 || eqb (refusal_number r) 30)) ≡ true → Sound room (Declined r)
  unfolding processed_of of_admission written_of
  sound_declined r h = record { ours = h; told = omega arith }

  pub sound_lost : (n k : ℕ) → n ≡ min room k → Sound room (DoubleSpendLoser n)
  unfolding processed_of of_admission written_of
  sound_lost n k h = record { ours = refl; told = omega arith }

  -- it is in, with k losers gone
  pub sound-in : (out : ProcessingOutcome) (k n : ℕ) → processed_of out ≡ pick (eqb k 0) done (wrote (min room n)) → Sound room out
  unfolding of_admission written_of
  sound-in out k n h = record { ours = ap of_admission h ∙ own (eqb k 0); told = omega (arith, ap written_of h, few (eqb k 0)) }
    where
      own : (t : Bool) → of_admission (pick t done (wrote (min room n))) ≡ true
      own true = refl
      own false = refl

      few : (t : Bool) → written_of (pick t done (wrote (min room n))) ≤ room
      few true = omega arith
      few false = omega arith

-- ---- the newcomer enters: the tables t, u with it, v with its credits, and then the eviction

pub enters : (visits capacity at : ℕ) (w : Bool) (x : Entry) (ins outs : List ℕ) (t u v : Tables) (e b : List ℕ) (c : Counts) (n : ℕ) (a₀ a : List ℕ)
    → u ≡ insert_tx x (ids_of 5 ins) (ids_of 7 outs) t → v ≡ propagated visits x.base x.id u → Evicts capacity at w v e b c n a₀ a → Evicts capacity at w (joined visits x ins outs t) e b c n a₀ a
unfolding joined
enters visits capacity at w x ins outs t u v e b c n a₀ a p q = subst (λ (z : Tables). Evicts capacity at w z e b c n a₀ a) (q ∙ ap (propagated visits x.base x.id) p)

-- ---- 30, or the newcomer settles

module _ (visits room capacity : ℕ) (x : Entry) (ins outs ks : List ℕ) (t : Tables) where
  pub seat-crowded : (e b : List ℕ) (c : Counts) (a : List ℕ) → Left e b c t → crowded capacity x.base t.entries ≡ true
      → Leaves e b c (Declined PoolFull) a a (seated visits room capacity x ins outs ks t)
  unfolding seated processed_of
  seat-crowded e b c a l h = rw h (record { left = l; outcome = refl; wrote = wrote_nothing a 0 })

  pub seat-taken : (e b : List ℕ) (c : Counts) (o : ProcessingOutcome) (a₀ a : List ℕ) → crowded capacity x.base t.entries ≡ false → Leaves e b c o a₀ a (settled room capacity ks (joined visits x ins outs t))
      → Leaves e b c o a₀ a (seated visits room capacity x ins outs ks t)
  unfolding seated
  seat-taken e b c o a₀ a h l = rw h l

-- the ids of k losers are written, then those of the evicted: where there is a loser
pub settles : (room capacity : ℕ) (ks : List ℕ) (t : Tables) (e b : List ℕ) (c : Counts) (n : ℕ) (out : ProcessingOutcome) (a₀ a₁ a : List ℕ) (k : ℕ) → k ≡ length ks
    → Wrote a₀ a₁ 0 ks → Evicts capacity k (ltb 0 k) t e b c n a₁ a → processed_of out ≡ pick (eqb k 0) done (wrote (min room (k + n)))
    → Leaves e b c out a₀ a (settled room capacity ks t)
unfolding settled
settles room capacity [] t e b c n out a₀ a₁ a k p w v q =
    record {
      left = v.left;
      outcome = q ∙ rw p;
      wrote = wrote-both a₀ a₁ a 0 0 [] [] refl w (rw p at v.wrote);
    }
settles room capacity (j ∷ ks) t e b c n out a₀ a₁ a k p w v q =
    let h : 0 < k = rw p (omega arith) in
    let z : k ≡ 0 → ⊥ = omega arith in
    record {
      left = v.left;
      outcome = q ∙ rw (ne_eqb k 0 z, p, v.count);
      wrote = wrote-both a₀ a₁ a 0 k (j ∷ ks) (evicted capacity t) p w (rw (zero-add k) (rw (lt-ltb 0 k h) at v.wrote));
    }

-- ---- 29, or the losers go

-- the first k ids of a list are the ids of the words that they stand in
module _ (l : List ℕ) (k : ℕ) (h : k * 4 ≤ length l) where
  front-id : (i : ℕ) → i < k → id_at (take (k * 4) l) (i * 4) ≡ id_at l (i * 4)
  unfolding id_at
  front-id i b =
      rw (
        get_or-take (k * 4) l (i * 4) 0 (omega arith),
        get_or-take (k * 4) l (i * 4 + 1) 0 (omega arith),
        get_or-take (k * 4) l (i * 4 + 2) 0 (omega arith),
        get_or-take (k * 4) l (i * 4 + 3) 0 (omega arith),
      )

  front-count : count_of 4 (take (k * 4) l) ≡ k
  front-count = omega (arith, length-take (k * 4) l)

  pub front-ids : ids_of 4 (take (k * 4) l) ≡ ids_to 4 l k
  unfolding ids_to
  front-ids = rw front-count (tab-ext (λ i. id_at (take (k * 4) l) (i * 4)) (λ i. id_at l (i * 4)) k front-id)

pub ids-front : (W : ℕ) (m l : List ℕ) (k : ℕ) → W ≡ 4 → m ≡ take (k * 4) l → k * 4 ≤ length l → ids_of W m ≡ ids_to 4 l k
ids-front W m l k p q h = rw (p, q) (front-ids l k h)

module _ (visits room capacity : ℕ) (x : Entry) (ins outs ks : List ℕ) (t : Tables) where
  pub contest-lost : (e b : List ℕ) (c : Counts) (a₀ a : List ℕ) (k n : ℕ) → Left e b c t → loses x.base ks t.entries ≡ true → k ≡ length ks → n ≡ min room k → Wrote a₀ a 0 ks
      → Leaves e b c (DoubleSpendLoser n) a₀ a (contested visits room capacity x ins outs ks t)
  unfolding contested processed_of
  contest-lost e b c a₀ a k n l h p q w = rw h (record { left = l; outcome = ap (refused 29) (q ∙ ap (min room) p); wrote = w })

  pub contest-won : (e b : List ℕ) (c : Counts) (o : ProcessingOutcome) (a₀ a : List ℕ) (u : Tables) → loses x.base ks t.entries ≡ false → u ≡ remove_all ks t → Leaves e b c o a₀ a (seated visits room capacity x ins outs ks u)
      → Leaves e b c o a₀ a (contested visits room capacity x ins outs ks t)
  unfolding contested
  contest-won e b c o a₀ a u h p l = rw (h, ← p) l

  -- there is nobody to contest with
  pub contest-free : (js : List ℕ) (e b : List ℕ) (c : Counts) (o : ProcessingOutcome) (a₀ a : List ℕ) → ks ≡ [] → js ≡ [] → Leaves e b c o a₀ a (seated visits room capacity x ins outs js t) → Leaves e b c o a₀ a (contested visits room capacity x ins outs ks t)
  unfolding contested loses
  contest-free js e b c o a₀ a p q l = rw p (rw q at l)

-- ---- 10, or the contest

module _ (visits room : ℕ) (g : MempoolConfig) (t : Tables) (a : Submission) (c : ℕ) (ins outs : List ℕ) (fee : ℕ) (p : fee ≡ fee_of outs) where
  pub fee-refused : (e b : List ℕ) (d : Counts) (a₀ : List ℕ) → Left e b d t → fee < g.min_fee
      → Leaves e b d (Declined FeeBelowMinimum) a₀ a₀ (admit_spec visits room g t a c ins outs)
  unfolding admit_spec processed_of
  fee-refused e b d a₀ l h = rw (← p, lt-ltb fee g.min_fee h) (record { left = l; outcome = refl; wrote = wrote_nothing a₀ 0 })

  module _ (e b : List ℕ) (d : Counts) (n : ProcessingOutcome) (a₀ a₁ : List ℕ) (h : g.min_fee ≤ fee) (x : Entry) (base cost : ℕ) (k : cost ≡ cost_of c a.size) (q : base ≡ fee_per_factor g.fee_strategy fee a.size cost) (o : x ≡ newcomer a c base ins outs) where
    pub fee-contested : Leaves e b d n a₀ a₁ (contested visits room g.capacity x ins outs (conflicts (index false t.boxes) (ids_of 5 ins)) t) → Leaves e b d n a₀ a₁ (admit_spec visits room g t a c ins outs)
    unfolding admit_spec
    fee-contested l = rw (← p, le-ltb fee g.min_fee h, ← k, ← q, ← o) l

-- the newcomer's id is the submission's
pub own-id : (x : PoolEntry) (a : Submission) (c base : ℕ) (ins outs : List ℕ) (es : List Entry) → entry_of x ≡ newcomer a c base ins outs → pooled (id_of a.id) es ≡ false → pooled (id_of x.id) es ≡ false
unfolding entry_of newcomer
own-id x a c base ins outs es p h = ap (λ (e : Entry). pooled e.id es) p ∙ h

-- the fee of outputs whose sum is in bounds
pub fee-read : (outs : List ℕ) → fee_of outs ≤ cap → fee_sum outs ≡ Some (fee_of outs)
unfolding fee_sum
fee-read outs h = rw (le-ltb cap (fee_of outs) h)

pub fee_beyond : (outs : List ℕ) {A : Type 0} → fee_of outs ≤ cap → fee_sum outs ≡ None → A
fee_beyond outs h e = let q : Some (fee_of outs) ≡ None = sym (fee-read outs h) ∙ e in let z : ◌≡◌ {A = ℕ} 0 1 = cc in absurd (omega arith)

pub fee_same : (outs : List ℕ) (fee : ℕ) → fee_of outs ≤ cap → fee_sum outs ≡ Some fee → fee ≡ fee_of outs
fee_same outs fee h e = let q : Some (fee_of outs) ≡ Some fee = sym (fee-read outs h) ∙ e in cc
