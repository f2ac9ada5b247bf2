-- The tests of a block: the refusals in order, and on any words.
use Rattle.std.specs.Prelude.{ℕ, ◌+◌, ◌≤◌, ◌≡◌, refl, Bool, true, false, not, ◌&&◌, List, ltb}
use Rattle.std.proofs.Common.{arith, ltb-false}
use Rattle.words.specs.Lists.{pick}
use Rattle.pool_types.specs.declared.Mempool.{Mempool}
use Rattle.arguments.specs.Arguments.{whole, counts_agree}
use Rattle.store.specs.Fits.{cache_fits, un_not}
use Rattle.blocks.specs.Blocks.{readable, block_refusal}

-- ---- where none is given the counts of the lists agree, and the answer has a place for each

past : (t : Bool) (m n : ℕ) → (m ≡ 0 → ⊥) → pick t m n ≡ 0 → (t ≡ false) × (n ≡ 0)
past true m n h q = absurd (h q)
past false m n h q = (refl, q)

last_of : (a b c : Bool) → ((a && b) && c) ≡ true → c ≡ true
last_of true true c q = q
last_of true false c q = let z : ◌≡◌ {A = ℕ} 0 1 = cc in absurd (omega arith)
last_of false b c q = let z : ◌≡◌ {A = ℕ} 0 1 = cc in absurd (omega arith)

pub record Passed (st : Mempool) (places : ℕ) (txs ins : List ℕ) : Type 0 where
  pub agree : counts_agree txs ins ≡ true
  pub room : st.counts.pooled + 1 ≤ places

pub passed : (st : Mempool) (room : ℕ) (txs ins : List ℕ) → block_refusal st room txs ins ≡ 0 → Passed st room txs ins
unfolding block_refusal readable
passed st room txs ins h =
    let p = past st.pass.open 20 _ (λ z. omega arith) h in
    let q = past (not (readable txs ins)) 1 _ (λ z. omega arith) p.1 in
    let r = past (ltb room (st.counts.pooled + 1)) 2 0 (λ z. omega arith) q.1 in
    record { agree = last_of (whole 5 txs) (whole 4 ins) (counts_agree txs ins) (un_not (readable txs ins) q.0); room = ltb-false room (st.counts.pooled + 1) r.0 }

-- ---- the refusals on any words

-- where the counts do not fit, 20 or 1
unfoldable pub refusal_on : List ℕ → List ℕ → List ℕ → Mempool → ℕ → List ℕ → List ℕ → ℕ
refusal_on e b k st room txs ins = pick (not (cache_fits e b k st)) (pick st.pass.open 20 1) (block_refusal st room txs ins)

some-code : (t : Bool) → ◌≡◌ {A = ℕ} (pick t 20 1) 0 → ⊥
some-code true q = omega arith
some-code false q = omega arith

module _ (e b k : List ℕ) (st : Mempool) (room : ℕ) (txs ins : List ℕ) where
  pub code-none : refusal_on e b k st room txs ins ≡ 0 → (cache_fits e b k st ≡ true) × (block_refusal st room txs ins ≡ 0)
  unfolding refusal_on
  code-none h = let p = past (not (cache_fits e b k st)) (pick st.pass.open 20 1) _ (some-code st.pass.open) h in (un_not _ p.0, p.1)

  pub code-unfit : cache_fits e b k st ≡ false → refusal_on e b k st room txs ins ≡ pick st.pass.open 20 1
  unfolding refusal_on
  code-unfit h = rw h

  pub code_fits : cache_fits e b k st ≡ true → refusal_on e b k st room txs ins ≡ block_refusal st room txs ins
  unfolding refusal_on
  code_fits h = rw h
