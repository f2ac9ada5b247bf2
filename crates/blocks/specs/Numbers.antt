-- The outcomes that document 01 gives a block, and that it gives no other, whatever it is asked.
use Rattle.std.specs.Prelude.{ℕ, ◌+◌, ◌≡◌, refl, Bool, true, false, not, Ok, Err, List, [], ◌∷◌, ltb}
use Rattle.std.proofs.Common.{◌∙◌}
use Rattle.words.specs.Lists.{pick}
use Rattle.pool_types.specs.declared.Mempool.{Mempool}
use Rattle.pool_types.specs.declared.Refusal.{Refusal}
use Rattle.pool_types.specs.Refusals.{refusal_number}
use Rattle.pool_types.specs.Outcomes.{Outcome, listed_of, refused, done, wrote, needed, candidate, ended, missing, invalid, valid, number, said, entry, none}
use Rattle.boxes.specs.Among.{among}
use Rattle.store.specs.Fits.{cache_fits}
use Rattle.blocks.specs.Blocks.{readable, block_refusal}
use Rattle.pool_types.specs.Refusals.{numbered}
use Rattle.blocks.specs.Tests.{refusal_on, code_fits, code-unfit}

-- so many ids were written, or 20, 1 or 2
unfoldable pub of_block : Outcome → Bool
of_block (refused n k) = among n (20 ∷ 1 ∷ 2 ∷ [])
of_block done = false
of_block (wrote k) = true
of_block needed = false
of_block (candidate k) = false
of_block (ended n) = false
of_block (missing k) = false
of_block (invalid k) = false
of_block (valid k) = false
of_block (number n) = false
of_block (said b) = false
of_block (entry k w b) = false
of_block none = false

pub removed-ours : (n : ℕ) → of_block (listed_of (Ok n)) ≡ true
unfolding of_block listed_of
removed-ours n = refl

-- a refusal that is one of the tests'
refused-ours : (t u v : Bool) (r : Refusal) → refusal_number r ≡ pick t 20 (pick u 1 (pick v 2 0)) → of_block (listed_of (Err r)) ≡ true
unfolding of_block listed_of
refused-ours true u v r e = rw e
refused-ours false true v r e = rw e
refused-ours false false true r e = rw e
refused-ours false false false r e = absurd (numbered r e)

code-ours : (st : Mempool) (room : ℕ) (txs ins : List ℕ) (r : Refusal) → refusal_number r ≡ block_refusal st room txs ins → of_block (listed_of (Err r)) ≡ true
unfolding block_refusal
code-ours st room txs ins r e = refused-ours st.pass.open (not (readable txs ins)) (ltb room (st.counts.pooled + 1)) r e

unfit-ours : (t : Bool) (r : Refusal) → refusal_number r ≡ pick t 20 1 → of_block (listed_of (Err r)) ≡ true
unfolding of_block listed_of
unfit-ours true r e = rw e
unfit-ours false r e = rw e

-- .. on any words
pub any-ours : (e b k : List ℕ) (st : Mempool) (room : ℕ) (txs ins : List ℕ) (r : Refusal) → refusal_number r ≡ refusal_on e b k st room txs ins → of_block (listed_of (Err r)) ≡ true
any-ours e b k st room txs ins r q = go (cache_fits e b k st) refl
  where
    go : (t : Bool) → cache_fits e b k st ≡ t → of_block (listed_of (Err r)) ≡ true
    go true z = code-ours st room txs ins r (q ∙ code_fits e b k st room txs ins z)
    go false z = unfit-ours st.pass.open r (q ∙ code-unfit e b k st room txs ins z)
