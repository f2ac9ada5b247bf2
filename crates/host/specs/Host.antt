-- What the C side's words stand for.
use Rattle.std.specs.Prelude.{None, Option, Some}
use Rattle.std.specs.Prelude.{ℕ, ◌≤◌, ◌<◌, ◌≡◌, List, eqb, leb}
use Rattle.std.proofs.Common.{le-leb}
use Rattle.std.proofs.lemmas.Bool.{lt-leb}
use Rattle.words.specs.Lists.{pick}
use Rattle.words.specs.Sums.{cap}
use Rattle.entries.specs.Entries.{place_of}
use Rattle.entries.specs.Layout.{entries_of, entries_room}
use Rattle.pool_types.specs.declared.FeeStrategy.{FeeStrategy}
use Rattle.pool_types.specs.declared.FeeStrategy.TheVariants.{FeePerByte, FeePerCycle}

-- how transactions are weighed: 0 is by byte, any other word by cycle
abbrev pub strategy_of : ℕ → FeeStrategy
strategy_of w = pick (eqb w 0) FeePerByte FeePerCycle

-- a place as a number: 2^64−1 stands for nowhere
abbrev pub place_number : Option ℕ → ℕ
place_number (Some i) = i
place_number None = cap

unfoldable pub rank_of : List ℕ → ℕ → ℕ → ℕ
rank_of e n k = pick (leb n (entries_room e)) (place_number (place_of k (entries_of e n))) cap

module _ (e : List ℕ) (n k : ℕ) where
  pub rank-short : entries_room e < n → cap ≡ rank_of e n k
  unfolding rank_of
  rank-short h = rw (lt-leb _ _ h)

  pub rank-found : n ≤ entries_room e → (p : Option ℕ) → p ≡ place_of k (entries_of e n) → place_number p ≡ rank_of e n k
  unfolding rank_of
  rank-found h p q = rw (le-leb _ _ h, q)
