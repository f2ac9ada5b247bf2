-- What a line leaves, as the contracts say it: one record, of the words and of what is held at exit, against a line of the definitions.
use Rattle.std.specs.Prelude.{ℕ, ◌/◌, ◌≤◌, min, true, ◌≡◌, refl, List, length}
use Rattle.boxes.specs.Flat.{count_of, ids_to}
use Rattle.forms.specs.Nums.{Prints}
use Rattle.store.specs.World.{world_of}
use Rattle.store.specs.Fits.{Kept as Sound}
use Rattle.peers.specs.Flat.{records}
use Rattle.pool_types.specs.Outcomes.{Outcome}
use Rattle.pool_types.specs.declared.Mempool.{Mempool}
use Rattle.stats.specs.declared.FeeStats.{FeeStats}
use Rattle.cleanup.specs.Passes.{pass_of}
use Rattle.console.specs.Console.{Line, same}
use Rattle.pool_types.specs.Outcomes.{written_of}
use Rattle.console.specs.Kept.{Kept}

-- a line's effect: what is held after it, and the length of its answer
pub record Told : Type 0 where
  pub kept : Kept
  pub len : ℕ

-- the store is kept
pub record Holds (e b k p a : List ℕ) (h : Kept) : Type 0 where
  pub store : Sound e b k (records p) h.mempool
  pub written : h.written ≤ count_of 4 a

-- what the answer of a call that writes ids is made of: the state m and the statistics s that are held then, the ids in the answer buffer, of which
-- those count that it has places for, and the text of these
pub record ToldOf (a : List ℕ) (m : Mempool) (s : FeeStats) (n : Outcome) (text : List ℕ → List ℕ) (o₀ o : List ℕ) (t : Told) : Type 0 where
  pub ready : t.kept.ready ≡ true
  pub mempool : t.kept.mempool ≡ m
  pub stats : t.kept.stats ≡ s
  pub written : t.kept.written ≡ min (written_of n) (length a / 4)
  pub prints : Prints (text (ids_to 4 a t.kept.written)) 0 o₀ o t.len

pub record After (e b k p a o₀ o : List ℕ) (t : Told) (m : Line) : Type 0 where
  pub holds : Holds e b k p a t.kept
  pub prints : Prints m.text 0 o₀ o t.len
  pub ready : t.kept.ready ≡ m.ready
  pub config : t.kept.mempool.config ≡ m.config
  pub pass : pass_of t.kept.mempool.pass ≡ m.pass
  pub world : world_of e b k (records p) t.kept.mempool ≡ m.world
  pub stats : t.kept.stats ≡ m.stats
  pub written : ids_to 4 a t.kept.written ≡ m.written

-- nothing but the text
pub after_same : (e b k p a o₀ o : List ℕ) (h : Kept) (n : ℕ) (t : List ℕ) → Holds e b k p a h → Prints t 0 o₀ o n → After e b k p a o₀ o (record { kept = h; len = n }) (same e b k p a h t)
unfolding same
after_same e b k p a o₀ o h n t y q = record { holds = y; prints = q; ready = refl; config = refl; pass = refl; world = refl; stats = refl; written = refl }
