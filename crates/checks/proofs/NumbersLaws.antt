-- The definitions of a submission's tests give no other number than those of `refusals` (specs/Numbers.antt).
use Rattle.peers.specs.Peers.{Standing}
use Rattle.std.specs.Prelude.{ℕ, ◌+◌, not, List, eqb, ltb}
use Rattle.std.proofs.Math.Path.{refl}
use Rattle.std.proofs.Math.Bool.{true}
use Rattle.words.specs.Ids.{id_of}
use Rattle.pool_types.specs.declared.Mempool.{Mempool}
use Rattle.pool_types.specs.declared.Submission.{Submission}
use Rattle.arguments.specs.Arguments.{records, height_key, ahead_of}
use Rattle.expiring_cache.specs.Cache.{Held, held}
use Rattle.entries.specs.Entries.{Entry, pooled}
use Rattle.boxes.specs.Records.{index}
use Rattle.indexes.specs.Resolved.{all_resolved, submitted}
use Rattle.pool.specs.Pool.{Tables, no_room}
use Rattle.checks.specs.Checks.{remote, first, state_refusal, list_refusal, refusal_of}
use Rattle.checks.specs.Numbers.{Code, either, gives, passes, call-code, peer-code}

module _ (st : Mempool) (a : Submission) (ins outs : List ℕ) where
  state-code : (rows : List Held) (es : List Entry) (at : Standing) → Code (state_refusal st rows es at a)
  unfolding state_refusal
  state-code rows es at =
      gives (held st.config.invalidation_ttl a.time (id_of a.id) rows) 22 _ refl
      (gives (pooled (id_of a.id) es) 23 _ refl
      (either (remote a.source) _ _ (peer-code st at) passes))

  list_code : (most E R : ℕ) (t : Tables) → Code (list_refusal most E R t a ins outs)
  unfolding list_refusal
  list_code most E R t =
      gives (ltb most (records 5 ins)) 7 _ refl
      (gives (no_room E R t (records 5 ins + records 7 outs)) 27 _ refl
      (gives (not (all_resolved (index true t.boxes) (submitted ins))) 28 _ refl
      (gives (ahead_of (height_key 7 6 outs) a.preheader) 8 _ refl passes)))

  first_code : (m n : ℕ) → Code m → Code n → Code (first m n)
  first_code m n p q = either (eqb m 0) n m q p

  -- the definitions give no other number
  pub refusal-code : (most E R room : ℕ) (t : Tables) (rows : List Held) (at : Standing) → Code (refusal_of most E R st room t rows at a ins outs)
  unfolding refusal_of
  refusal-code most E R room t rows at =
      first_code _ _ (call-code st room a ins outs) (first_code _ _ (state-code rows t.entries at) (list_code most E R t))
