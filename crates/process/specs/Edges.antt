-- A submission on its edges, by computation: what each verdict leaves of an empty pool.
use Rattle.std.specs.Prelude.{ℕ, ◌≡◌, refl, false, List, [], ◌∷◌}
use Rattle.words.specs.Ids.{id_of}
use Rattle.pool_types.specs.declared.FeeStrategy.TheVariants.{FeePerByte}
use Rattle.pool_types.specs.declared.Mempool.{Mempool}
use Rattle.pool_types.specs.declared.Source.{Source}
use Rattle.pool_types.specs.declared.Source.TheVariants.{Local, Peer}
use Rattle.pool_types.specs.declared.Verdict.{Verdict}
use Rattle.pool_types.specs.declared.Verdict.TheVariants.{Valid, Invalid, Absent}
use Rattle.pool_types.specs.Outcomes.{refused, needed}
use Rattle.words.specs.declared.ids.Id.{Id}
use Rattle.arguments.specs.Arguments.{fee_of, height_key}
use Rattle.expiring_cache.specs.Cache.{Held}
use Rattle.peers.specs.Peers.{peer_of}
use Rattle.peers.specs.declared.PeerRecord.{PeerRecord}
use Rattle.indexes.specs.Resolved.{inputs_to}
use Rattle.checks.specs.Checks.{call_refusal, peer_refusal, state_refusal, list_refusal, refusal_of}
use Rattle.admit.specs.Admit.{charged_sum, admit_spec}
use Rattle.store.specs.World.{World, world, Result, unchanged}
use Rattle.process.specs.Process.{judged, processed}

abbrev three : Id
three = record { a = 0; b = 0; c = 0; d = 3 }

-- a pool that asks for a fee of 5 and lets a block and a peer cost 1,000
abbrev st : Mempool
st =
    record {
      config =
          record {
            capacity = 3;
            min_fee = 5;
            fee_strategy = FeePerByte;
            cleanup_interval = 0;
            rebroadcast_count = 0;
            invalidation_ttl = 9;
            invalidation_capacity = 2;
            cost_per_block = 1000;
            cost_per_peer_per_block = 1000;
          };
      counts = record { pooled = 0; records = 0 };
      cached = 0;
      sums = record { interblock_cost = 40; peers = 0 };
      pass = record { «open» = false; out = false; candidate = three; time = 0; limit = 0; preheader = 0; spent = 0 };
    }

abbrev store : List Held → ℕ → List PeerRecord → World
store k s p = world (record { entries = []; boxes = [] }) k s p

-- transaction 3 of this height, source and verdict, of size 300; it pays nothing
abbrev of : ℕ → Source → Verdict → Result
of height from v =
    processed (record { inputs = 5000; visits = 500; entries = 4; boxes = 4 }) st (store [] 40 []) 1
    (record { time = 7; id = three; size = 300; preheader = 50; source = from; verdict = v }) [] (0 ∷ 0 ∷ 0 ∷ 1 ∷ 9 ∷ 0 ∷ height ∷ [])

-- an absent verdict changes nothing, and 8 comes before it; an invalid one is remembered; after a valid one 10 is given and a peer's charge of
-- max(200, 300) stands, where a local one is not charged
edges : (of 50 (Peer 7) Absent ≡ unchanged needed (store [] 40 []))
    × (of 51 (Peer 7) Absent ≡ unchanged (refused 8 0) (store [] 40 []))
    × (of 50 (Peer 7) Invalid ≡ unchanged (refused 9 0) (store (record { id = id_of three; since = 7 } ∷ []) 40 []))
    × (of 50 (Peer 7) (Valid 200) ≡ unchanged (refused 10 0) (store [] 340 (peer_of 7 300 ∷ [])))
    × (of 50 Local (Valid 200) ≡ unchanged (refused 10 0) (store [] 40 []))
unfolding processed judged refusal_of call_refusal state_refusal peer_refusal list_refusal fee_of height_key inputs_to admit_spec charged_sum
edges = (refl, refl, refl, refl, refl)
