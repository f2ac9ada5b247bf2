-- A submission (document 01, "A submission"), whole: what it answers and all that it leaves, as a function of the decoded store, the state and
-- the arguments. The tests are crate checks', what follows a valid verdict is crate admit's.
use Rattle.peers.specs.Peers.{Standing}
use Rattle.std.specs.Prelude.{ℕ, List, [], eqb}
use Rattle.words.specs.Lists.{pick}
use Rattle.words.specs.Ids.{id_of}
use Rattle.pool_types.specs.declared.Mempool.{Mempool}
use Rattle.pool_types.specs.declared.Submission.{Submission}
use Rattle.pool_types.specs.declared.Source.{Source}
use Rattle.pool_types.specs.declared.Source.TheVariants.{Local, Peer}
use Rattle.pool_types.specs.declared.Verdict.{Verdict}
use Rattle.pool_types.specs.declared.Verdict.TheVariants.{Valid, Invalid, Absent}
use Rattle.pool_types.specs.Outcomes.{refused, needed}
use Rattle.expiring_cache.specs.Cache.{remember}
use Rattle.peers.specs.Peers.{standing, charge_peer}
use Rattle.peers.specs.declared.PeerRecord.{PeerRecord}
use Rattle.store.specs.World.{World, world, Result, unchanged}
use Rattle.checks.specs.Checks.{refusal_of}
use Rattle.admit.specs.Admit.{Admitted, cost_of, charged_sum, admit_spec}

-- ---- limits: 5,000 inputs, 500 visits, and what the lent tables hold

pub record Limits : Type 0 where
  pub inputs : ℕ
  pub visits : ℕ
  pub entries : ℕ
  pub boxes : ℕ

-- ---- after the tests

-- where its peer stands; a local one stands nowhere
abbrev pub standing_of : Source → List PeerRecord → Standing
standing_of Local ps = standing [] 0
standing_of (Peer p) ps = standing ps p

-- "A charge adds the cost .. to the peer's record, taking a free one if it has none"
abbrev pub charged_peers : Source → ℕ → List PeerRecord → List PeerRecord
charged_peers Local cost ps = ps
charged_peers (Peer p) cost ps = charge_peer p cost ps

abbrev pub admitted : Admitted → World → Submission → ℕ → Result
admitted d w a c =
    record {
      outcome = d.outcome;
      world =
          record {
            tables = d.tables;
            cache = w.cache;
            sum = charged_sum a.source w.sum (cost_of c a.size);
            peers = charged_peers a.source (cost_of c a.size) w.peers;
          };
      written = d.written;
    }

-- "then an absent verdict answers 'verdict needed', changing nothing (added); 9; a remote peer is charged; ..". 9: "invalid verdict; the id enters the cache"
unfoldable pub judged : ℕ → ℕ → Mempool → World → Submission → List ℕ → List ℕ → Verdict → Result
judged visits room st w a ins outs Absent = unchanged needed w
judged visits room st w a ins outs Invalid =
    record {
      outcome = refused 9 0;
      world = world w.tables (remember st.config.invalidation_capacity a.time (id_of a.id) w.cache) w.sum w.peers;
      written = [];
    }
judged visits room st w a ins outs (Valid c) = admitted (admit_spec visits room st.config w.tables a c ins outs) w a c

-- ---- the whole

-- a refusal's number, or what follows where there is none
abbrev pub unless_refused : ℕ → Result → World → Result
unless_refused n r w = pick (eqb n 0) r (unchanged (refused n 0) w)

-- `room`: the ids that the answer buffer holds
unfoldable pub processed : Limits → Mempool → World → ℕ → Submission → List ℕ → List ℕ → Result
processed m st w room a ins outs =
    unless_refused
    (refusal_of m.inputs m.entries m.boxes st room w.tables w.cache (standing_of a.source w.peers) a ins outs)
    (judged m.visits room st w a ins outs a.verdict)
    w
