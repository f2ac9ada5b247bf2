-- Each call's contract gives its step: what the `ensures` of the calls cite, and from it a step of `Run`. What a call is not lent stays as it is. With
-- Run.antt this is the one place that knows how a store is lent.
use Rattle.pool_types.specs.Refusals.{refusal_number}
use Rattle.pool_types.specs.declared.Refusal.{Refusal}
use Rattle.std.specs.Prelude.{Err}
use Rattle.std.specs.Prelude.{ℕ, ◌/◌, ◌≤◌, max, ◌≡◌, refl, List, length}
use Rattle.std.proofs.Common.{ap, arith, length-take}
use Rattle.pool_types.specs.declared.Mempool.{Mempool}
use Rattle.pool_types.specs.declared.MempoolConfig.{MempoolConfig}
use Rattle.pool_types.specs.declared.Submission.{Submission}
use Rattle.pool_types.specs.declared.Verdict.{Verdict}
use Rattle.pool_types.specs.Outcomes.{Outcome, refused, processed_of, listed_of}
use Rattle.stats.specs.declared.FeeStats.{FeeStats}
use Rattle.expiring_cache.specs.Layout.{cache_room}
use Rattle.peers.specs.declared.PeerRecord.{PeerRecord}
use Rattle.pool.specs.Pool.{PoolFits}
use Rattle.store.specs.World.{Result}
use Rattle.store.specs.Fits.{Testable, Indexed}
use Rattle.mempool.specs.Start.{started}
use Rattle.process.specs.Promises.{ProcessPromise}
use Rattle.pool_types.specs.declared.Done.{Done}
use Rattle.pool_types.specs.declared.ProcessingOutcome.{ProcessingOutcome}
use Rattle.returns.specs.Post.{Meets}
use Rattle.returns.specs.Promises.{ReturnPromise, InvalidatePromise}
use Rattle.returns.specs.declared.UnconfirmedTx.{UnconfirmedTx}
use Rattle.blocks.specs.Post.{BlockPromise}
use Rattle.blocks.specs.declared.Applied.{Applied}
use Rattle.cleanup.specs.Passes.{pass_of, PassResult, still}
use Rattle.cleanup.specs.Post.{PassPost}
use Rattle.cleanup.specs.Promises.{OpenPromise, NextPromise, AnswerPromise}
use Rattle.ledger.specs.Ledger.{Query, Submit, Return, Block, Invalidate, Open, Next, Answer, Start, Ask}
use Rattle.ledger.specs.Run.{Moment, moment, world_at, KeptAt, pass_at, sizes_at, Became, pass_kept, Step}

-- ---- what it is that the store is kept

pub kept-made : (m : Moment) → Testable m.entries m.boxes m.cache m.state → max m.state.config.invalidation_capacity 1 ≤ cache_room m.cache → m.state.sums.peers ≤ 256
    → 256 ≤ length m.peers → Indexed m.entries m.boxes m.cache m.state → KeptAt m
kept-made m t k u r x = record { fits = record { tests = t; keeps = k; records = r; used = u }; indexed = x }

pub fits-pool : (m : Moment) → KeptAt m → PoolFits m.entries m.boxes m.state.counts
fits-pool m f = f.fits.tests.pool

-- the state's count of peer records is that of the records in use
pub used-is : (m : Moment) → KeptAt m → m.state.sums.peers ≡ length (world_at m).peers
used-is m f = omega (arith, length-take m.state.sums.peers m.peers, f.fits.used, f.fits.records)

-- ---- what the contracts of calls that leave the peers say

module _ (m : Moment) {e b k : List ℕ} {st : Mempool} {o : Outcome} where
  of_meets : {r : Result} → Meets m.state st o e b k m.peers r → Became m (moment e b k m.peers st) o (pass_kept m r)
  of_meets p = record { kept = p.kept; config = p.config; outcome = p.outcome; world = p.world; pass = ap pass_of p.pass }

  of-pass : {r : PassResult} → PassPost m.state st o e b k m.peers r → Became m (moment e b k m.peers st) o r
  of-pass p = record { kept = p.kept; config = p.config; outcome = p.outcome; world = p.world; pass = p.pass }

-- ---- the calls: e, b, k and ys are the words and records after the call, st and r what it handed back

module _ (m : Moment) where
  -- `process::process`; `was` and `are` are the words of its answer buffer
  pub submit-step : (a : Submission) (ins outs : List ℕ) {e b k : List ℕ} {ys : List PeerRecord} {was are : List ℕ} {r : Done ProcessingOutcome}
      → ProcessPromise m.entries m.boxes m.cache m.peers m.state a ins outs e b k ys was are r → Step (Submit a ins outs) (processed_of r.outcome) m (moment e b k ys r.mempool)
  submit-step a ins outs {was = was} h =
      record { room = length was / 4; left = λ f. let p = h f in record { kept = p.kept; config = p.config; outcome = p.outcome; world = p.world; pass = ap pass_of p.pass } }

  -- `returns::return_to_pool`
  pub return-step : (u : UnconfirmedTx) (ins outs : List ℕ) {e b : List ℕ} {st : Mempool} {o : Outcome}
      → ReturnPromise m.entries m.boxes m.state u ins outs e b st o → Step (Return u ins outs) o m (moment e b m.cache m.peers st)
  return-step u ins outs h = λ f. of_meets m (h m.cache m.peers f)

  -- `blocks::apply_block_at`
  pub block-step : (s : FeeStats) (time : ℕ) (txs ins : List ℕ) {e b k was are : List ℕ} {r : Applied}
      → BlockPromise m.entries m.boxes m.cache m.state s time txs ins e b k was are r → Step (Block time txs ins) (listed_of r.outcome) m (moment e b k m.peers r.mempool)
  block-step s time txs ins {was = was} h =
      record {
        room = length was / 4;
        stats = s;
        left = λ f. let p = h m.peers f in record { kept = p.kept; config = p.config; outcome = p.outcome; world = p.world; pass = ap pass_of p.pass };
      }

  -- `returns::invalidate`
  pub invalidate-step : (time x : ℕ) {e b k : List ℕ} {st : Mempool} {o : Outcome}
      → InvalidatePromise m.entries m.boxes m.cache m.state time x e b k st o → Step (Invalidate time x) o m (moment e b k m.peers st)
  invalidate-step time x h = λ f. of_meets m (h m.peers f)

  -- `cleanup::open`, which is lent nothing
  pub open_step : (time limit preheader : ℕ) {st : Mempool} {o : Outcome}
      → OpenPromise m.state time limit preheader st o → Step (Open time limit preheader) o m (moment m.entries m.boxes m.cache m.peers st)
  open_step time limit preheader h = λ f. of-pass m (h m.entries m.boxes m.cache m.peers f)

  -- `cleanup::next`, which reads the entries
  pub next-step : {st : Mempool} {o : Outcome} → NextPromise m.entries m.state st o → Step Next o m (moment m.entries m.boxes m.cache m.peers st)
  next-step h = λ f. of-pass m (h m.boxes m.cache m.peers f)

  -- `cleanup::answer`
  pub answer-step : (flags : List ℕ) (v : Verdict) {e b k : List ℕ} {st : Mempool} {o : Outcome}
      → AnswerPromise m.entries m.boxes m.cache m.state flags v e b k st o → Step (Answer flags v) o m (moment e b k m.peers st)
  answer-step flags v h = λ f. of-pass m (h m.peers f)

  -- nothing changed
  still-there : (o : Outcome) → KeptAt m → Became m m o (still o (world_at m) (pass_at m))
  still-there o f = record { kept = f; config = refl; outcome = refl; world = refl; pass = refl }

  -- `lent::start`, refused
  pub start-step : (time : ℕ) (c : MempoolConfig) (f : Refusal) → Err f ≡ started (sizes_at m) c → Step (Start time c) (refused (refusal_number f) 0) m m
  start-step time c f h = record { why = f; outcome = refl; post = h; left = still-there (refused (refusal_number f) 0) }

  -- a query, whatever it answered: the store is lent for reading, and the state is not handed back
  pub ask-step : (q : Query) (o : Outcome) → Step (Ask q) o m m
  ask-step q o = still-there o
