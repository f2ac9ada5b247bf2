-- What a submission leaves, as its contract says it: one record, of words, peer records and state at exit, against a result of the definitions.
use Rattle.peers.specs.Peers.{Standing}
use Rattle.std.specs.Prelude.{ℕ, ◌/◌, ◌≡◌, List, length}
use Rattle.std.proofs.Common.{eq-eqb, ne_eqb}
use Rattle.words.specs.Lists.{yes, no}
use Rattle.pool_types.specs.declared.Done.{Done}
use Rattle.pool_types.specs.declared.ProcessingOutcome.{ProcessingOutcome}
use Rattle.pool_types.specs.declared.Mempool.{Mempool}
use Rattle.pool_types.specs.declared.Submission.{Submission}
use Rattle.pool_types.specs.declared.Verdict.{Verdict}
use Rattle.pool_types.specs.declared.Verdict.TheVariants.{Valid}
use Rattle.pool_types.specs.Outcomes.{refused, processed_of}
use Rattle.peers.specs.declared.PeerRecord.{PeerRecord}
use Rattle.entries.specs.Layout.{entries_room}
use Rattle.boxes.specs.Layout.{boxes_room}
use Rattle.answers.specs.Answers.{Wrote}
use Rattle.checks.specs.Checks.{refusal_of}
use Rattle.admit.specs.Admit.{admit_spec}
use Rattle.store.specs.World.{World, world_of, Result, unchanged}
use Rattle.store.specs.Fits.{Kept}
use Rattle.process.specs.Process.{Limits, standing_of, admitted, judged, processed}

-- the limits of tables in these words
abbrev pub limits_of : List ℕ → List ℕ → Limits
limits_of e b = record { inputs = 5000; visits = 500; entries = entries_room e; boxes = boxes_room b }

-- what is to come of a submission on these words and peer records, with an answer buffer of the words a
abbrev pub result_of : List ℕ → List ℕ → List ℕ → List PeerRecord → List ℕ → Mempool → Submission → List ℕ → List ℕ → Result
result_of e b k ys a st sub ins outs = processed (limits_of e b) st (world_of e b k ys st) (length a / 4) sub ins outs

-- from the state st, r was handed back; the words are now those of e, b and k, the peer records those of ys, and the answer buffer's words were a₀ and
-- are a
pub record Post (st : Mempool) (r : Done ProcessingOutcome) (e b k : List ℕ) (ys : List PeerRecord) (a₀ a : List ℕ) (s : Result) : Type 0 where
  pub kept : Kept e b k ys r.mempool
  pub config : r.mempool.config ≡ st.config
  pub pass : r.mempool.pass ≡ st.pass
  pub outcome : processed_of r.outcome ≡ s.outcome
  pub world : world_of e b k ys r.mempool ≡ s.world
  pub wrote : Wrote a₀ a 0 s.written

-- ---- way by way

pub judged-valid : (visits room : ℕ) (st : Mempool) (w : World) (a : Submission) (ins outs : List ℕ) {v : Verdict} (c : ℕ) → v ≡ Valid c
    → judged visits room st w a ins outs v ≡ admitted (admit_spec visits room st.config w.tables a c ins outs) w a c
unfolding judged
judged-valid visits room st w a ins outs c q = rw q

-- ---- a refusal's number that is not 0 is the outcome; else the verdict is judged

module _ (m : Limits) (st : Mempool) (w : World) (room : ℕ) (a : Submission) (ins outs : List ℕ) {n : ℕ} {at : Standing} (q : at ≡ standing_of a.source w.peers)
    (e : n ≡ refusal_of m.inputs m.entries m.boxes st room w.tables w.cache at a ins outs) where
  pub stopped : (n ≡ 0 → ⊥) → processed m st w room a ins outs ≡ unchanged (refused n 0) w
  unfolding processed
  stopped h = rw (← q, ← e) (no _ _ _ (ne_eqb n 0 h))

  pub goes_on : n ≡ 0 → processed m st w room a ins outs ≡ judged m.visits room st w a ins outs a.verdict
  unfolding processed
  goes_on h = rw (← q, ← e) (yes _ _ _ (eq-eqb n 0 h))
