-- Demand 3 (document 01), as one record: its sentences in its order, over every list of calls from what an accepted start left. The ledger is
-- `told g h`; the pool is what the lent words decode to.
use Rattle.std.specs.Prelude.{ℕ, ◌≤◌, ◌≡◌, Bool, true, false, not, ◌&&◌, List, [], ◌∷◌, ◌++◌, map, leb, length, replicate}
use Rattle.words.specs.Lists.{count, Once}
use Rattle.words.specs.Find.{found}
use Rattle.words.specs.Ids.{id_of}
use Rattle.pool_types.specs.declared.MempoolConfig.{MempoolConfig}
use Rattle.pool_types.specs.declared.Submission.{Submission}
use Rattle.pool_types.specs.declared.Source.{Source}
use Rattle.pool_types.specs.declared.Source.TheVariants.{Local, Peer}
use Rattle.pool_types.specs.Outcomes.{Reading, declined, did, offers, fails, tells, reading_of}
use Rattle.entries.specs.Entries.{Entry, pooled}
use Rattle.entries.specs.Entries.{weight_of as entry_weight, key_of as entry_id}
use Rattle.entries.specs.InOrder.{Strict}
use Rattle.boxes.specs.Among.{among}
use Rattle.boxes.specs.Records.{BoxRec, Pair, index, inputs_of, outputs_of}
use Rattle.pool.specs.Pool.{Tables}
use Rattle.family.specs.Chains.{over, chains}
use Rattle.ledger.specs.Book.{Book, tx_weight, walks, evicts, parents_in}
use Rattle.ledger.specs.Charges.{Charge, total_charged, charged_to, payers, Fair}
use Rattle.ledger.specs.Ledger.{Call, Submit, Return, Block, Invalidate, Open, Next, Answer, Start, Ask, Ledger, visit_cap, submitted_base, entered, Heard, told}
use Rattle.ledger.specs.Run.{Moment, world_at}

-- ---- "the transactions .. exactly the ledger's": id, base, input and output box ids

pub record Known : Type 0 where
  pub id : ℕ
  pub base : ℕ
  pub ins : List ℕ
  pub outs : List ℕ

-- the pool's transaction of this id, or none: its entry, and the boxes of its records
abbrev pub pooled_as : ℕ → Tables → List Known
pooled_as k t = map (λ e. record { id = e.id; base = e.base; ins = inputs_of e.id t.boxes; outs = outputs_of e.id t.boxes }) (found (λ e. e.id) k t.entries)

-- the ledger's
abbrev pub held_as : ℕ → Book → List Known
held_as k b = map (λ x. record { id = x.id; base = x.base; ins = x.ins; outs = x.outs }) (found (λ x. x.id) k b.txs)

-- ---- "order weight falling, then id rising": each is strictly ahead of the next

abbrev pub PriorityOrder : List Entry → Type 0
PriorityOrder es = Strict entry_weight entry_id es

-- ---- "each index entry names a pooled transaction that has that box"

abbrev pub Names : (ℕ → List BoxRec → List ℕ) → Tables → List Pair → Type 0
Names boxes_of t [] = Unit {0}
Names boxes_of t (p ∷ ps) = (pooled p.id t.entries ≡ true) × (among p.box (boxes_of p.id t.boxes) ≡ true) × Names boxes_of t ps

-- ---- "a family walk that ended with no parent left credited once for every chain of spends"

-- the walk of transaction k, of base c, on the book b: eviction left of it the book that is `after`; and if it ended with no parent left, each transaction j
-- got c once for every chain of spends that ends at it, however long chains may be
pub record WalkCredits (capacity c k : ℕ) (b after : Book) : Type 0 where
  pub made : after ≡ evicts capacity (walks visit_cap c k b)
  pub once : over (parents_in b) visit_cap k ≡ [] → (longest : ℕ) → visit_cap ≤ longest → (j : ℕ)
      → map (λ t. t.credits) (found (λ t. t.id) j (walks visit_cap c k b).txs)
      ≡ map (λ t. replicate (count j (chains (parents_in b) visit_cap k longest)) c ++ t.credits) (found (λ t. t.id) j b.txs)

-- a submission that entered, where the book before the call was b: its walk ran on the book that it had entered ("In demand 3's ledger at that moment,
-- before eviction")
abbrev pub CreditsChains : MempoolConfig → Submission → List ℕ → List ℕ → Reading → Book → Book → Type 0
CreditsChains g a ins outs (did n) b after = WalkCredits g.capacity (submitted_base g a outs) (id_of a.id) (entered g a ins outs b) after
CreditsChains g a ins outs (declined n k) b after = Unit {0}
CreditsChains g a ins outs (offers k) b after = Unit {0}
CreditsChains g a ins outs (fails k) b after = Unit {0}
CreditsChains g a ins outs tells b after = Unit {0}

-- ---- "A submission that no earlier check refused fails 24 exactly if it is remote and that total is at its limit or above, 25 exactly if it is remote and
-- its peer's sum is, and 26 exactly if it is remote, its peer has had no charge since then and 256 others have."

-- it was refused with one of these numbers
abbrev pub refused_by : List ℕ → Reading → Bool
refused_by ns (declined n k) = among n ns
refused_by ns (did n) = false
refused_by ns (offers k) = false
refused_by ns (fails k) = false
refused_by ns tells = false

-- it is remote, and its peer passes a test
abbrev pub remote_with : Source → (ℕ → Bool) → Bool
remote_with Local test = false
remote_with (Peer p) test = test p

-- the checks before 24, in document 01's order
abbrev pub earlier : List ℕ
earlier = 20 ∷ 1 ∷ 2 ∷ 3 ∷ 4 ∷ 5 ∷ 22 ∷ 23 ∷ []

-- of a submission from `from`, of whose outcome r is read, where these were the charges since the last block
pub record FailsExactly (g : MempoolConfig) (from : Source) (r : Reading) (cs : List Charge) : Type 0 where
  pub fails-24 : refused_by earlier r ≡ false → refused_by (24 ∷ []) r ≡ remote_with from (λ p. leb g.cost_per_block (total_charged cs))
  pub fails-25 : refused_by (24 ∷ earlier) r ≡ false → refused_by (25 ∷ []) r ≡ remote_with from (λ p. leb g.cost_per_peer_per_block (charged_to p cs))
  pub fails-26 : refused_by (25 ∷ 24 ∷ earlier) r ≡ false → refused_by (26 ∷ []) r ≡ remote_with from (λ p. not (among p (payers cs)) && leb 256 (length (payers cs)))

-- ---- of every submission in the list, with the ledger before the call and after it

abbrev pub OfSubmit : (Submission → List ℕ → List ℕ → Type 0) → Call → Type 0
OfSubmit P (Submit a ins outs) = P a ins outs
OfSubmit P (Return u ins outs) = Unit {0}
OfSubmit P (Block time txs ins) = Unit {0}
OfSubmit P (Invalidate time k) = Unit {0}
OfSubmit P (Open time limit preheader) = Unit {0}
OfSubmit P Next = Unit {0}
OfSubmit P (Answer flags v) = Unit {0}
OfSubmit P (Start time c) = Unit {0}
OfSubmit P (Ask q) = Unit {0}

abbrev pub EverySubmission : (Submission → List ℕ → List ℕ → Reading → Ledger → Ledger → Type 0) → MempoolConfig → List Heard → Type 0
EverySubmission P g [] = Unit {0}
EverySubmission P g (x ∷ h) = OfSubmit (λ a ins outs. P a ins outs (reading_of x.outcome) (told g h) (told g (x ∷ h))) x.call × EverySubmission P g h

-- ---- demand 3

-- after the calls of h from an accepted start with the settings g, the pool is that of the moment m
pub record Demand3 (g : MempoolConfig) (h : List Heard) (m : Moment) : Type 0 where
  -- ids distinct
  pub ids-distinct : Once (map entry_id (world_at m).tables.entries)
  -- the transactions and both indexes exactly the ledger's
  pub as_many : length (world_at m).tables.entries ≡ length (told g h).book.txs
  pub transactions : (k : ℕ) → pooled_as k (world_at m).tables ≡ held_as k (told g h).book
  pub spenders : index false (world_at m).tables.boxes ≡ (told g h).book.spenders
  pub producers : index true (world_at m).tables.boxes ≡ (told g h).book.producers
  -- order: weight falling, then id rising
  pub order : PriorityOrder (world_at m).tables.entries
  -- each index entry names a pooled transaction that has that box
  pub named-spenders : Names inputs_of (world_at m).tables (index false (world_at m).tables.boxes)
  pub named-producers : Names outputs_of (world_at m).tables (index true (world_at m).tables.boxes)
  -- each weight the base plus the credits granted since it last entered, capped at 2^64−1
  pub weights : (k : ℕ) → map entry_weight (found (λ e. e.id) k (world_at m).tables.entries) ≡ map tx_weight (found (λ t. t.id) k (told g h).book.txs)
  -- a family walk that ended with no parent left credited once for every chain of spends
  pub chains : EverySubmission (λ a ins outs r l k. CreditsChains g a ins outs r l.book k.book) g h
  -- since the last block not refused, or the start, each charge found the total and its peer's sum below their limits
  pub charges : Fair g.cost_per_block g.cost_per_peer_per_block (told g h).charged
  -- 24, 25 and 26
  pub refusals : EverySubmission (λ a ins outs r l k. FailsExactly g a.source r l.charged) g h
