-- Demand 3 (document 01): over every list of calls from what an accepted start left, the pool is what the ledger says.
use Rattle.pool_types.specs.declared.Refusal.TheVariants.{Settings}
use Rattle.pool_types.specs.declared.Refusal.{Refusal}
use Rattle.std.specs.Prelude.{Err, Ok}
use Rattle.std.specs.Prelude.{ℕ, ◌+◌, ◌≤◌, max, Bool, not, List, [], ◌∷◌, map, leb, ltb, length}
use Rattle.std.proofs.Math.Path.{◌≡◌, refl, ap}
use Rattle.std.proofs.Common.{sym, subst, ◌∙◌, arith}
use Rattle.std.proofs.Math.Bool.{true, false}
use Rattle.std.proofs.lemmas.Simd.{map-map}
use Rattle.std.proofs.Math.Dec.{eqb}
use borrow.Author.Tests.{leb-true, ltb-false, eqb-true, eqb-false}
use Rattle.words.specs.Lists.{pick}
use Rattle.words.specs.Find.{found}
use Rattle.pool_types.specs.declared.Mempool.{Mempool}
use Rattle.pool_types.specs.declared.MempoolConfig.{MempoolConfig}
use Rattle.pool_types.specs.declared.Submission.{Submission}
use Rattle.pool_types.specs.Outcomes.{Outcome, Reading, declined, did, offers, fails, tells, reading_of, written_of}
use Rattle.entries.specs.Entries.{Entry}
use Rattle.boxes.specs.Records.{BoxRec, Pair, inputs_of, outputs_of}
use Rattle.pool.specs.Pool.{Tables}
use Rattle.words.specs.Tables.{of_none}
use Rattle.entries.specs.Layout.{kept-none as entries_none}
use Rattle.boxes.specs.Index.{kept-none as boxes-none}
use Rattle.expiring_cache.specs.Layout.{kept-none as cache-none}
use Rattle.entries.specs.Layout.{entries}
use Rattle.entries.specs.Layout.{ok-room as entries-room}
use Rattle.boxes.specs.Layout.{no-boxes}
use Rattle.boxes.specs.Layout.{room-ok as boxes-room}
use Rattle.expiring_cache.specs.Layout.{ok-room as cache-room}
use Rattle.store.specs.World.{World, world_of}
use Rattle.store.specs.Fits.{goes_on, un_not}
use Rattle.cleanup.specs.Passes.{PassNow, pass_of, no_pass, still}
use Rattle.cleanup.specs.Laws.{no-id}
use Rattle.expiring_cache.specs.Layout.{no_rows}
use Rattle.peers.specs.declared.PeerRecord.{PeerRecord}
use Rattle.mempool.specs.Start.{Sizes, sized, settled, within, empty, started}
use Rattle.ledger.specs.Book.{Tx, Book, ins_of, outs_of}
use Rattle.ledger.proofs.ChargeLaws.{in-among}
use Rattle.ledger.proofs.Same.{Brief, brief_of, view_of, SameBook}
use Rattle.ledger.proofs.SameLaws.{same_none as book-none}
use Rattle.ledger.proofs.SameLaws.{same_ok}
use Rattle.admit.specs.Admit.{admit_spec}
use Rattle.admit.specs.Placed.{placed}
use Rattle.ledger.proofs.SameCharges.{same_none as charges-none}
use Rattle.ledger.proofs.Readings.{Named, found-same, ids-once, in-strict-order, length-same, pooled-same, weights-same, inputs-same, outputs-same, named-spender, named-producer}
use Rattle.ledger.proofs.BookCredits.{credits-for-chains}
use Rattle.ledger.specs.Ledger.{Call, Submit, Return, Block, Invalidate, Open, Next, Answer, Start, Ask, Ledger, Heard, told, enters_submission, hears_submission, ledger, visit_cap}
use Rattle.ledger.specs.Run.{Moment, moment, world_at, KeptAt, pass_at, sizes_at, Becomes, Step, nothing, Begun, Run, begin, call}
use Rattle.ledger.proofs.Steps.{kept-made}
use Rattle.ledger.specs.Demand3.{Known, pooled_as, held_as, Names, CreditsChains, FailsExactly, OfSubmit, EverySubmission, Demand3}
use Rattle.ledger.proofs.Agrees.{Bounds, SameWorld, Recalls, Agrees}
use Rattle.ledger.proofs.AgreesSubmission.{submission-agrees, submission-fails}
use Rattle.ledger.proofs.AgreesCalls.{return-agrees, invalidation-agrees, block-agrees}
use Rattle.ledger.proofs.AgreesPasses.{open-agrees, next-agrees, answer-agrees, still-agrees}

-- ---- one call

module _ (g : MempoolConfig) (bounds : Bounds g) (m k : Moment) (l : Ledger) (o : Outcome) (s : Agrees g m l) where
  step-agrees : (c : Call) → Step c o m k → Agrees g k (ledger g c o l)
  unfolding ledger
  step-agrees (Submit a ins outs) x = submission-agrees g bounds m k l a ins outs o s x
  step-agrees (Return u ins outs) x = return-agrees g m k l u ins outs o s x
  step-agrees (Block time txs ins) x = block-agrees g m k l time txs ins o s x
  step-agrees (Invalidate time j) x = invalidation-agrees g m k l time j o s x
  step-agrees (Open time limit preheader) x = open-agrees g m k l o s time limit preheader x
  step-agrees Next x = next-agrees g m k l o s x
  step-agrees (Answer flags v) x = answer-agrees g m k l o s flags v x
  step-agrees (Start time c) x = still-agrees g m k l o s x.left
  step-agrees (Ask q) x = still-agrees g m k l o s x

  step-limits : (c : Call) → Step c o m k → OfSubmit (λ a ins outs. FailsExactly g a.source (reading_of o) l.charged) c
  step-limits (Submit a ins outs) x = submission-fails g bounds m k l a ins outs o s x
  step-limits (Return u ins outs) x = tt
  step-limits (Block time txs ins) x = tt
  step-limits (Invalidate time j) x = tt
  step-limits (Open time limit preheader) x = tt
  step-limits Next x = tt
  step-limits (Answer flags v) x = tt
  step-limits (Start time c) x = tt
  step-limits (Ask q) x = tt

-- ---- the walks, on the ledger alone

credits-chains : (g : MempoolConfig) (a : Submission) (ins outs : List ℕ) (r : Reading) (l : Ledger) → CreditsChains g a ins outs r l.book (hears_submission g a ins outs r l).book
unfolding hears_submission enters_submission
credits-chains g a ins outs (did n) l = record { made = refl; once = λ e longest h j. credits-for-chains _ _ _ _ e longest h j }
credits-chains g a ins outs (declined n k) l = tt
credits-chains g a ins outs (offers k) l = tt
credits-chains g a ins outs (fails k) l = tt
credits-chains g a ins outs tells l = tt

call-chains : (g : MempoolConfig) (c : Call) (o : Outcome) (l : Ledger) → OfSubmit (λ a ins outs. CreditsChains g a ins outs (reading_of o) l.book (ledger g c o l).book) c
unfolding ledger
call-chains g (Submit a ins outs) o l = credits-chains g a ins outs (reading_of o) l
call-chains g (Return u ins outs) o l = tt
call-chains g (Block time txs ins) o l = tt
call-chains g (Invalidate time j) o l = tt
call-chains g (Open time limit preheader) o l = tt
call-chains g Next o l = tt
call-chains g (Answer flags v) o l = tt
call-chains g (Start time c) o l = tt
call-chains g (Ask q) o l = tt

every-chain : (g : MempoolConfig) (h : List Heard) → EverySubmission (λ a ins outs r l k. CreditsChains g a ins outs r l.book k.book) g h
every-chain g [] = tt
every-chain g (x ∷ h) = (call-chains g x.call x.outcome (told g h), every-chain g h)

-- ---- what an accepted start left

-- a start that is accepted hands back the empty state, and its tests were met
pub record Accepted (z : Sizes) (g : MempoolConfig) (st : Mempool) : Type 0 where
  pub size : sized z ≡ true
  pub fine : settled z g ≡ true
  pub state : st ≡ empty g

pub accepted-start : (z : Sizes) (g : MempoolConfig) (st : Mempool) → started z g ≡ Ok st → Accepted z g st
unfolding started
accepted-start z g st e = go (sized z) refl (settled z g) refl e
  where
    no-ready : {A : Type 0} (f : Refusal) → Err f ≡ Ok st → A
    no-ready f q = let y : ◌≡◌ {A = ℕ} 0 1 = cc in absurd (omega arith)

    go : (t : Bool) → sized z ≡ t → (u : Bool) → settled z g ≡ u → pick t (pick u (Ok (empty g)) (Err Settings)) (Err Settings) ≡ Ok st → Accepted z g st
    go true p true q x = record { size = p; fine = q; state = cc }
    go true p false q x = no-ready Settings x
    go false p u q x = no-ready Settings x

bounds_of : (z : Sizes) (g : MempoolConfig) → settled z g ≡ true → 1 ≤ g.cost_per_peer_per_block → Bounds g
unfolding settled
bounds_of z g fine one =
    let p = goes_on (leb z.entries g.capacity) _ fine in
    let q = goes_on (ltb z.cache g.invalidation_capacity) _ p.1 in
    let r = goes_on (ltb 9223372036854775808 g.cost_per_block) _ q.1 in
    record { block = ltb-false _ _ r.0; peer = leb-true _ _ r.1; one = one }

start-agrees : (m : Moment) (g : MempoolConfig) → Begun g m → Agrees g m (told g [])
start-agrees m g b =
    record {
      kept = b.kept;
      config = b.config;
      world = subst (λ (w : World). SameWorld g w (told g [])) (sym b.world) (record { book = book-none; charges = charges-none; fair = tt });
      given = subst (λ (x : PassNow). Recalls x (told g [])) (sym b.pass) (λ x. let y : ◌≡◌ {A = ℕ} 0 1 = cc in absurd (omega arith));
    }

-- the empty state holds nothing, in any words
pub empty-world : (e b k : List ℕ) (ys : List PeerRecord) (g : MempoolConfig) → world_of e b k ys (empty g) ≡ nothing
unfolding empty
empty-world e b k ys g = rw (of_none entries e, no-boxes b, no_rows k)

pub empty-pass : (g : MempoolConfig) → pass_of (empty g).pass ≡ no_pass
unfolding empty
empty-pass g = rw no-id

-- the state that an accepted start of this very store handed back
module _ (m : Moment) (g : MempoolConfig) (e : started (sizes_at m) g ≡ Ok m.state) where
  met : Accepted (sizes_at m) g m.state
  met = accepted-start (sizes_at m) g m.state e

  start-kept : KeptAt (moment m.entries m.boxes m.cache m.peers (empty g))
  unfolding sized settled empty
  start-kept =
      let p = goes_on (not (within (sizes_at m).entries 4096)) _ met.size in
      let q = goes_on (not (within (sizes_at m).boxes 65536)) _ p.1 in
      let r = goes_on (not (within (sizes_at m).cache 10000)) _ q.1 in
      let j = goes_on (leb (sizes_at m).entries g.capacity) _ met.fine in
      let k = goes_on (ltb (sizes_at m).cache g.invalidation_capacity) _ j.1 in
      kept-made (moment m.entries m.boxes m.cache m.peers (empty g))
      (record { pool = record { entries = entries-room m.entries 0 (omega arith); boxes = boxes-room m.boxes 0 (omega arith) }; cache = cache-room m.cache 0 (omega arith) })
      (fits-cache g.invalidation_capacity _ (within-one _ _ (un_not _ r.0)) (ltb-false _ _ k.0))
      (omega arith)
      (omega (arith, eqb-true (length m.peers) 256 r.1))
      (record { pool = record { entries = entries_none m.entries; boxes = boxes-none m.boxes }; cache = cache-none m.cache })
    where
      within-one : (n most : ℕ) → within n most ≡ true → 1 ≤ n
      within-one n most h = by (eqb n 0) refl h
        where
          by : (t : Bool) → eqb n 0 ≡ t → pick t false (leb n most) ≡ true → 1 ≤ n
          by true p z = let y : ◌≡◌ {A = ℕ} 0 1 = cc in absurd (omega arith)
          by false p z = let y : n ≡ 0 → ⊥ = eqb-false n 0 p in omega (arith, y)

      fits-cache : (a b : ℕ) → 1 ≤ b → a ≤ b → max a 1 ≤ b
      fits-cache a b p q = omega arith

  begun-empty : Begun g (moment m.entries m.boxes m.cache m.peers (empty g))
  unfolding empty
  begun-empty =
      record {
        sizes = sizes_at m;
        accepted = e ∙ ap Ok met.state;
        kept = start-kept;
        config = refl;
        world = empty-world m.entries m.boxes m.cache m.peers g;
        pass = empty-pass g;
      }

  pub start-begins : Begun g m
  start-begins = subst (λ (x : Mempool). Begun g (moment m.entries m.boxes m.cache m.peers x)) (sym met.state) begun-empty

-- ---- a list of calls

pub record Told (g : MempoolConfig) (h : List Heard) (m : Moment) : Type 0 where
  pub bounds : Bounds g
  pub agrees : Agrees g m (told g h)
  pub limits : EverySubmission (λ a ins outs r l k. FailsExactly g a.source r l.charged) g h

pub told-begin : (g : MempoolConfig) (m : Moment) → Begun g m → 1 ≤ g.cost_per_peer_per_block → Told g [] m
told-begin g m b one = record { bounds = bounds_of b.sizes g (accepted-start b.sizes g (empty g) b.accepted).fine one; agrees = start-agrees m g b; limits = tt }

module _ (g : MempoolConfig) {h : List Heard} {m n : Moment} (t : Told g h m) where
  pub told-call : (c : Call) (o : Outcome) → Step c o m n → Told g (record { call = c; outcome = o } ∷ h) n
  told-call c o x = record {
    bounds = t.bounds;
    agrees = step-agrees g t.bounds m n (told g h) o t.agrees c x;
    limits = (step-limits g t.bounds m n (told g h) o t.agrees c x, t.limits);
  }

  -- what decodes alike
  pub told-still : (o : Outcome) → Becomes m n o (still o (world_at m) (pass_at m)) → Told g h n
  told-still o x = record { bounds = t.bounds; agrees = still-agrees g m n (told g h) o t.agrees x; limits = t.limits }

pub run-told : (g : MempoolConfig) {h : List Heard} {m : Moment} → Run g h m → Told g h m
run-told g (begin m b one) = told-begin g m b one
run-told g (call c o n r x) = told-call g (run-told g r) c o x

-- ---- what the agreement says of pool and ledger

abbrev own : Tx → Known
own x = record { id = x.id; base = x.base; ins = x.ins; outs = x.outs }

abbrev read_by : List Tx → ℕ → Tx → Known
read_by ts k x = record { id = x.id; base = x.base; ins = ins_of k ts; outs = outs_of k ts }

-- one that was found by its id has that id
by-id : (ts : List Tx) (k : ℕ) (us : List Tx) → map (λ x. read_by ts x.id x) (found (λ x. x.id) k us) ≡ map (read_by ts k) (found (λ x. x.id) k us)
by-id ts k [] = refl
by-id ts k (u ∷ us) = go (eqb u.id k) refl (by-id ts k us)
  where
    go : (t : Bool) → eqb u.id k ≡ t → map (λ x. read_by ts x.id x) (found (λ x. x.id) k us) ≡ map (read_by ts k) (found (λ x. x.id) k us)
        → map (λ x. read_by ts x.id x) (pick t (u ∷ []) (found (λ x. x.id) k us)) ≡ map (read_by ts k) (pick t (u ∷ []) (found (λ x. x.id) k us))
    go true q h = ap (λ j. read_by ts j u ∷ []) (eqb-true u.id k q)
    go false q h = h

-- and the boxes found by that id are its own
by-own : (k : ℕ) (ts : List Tx) → map (read_by ts k) (found (λ x. x.id) k ts) ≡ map own (found (λ x. x.id) k ts)
by-own k [] = refl
by-own k (t ∷ ts) = go (eqb t.id k) (by-own k ts)
  where
    go : (u : Bool) → map (read_by ts k) (found (λ x. x.id) k ts) ≡ map own (found (λ x. x.id) k ts)
        → map {B = Known} (λ x. record { id = x.id; base = x.base; ins = pick u t.ins (ins_of k ts); outs = pick u t.outs (outs_of k ts) }) (pick u (t ∷ []) (found (λ x. x.id) k ts))
        ≡ map own (pick u (t ∷ []) (found (λ x. x.id) k ts))
    go true h = refl
    go false h = h

module _ (t : Tables) (b : Book) (s : SameBook t b) where
  -- a transaction as the book holds it, its boxes read by its id
  abbrev read : Brief → Known
  read x = record { id = x.id; base = x.base; ins = ins_of x.id b.txs; outs = outs_of x.id b.txs }

  -- as entry and records have it
  read_as_known : ◌≡◌ {A = Entry → Known} (λ e. record { id = e.id; base = e.base; ins = inputs_of e.id t.boxes; outs = outputs_of e.id t.boxes }) (λ e. read (brief_of e))
  read_as_known = λ i e. record { id = e.id; base = e.base; ins = inputs-same t b s e.id i; outs = outputs-same t b s e.id i }

  pub known : (k : ℕ) → pooled_as k t ≡ held_as k b
  known k =
      ap (λ (f : Entry → Known). map f (found (λ e. e.id) k t.entries)) read_as_known
      ∙ sym (map-map read brief_of (found (λ e. e.id) k t.entries))
      ∙ ap (map read) (found-same t b s k)
      ∙ map-map read view_of (found (λ x. x.id) k b.txs)
      ∙ by-id b.txs k b.txs
      ∙ by-own k b.txs

  named_by : (f : ℕ → List BoxRec → List ℕ) (h : ℕ → List Tx → List ℕ) → ((k : ℕ) → f k t.boxes ≡ h k b.txs) → (ps : List Pair) → Named h b.txs ps → Names f t ps
  named_by f h q [] n = tt
  named_by f h q (p ∷ ps) n = (pooled-same t b s p.id ∙ n.0, in-among p.box (f p.id t.boxes) (rw (q p.id) n.1), named_by f h q ps n.2)

-- Demand 3.
pub told-demand3 : (g : MempoolConfig) (h : List Heard) (m : Moment) → Told g h m → Demand3 g h m
told-demand3 g h m z =
    let t : Tables = (world_at m).tables in
    let b : Book = (told g h).book in
    let s : SameBook t b = z.agrees.world.book in
    record {
      ids-distinct = ids-once t b s;
      as_many = length-same t b s;
      transactions = known t b s;
      spenders = s.spenders;
      producers = s.producers;
      order = in-strict-order t b s;
      named-spenders = rw s.spenders (named_by t b s inputs_of ins_of (inputs-same t b s) b.spenders (named-spender t b s));
      named-producers = rw s.producers (named_by t b s outputs_of outs_of (outputs-same t b s) b.producers (named-producer t b s));
      weights = weights-same t b s;
      chains = every-chain g h;
      charges = z.agrees.world.fair;
      refusals = z.limits;
    }

pub demand3 : (g : MempoolConfig) (h : List Heard) (m : Moment) → Run g h m → Demand3 g h m
demand3 g h m r = told-demand3 g h m (run-told g r)

-- ---- ids written

-- "answer buffer below pooled + 1 ids" is refused with 2, so after every list of calls each id that a submission's outcome counts has its place, and it
-- counts every id that is to be written
pub told-placed : (g : MempoolConfig) (h : List Heard) (m : Moment) → Told g h m → (a : Submission) (c room : ℕ) (ins outs : List ℕ) → length (world_at m).tables.entries + 1 ≤ room
    → written_of (admit_spec visit_cap room g (world_at m).tables a c ins outs).outcome ≡ length (admit_spec visit_cap room g (world_at m).tables a c ins outs).written
told-placed g h m z a c room ins outs l =
    placed visit_cap room g (world_at m).tables a c ins outs (same_ok (world_at m).tables (told g h).book z.agrees.world.book) l
