-- A submission whose caller holds the peer records in flat words: the first 256 are read into an array, lent, and stored back.
use Rattle.std.specs.Prelude.{ℕ, ◌+◌, ◌*◌, ◌-◌, ◌/◌, ◌≤◌, ◌<◌, ◌≡◌, refl, Bool, true, List, [], ◌∷◌, eqb, length, get_or, take, drop, set}
use Rattle.std.proofs.Common.{sym, ap, ◌∙◌, add-one, arith, length-set, take_all, take-suc, take-suc-set, drop-drop, drop-set-lt, get_or-drop, ext_get_or}
use Rattle.std.proofs.Math.Bool.{false}
use Rattle.std.proofs.Math.Dec.{ltb}
use borrow.Author.Tests.{eqb-true, eqb-false, ltb-true, ltb-false, le-ltb}
use Rattle.words.specs.Lists.{pick}
use Rattle.words.specs.Rows.{stored, recs-store}
use Rattle.words.specs.Tables.{of-suc, of_none, put-end}
use Rattle.pool_types.specs.declared.Done.{Done}
use Rattle.pool_types.specs.declared.ProcessingOutcome.{ProcessingOutcome}
use Rattle.pool_types.specs.declared.Mempool.{Mempool}
use Rattle.pool_types.specs.declared.Submission.{Submission}
use Rattle.pool_types.specs.declared.ProcessingOutcome.TheVariants.{Declined}
use Rattle.pool_types.specs.Refusals.{refusal_number}
use Rattle.pool_types.specs.declared.Refusal.{Refusal}
use Rattle.pool_types.specs.Outcomes.{Outcome, refused, needed, processed_of}
use Rattle.expiring_cache.specs.Layout.{cache_of}
use Rattle.peers.specs.Peers.{peer_of, no_peer, peers_of}
use Rattle.peers.specs.Flat.{peer_dec, flat_peers, records, flats, flat-at}
use Rattle.peers.specs.declared.PeerRecord.{PeerRecord}
use Rattle.pool.specs.Pool.{tables_of}
use Rattle.store.specs.World.{world, world_of, Result}
use Rattle.store.specs.Fits.{Fits, Kept, all_fit}
use Rattle.store.specs.Spares.{Lent, lent, charging, Spared, Spares, spares-same}
use Rattle.pool_types.specs.Outcomes.{written_of}
use Rattle.process.specs.Post.{Post}
use Rattle.process.specs.Numbers.{of_submission, unfit-ours}
use Rattle.process.specs.Promises.{ProcessPromise, Submits}

-- ---- what is said of the words

-- the peer words were p and are q: in a refusal that does not charge, and at 'verdict needed', not a word is another
pub record SparesPeers (o : Outcome) (p q : List ℕ) : Type 0 where
  pub asked : o ≡ needed → q ≡ p
  pub refusal : (j i : ℕ) → o ≡ refused j i → charging j ≡ false → q ≡ p

-- all that a submission promises of peer words that were p and are q: what it promises of the records that they hold, and the above
abbrev SubmitsWords : List ℕ → List ℕ → List ℕ → List ℕ → Mempool → Submission → List ℕ → List ℕ → List ℕ → List ℕ → List ℕ → List ℕ → List ℕ → List ℕ → Done ProcessingOutcome → Type 0
SubmitsWords e b k p st sub ins outs e' b' k' q a a' r =
    ProcessPromise e b k (records p) st sub ins outs e' b' k' (records q) a a' r
    × (of_submission (processed_of r.outcome) ≡ true)
    × (all_fit e b k (length p / 2) st ≡ false → processed_of r.outcome ≡ refused (pick st.pass.open 20 1) 0)
    × Spares (processed_of r.outcome) (lent e b k (records p) a st) (lent e' b' k' (records q) a' r.mempool)
    × (written_of (processed_of r.outcome) ≤ length a / 4)
    × SparesPeers (processed_of r.outcome) p q

-- ---- reading: the first i records of the words p were read into the array ys

pub record Loaded (p : List ℕ) (ys : List PeerRecord) (i : ℕ) : Type 0 where
  pub size : length ys ≡ 256
  pub first : take i ys ≡ flat_peers p i

module _ (p : List ℕ) (ys : List PeerRecord) where
  pub loaded-none : length ys ≡ 256 → Loaded p ys 0
  loaded-none l = record { size = l; first = sym (of_none flats p) }

  pub loaded-next : (i : ℕ) → Loaded p ys i → i < 256 → Loaded p (set ys i (peer_of (get_or p (i * 2) 0) (get_or p (i * 2 + 1) 0))) (i + 1)
  loaded-next i h b =
      record {
        size = length-set ys i _ ∙ h.size;
        first = rw add-one (take-suc-set ys i _ (omega (arith, h.size)) ∙ rw (h.first, ← flat-at p i)) ∙ sym (of-suc flats p i);
      }

-- ---- storing: the words were p and are q, and the first i of the records ys are stored

pub record Stored (p q : List ℕ) (ys : List PeerRecord) (i : ℕ) : Type 0 where
  pub kept : length q ≡ length p
  pub first : flat_peers q i ≡ take i ys
  pub rest : drop (i * 2) q ≡ drop (i * 2) p

-- two words stored are one record stored
flat-store : (l : List ℕ) (p c at : ℕ) → at * 2 + 2 ≤ length l → (n : ℕ) → flat_peers (stored l (at * 2) (p ∷ c ∷ [])) n ≡ set (flat_peers l n) at (peer_of p c)
unfolding flat_peers peer_dec
flat-store l p c at room n = recs-store 2 peer_dec l (p ∷ c ∷ []) at refl room n

pub stored-none : (p : List ℕ) (ys : List PeerRecord) → Stored p p ys 0
stored-none p ys = record { kept = refl; first = of_none flats p; rest = refl }

module _ (p q : List ℕ) (ys : List PeerRecord) (i : ℕ) (h : Stored p q ys i) (b : i < length ys) (room : i * 2 + 2 ≤ length q) where
  behind : (w c : ℕ) → drop ((i + 1) * 2) (set (set q (i * 2) w) (i * 2 + 1) c) ≡ drop ((i + 1) * 2) p
  behind w c =
      let e : (i + 1) * 2 ≡ i * 2 + 2 = omega arith in
      drop-set-lt ((i + 1) * 2) (set q (i * 2) w) (i * 2 + 1) c (omega arith)
      ∙ drop-set-lt ((i + 1) * 2) q (i * 2) w (omega arith)
      ∙ rw e (sym (drop-drop 2 (i * 2) q) ∙ ap (drop 2) h.rest ∙ drop-drop 2 (i * 2) p)

  pub stored_next : Stored p (set (set q (i * 2) (get_or ys i no_peer).peer) (i * 2 + 1) (get_or ys i no_peer).cost) ys (i + 1)
  stored_next =
      record {
        kept = simp length-set h.kept;
        first = put-end flats q _ i (get_or ys i no_peer) (flat-store q _ _ i room) ∙ rw (h.first, add-one) (sym (take-suc ys i no_peer b));
        rest = behind _ _;
      }

pub stored-all : (p q : List ℕ) (ys : List PeerRecord) (i : ℕ) → Stored p q ys i → i ≡ 256 → Stored p q ys 256
stored-all p q ys i h e = rw (← e) h

-- ---- the words are told by the first n records and what is behind them

module _ (l m : List ℕ) (n : ℕ) (size : length m ≡ length l) (firsts : flat_peers m n ≡ flat_peers l n) (rest : drop (n * 2) m ≡ drop (n * 2) l) where
  same-record : (i : ℕ) → i < n → peer_of (get_or m (i * 2) 0) (get_or m (i * 2 + 1) 0) ≡ peer_of (get_or l (i * 2) 0) (get_or l (i * 2 + 1) 0)
  same-record i h =
      sym (flat-at m i) ∙ sym (flats.get m n i no_peer h) ∙ ap (λ (ys : List PeerRecord). get_or ys i no_peer) firsts ∙ flats.get l n i no_peer h ∙ flat-at l i

  word_in : (j : ℕ) → j < n * 2 → get_or m j 0 ≡ get_or l j 0
  word_in j h = go (eqb j (j / 2 * 2)) refl
    where
      go : (t : Bool) → eqb j (j / 2 * 2) ≡ t → get_or m j 0 ≡ get_or l j 0
      go true q = let e : j ≡ j / 2 * 2 = eqb-true j _ q in rw e (ap (λ (r : PeerRecord). r.peer) (same-record (j / 2) (omega arith)))
      go false q = let e : j ≡ j / 2 * 2 + 1 = omega (arith, eqb-false j _ q) in rw e (ap (λ (r : PeerRecord). r.cost) (same-record (j / 2) (omega arith)))

  word-behind : (j : ℕ) → n * 2 ≤ j → get_or m j 0 ≡ get_or l j 0
  word-behind j h =
      let e : j ≡ n * 2 + (j - n * 2) = omega arith in
      rw e (sym (get_or-drop (n * 2) m (j - n * 2) 0) ∙ ap (λ (r : List ℕ). get_or r (j - n * 2) 0) rest ∙ get_or-drop (n * 2) l (j - n * 2) 0)

  same-words : m ≡ l
  same-words = ext_get_or 0 m l size (λ j _. go j (ltb j (n * 2)) refl)
    where
      go : (j : ℕ) (t : Bool) → ltb j (n * 2) ≡ t → get_or m j 0 ≡ get_or l j 0
      go j true q = word_in j (ltb-true j _ q)
      go j false q = word-behind j (ltb-false j _ q)

-- ---- the first 256 are all that a submission looks at

module _ (p : List ℕ) (room : 512 ≤ length p) where
  many : 256 ≤ length (records p)
  many = omega (arith, flats.len p (length p / 2))

  firsts : (n : ℕ) → n ≤ 256 → peers_of (records p) n ≡ peers_of (flat_peers p 256) n
  firsts n h = flats.first p n (length p / 2) (omega arith) ∙ sym (flats.first p n 256 h)

  module _ (e b k : List ℕ) (st : Mempool) where
    narrow-fits : Fits e b k (records p) st → Fits e b k (flat_peers p 256) st
    narrow-fits f = record { tests = f.tests; keeps = f.keeps; records = omega (arith, flats.len p 256); used = f.used }

    narrow : Kept e b k (records p) st → Kept e b k (flat_peers p 256) st
    narrow h = record { fits = narrow-fits h.fits; indexed = h.indexed }

    wide_fits : Fits e b k (flat_peers p 256) st → Fits e b k (records p) st
    wide_fits f = record { tests = f.tests; keeps = f.keeps; records = many; used = f.used }

    wide : Kept e b k (flat_peers p 256) st → Kept e b k (records p) st
    wide h = record { fits = wide_fits h.fits; indexed = h.indexed }

    same-world : st.sums.peers ≤ 256 → world_of e b k (records p) st ≡ world_of e b k (flat_peers p 256) st
    same-world h = ap (world (tables_of e b st.counts) (cache_of k st.cached) st.sums.interblock_cost) (firsts st.sums.peers h)

    same_test : all_fit e b k (length (flat_peers p 256)) st ≡ all_fit e b k (length p / 2) st
    unfolding all_fit
    same_test =
        let m : ltb (length p / 2) 256 ≡ false = le-ltb (length p / 2) 256 (omega arith) in
        let n : ltb (length (flat_peers p 256)) 256 ≡ false = le-ltb (length (flat_peers p 256)) 256 (omega (arith, flats.len p 256)) in
        rw (m, n)

  wide-post : {st : Mempool} {r : Done ProcessingOutcome} {e b k a₀ a : List ℕ} {s : Result} → Post st r e b k (flat_peers p 256) a₀ a s → Post st r e b k (records p) a₀ a s
  wide-post {r = r} {e} {b} {k} h =
      record {
        kept = wide e b k r.mempool h.kept;
        config = h.config;
        pass = h.pass;
        outcome = h.outcome;
        world = same-world e b k r.mempool h.kept.fits.used ∙ h.world;
        wrote = h.wrote;
      }

-- ---- as the call claims it

-- fewer words than 256 records
pub too_few : (e b k p a : List ℕ) (st : Mempool) (sub : Submission) (ins outs : List ℕ) {r : Refusal} → length p < 512 → refusal_number r ≡ pick st.pass.open 20 1
    → SubmitsWords e b k p st sub ins outs e b k p a a (record { mempool = st; outcome = Declined r })
unfolding processed_of written_of
too_few e b k p a st sub ins outs few q = (
  (λ f. absurd (omega (arith, f.fits.records, flats.len p (length p / 2), few))),
  unfit-ours st.pass.open _ q,
  (λ _. ap (λ (j : ℕ). refused j 0) q),
  spares-same _ _,
  omega arith,
  record { asked = λ _. refl; refusal = λ j i _ _. refl },
)

-- what was stored is what the words hold
held : (p q : List ℕ) (zs : List PeerRecord) → length zs ≡ 256 → Stored p q zs 256 → zs ≡ flat_peers q 256
held p q zs size back = sym (take_all 256 zs (omega arith)) ∙ sym back.first

-- the same records are the same words
module _ {p q : List ℕ} {ys zs : List PeerRecord} (read : ys ≡ flat_peers p 256) (size : length zs ≡ 256) (back : Stored p q zs 256) where
  unmoved : zs ≡ ys → q ≡ p
  unmoved h = same-words p q 256 back.kept (sym (held p q zs size back) ∙ h ∙ read) back.rest

  spared-words : {j : ℕ} {e b k a : List ℕ} {st : Mempool} {e' b' k' a' : List ℕ} {st' : Mempool}
      → Spared j (lent e b k ys a st) (lent e' b' k' zs a' st') → Spared j (lent e b k (records p) a st) (lent e' b' k' (records q) a' st')
  spared-words h =
      record {
        tables = h.tables;
        cache = h.cache;
        peers = λ z. (ap records (unmoved (h.peers z).0), (h.peers z).1);
        answer = h.answer;
        rest = h.rest;
      }

  same-lent : {e b k a : List ℕ} {st : Mempool} {e' b' k' a' : List ℕ} {st' : Mempool} → lent e' b' k' zs a' st' ≡ lent e b k ys a st → lent e' b' k' (records q) a' st' ≡ lent e b k (records p) a st
  same-lent h =
      let u : q ≡ p = unmoved (ap (λ (m : Lent). m.peers) h) in
      λ i. lent (h i).entries (h i).boxes (h i).cache (records (u i)) (h i).answer (h i).state

  spares-words : {o : Outcome} {e b k a : List ℕ} {st : Mempool} {e' b' k' a' : List ℕ} {st' : Mempool}
      → Spares o (lent e b k ys a st) (lent e' b' k' zs a' st') → Spares o (lent e b k (records p) a st) (lent e' b' k' (records q) a' st') × SparesPeers o p q
  spares-words h = (
    record { asked = λ z. same-lent (h.asked z); refusal = λ j i z. spared-words (h.refusal j i z) },
    record { asked = λ z. unmoved (ap (λ (m : Lent). m.peers) (h.asked z)); refusal = λ j i z c. unmoved ((h.refusal j i z).peers c).0 },
  )

pub in_words : (e b k p a : List ℕ) (st : Mempool) (sub : Submission) (ins outs : List ℕ) {e' b' k' q a' : List ℕ} {ys zs : List PeerRecord} {r : Done ProcessingOutcome} → 512 ≤ length p
    → ys ≡ flat_peers p 256 → length zs ≡ 256 → Stored p q zs 256 → Submits e b k ys st sub ins outs e' b' k' zs a a' r
    → SubmitsWords e b k p st sub ins outs e' b' k' q a a' r
in_words e b k p a st sub ins outs {q = q} {zs = zs} room read size back h =
    let s = spares-words read size back h.3 in (
      (λ f.
          rw (same-world p room e b k st f.fits.used)
          (wide-post q (omega (arith, back.kept)) (rw (← held p q zs size back, ← read) (h.0 (rw read (narrow p room e b k st f)))))),
      h.1,
      (λ off. h.2 (rw read (same_test p room e b k st ∙ off))),
      s.0,
      h.4,
      s.1,
    )
