-- The selection for a rebroadcast, entry by entry.
use Rattle.std.specs.Prelude.{ℕ, ◌+◌, ◌/◌, ◌≤◌, ◌<◌, Bool, not, List, [], ◌∷◌, ◌++◌, map, take, drop, Ok, Err, eqb}
use Rattle.std.specs.Prelude.{Result as Outcome_of}
use Rattle.std.proofs.Math.Path.{◌≡◌, refl, ap, subst}
use Rattle.std.proofs.Common.{sym, ◌∙◌, zero-add, take-append-drop, length-append, take_at, take_all}
use Rattle.std.proofs.Math.Bool.{true, false}
use native.Mathlib.Omega.{arith}
use Rattle.std.proofs.Math.Dec.{ltb}
use Rattle.std.proofs.Math.ListN.{length}
use borrow.Author.Tests.{ltb-false, eq-eqb}
use Rattle.words.specs.Lists.{pick, yes, no, keep, keep_append, map-append}
use Rattle.words.specs.Tables.{of_none, of-suc}
use Rattle.pool_types.specs.declared.Mempool.{Mempool}
use Rattle.pool_types.specs.declared.Refusal.{Refusal}
use Rattle.pool_types.specs.Refusals.{refusal_number, code_of}
use Rattle.pool_types.specs.Outcomes.{Outcome, wrote, listed_of}
use Rattle.arguments.specs.Arguments.{whole}
use Rattle.peers.specs.declared.PeerRecord.{PeerRecord}
use Rattle.entries.specs.Entries.{Entry}
use Rattle.entries.specs.Layout.{entry_at, entries_of, entries}
use Rattle.boxes.specs.Records.{BoxRec}
use Rattle.boxes.specs.Flat.{ids_of}
use Rattle.boxes.specs.Layout.{boxes_of}
use Rattle.boxes.specs.Index.{BoxesKept}
use Rattle.answers.specs.Answers.{Wrote, wrote_nothing, wrote-both}
use Rattle.pool.specs.Pool.{Tables, tables_of}
use Rattle.store.specs.World.{World, world_of, Result}
use Rattle.cleanup.specs.Rebroadcast.{sendable, chosen, rebroadcast_refusal, rebroadcast}
use Rattle.cleanup.specs.Post.{Sent, Told}
use Rattle.cleanup.specs.Numbers.{of_rebroadcast, rebroadcast-refuses}
use Rattle.cleanup.specs.Laws.{never}

-- of an entry, its id or none
abbrev sent : List ℕ → List BoxRec → Entry → List ℕ
sent cs rs e = pick (sendable cs rs e) (e.id ∷ []) []

-- one entry was looked at: n ids stood in the buffer l, and r stand in m
pub record SelectedOne (l m : List ℕ) (cs : List ℕ) (rs : List BoxRec) (e : Entry) (n r : ℕ) : Type 0 where
  pub wrote : Wrote l m n (sent cs rs e)
  pub count : r ≡ n + length (sent cs rs e)

-- all that are due were written
pub record Selected (l m : List ℕ) (most : ℕ) (cs : List ℕ) (t : Tables) (r : ℕ) : Type 0 where
  pub wrote : Wrote l m 0 (chosen most cs t)
  pub count : r ≡ length (chosen most cs t)

-- ---- so far

-- the ids of the first i entries that qualify
abbrev sofar : List ℕ → List BoxRec → List ℕ → ℕ → List ℕ
sofar cs rs l i = map (λ e. e.id) (keep (sendable cs rs) (entries_of l i))

-- of the first i of N entries n were written, and no more than are to be; where the index of the k box records in the words b is right, those that qualify
pub record Selecting (l₀ l : List ℕ) (most : ℕ) (cs b : List ℕ) (k : ℕ) (es : List ℕ) (N i n : ℕ) : Type 0 where
  pub size : length l ≡ length l₀
  pub few : n ≤ most
  pub below : n ≤ i
  pub low : i ≤ N
  pub wrote : BoxesKept b k → Wrote l₀ l 0 (sofar cs (boxes_of b k) es i)
  pub count : BoxesKept b k → n ≡ length (sofar cs (boxes_of b k) es i)

module _ (cs : List ℕ) (rs : List BoxRec) (es : List ℕ) where
  sofar-suc : (i : ℕ) → sofar cs rs es (i + 1) ≡ sofar cs rs es i ++ sent cs rs (entry_at es i)
  sofar-suc i =
      ap (λ x. map (λ e. e.id) (keep (sendable cs rs) x)) (of-suc entries es i)
      ∙ ap (map (λ e. e.id)) (keep_append (sendable cs rs) (entries_of es i) (entry_at es i ∷ []))
      ∙ map-append (λ e. e.id) (keep (sendable cs rs) (entries_of es i)) (keep (sendable cs rs) (entry_at es i ∷ []))
      ∙ ap (λ x. sofar cs rs es i ++ x) (one (sendable cs rs (entry_at es i)))
    where
      one : (t : Bool) → map (λ e. e.id) (pick t (entry_at es i ∷ []) []) ≡ pick t ((entry_at es i).id ∷ []) []
      one true = refl
      one false = refl

  -- what is written before is the front of all
  front : (i N : ℕ) → i ≤ N → take (length (sofar cs rs es i)) (sofar cs rs es N) ≡ sofar cs rs es i
  front i N h = rw split (take_at (sofar cs rs es i) _ _ refl)
    where
      split : sofar cs rs es N ≡ sofar cs rs es i ++ map (λ e. e.id) (keep (sendable cs rs) (drop i (entries_of es N)))
      split =
          ap (λ x. map (λ e. e.id) (keep (sendable cs rs) x)) (sym (take-append-drop i (entries_of es N)) ∙ ap (λ x. x ++ drop i (entries_of es N)) (entries.first es i N h))
          ∙ ap (map (λ e. e.id)) (keep_append (sendable cs rs) (entries_of es i) (drop i (entries_of es N)))
          ∙ map-append (λ e. e.id) (keep (sendable cs rs) (entries_of es i)) (keep (sendable cs rs) (drop i (entries_of es N)))

module _ (cs b : List ℕ) (k : ℕ) (es : List ℕ) (most N : ℕ) where
  pub selecting-none : (l : List ℕ) → Selecting l l most cs b k es N 0 0
  selecting-none l =
      record {
        size = refl;
        few = omega arith;
        below = omega arith;
        low = omega arith;
        wrote = λ g. rw (of_none entries es) (wrote_nothing l 0);
        count = λ g. rw (of_none entries es);
      }

  module _ {l₀ l : List ℕ} {i n : ℕ} (s : Selecting l₀ l most cs b k es N i n) where
    pub selecting-more : {m : List ℕ} {r : ℕ} → i < N → n < most → length m ≡ length l → r ≤ n + 1 → (BoxesKept b k → SelectedOne l m cs (boxes_of b k) (entry_at es i) n r)
        → Selecting l₀ m most cs b k es N (i + 1) r
    selecting-more {m} {r} h g z j o =
        record {
          size = z ∙ s.size;
          few = omega arith;
          below = omega (arith, s.below);
          low = omega arith;
          wrote = λ x. rw (sofar-suc cs rs es i) (wrote-both l₀ l m 0 n _ (sent cs rs (entry_at es i)) (s.count x) (s.wrote x) (rw (zero-add n) (o x).wrote));
          count = λ x.
              rw (sofar-suc cs rs es i) ((o x).count ∙ ap (λ k. k + length (sent cs rs (entry_at es i))) (s.count x) ∙ sym (length-append (sofar cs rs es i) (sent cs rs (entry_at es i))));
        }
      where
        rs : List BoxRec
        rs = boxes_of b k

    -- as many as are to be
    pub selecting-full : (t : Tables) → t.entries ≡ entries_of es N → t.boxes ≡ boxes_of b k → most ≤ n → BoxesKept b k → Selected l₀ l most cs t n
    unfolding chosen
    selecting-full t p q h x = record { wrote = rw all (s.wrote x); count = rw all (s.count x) }
      where
        all : chosen most cs t ≡ sofar cs (boxes_of b k) es i
        all =
            let e : most ≡ length (sofar cs (boxes_of b k) es i) = omega (arith, s.few, s.count x) in
            rw (p, q, e) (front cs (boxes_of b k) es i N s.low)

    -- all were looked at
    pub selecting-all : (t : Tables) → t.entries ≡ entries_of es N → t.boxes ≡ boxes_of b k → N ≤ i → BoxesKept b k → Selected l₀ l most cs t n
    unfolding chosen
    selecting-all t p q h x = record { wrote = rw all (s.wrote x); count = rw all (s.count x) }
      where
        all : chosen most cs t ≡ sofar cs (boxes_of b k) es i
        all =
            let e : N ≡ i = omega (arith, s.low) in
            rw (p, q, e) (take_all most (sofar cs (boxes_of b k) es i) (omega (arith, s.few, s.count x)))

-- ---- a rebroadcast

sent-as : {l m : List ℕ} {o : Outcome} {w : World} {s t : Result} → s ≡ t → Sent l m o w t → Sent l m o w s
sent-as q h = rw q h

module _ (l : List ℕ) (st : Mempool) (confirmed : List ℕ) (v : Outcome_of Unit Refusal) (q : code_of v ≡ rebroadcast_refusal st (length l / 4) confirmed) where
  -- each id has its place
  pub sent-placed : code_of v ≡ 0 → {r : ℕ} → r ≤ st.counts.pooled → r ≤ length l / 4
  unfolding rebroadcast_refusal
  sent-placed h {r} s = room (not (whole 4 confirmed)) (ltb (length l / 4) (st.counts.pooled + 1)) refl (sym q ∙ h)
    where
      room : (t u : Bool) → ltb (length l / 4) (st.counts.pooled + 1) ≡ u → ◌≡◌ {A = ℕ} (pick t 1 (pick u 2 0)) 0 → r ≤ length l / 4
      room true u x z = absurd (omega arith)
      room false true x z = absurd (omega arith)
      room false false x z = omega (arith, ltb-false (length l / 4) (st.counts.pooled + 1) x)

  module _ (e b k : List ℕ) (ys : List PeerRecord) where
    pub sent-refused : (r : Refusal) → v ≡ Err r → of_rebroadcast v ≡ true → Sent l l (listed_of (Err r)) (world_of e b k ys st) (rebroadcast st (world_of e b k ys st) (length l / 4) confirmed)
    unfolding rebroadcast listed_of
    sent-refused r z o =
        let h : eqb (refusal_number r) 0 ≡ false = rebroadcast-refuses r (subst (λ (x : Outcome_of Unit Refusal). of_rebroadcast x ≡ true) z o) in
        rw (← (sym (ap code_of z) ∙ q)) (sent-as (no _ _ _ h) (record { outcome = refl; world = refl; wrote = wrote_nothing l 0; placed = omega arith }))

    pub sent-selected : code_of v ≡ 0 → (m : List ℕ) (r : ℕ) → r ≤ st.counts.pooled → Selected l m st.config.rebroadcast_count (ids_of 4 confirmed) (tables_of e b st.counts) r
        → Sent l m (listed_of (Ok r)) (world_of e b k ys st) (rebroadcast st (world_of e b k ys st) (length l / 4) confirmed)
    unfolding rebroadcast listed_of
    sent-selected h m r f s = rw (← q) (sent-as (yes _ _ _ (eq-eqb (code_of v) 0 h)) (record { outcome = ap wrote s.count; world = refl; wrote = s.wrote; placed = omega (arith, s.count, sent-placed h f) }))

-- ---- on any words

module _ {o : Outcome} (l : List ℕ) where
  pub told_wrote : (m : List ℕ) (r : ℕ) → o ≡ wrote r → r ≤ length l / 4 → Told l m o
  told_wrote m r e h = record { refusal = λ x y q. never cc; few = λ n q. let z : r ≡ n = cc in omega arith }
