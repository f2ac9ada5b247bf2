-- Returns, invalidations and blocks keep the agreement.
use Rattle.std.specs.Prelude.{ℕ, ◌<◌, ◌≡◌, Bool, not, ◌&&◌, T, ltb}
use Rattle.std.proofs.Math.Path.{refl}
use Rattle.std.proofs.Common.{◌∙◌, arith, lit<, eqb-true}
use Rattle.std.proofs.Math.Bool.{true, false}
use mathlib.Core.List.{List, [], ◌∷◌}
use Rattle.std.proofs.Math.Dec.{eqb}
use Rattle.words.specs.Lists.{pick}
use Rattle.words.specs.Ids.{id_of}
use Rattle.pool_types.specs.declared.Mempool.{Mempool}
use Rattle.pool_types.specs.declared.MempoolConfig.{MempoolConfig}
use Rattle.pool_types.specs.Outcomes.{Outcome, refused, done, reading_of}
use Rattle.arguments.specs.Arguments.{whole}
use Rattle.stats.specs.declared.FeeStats.{FeeStats}
use Rattle.expiring_cache.specs.Cache.{remember}
use Rattle.entries.specs.Entries.{pooled}
use Rattle.entries.specs.Layout.{entries_room}
use Rattle.boxes.specs.Layout.{boxes_room}
use Rattle.boxes.specs.Flat.{ids_of}
use Rattle.pool.specs.Pool.{Tables, insert_tx, remove_tx}
use Rattle.store.specs.World.{World, world, Result, unchanged}
use Rattle.returns.specs.Returns.{return_refusal, returned_entry, returned, invalidated}
use Rattle.returns.specs.declared.UnconfirmedTx.{UnconfirmedTx}
use Rattle.blocks.specs.Blocks.{Confirmed, confirmed_of, Progress, begun, BlockResult, applied_txs, block_refusal, settled, applied}
use Rattle.ledger.specs.Book.{Book, leaves}
use Rattle.ledger.proofs.Same.{SameBook}
use Rattle.ledger.proofs.SameLaws.{same-enter, same-remove}
use Rattle.ledger.proofs.SameBlocks.{same-applied}
use Rattle.ledger.proofs.SameCharges.{same_none}
use Rattle.ledger.proofs.Admissions.{base-low}
use Rattle.ledger.specs.Ledger.{Return, Block, Invalidate, Ledger, with_book, is_refused, enters_return, confirms_all, mined}
use Rattle.ledger.specs.Run.{Moment, world_at, pass_kept, Step}
use Rattle.ledger.proofs.Agrees.{SameWorld, Agrees, became-agrees}

-- ---- a return

pub zero-not : (t : Bool) (n r : ℕ) → T (ltb 0 n) → pick t n r ≡ 0 → (t ≡ false) × (r ≡ 0)
zero-not true n r h e = let q : 0 < n = lit< h in absurd (omega arith)
zero-not false n r h e = (refl, e)

return_new : (E R : ℕ) (st : Mempool) (t : Tables) (u : UnconfirmedTx) (ins outs : List ℕ) → return_refusal E R st t u ins outs ≡ 0 → pooled (id_of u.id) t.entries ≡ false
unfolding return_refusal
return_new E R st t u ins outs e =
    let q = zero-not st.pass.open 20 _ tt e in
    let r = zero-not (not (whole 4 ins && whole 5 outs)) 1 _ tt q.1 in
    let v = zero-not (ltb 98304 u.size) 3 _ tt r.1 in
    (zero-not (pooled (id_of u.id) t.entries) 23 _ tt v.1).0

module _ (g : MempoolConfig) (E R : ℕ) (st : Mempool) (c : st.config ≡ g) (w : World) (l : Ledger) (s : SameWorld g w l) (u : UnconfirmedTx) (ins outs : List ℕ) where
  abbrev rn : ℕ
  rn = return_refusal E R st w.tables u ins outs

  enters-same : rn ≡ 0 → SameBook (insert_tx (returned_entry st.config u ins outs) (ids_of 4 ins) (ids_of 5 outs) w.tables) (enters_return g u ins outs l).book
  unfolding enters_return returned_entry
  enters-same e =
      rw (← c)
      (same-enter (returned_entry st.config u ins outs) _ _ w.tables l.book s.book (return_new E R st w.tables u ins outs e) refl (base-low st.config.fee_strategy u.fee u.size u.cost))

  return-world : SameWorld g (returned E R st w u ins outs).world (pick (is_refused (reading_of (returned E R st w u ins outs).outcome)) l (enters_return g u ins outs l))
  unfolding returned enters_return
  return-world = go (eqb rn 0) refl
    where
      go : (t : Bool) → eqb rn 0 ≡ t → SameWorld g (pick t (record { outcome = done; world = world (insert_tx (returned_entry st.config u ins outs) (ids_of 4 ins) (ids_of 5 outs) w.tables) w.cache w.sum w.peers; written = [] }) (unchanged (refused rn 0) w)).world
          (pick (is_refused (reading_of (pick t (record { outcome = done; world = world (insert_tx (returned_entry st.config u ins outs) (ids_of 4 ins) (ids_of 5 outs) w.tables) w.cache w.sum w.peers; written = [] }) (unchanged (refused rn 0) w)).outcome)) l (enters_return g u ins outs l))
      go true e = record { book = enters-same (eqb-true rn 0 e); charges = s.charges; fair = s.fair }
      go false e = s

pub return-agrees : (g : MempoolConfig) (m k : Moment) (l : Ledger) (u : UnconfirmedTx) (ins outs : List ℕ) (o : Outcome) → Agrees g m l → Step (Return u ins outs) o m k
    → Agrees g k (pick (is_refused (reading_of o)) l (enters_return g u ins outs l))
unfolding enters_return
return-agrees g m k l u ins outs o s c =
    let r : Result = returned (entries_room m.entries) (boxes_room m.boxes) m.state (world_at m) u ins outs in
    became-agrees g m k l o (pass_kept m r) (λ x. pick (is_refused x) l (enters_return g u ins outs l)) s c
    (record {
      world = return-world g (entries_room m.entries) (boxes_room m.boxes) m.state s.config (world_at m) l s.world u ins outs;
      given = λ z. same-given (is_refused (reading_of r.outcome)) ∙ s.given z;
    })
  where
    same-given : (t : Bool) → (pick t l (enters_return g u ins outs l)).given ≡ l.given
    same-given true = refl
    same-given false = refl

-- ---- an invalidation

module _ (g : MempoolConfig) (st : Mempool) (w : World) (l : Ledger) (s : SameWorld g w l) (time x : ℕ) where
  abbrev d : Result
  d = record { outcome = done; world = world (remove_tx x w.tables) (remember st.config.invalidation_capacity time x w.cache) w.sum w.peers; written = [] }

  invalidate-world : SameWorld g (invalidated st w time x).world (pick (is_refused (reading_of (invalidated st w time x).outcome)) l (with_book (leaves x l.book) l))
  unfolding invalidated
  invalidate-world = go st.pass.open
    where
      go : (t : Bool) → SameWorld g (pick t (unchanged (refused 20 0) w) d).world (pick (is_refused (reading_of (pick t (unchanged (refused 20 0) w) d).outcome)) l (with_book (leaves x l.book) l))
      go true = s
      go false = record { book = same-remove x w.tables l.book s.book; charges = s.charges; fair = s.fair }

pub invalidation-agrees : (g : MempoolConfig) (m k : Moment) (l : Ledger) (time x : ℕ) (o : Outcome) → Agrees g m l → Step (Invalidate time x) o m k
    → Agrees g k (pick (is_refused (reading_of o)) l (with_book (leaves x l.book) l))
invalidation-agrees g m k l time x o s c =
    let r : Result = invalidated m.state (world_at m) time x in
    became-agrees g m k l o (pass_kept m r) (λ y. pick (is_refused y) l (with_book (leaves x l.book) l)) s c
    (record { world = invalidate-world g m.state (world_at m) l s.world time x; given = λ z. same-given (is_refused (reading_of r.outcome)) ∙ s.given z })
  where
    same-given : (t : Bool) → (pick t l (with_book (leaves x l.book) l)).given ≡ l.given
    same-given true = refl
    same-given false = refl

-- ---- a block

same-txs : (time : ℕ) (ts : List Confirmed) (p : Progress) (b : Book) → SameBook p.tables b → SameBook (applied_txs time ts p).tables (confirms_all ts b)
unfolding applied_txs
same-txs time [] p b s = s
same-txs time (t ∷ ts) p b s = same-txs time ts _ _ (same-applied time t.id t.inputs p b s)

module _ (g : MempoolConfig) (st : Mempool) (w : World) (f : FeeStats) (l : Ledger) (s : SameWorld g w l) (room time : ℕ) (txs ins : List ℕ) where
  abbrev p : Progress
  p = applied_txs time (confirmed_of txs ins) (begun w f)

  abbrev no : BlockResult
  no = record { result = unchanged (refused (block_refusal st room txs ins) 0) w; stats = f }

  block-world : SameWorld g (applied st w f room time txs ins).result.world (pick (is_refused (reading_of (applied st w f room time txs ins).result.outcome)) l (mined txs ins l))
  unfolding applied settled mined
  block-world = go (eqb (block_refusal st room txs ins) 0)
    where
      go : (t : Bool) → SameWorld g (pick t (settled st w time p) no).result.world (pick (is_refused (reading_of (pick t (settled st w time p) no).result.outcome)) l (mined txs ins l))
      go true = record { book = same-txs time (confirmed_of txs ins) (begun w f) l.book s.book; charges = same_none; fair = tt }
      go false = s

pub block-agrees : (g : MempoolConfig) (m k : Moment) (l : Ledger) (time : ℕ) (txs ins : List ℕ) (o : Outcome) → Agrees g m l → Step (Block time txs ins) o m k
    → Agrees g k (pick (is_refused (reading_of o)) l (mined txs ins l))
unfolding mined
block-agrees g m k l time txs ins o s c =
    let r : Result = (applied m.state (world_at m) c.stats c.room time txs ins).result in
    became-agrees g m k l o (pass_kept m r) (λ x. pick (is_refused x) l (mined txs ins l)) s c.left
    (record {
      world = block-world g m.state (world_at m) c.stats l s.world c.room time txs ins;
      given = λ z. same-given (is_refused (reading_of r.outcome)) ∙ s.given z;
    })
  where
    same-given : (t : Bool) → (pick t l (mined txs ins l)).given ≡ l.given
    same-given true = refl
    same-given false = refl
