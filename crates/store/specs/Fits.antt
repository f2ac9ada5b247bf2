-- Where a changing call can be worked on at all: the counts of the state fit what is lent. A call tests it first, on words and counts that nothing is
-- known of.
use Rattle.std.specs.Prelude.{ℕ, ◌≤◌, ◌<◌, max, ◌≡◌, refl, Bool, true, false, not, List, leb, ltb, length}
use Rattle.std.proofs.Common.{sym, ap, ◌∙◌, arith}
use borrow.Author.Tests.{leb-true, leb-false, ltb-false, le-leb, lt-leb, lt-ltb, le-ltb}
use Rattle.words.specs.Lists.{pick}
use Rattle.pool_types.specs.declared.Mempool.{Mempool}
use Rattle.expiring_cache.specs.Layout.{cache_room, CacheOk, CacheKept}
use Rattle.expiring_cache.specs.Layout.{ok-room as room-cache, room-ok as cache-room}
use Rattle.peers.specs.declared.PeerRecord.{PeerRecord}
use Rattle.pool.specs.Pool.{PoolFits, PoolKept, fits_test}
use Rattle.pool.specs.Laws.{fits-true, fits-holds}

-- words of entries, boxes and cache: the counts fit
pub record Testable (e b k : List ℕ) (st : Mempool) : Type 0 where
  pub pool : PoolFits e b st.counts
  pub cache : CacheOk k st.cached

-- words of entries, boxes and cache, and peer records: the counts fit, the cache has room for its capacity, and there are 256 records
pub record Fits (e b k : List ℕ) (ys : List PeerRecord) (st : Mempool) : Type 0 where
  pub tests : Testable e b k st
  pub keeps : max st.config.invalidation_capacity 1 ≤ cache_room k
  pub records : 256 ≤ length ys
  pub used : st.sums.peers ≤ 256

-- the indexes of pool and cache are right. No test can tell it in less time than the indexes save, so it is no refusal: an accepted start makes it of any
-- words, and every call keeps it
pub record Indexed (e b k : List ℕ) (st : Mempool) : Type 0 where
  pub pool : PoolKept e b st.counts
  pub cache : CacheKept k st.cached

-- what the definitions of the calls are met by
pub record Kept (e b k : List ℕ) (ys : List PeerRecord) (st : Mempool) : Type 0 where
  pub fits : Fits e b k ys st
  pub indexed : Indexed e b k st

-- ---- the tests: of pool and cache, and of all, where n records are lent

unfoldable pub cache_fits : List ℕ → List ℕ → List ℕ → Mempool → Bool
cache_fits e b k st =
    pick (not (fits_test e b st.counts)) false
    (pick (ltb (cache_room k) st.cached) false
    (leb (max st.config.invalidation_capacity 1) (cache_room k)))

unfoldable pub all_fit : List ℕ → List ℕ → List ℕ → ℕ → Mempool → Bool
all_fit e b k n st = pick (not (cache_fits e b k st)) false (pick (ltb n 256) false (leb st.sums.peers 256))

-- ---- their laws

-- a test of two numbers, from one of what they are equal to
pub lt_by : {m n : ℕ} (x y : ℕ) → x ≡ m → y ≡ n → x < y → ltb m n ≡ true
lt_by {m} {n} x y p q h = lt-ltb m n (omega arith)

pub le-by : {m n : ℕ} (x y : ℕ) → x ≡ m → y ≡ n → y ≤ x → ltb m n ≡ false
le-by {m} {n} x y p q h = le-ltb m n (omega arith)

-- a cache holds at least one id: room for none is too little, and any other is tested against the capacity
pub no_room_left : (c m : ℕ) {n : ℕ} → n ≡ m → n ≡ 0 → leb (max c 1) m ≡ false
no_room_left c m p q = lt-leb (max c 1) m (omega arith)

pub some-room : (c m : ℕ) {n : ℕ} → n ≡ m → (n ≡ 0 → ⊥) → leb c n ≡ leb (max c 1) m
some-room c m {n} p q = go (leb c n) refl
  where
    go : (t : Bool) → leb c n ≡ t → t ≡ leb (max c 1) m
    go true h = sym (le-leb (max c 1) m (omega (arith, leb-true c n h)))
    go false h = sym (lt-leb (max c 1) m (omega (arith, leb-false c n h)))

-- a test that is not met stops the chain
pub goes_on : (t u : Bool) → pick t false u ≡ true → (t ≡ false) × (u ≡ true)
goes_on true u q = let z : ◌≡◌ {A = ℕ} 0 1 = cc in absurd (omega arith)
goes_on false u q = (refl, q)

pub un_not : (t : Bool) → not t ≡ false → t ≡ true
un_not true q = refl
un_not false q = let z : ◌≡◌ {A = ℕ} 0 1 = cc in absurd (omega arith)

pub not-not : (t : Bool) → not (not t) ≡ t
not-not true = refl
not-not false = refl

-- a test of the counts that a call made first: it was met, so what is known where it is not does not matter
pub was-met : {A : Type 0} {t x : Bool} → t ≡ x → not t ≡ false → x ≡ false → A
was-met {A} {t} {x} p q z = let y : false ≡ true = sym (p ∙ z) ∙ un_not t q in let w : ◌≡◌ {A = ℕ} 0 1 = cc in absurd (omega arith)

-- it was not met, so there is nothing to say of what meets it
pub not-met : {A : Type 0} {t x : Bool} → t ≡ x → not t ≡ true → x ≡ true → A
not-met {A} {t} {x} p q z = let y : false ≡ true = sym (ap not (p ∙ z)) ∙ q in let w : ◌≡◌ {A = ℕ} 0 1 = cc in absurd (omega arith)

pub met : {t x : Bool} → t ≡ x → not t ≡ false → x ≡ true
met {t} {x} p q = sym p ∙ un_not t q

-- what passes fits, and what fits passes
module _ (e b k : List ℕ) (st : Mempool) where
  pub cache-fits : cache_fits e b k st ≡ true → Testable e b k st × (max st.config.invalidation_capacity 1 ≤ cache_room k)
  unfolding cache_fits
  cache-fits h =
      let q = goes_on _ _ h in
      let r = goes_on _ _ q.1 in
      (record { pool = fits-true e b st.counts (un_not _ q.0); cache = room-cache k st.cached (ltb-false _ _ r.0) }, leb-true _ _ r.1)

  pub cache-holds : (ys : List PeerRecord) → Fits e b k ys st → cache_fits e b k st ≡ true
  unfolding cache_fits
  cache-holds ys f =
      rw (fits-holds e b st.counts f.tests.pool, le-ltb _ _ (cache-room k st.cached f.tests.cache))
      (le-leb _ _ f.keeps)

module _ (e b k : List ℕ) (ys : List PeerRecord) (n : ℕ) (st : Mempool) (l : length ys ≡ n) where
  pub all_true : all_fit e b k n st ≡ true → Fits e b k ys st
  unfolding all_fit
  all_true h =
      let q = goes_on _ _ h in
      let r = goes_on _ _ q.1 in
      let c = cache-fits e b k st (un_not _ q.0) in
      record { tests = c.0; keeps = c.1; records = omega (arith, ltb-false n 256 r.0, l); used = leb-true _ _ r.1 }

  pub all-holds : Fits e b k ys st → all_fit e b k n st ≡ true
  unfolding all_fit
  all-holds f = rw (cache-holds e b k st ys f, le-ltb n 256 (omega (arith, f.records, l))) (le-leb _ _ f.used)

  -- .. as a call reads it from the test that it made
  pub fitted : {t : Bool} → t ≡ all_fit e b k n st → not t ≡ false → Fits e b k ys st
  fitted q z = all_true (met q z)

  pub unfit : {t : Bool} → t ≡ all_fit e b k n st → not t ≡ true → Fits e b k ys st → ⊥
  unfit q z f = not-met q z (all-holds f)
