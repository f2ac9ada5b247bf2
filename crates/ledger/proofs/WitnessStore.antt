-- Stores for a list of calls that a reader can follow (WitnessRun.antt): six worlds, and words that decode to them. Ids are small numbers, of one word. This
-- file knows how the tables lie in words; the list of calls knows the worlds alone. That the words are kept is computed (WitnessTests.antt).
use Rattle.std.specs.Prelude.{Some}
use Rattle.std.specs.Prelude.{ℕ, zero, suc, ◌-◌, ◌≡◌, refl, Bool, true, false, List, [], ◌∷◌, ◌++◌, leb, length, get_or, replicate}
use Rattle.std.proofs.Common.{ap, arith, leb-true}
use Rattle.words.specs.Ids.{num, id_of, id_at, join_is}
use Rattle.words.specs.Buckets.{place_in, bucket_of}
use Rattle.words.specs.Chains.{prev, checked, bounded}
use Rattle.words.specs.declared.ids.Id.{Id}
use Rattle.pool_types.specs.declared.Mempool.{Mempool}
use Rattle.pool_types.specs.declared.MempoolConfig.{MempoolConfig}
use Rattle.pool_types.specs.declared.FeeStrategy.TheVariants.{FeePerByte}
use Rattle.expiring_cache.specs.Layout.{cache_room, no_rows}
use Rattle.expiring_cache.specs.Layout.{ok-room as cache-room, kept-none as cache-none}
use Rattle.peers.specs.Peers.{no_peer, peer_of}
use Rattle.entries.specs.Entries.{Entry, ahead}
use Rattle.entries.specs.Cells.{slot_count, cell, raw_at, bucket_key, slot_of, entry_from, entry_in}
use Rattle.entries.specs.Index as E
use Rattle.entries.specs.Layout.{tag_of, value_of, entries_room, entries_of, entry_at}
use Rattle.entries.specs.Layout.{ok-room as entries-room}
use Rattle.boxes.specs.Records.{BoxRec}
use Rattle.boxes.specs.Layout.{head_place, key_at, kind_at, key_word, used_word, slot_at, slots_of, slots_used, records_in, boxes_of, boxes_room}
use Rattle.boxes.specs.Layout.{room-ok as boxes-room}
use Rattle.boxes.specs.Index as B
use Rattle.pool.specs.Pool.{PoolFits}
use Rattle.store.specs.World.{World, world}
use Rattle.ledger.specs.Run.{Moment, moment, world_at, KeptAt}
use Rattle.ledger.proofs.Steps.{kept-made}
use Rattle.ledger.proofs.WitnessTests.{box_index, boxes-kept, entry_index, slots_right, in_order, each_once, entries-kept}

-- ---- ids

abbrev pub i : ℕ → Id
i d = record { a = 0; b = 0; c = 0; d = d }

pub small : (d : ℕ) → num 0 0 0 d ≡ d
small d = rw (join_is 0 0, join_is 0 0, join_is 0 d) (omega arith)

pub plain : (d : ℕ) → id_of (i d) ≡ d
unfolding id_of
plain d = small d

-- ---- the worlds

abbrev tx : ℕ → ℕ → ℕ → Entry
tx k w b = record { id = k; weight = w; base = b; size = 1024; cost = 1024; validation_cost = Some 500; created = 0; last_checked = 0; height_key = 2147483648; inputs = 1 }

abbrev input : ℕ → ℕ → BoxRec
input b k = record { box = b; owner = k; out = false; live = true }

abbrev output : ℕ → ℕ → BoxRec
output b k = record { box = b; owner = k; out = true; live = true }

-- of these entries and records, where peer 7 was charged 1,024
abbrev charged : List Entry → List BoxRec → World
charged es rs = world (record { entries = es; boxes = rs }) [] 1024 (peer_of 7 1024 ∷ [])

-- 1 comes from peer 7; 2 spends what 1 makes, and credits it 30; 3 comes, and 2 goes as the lowest; 4 takes box 8 from 3; a block has 1
abbrev pub w0 : World
w0 = world (record { entries = []; boxes = [] }) [] 0 []

abbrev pub w1 : World
w1 = charged (tx 1 20 20 ∷ []) (input 7 1 ∷ output 11 1 ∷ [])

abbrev pub w2 : World
w2 = charged (tx 1 50 20 ∷ tx 2 30 30 ∷ []) (input 7 1 ∷ output 11 1 ∷ input 11 2 ∷ output 12 2 ∷ [])

abbrev pub w3 : World
w3 = charged (tx 1 50 20 ∷ tx 3 40 40 ∷ []) (input 7 1 ∷ output 11 1 ∷ input 8 3 ∷ output 13 3 ∷ [])

abbrev pub w4 : World
w4 = charged (tx 4 60 60 ∷ tx 1 50 20 ∷ []) (input 7 1 ∷ output 11 1 ∷ input 8 4 ∷ output 14 4 ∷ [])

abbrev pub w5 : World
w5 = world (record { entries = tx 4 60 60 ∷ []; boxes = input 8 4 ∷ output 14 4 ∷ [] }) [] 0 []

-- ---- a moment for each: words for 3 entries, for 8 box records (10 slots) and for 1 id of the cache (2 slots), and 256 peer records

abbrev pub settings : MempoolConfig
settings =
    record {
      capacity = 2;
      min_fee = 0;
      fee_strategy = FeePerByte;
      cleanup_interval = 0;
      rebroadcast_count = 0;
      invalidation_ttl = 0;
      invalidation_capacity = 1;
      cost_per_block = 9000;
      cost_per_peer_per_block = 5000;
    }

abbrev pub state_of : World → Mempool
state_of w =
    record {
      config = settings;
      counts = record { pooled = length w.tables.entries; records = length w.tables.boxes };
      cached = 0;
      sums = record { interblock_cost = w.sum; peers = length w.peers };
      pass = record { «open» = false; out = false; candidate = i 0; time = 0; limit = 0; preheader = 0; spent = 0 };
    }

-- an entry, in a slot in use; its link, and the head of the slot's bucket
abbrev entry_words : Entry → ℕ → ℕ → List ℕ → List ℕ
entry_words e link head ws =
    0 ∷ 0 ∷ 0 ∷ e.id ∷ e.weight ∷ e.base ∷ e.size ∷ e.cost ∷ tag_of e.validation_cost ∷ value_of e.validation_cost ∷ e.created ∷ e.last_checked ∷ e.height_key ∷ e.inputs ∷ 1 ∷ link ∷ head ∷ ws

abbrev ids : List Entry → List ℕ
ids [] = []
ids (e ∷ es) = e.id ∷ ids es

-- the bucket of the id at index j, of s and by key 0
abbrev homes : ℕ → List ℕ → ℕ → ℕ
homes s ks j = bucket_of (get_or ks j 0) 0 s

-- s slots from slot j on, in the order of ranks, where the buckets are those of h and n slots are known; then ws
abbrev entry_slots : (ℕ → ℕ) → ℕ → ℕ → ℕ → List Entry → List ℕ → List ℕ
entry_slots h n j zero es ws = ws
entry_slots h n j (suc s) [] ws = replicate 16 0 ++ (prev h n j ∷ entry_slots h n (suc j) s [] ws)
entry_slots h n j (suc s) (e ∷ es) ws = entry_words e (prev h j (h j)) (prev h n j) (entry_slots h n (suc j) s es ws)

abbrev entry_table : List Entry → List ℕ
entry_table es = entry_slots (homes 3 (ids es)) (length es) 0 3 es (0 ∷ 1 ∷ 2 ∷ length es ∷ 0 ∷ [])

abbrev flag : Bool → ℕ
flag true = 1
flag false = 0

abbrev box_ids : List BoxRec → List ℕ
box_ids [] = []
box_ids (r ∷ rs) = r.box ∷ box_ids rs

abbrev owners : List BoxRec → List ℕ
owners [] = []
owners (r ∷ rs) = r.owner ∷ owners rs

-- the same of box records, all live, by the buckets h of their boxes and g of their owners; the heads stand behind the slots
abbrev box_slots_of : (ℕ → ℕ) → (ℕ → ℕ) → ℕ → ℕ → List BoxRec → List ℕ → List ℕ
box_slots_of h g j zero rs ws = ws
box_slots_of h g j (suc s) [] ws = replicate 11 0 ++ box_slots_of h g (suc j) s [] ws
box_slots_of h g j (suc s) (r ∷ rs) ws = 0 ∷ 0 ∷ 0 ∷ r.box ∷ flag r.out ∷ prev h j (h j) ∷ 0 ∷ 0 ∷ 0 ∷ r.owner ∷ prev g j (g j) ∷ box_slots_of h g (suc j) s rs ws

-- the heads of s buckets from bucket j on, where n slots are used; then ws
abbrev heads_of : (ℕ → ℕ) → ℕ → ℕ → ℕ → List ℕ → List ℕ
heads_of h n j zero ws = ws
heads_of h n j (suc s) ws = prev h n j ∷ heads_of h n (suc j) s ws

abbrev box_table : List BoxRec → List ℕ
box_table rs =
    let h = homes 10 (box_ids rs) in
    let g = homes 10 (owners rs) in
    box_slots_of h g 0 10 rs (heads_of h (length rs) 0 10 (heads_of g (length rs) 0 10 (length rs ∷ 0 ∷ [])))

abbrev pub with : World → Moment
with w =
    moment (entry_table w.tables.entries) (box_table w.tables.boxes) (replicate 16 0) (w.peers ++ replicate (256 - length w.peers) no_peer) (state_of w)

-- ---- it holds that world, the counts fit, and the indexes are right

pub record Stands (w : World) : Type 0 where
  pub is : world_at (with w) ≡ w
  pub kept : KeptAt (with w)

-- what is computed of the words: of n entries, which are es, and of n box records
abbrev EntriesStand : List ℕ → List Entry → ℕ → Type 0
EntriesStand l es n = (leb n (slot_count l) ≡ true) × (raw_at l (slot_count l) ≡ n) × (entry_index l n ≡ true) × (slots_right l n ≡ true) × (in_order es n ≡ true) × (each_once es n ≡ true)

abbrev BoxesStand : List ℕ → ℕ → Type 0
BoxesStand l n = (leb n (boxes_room l) ≡ true) × (box_index l 0 (slots_used l n) ≡ true) × (box_index l 1 (slots_used l n) ≡ true)

stands : (w : World) → world_at (with w) ≡ w → EntriesStand (with w).entries w.tables.entries (length w.tables.entries) → BoxesStand (with w).boxes (length w.tables.boxes)
    → leb (length w.peers) 256 ≡ true
    → leb 256 (length (with w).peers) ≡ true
    → Stands w
unfolding entries_room cache_room
stands w is e b u r =
    let es : entries_of (with w).entries (length w.tables.entries) ≡ w.tables.entries = ap (λ (x : World). x.tables.entries) is in
    let rs : boxes_of (with w).boxes (length w.tables.boxes) ≡ w.tables.boxes = ap (λ (x : World). x.tables.boxes) is in
    let low = leb-true _ _ e.0 in
    let pool : PoolFits (with w).entries (with w).boxes (state_of w).counts = record { entries = entries-room (with w).entries _ low; boxes = boxes-room (with w).boxes _ (leb-true _ _ b.0) } in
    record {
      is = is;
      kept =
          kept-made (with w) (record { pool = pool; cache = cache-room (with w).cache 0 (omega arith) }) (leb-true 1 1 refl) (leb-true _ _ u) (leb-true _ _ r)
          (record {
            pool =
                record {
                  entries = entries-kept (with w).entries (length w.tables.entries) e.2 e.3 (rw es e.4) (rw es e.5) low e.1;
                  boxes = boxes-kept (with w).boxes (length w.tables.boxes) (ap length rs) b.1 b.2;
                };
            cache = cache-none (with w).cache;
          });
    }

pub s0 : Stands w0
unfolding prev checked bounded place_in bucket_of head_place ahead cell raw_at bucket_key slot_of entry_from entry_in entry_at entries_of E.used E.home_of E.hash_at E.link_at E.head_at id_at key_at kind_at key_word used_word slot_at slots_of slots_used records_in boxes_of boxes_room B.last_at B.hash_at B.link_at B.head_at
s0 = stands w0 (rw (no_rows (replicate 16 0))) (refl, refl, refl, refl, refl, refl) (refl, refl, refl) refl refl

pub s1 : Stands w1
unfolding prev checked bounded place_in bucket_of head_place ahead cell raw_at bucket_key slot_of entry_from entry_in entry_at entries_of E.used E.home_of E.hash_at E.link_at E.head_at id_at key_at kind_at key_word used_word slot_at slots_of slots_used records_in boxes_of boxes_room B.last_at B.hash_at B.link_at B.head_at
s1 = stands w1 (rw (no_rows (replicate 16 0), small 1, small 7, small 11)) (refl, refl, refl, refl, refl, refl) (refl, refl, refl) refl refl

pub s2 : Stands w2
unfolding prev checked bounded place_in bucket_of head_place ahead cell raw_at bucket_key slot_of entry_from entry_in entry_at entries_of E.used E.home_of E.hash_at E.link_at E.head_at id_at key_at kind_at key_word used_word slot_at slots_of slots_used records_in boxes_of boxes_room B.last_at B.hash_at B.link_at B.head_at
s2 = stands w2 (rw (no_rows (replicate 16 0), small 1, small 2, small 7, small 11, small 12)) (refl, refl, refl, refl, refl, refl) (refl, refl, refl) refl refl

pub s3 : Stands w3
unfolding prev checked bounded place_in bucket_of head_place ahead cell raw_at bucket_key slot_of entry_from entry_in entry_at entries_of E.used E.home_of E.hash_at E.link_at E.head_at id_at key_at kind_at key_word used_word slot_at slots_of slots_used records_in boxes_of boxes_room B.last_at B.hash_at B.link_at B.head_at
s3 = stands w3 (rw (no_rows (replicate 16 0), small 1, small 3, small 7, small 8, small 11, small 13)) (refl, refl, refl, refl, refl, refl) (refl, refl, refl) refl refl

pub s4 : Stands w4
unfolding prev checked bounded place_in bucket_of head_place ahead cell raw_at bucket_key slot_of entry_from entry_in entry_at entries_of E.used E.home_of E.hash_at E.link_at E.head_at id_at key_at kind_at key_word used_word slot_at slots_of slots_used records_in boxes_of boxes_room B.last_at B.hash_at B.link_at B.head_at
s4 = stands w4 (rw (no_rows (replicate 16 0), small 1, small 4, small 7, small 8, small 11, small 14)) (refl, refl, refl, refl, refl, refl) (refl, refl, refl) refl refl

pub s5 : Stands w5
unfolding prev checked bounded place_in bucket_of head_place ahead cell raw_at bucket_key slot_of entry_from entry_in entry_at entries_of E.used E.home_of E.hash_at E.link_at E.head_at id_at key_at kind_at key_word used_word slot_at slots_of slots_used records_in boxes_of boxes_room B.last_at B.hash_at B.link_at B.head_at
s5 = stands w5 (rw (no_rows (replicate 16 0), small 4, small 8, small 14)) (refl, refl, refl, refl, refl, refl) (refl, refl, refl) refl refl
