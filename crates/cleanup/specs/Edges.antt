-- A pass and a rebroadcast on their edges, by computation: a pool in which transaction 1 spends box 7 and makes box 8, transaction 2 spends box 8 and
-- makes box 9, and transaction 3 spends box 6, in this order of priority. All were last checked at 100, and the interval is 10.
use Rattle.std.specs.Prelude.{None, Option, Some}
use Rattle.std.specs.Prelude.{ℕ, ◌≡◌, refl, Bool, true, false, List, [], ◌∷◌}
use Rattle.words.specs.Sums.{cap}
use Rattle.words.specs.Ids.{id_at, join_is}
use Rattle.words.specs.declared.ids.Id.{Id}
use Rattle.pool_types.specs.declared.FeeStrategy.TheVariants.{FeePerByte}
use Rattle.pool_types.specs.declared.Mempool.{Mempool}
use Rattle.pool_types.specs.declared.Verdict.{Verdict}
use Rattle.pool_types.specs.declared.Verdict.TheVariants.{Valid, Invalid, Absent}
use Rattle.pool_types.specs.Outcomes.{refused, done, wrote, needed, candidate, ended, missing, invalid, valid}
use Rattle.arguments.specs.Arguments.{biased}
use Rattle.entries.specs.Entries.{Entry, ahead, stamp}
use Rattle.boxes.specs.Flat.{ids_to}
use Rattle.indexes.specs.Resolved.{resolved_by}
use Rattle.pool.specs.Pool.{Tables, insert_tx}
use Rattle.store.specs.World.{World, world, unchanged}
use Rattle.cleanup.specs.Passes.{PassNow, no_pass, PassResult, still, opened, due, is_candidate, offered, sought, nexted, answered_with, answer_refusal, lacks_input, weighed, answered}
use Rattle.cleanup.specs.Rebroadcast.{chosen, rebroadcast_refusal, rebroadcast}

abbrev none : Id
none = record { a = 0; b = 0; c = 0; d = 0 }

-- settings with this number of transactions to send again, and three pooled
abbrev pool : ℕ → Mempool
pool most =
    record {
      config =
          record {
            capacity = 9;
            min_fee = 0;
            fee_strategy = FeePerByte;
            cleanup_interval = 10;
            rebroadcast_count = most;
            invalidation_ttl = 9;
            invalidation_capacity = 2;
            cost_per_block = 1000;
            cost_per_peer_per_block = 1000;
          };
      counts = record { pooled = 3; records = 5 };
      cached = 0;
      sums = record { interblock_cost = 40; peers = 0 };
      pass = record { «open» = false; out = false; candidate = none; time = 0; limit = 0; preheader = 0; spent = 0 };
    }

-- an entry of this id, weight and height, and what was measured of it
abbrev sample : ℕ → ℕ → ℕ → Option ℕ → Entry
sample k w h v = record { id = k; weight = w; base = w; size = 0; cost = 70; validation_cost = v; created = 0; last_checked = 100; height_key = biased h; inputs = 1 }

-- transaction 1 has an output at height 60
abbrev first : Entry
first = sample 1 30 60 (Some 5)

abbrev second : Entry
second = sample 2 20 50 (Some 8)

-- .. and of 3 nothing was measured
abbrev third : Entry
third = sample 3 10 50 None

abbrev two : Tables
two = insert_tx third (6 ∷ []) [] (insert_tx second (8 ∷ []) (9 ∷ []) (record { entries = []; boxes = [] }))

abbrev all : Tables
all = insert_tx third (6 ∷ []) [] (insert_tx second (8 ∷ []) (9 ∷ []) (insert_tx first (7 ∷ []) (8 ∷ []) (record { entries = []; boxes = [] })))

abbrev store : Tables → World
store t = world t [] 40 []

-- a pass at this time with a limit of 20, against the preheader 50: so much was spent, and this candidate is out, if one is
abbrev passing : ℕ → ℕ → Bool → ℕ → PassNow
passing time spent out k = record { is_open = true; out = out; candidate = k; time = time; limit = 20; preheader = 50; spent = spent }

-- ---- open

open-edges : (opened (store all) no_pass 111 20 50 ≡ record { outcome = done; world = store all; pass = passing 111 0 false 0 })
    × (opened (store all) (passing 111 7 true 2) 200 9 9 ≡ still (refused 20 0) (store all) (passing 111 7 true 2))
unfolding opened
open-edges = (refl, refl)

-- ---- next

abbrev asked : Tables → PassNow → PassResult
asked t p = nexted (pool 0).config (store t) p

-- none is open: 21. The first is ahead in height: it is passed over, and the second is the candidate; the store stays
next-edges : (asked all no_pass ≡ still (refused 21 0) (store all) no_pass)
    × (asked all (passing 111 0 false 0) ≡ record { outcome = candidate 2; world = store all; pass = passing 111 0 true 2 })
unfolding nexted sought offered is_candidate due ahead
next-edges = (refl, refl)

-- a candidate that is out is given again, whatever was spent
again : (asked all (passing 111 0 true 3) ≡ still (candidate 3) (store all) (passing 111 0 true 3)) × ((asked all (passing 111 20 true 3)).outcome ≡ candidate 3)
unfolding nexted ahead
again = (refl, refl)

-- 19 of 20 were spent: it goes on; 20: it ended, with the sum, and is closed. At 110 none is due: it ended with 19
limits : ((asked all (passing 111 19 false 0)).outcome ≡ candidate 2)
    × (asked all (passing 111 20 false 2) ≡ record { outcome = ended 20; world = store all; pass = no_pass })
    × (asked all (passing 110 19 false 0) ≡ record { outcome = ended 19; world = store all; pass = no_pass })
unfolding nexted sought offered is_candidate due ahead
limits = (refl, refl, refl)

-- ---- answer

abbrev told : Tables → PassNow → List ℕ → Verdict → PassResult
told t p flags v = answered (pool 0).config (store t) p flags v

-- no candidate is out: 21, also with another number of flags; with that number alone: 1. The candidate stays out
answer-refusals : (told all (passing 111 0 false 2) [] Absent ≡ still (refused 21 0) (store all) (passing 111 0 false 2))
    × (told all no_pass (0 ∷ []) Absent ≡ still (refused 21 0) (store all) no_pass)
    × (told all (passing 111 0 true 2) (1 ∷ 1 ∷ []) (Valid 7) ≡ still (refused 1 0) (store all) (passing 111 0 true 2))
unfolding answered answer_refusal ahead
answer-refusals = (refl, refl, refl)

-- box 8 is not confirmed, but made by a pooled transaction: found. Without a verdict nothing changes; with a valid one the entry is stamped, and
-- what was measured is added, the cost that its weight goes by and its previous one are not
found-edges : (told all (passing 111 3 true 2) (0 ∷ []) Absent ≡ still needed (store all) (passing 111 3 true 2))
    × (told all (passing 111 3 true 2) (0 ∷ []) (Valid 7)
    ≡ record {
      outcome = valid 2;
      world = store (record { entries = first ∷ stamp (Some 7) 111 second ∷ third ∷ []; boxes = all.boxes });
      pass = passing 111 10 false 2;
    })
unfolding answered answer_refusal lacks_input weighed resolved_by answered_with ahead
found-edges = (refl, refl)

-- invalid: in the cache since the pass's time, gone with its records, and its previous cost added; of 3 none was measured, and 0 is added
invalid-edges : (told all (passing 111 3 true 2) (1 ∷ []) Invalid
    ≡ record {
      outcome = invalid 2;
      world = world (insert_tx third (6 ∷ []) [] (insert_tx first (7 ∷ []) (8 ∷ []) (record { entries = []; boxes = [] }))) (record { id = 2; since = 111 } ∷ []) 40 [];
      pass = passing 111 11 false 2;
    })
    × ((told all (passing 111 3 true 3) (1 ∷ []) Invalid).pass ≡ passing 111 3 false 3)
unfolding answered answer_refusal lacks_input weighed resolved_by answered_with ahead
invalid-edges = (refl, refl)

-- without transaction 1 box 8 is found nowhere: 2 goes, not cached, whatever the verdict, and its previous cost is added
missing-edges : (told two (passing 111 3 true 2) (0 ∷ []) (Valid 7)
    ≡ record { outcome = missing 2; world = store (insert_tx third (6 ∷ []) [] (record { entries = []; boxes = [] })); pass = passing 111 11 false 2 })
    × ((told two (passing 111 3 true 2) (0 ∷ []) Absent).outcome ≡ missing 2)
    × ((told two (passing 111 3 true 3) (0 ∷ []) Absent).pass ≡ passing 111 3 false 3)
unfolding answered answer_refusal lacks_input weighed resolved_by answered_with ahead
missing-edges = (refl, refl, refl)

-- "The sum stops at 2^64−1"
sum-stops : (told all (passing 111 cap true 2) (1 ∷ []) (Valid 7)).pass.spent ≡ cap
unfolding answered answer_refusal lacks_input weighed resolved_by answered_with ahead
sum-stops = refl

-- ---- a whole pass: the second is valid, the third is next, and then none is due

abbrev after : PassResult
after = told all (passing 111 0 true 2) (0 ∷ []) (Valid 7)

whole-pass : ((asked after.world.tables after.pass).outcome ≡ candidate 3)
    × ((asked (told after.world.tables (passing 111 7 true 3) (1 ∷ []) (Valid 4)).world.tables (passing 111 11 false 3)).outcome ≡ ended 11)
unfolding nexted sought offered is_candidate due answered answer_refusal lacks_input weighed resolved_by answered_with ahead
whole-pass = (refl, refl)

-- ---- rebroadcast

-- boxes 6 and 7 are confirmed, and 8 is only pooled: of the two that qualify the first, both, and no more than there are
chosen-edges : (chosen 1 (6 ∷ 7 ∷ []) all ≡ 1 ∷ []) × (chosen 2 (6 ∷ 7 ∷ []) all ≡ 1 ∷ 3 ∷ []) × (chosen 9 (6 ∷ 7 ∷ []) all ≡ 1 ∷ 3 ∷ []) × (chosen 9 [] all ≡ [])
unfolding chosen ahead
chosen-edges = (refl, refl, refl, refl)

-- a transaction without inputs qualifies
no-input : chosen 9 [] (insert_tx third [] (5 ∷ []) (record { entries = []; boxes = [] })) ≡ 3 ∷ []
unfolding chosen ahead
no-input = refl

-- three words are no whole number of ids: 1, also without room; room for three ids with three pooled: 2; for four: none
send-refusals : (rebroadcast_refusal (pool 1) 3 (0 ∷ 0 ∷ 7 ∷ []) ≡ 1) × (rebroadcast_refusal (pool 1) 3 [] ≡ 2) × (rebroadcast_refusal (pool 1) 4 [] ≡ 0)
unfolding rebroadcast_refusal
send-refusals = (refl, refl, refl)

sends : (rebroadcast (pool 1) (store all) 4 (0 ∷ 0 ∷ 0 ∷ 7 ∷ []) ≡ record { outcome = wrote 1; world = store all; written = 1 ∷ [] })
    × (rebroadcast (pool 1) (store all) 3 (0 ∷ 0 ∷ 0 ∷ 7 ∷ []) ≡ unchanged (refused 2 0) (store all))
unfolding rebroadcast rebroadcast_refusal chosen ahead ids_to id_at
sends = (simp join_is, refl)
