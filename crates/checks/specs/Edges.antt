-- The tests on their edges, by computation.
use Rattle.std.specs.Prelude.{None, Some}
use Rattle.peers.specs.Peers.{account, Standing}
use Rattle.std.specs.Prelude.{ℕ, ◌+◌, ◌≡◌, refl, Bool, true, false, not, List, [], ◌∷◌, ltb}
use Rattle.std.proofs.Common.{sym, ap, ◌∙◌, arith}
use Rattle.words.specs.Lists.{pick, yes, no}
use Rattle.words.specs.Ids.{id_of}
use Rattle.words.specs.declared.ids.Id.{Id}
use Rattle.pool_types.specs.declared.FeeStrategy.TheVariants.{FeePerByte}
use Rattle.pool_types.specs.declared.Mempool.{Mempool}
use Rattle.pool_types.specs.declared.Submission.{Submission}
use Rattle.pool_types.specs.declared.Source.{Source}
use Rattle.pool_types.specs.declared.Source.TheVariants.{Local, Peer}
use Rattle.pool_types.specs.declared.Verdict.{Verdict}
use Rattle.pool_types.specs.declared.Verdict.TheVariants.{Valid, Invalid, Absent}
use Rattle.arguments.specs.Arguments.{records, fee_of, height_key, ahead_of, max_inputs}
use Rattle.expiring_cache.specs.Cache.{Held, held}
use Rattle.entries.specs.Entries.{Entry, pooled}
use Rattle.boxes.specs.Records.{index}
use Rattle.indexes.specs.Resolved.{all_resolved, submitted, resolved_by, input_at, inputs_to}
use Rattle.pool.specs.Pool.{Tables, no_room}
use Rattle.checks.specs.Checks.{call_refusal, peer_refusal, state_refusal, list_refusal, refusal_of}

abbrev zero-id : Id
zero-id = record { a = 0; b = 0; c = 0; d = 0 }

-- a pool of three with these limits for the block and for a peer, a block sum of 5, and so many peers that have a record
abbrev pool : Bool → ℕ → ℕ → ℕ → Mempool
pool passing block peer used =
    record {
      config =
          record {
            capacity = 10;
            min_fee = 0;
            fee_strategy = FeePerByte;
            cleanup_interval = 0;
            rebroadcast_count = 0;
            invalidation_ttl = 0;
            invalidation_capacity = 0;
            cost_per_block = block;
            cost_per_peer_per_block = peer;
          };
      counts = record { pooled = 3; records = 0 };
      cached = 0;
      sums = record { interblock_cost = 5; peers = used };
      pass = record { «open» = passing; out = false; candidate = zero-id; time = 0; limit = 0; preheader = 0; spent = 0 };
    }

-- a submission of this size, source and verdict
abbrev sub : ℕ → Source → Verdict → Submission
sub size from verdict = record { time = 0; id = zero-id; size = size; preheader = 50; source = from; verdict = verdict }

-- an open pass comes first; 4 ids of room are enough for 3 pooled; sizes of 98,304 pass
call-edges : (call_refusal (pool true 6 1 0) 0 (sub 98305 Local Absent) (1 ∷ []) [] ≡ 20)
    × (call_refusal (pool false 6 1 0) 0 (sub 98305 Local Absent) (1 ∷ []) [] ≡ 1)
    × (call_refusal (pool false 6 1 0) 3 (sub 98305 Local Absent) [] [] ≡ 2)
    × (call_refusal (pool false 6 1 0) 4 (sub 98305 Local Absent) [] [] ≡ 3)
    × (call_refusal (pool false 6 1 0) 4 (sub 98304 Local Absent) [] [] ≡ 0)
    × (call_refusal (pool false 6 1 0) 4 (sub 98304 Local (Valid 4294967295)) [] [] ≡ 0)
    × (call_refusal (pool false 6 1 0) 4 (sub 98304 Local (Valid 4294967296)) [] [] ≡ 5)
unfolding call_refusal fee_of
call-edges = (refl, refl, refl, refl, refl, refl, refl)

-- a limit that is met refuses a peer and nobody else; a peer limit of 0 refuses a peer that has a record, not one that has none
state-edges : (state_refusal (pool false 5 1 0) [] [] None (sub 0 (Peer 7) Absent) ≡ 24)
    × (state_refusal (pool false 5 1 0) [] [] None (sub 0 Local Absent) ≡ 0)
    × (state_refusal (pool false 6 0 0) [] [] None (sub 0 (Peer 7) Absent) ≡ 0)
    × (state_refusal (pool false 6 0 1) [] [] (Some (account 0 0)) (sub 0 (Peer 7) Absent) ≡ 25)
    × (state_refusal (pool false 6 1 256) [] [] None (sub 0 (Peer 7) Absent) ≡ 26)
    × (state_refusal (pool false 6 1 256) [] [] (Some (account 9 0)) (sub 0 (Peer 7) Absent) ≡ 0)
unfolding state_refusal peer_refusal
state-edges = (refl, refl, refl, refl, refl, refl)

-- an id that is both held and pooled gives 22
held_first : (st : Mempool) (rows : List Held) (es : List Entry) (at : Standing) (a : Submission)
    → held st.config.invalidation_ttl a.time (id_of a.id) rows ≡ true → pooled (id_of a.id) es ≡ true → state_refusal st rows es at a ≡ 22
unfolding state_refusal
held_first st rows es at a h p = yes _ _ _ h

-- 5,000 inputs pass and 5,001 do not, whatever they are
inputs-pass : (E R : ℕ) (t : Tables) (a : Submission) (ins outs : List ℕ) → records 5 ins ≡ 5000 → list_refusal max_inputs E R t a ins outs ≡ 7 → ⊥
unfolding list_refusal
inputs-pass E R t a ins outs e h =
    other-number
    (no_room E R t (records 5 ins + records 7 outs))
    (not (all_resolved (index true t.boxes) (submitted ins)))
    (ahead_of (height_key 7 6 outs) a.preheader)
    (sym (no _ _ _ (ap (ltb 5000) e)) ∙ h)
  where
    other-number : (x y z : Bool) → ◌≡◌ {A = ℕ} (pick x 27 (pick y 28 (pick z 8 0))) 7 → ⊥
    other-number true y z q = omega arith
    other-number false true z q = omega arith
    other-number false false true q = omega arith
    other-number false false false q = omega arith

inputs-stop : (E R : ℕ) (t : Tables) (a : Submission) (ins outs : List ℕ) → records 5 ins ≡ 5001 → list_refusal max_inputs E R t a ins outs ≡ 7
unfolding list_refusal
inputs-stop E R t a ins outs e = yes _ _ _ (ap (ltb 5000) e)

-- an input of box 0 with this flag, an output of box 0 with this height, and no table
abbrev spend : ℕ → List ℕ
spend flag = 0 ∷ 0 ∷ 0 ∷ 0 ∷ flag ∷ []

abbrev make : ℕ → List ℕ
make height = 0 ∷ 0 ∷ 0 ∷ 0 ∷ 9 ∷ 0 ∷ height ∷ []

abbrev empty : Tables
empty = record { entries = []; boxes = [] }

-- heights against the preheader 50: 2^31 is not ahead; room for one entry and two records is needed; a confirmed input is found
list-edges : (list_refusal max_inputs 1 2 empty (sub 0 Local Absent) (spend 1) (make 2147483648) ≡ 0)
    × (list_refusal max_inputs 1 2 empty (sub 0 Local Absent) (spend 1) (make 50) ≡ 0)
    × (list_refusal max_inputs 1 2 empty (sub 0 Local Absent) (spend 1) (make 51) ≡ 8)
    × (list_refusal max_inputs 1 2 empty (sub 0 Local Absent) (spend 0) (make 51) ≡ 28)
    × (list_refusal max_inputs 1 1 empty (sub 0 Local Absent) (spend 0) (make 51) ≡ 27)
    × (list_refusal max_inputs 0 2 empty (sub 0 Local Absent) (spend 0) (make 51) ≡ 27)
    × (list_refusal 0 0 2 empty (sub 0 Local Absent) (spend 0) (make 51) ≡ 7)
unfolding list_refusal height_key inputs_to input_at resolved_by
list-edges = (refl, refl, refl, refl, refl, refl, refl)

-- 26 comes before 27, and 5 before 26
order-edges : (refusal_of max_inputs 0 0 (pool false 6 1 256) 4 empty [] None (sub 0 (Peer 7) Absent) [] [] ≡ 26)
    × (refusal_of max_inputs 0 0 (pool false 6 1 256) 4 empty [] None (sub 0 Local Absent) [] [] ≡ 27)
    × (refusal_of max_inputs 0 0 (pool false 6 1 256) 4 empty [] None (sub 0 (Peer 7) (Valid 4294967296)) [] [] ≡ 5)
    × (refusal_of max_inputs 1 0 (pool false 6 1 256) 4 empty [] (Some (account 0 0)) (sub 0 (Peer 7) Invalid) [] [] ≡ 0)
unfolding refusal_of call_refusal state_refusal peer_refusal list_refusal fee_of height_key inputs_to
order-edges = (refl, refl, refl, refl)
