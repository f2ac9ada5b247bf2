-- A list of calls that were made: an accepted submission, one that credits its parent, one that evicts, one that replaces, a block, and a refused call. So
-- `Run` is inhabited by more than the empty list, and `demand3` says numbers of it. Each call's result is computed from its definition.
use Rattle.std.specs.Prelude.{ℕ, ◌≡◌, refl, List, [], ◌∷◌, map, length}
use Rattle.std.proofs.Common.{sym, ap, ◌∙◌, arith}
use Rattle.words.specs.Find.{found}
use Rattle.words.specs.Ids.{id_at}
use Rattle.pool_types.specs.declared.Source.{Source}
use Rattle.pool_types.specs.declared.Source.TheVariants.{Local, Peer}
use Rattle.pool_types.specs.declared.Submission.{Submission}
use Rattle.pool_types.specs.declared.Verdict.TheVariants.{Valid}
use Rattle.pool_types.specs.Outcomes.{Outcome, done, wrote, refused}
use Rattle.arguments.specs.Arguments.{fee_of, height_key, counts_agree}
use Rattle.stats.specs.Stats.{fresh}
use Rattle.expiring_cache.specs.Layout.{cache_room}
use Rattle.entries.specs.Entries.{ahead}
use Rattle.entries.specs.Layout.{entries_room}
use Rattle.boxes.specs.Flat.{ids_to, ids_of}
use Rattle.boxes.specs.Layout.{is_set, boxes_room}
use Rattle.indexes.specs.Resolved.{resolved_by, input_at, inputs_to, submitted}
use Rattle.store.specs.World.{World, Result}
use Rattle.mempool.specs.Start.{started, sized, empty}
use Rattle.mempool.specs.Start.{settled as accepted}
use Rattle.checks.specs.Checks.{refusal_of, call_refusal, state_refusal, list_refusal, peer_refusal}
use Rattle.admit.specs.Admit.{admit_spec, contested, seated, settled, joined, newcomer, loses, crowded, charged_sum}
use Rattle.process.specs.Process.{processed, judged}
use Rattle.blocks.specs.Blocks.{applied, block_refusal, readable, applied_txs, confirm_one, drive_out, rivals, spent, confirmed_of, confirmed_from, inputs_at}
use Rattle.blocks.specs.Blocks.{settled as cleared}
use Rattle.ledger.specs.Book.{tx_weight}
use Rattle.ledger.specs.Ledger.{Submit, Block, Heard, told, charge_for, enters_submission, turned_away, hears_submission, mined, ledger}
use Rattle.ledger.specs.Run.{world_at, limits_at, Step, Run, begin, call}
use Rattle.ledger.proofs.Theorem.{start-begins, demand3}
use Rattle.ledger.proofs.WitnessStore.{i, small, plain, settings, state_of, with, Stands, w0, w1, w2, w3, w4, w5, s0, s1, s2, s3, s4, s5}

-- ---- the arguments: a transaction k of 1,024 bytes, of one input and one output, which is a fee

abbrev sub : ℕ → Source → Submission
sub k from = record { time = 0; id = i k; size = 1024; preheader = 0; source = from; verdict = Valid 500 }

abbrev spends : ℕ → ℕ → List ℕ
spends b f = 0 ∷ 0 ∷ 0 ∷ b ∷ f ∷ []

abbrev makes : ℕ → ℕ → List ℕ
makes b fee = 0 ∷ 0 ∷ 0 ∷ b ∷ fee ∷ 1 ∷ 0 ∷ []

spent-are : (b f : ℕ) → ids_of 5 (spends b f) ≡ b ∷ []
unfolding ids_to id_at
spent-are b f = rw (small b)

made-are : (b fee : ℕ) → ids_of 7 (makes b fee) ≡ b ∷ []
unfolding ids_to id_at
made-are b fee = rw (small b)

inputs_are : (b f : ℕ) → submitted (spends b f) ≡ record { box = b; confirmed = is_set f } ∷ []
unfolding inputs_to input_at id_at
inputs_are b f = rw (small b)

-- a block of transaction 1 with its input, box 7
abbrev txs : List ℕ
txs = 0 ∷ 0 ∷ 0 ∷ 1 ∷ 1 ∷ []

abbrev ins : List ℕ
ins = 0 ∷ 0 ∷ 0 ∷ 7 ∷ []

confirmed-are : confirmed_of txs ins ≡ record { id = 1; inputs = 7 ∷ [] } ∷ []
unfolding confirmed_of confirmed_from inputs_at id_at ids_to
confirmed-are = rw (small 1, small 7)

-- ---- what each call comes to

-- a submission of k that spends b, flagged f, and makes c for a fee, with places for 9 ids, where the store is that of `at` and decodes to w
abbrev comes : World → World → ℕ → Source → ℕ → ℕ → ℕ → ℕ → Result
comes at w k from b f c fee = processed (limits_at (with at)) (state_of at) w 9 (sub k from) (spends b f) (makes c fee)

comes1 : comes w0 w0 1 (Peer 7) 7 1 11 20 ≡ record { outcome = done; world = w1; written = [] }
unfolding processed refusal_of call_refusal state_refusal list_refusal peer_refusal judged admit_spec contested seated settled joined newcomer loses crowded fee_of height_key charged_sum ahead resolved_by entries_room boxes_room
comes1 = rw (plain 1, spent-are 7 1, made-are 11 20, inputs_are 7 1)

comes2 : comes w1 w1 2 Local 11 0 12 30 ≡ record { outcome = done; world = w2; written = [] }
unfolding processed refusal_of call_refusal state_refusal list_refusal peer_refusal judged admit_spec contested seated settled joined newcomer loses crowded fee_of height_key charged_sum ahead resolved_by entries_room boxes_room
comes2 = rw (plain 2, spent-are 11 0, made-are 12 30, inputs_are 11 0)

comes3 : comes w2 w2 3 Local 8 1 13 40 ≡ record { outcome = done; world = w3; written = [] }
unfolding processed refusal_of call_refusal state_refusal list_refusal peer_refusal judged admit_spec contested seated settled joined newcomer loses crowded fee_of height_key charged_sum ahead resolved_by entries_room boxes_room
comes3 = rw (plain 3, spent-are 8 1, made-are 13 40, inputs_are 8 1)

comes4 : comes w3 w3 4 Local 8 1 14 60 ≡ record { outcome = wrote 1; world = w4; written = 3 ∷ [] }
unfolding processed refusal_of call_refusal state_refusal list_refusal peer_refusal judged admit_spec contested seated settled joined newcomer loses crowded fee_of height_key charged_sum ahead resolved_by entries_room boxes_room
comes4 = rw (plain 4, spent-are 8 1, made-are 14 60, inputs_are 8 1)

mined5 : (applied (state_of w4) w4 (fresh 0) 9 0 txs ins).result ≡ record { outcome = wrote 1; world = w5; written = 1 ∷ [] }
unfolding applied block_refusal readable counts_agree cleared applied_txs confirm_one drive_out rivals spent
mined5 = rw confirmed-are

-- 4 once more: it is pooled
comes6 : comes w5 w5 4 Local 8 1 14 60 ≡ record { outcome = refused 23 0; world = w5; written = [] }
unfolding processed refusal_of call_refusal state_refusal list_refusal peer_refusal judged admit_spec contested seated settled joined newcomer loses crowded fee_of height_key charged_sum ahead resolved_by entries_room boxes_room
comes6 = rw (plain 4)

-- ---- the steps

submits : (w w' : World) (k : ℕ) (from : Source) (b f c fee : ℕ) (o : Outcome) (ks : List ℕ) → Stands w → Stands w' → comes w w k from b f c fee ≡ record { outcome = o; world = w'; written = ks }
    → Step (Submit (sub k from) (spends b f) (makes c fee)) o (with w) (with w')
submits w w' k from b f c fee o ks s s' e =
    let z : comes w (world_at (with w)) k from b f c fee ≡ record { outcome = o; world = w'; written = ks } = ap (λ (x : World). comes w x k from b f c fee) s.is ∙ e in
    record {
      room = 9;
      left = λ _. record { kept = s'.kept; config = refl; outcome = sym (ap (λ (r : Result). r.outcome) z); world = s'.is ∙ sym (ap (λ (r : Result). r.world) z); pass = refl };
    }

mines : Step (Block 0 txs ins) (wrote 1) (with w4) (with w5)
mines =
    let z : (applied (state_of w4) (world_at (with w4)) (fresh 0) 9 0 txs ins).result ≡ record { outcome = wrote 1; world = w5; written = 1 ∷ [] } =
    ap (λ (x : World). (applied (state_of w4) x (fresh 0) 9 0 txs ins).result) s4.is ∙ mined5 in
    record {
      room = 9;
      stats = fresh 0;
      left = λ _. record { kept = s5.kept; config = refl; outcome = sym (ap (λ (r : Result). r.outcome) z); world = s5.is ∙ sym (ap (λ (r : Result). r.world) z); pass = refl };
    }

-- ---- the list

abbrev heard : ℕ → Source → ℕ → ℕ → ℕ → ℕ → Outcome → Heard
heard k from b f c fee o = record { call = Submit (sub k from) (spends b f) (makes c fee); outcome = o }

abbrev two : List Heard
two = heard 2 Local 11 0 12 30 done ∷ heard 1 (Peer 7) 7 1 11 20 done ∷ []

abbrev four : List Heard
four = heard 4 Local 8 1 14 60 (wrote 1) ∷ heard 3 Local 8 1 13 40 done ∷ two

abbrev six : List Heard
six = heard 4 Local 8 1 14 60 (refused 23 0) ∷ record { call = Block 0 txs ins; outcome = wrote 1 } ∷ four

run0 : Run settings [] (with w0)
unfolding started sized accepted empty entries_room boxes_room cache_room
run0 = begin (with w0) (start-begins (with w0) settings refl) (omega arith)

pub run2 : Run settings two (with w2)
run2 =
    call _ done (with w2) (call _ done (with w1) run0 (submits w0 w1 1 (Peer 7) 7 1 11 20 done [] s0 s1 comes1)) (submits w1 w2 2 Local 11 0 12 30 done [] s1 s2 comes2)

pub run4 : Run settings four (with w4)
run4 =
    call _ (wrote 1) (with w4) (call _ done (with w3) run2 (submits w2 w3 3 Local 8 1 13 40 done [] s2 s3 comes3))
    (submits w3 w4 4 Local 8 1 14 60 (wrote 1) (3 ∷ []) s3 s4 comes4)

pub run6 : Run settings six (with w5)
run6 = call _ (refused 23 0) (with w5) (call _ (wrote 1) (with w5) run4 mines) (submits w5 w5 4 Local 8 1 14 60 (refused 23 0) [] s5 s5 comes6)

-- ---- demand 3 of it

-- the ledger heard of 2 that it was accepted, and of no weight: that 1 weighs 50 then is its base of 20 and a credit of 30
weighs-50 : map tx_weight (found (λ t. t.id) 1 (told settings two).book.txs) ≡ 50 ∷ []
weighs-50 = sym ((demand3 settings two (with w2) run2).weights 1) ∙ ap (λ (w : World). map (λ e. e.weight) (found (λ e. e.id) 1 w.tables.entries)) s2.is

-- 2 was evicted and 3 replaced; the block took 1, and 4 is left
are-left : (length (told settings four).book.txs ≡ 2) × (length (told settings six).book.txs ≡ 1)
are-left = (
  sym (demand3 settings four (with w4) run4).as_many ∙ ap (λ (w : World). length w.tables.entries) s4.is,
  sym (demand3 settings six (with w5) run6).as_many ∙ ap (λ (w : World). length w.tables.entries) s5.is,
)

-- the charge of 1, until the block
charges : ((told settings two).charged ≡ record { peer = 7; cost = 1024 } ∷ []) × ((told settings six).charged ≡ [])
unfolding ledger hears_submission enters_submission turned_away charge_for mined
charges = (refl, refl)
