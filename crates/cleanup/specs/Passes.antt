-- A pass (document 01, "Blocks, returns, passes": "A pass has the rule of `revalidate_within`, in three calls"; cleanup.rs): what open, next and answer
-- each answer and all that they leave, as a function of the decoded store, the state and the arguments.
use Rattle.std.specs.Prelude.{None, Option, Some}
use Rattle.std.specs.Prelude.{ℕ, ◌+◌, ◌-◌, ◌≡◌, refl, Bool, true, false, not, ◌&&◌, List, [], ◌∷◌, eqb, leb, ltb, length}
use Rattle.words.specs.Lists.{pick}
use Rattle.words.specs.Find.{found}
use Rattle.words.specs.Sums.{capped}
use Rattle.words.specs.Ids.{id_of}
use Rattle.pool_types.specs.declared.Pass.{Pass}
use Rattle.pool_types.specs.declared.MempoolConfig.{MempoolConfig}
use Rattle.pool_types.specs.declared.Verdict.{Verdict}
use Rattle.pool_types.specs.declared.Verdict.TheVariants.{Valid, Invalid, Absent}
use Rattle.pool_types.specs.Outcomes.{Outcome, refused, done, needed, candidate, ended, missing, invalid, valid}
use Rattle.arguments.specs.Arguments.{ahead_of}
use Rattle.expiring_cache.specs.Cache.{remember}
use Rattle.entries.specs.Entries.{Entry, stamped}
use Rattle.boxes.specs.Records.{index, inputs_of}
use Rattle.indexes.specs.Resolved.{all_resolved, flagged}
use Rattle.pool.specs.Pool.{remove_tx}
use Rattle.store.specs.World.{World, world}

-- ---- a pass as it stands between calls

pub record PassNow : Type 0 where
  pub is_open : Bool
  -- a candidate waits for its answer: "the id that next gave last"
  pub out : Bool
  pub candidate : ℕ
  pub time : ℕ
  pub limit : ℕ
  pub preheader : ℕ
  -- the sum of costs so far
  pub spent : ℕ

abbrev pub pass_of : Pass → PassNow
pass_of p =
    record { is_open = p.«open»; out = p.out; candidate = id_of p.candidate; time = p.time; limit = p.limit; preheader = p.preheader; spent = p.spent }

abbrev pub no_pass : PassNow
no_pass = record { is_open = false; out = false; candidate = 0; time = 0; limit = 0; preheader = 0; spent = 0 }

-- what a call of a pass answers and leaves; none of them writes a list
pub record PassResult : Type 0 where
  pub outcome : Outcome
  pub world : World
  pub pass : PassNow

-- "nothing changes"
abbrev pub still : Outcome → World → PassNow → PassResult
still o w p = record { outcome = o; world = w; pass = p }

-- ---- open (time, limit, preheader). 20: "a pass is open"

unfoldable pub opened : World → PassNow → ℕ → ℕ → ℕ → PassResult
opened w p time limit preheader =
    pick p.is_open (still (refused 20 0) w p)
    (record {
      outcome = done;
      world = w;
      pass = record { is_open = true; out = false; candidate = 0; time = time; limit = limit; preheader = preheader; spent = 0 };
    })

-- ---- next

-- "Due: now − last checked > interval", and "a difference that would be negative is 0"
unfoldable pub due : ℕ → ℕ → ℕ → Bool
due interval now checked = ltb interval (now - checked)

-- due, and not one of "those ahead in height being passed over unstamped"
unfoldable pub is_candidate : ℕ → PassNow → Entry → Bool
is_candidate interval p e = due interval p.time e.last_checked && not (ahead_of e.height_key p.preheader)

-- "the first due entry in priority order is the next candidate": its id, or none
abbrev pub first_due : ℕ → PassNow → List Entry → List ℕ
first_due interval p [] = []
first_due interval p (e ∷ es) = pick (is_candidate interval p e) (e.id ∷ []) (first_due interval p es)

-- "Next gives the candidate's id"; where there is none it "says 'ended', with the sum, and closes the pass"
unfoldable pub offered : List ℕ → World → PassNow → PassResult
offered [] w p = record { outcome = ended p.spent; world = w; pass = no_pass }
offered (k ∷ ks) w p =
    record {
      outcome = candidate k;
      world = w;
      pass = record { is_open = p.is_open; out = true; candidate = k; time = p.time; limit = p.limit; preheader = p.preheader; spent = p.spent };
    }

-- with no candidate out: ended "exactly if none such follows or the sum has reached the limit"
unfoldable pub sought : ℕ → World → PassNow → PassResult
sought interval w p = pick (leb p.limit p.spent) (offered [] w p) (offered (first_due interval p w.tables.entries) w p)

-- 21: "none is open". "Next with a candidate unanswered gives it again."
unfoldable pub nexted : MempoolConfig → World → PassNow → PassResult
nexted g w p =
    pick (not p.is_open) (still (refused 21 0) w p)
    (pick p.out (still (candidate p.candidate) w p)
    (sought g.cleanup_interval w p))

-- ---- answer (flags, verdict)

-- "its previous cost (0 if none)"
abbrev pub measured : Option ℕ → ℕ
measured None = 0
measured (Some c) = c

abbrev pub previous_cost : List Entry → ℕ
previous_cost [] = 0
previous_cost (e ∷ es) = measured e.validation_cost

-- the candidate was answered, and this cost is added. "The sum stops at 2^64−1."
unfoldable pub answered_with : ℕ → PassNow → PassNow
answered_with c p =
    record { is_open = p.is_open; out = false; candidate = p.candidate; time = p.time; limit = p.limit; preheader = p.preheader; spent = capped (p.spent + c) }

-- 21: "none is open .. or for answer no candidate is out"; 1: there is "one flag for each of its inputs, in order", and another number is refused
unfoldable pub answer_refusal : World → PassNow → List ℕ → ℕ
answer_refusal w p flags =
    pick (not (p.is_open && p.out)) 21
    (pick (not (eqb (length flags) (length (inputs_of p.candidate w.tables.boxes)))) 1 0)

-- "an input found nowhere"
unfoldable pub lacks_input : World → ℕ → List ℕ → Bool
lacks_input w k flags = not (all_resolved (index true w.tables.boxes) (flagged (inputs_of k w.tables.boxes) flags))

-- it leaves the pool, "previous cost added"
abbrev pub goes : Outcome → World → PassNow → PassResult
goes o w p =
    record {
      outcome = o;
      world = world (remove_tx p.candidate w.tables) w.cache w.sum w.peers;
      pass = answered_with (previous_cost (found (λ e. e.id) p.candidate w.tables.entries)) p;
    }

-- "absent verdict, 'verdict needed'; invalid, cached and removed, previous cost added; valid, stamped, measured cost added". It "uses the pass's time".
unfoldable pub weighed : MempoolConfig → World → PassNow → Verdict → PassResult
weighed g w p Absent = still needed w p
weighed g w p Invalid =
    goes (invalid p.candidate) (world w.tables (remember g.invalidation_capacity p.time p.candidate w.cache) w.sum w.peers) p
weighed g w p (Valid c) =
    record {
      outcome = valid p.candidate;
      world = world (record { entries = stamped p.candidate (Some c) p.time w.tables.entries; boxes = w.tables.boxes }) w.cache w.sum w.peers;
      pass = answered_with c p;
    }

unfoldable pub answered : MempoolConfig → World → PassNow → List ℕ → Verdict → PassResult
answered g w p flags v =
    pick (eqb (answer_refusal w p flags) 0)
    (pick (lacks_input w p.candidate flags) (goes (missing p.candidate) w p) (weighed g w p v))
    (still (refused (answer_refusal w p flags) 0) w p)

-- ---- on the edges

-- "Age equal to interval: not due; one more: due"; a time before the stored one is an age of 0
due-edges : (due 10 110 100 ≡ false) × (due 10 111 100 ≡ true) × (due 0 3 100 ≡ false)
unfolding due
due-edges = (refl, refl, refl)
