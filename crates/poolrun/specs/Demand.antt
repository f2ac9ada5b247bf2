-- Demand 3 of what poolrun holds: for every input, after every line.
use Rattle.std.specs.Prelude.{Err, Ok, Result}
use Rattle.pool_types.specs.declared.Refusal.{Refusal}
use Rattle.std.specs.Prelude.{ℕ, ◌/◌, ◌≤◌, ◌≡◌, Bool, not, List, [], ◌∷◌, length, take}
use Rattle.std.proofs.Math.Path.{refl, sym, ap}
use Rattle.std.proofs.Common.{subst, ◌∙◌, arith}
use Rattle.std.proofs.Math.Bool.{true, false}
use Rattle.words.specs.Lists.{pick}
use Rattle.pool_types.specs.declared.MempoolConfig.{MempoolConfig}
use Rattle.pool_types.specs.declared.Mempool.{Mempool}
use Rattle.pool_types.specs.Outcomes.{Outcome, done}
use Rattle.peers.specs.Flat.{records}
use Rattle.store.specs.World.{world_of}
use Rattle.mempool.specs.Start.{empty, started}
use Rattle.cleanup.specs.Passes.{PassResult, pass_of, still}
use Rattle.lines.specs.declared.read.PoolForm.{PoolForm}
use Rattle.console.specs.Console.{Line, w_no_pool, asked, line_of, called, altered, same, started_line, processed_line, applied_line, done_line, pass_line, config_of}
use Rattle.console.specs.Calls.{call_of, lacks_pool}
use Rattle.console.specs.Calls.{words_of as list_words}
use Rattle.console.specs.Kept.{Kept}
use Rattle.console.specs.declared.calls.Call.{Call}
use Rattle.console.specs.declared.calls.Call.TheVariants as call
use Rattle.console.specs.declared.calls.Change.{Change}
use Rattle.console.specs.declared.calls.Change.TheVariants.{Submit, Return, Block, Invalidate, Open, Next, Answer}
use Rattle.ledger.specs.Ledger.{Heard}
use Rattle.ledger.specs.Run.{Moment, moment, world_at, pass_at, Became, Step}
use Rattle.ledger.proofs.Theorem.{Told, accepted-start, empty-world, empty-pass, told-begin, told-call, told-still, told-demand3}
use Rattle.ledger.specs.Demand3.{Demand3}
use Rattle.poolrun.specs.Input as input
use Rattle.poolrun.specs.Input.{Words, State, at_start, added, Answered, adds, ends, Fed, none, more, ended, Finished, between, last, Turn, over, some, Served, unread, reads}
use Rattle.poolrun.specs.History.{moment_of, sizes_of, made_call, comes_to, list_one, list_two, heard_of, Other, asks, unreadable, refused, Since, begins, makes, tells, goes, History}

-- ---- a line, as its definition has it

module _ (w : Words) (h : Kept) (n room : ℕ) (f s : List ℕ) where
  abbrev here : Call → Line
  here c = line_of w.entries w.boxes w.cache w.peers w.answer h n room f s c

  line-alters : (c : Change) → h.ready ≡ true → here (call.Alter c) ≡ altered w.entries w.boxes w.cache w.peers w.answer h (take (list_words c).one f) (take (list_words c).two s) c
  unfolding line_of called lacks_pool
  line-alters c q = rw q

  line-starts : (p : PoolForm) → here (call.Start p) ≡ started_line w.entries w.boxes w.cache w.peers w.answer h (started (sizes_of w) (config_of p))
  unfolding line_of called lacks_pool
  line-starts p = refl

-- what it leaves of the pool
pub record LineIs (m : Line) (b : Bool) (g : MempoolConfig) (r : PassResult) : Type 0 where
  pub ready : m.ready ≡ b
  pub config : m.config ≡ g
  pub world : m.world ≡ r.world
  pub pass : m.pass ≡ r.pass

module _ (w : Words) (h : Kept) (f s : List ℕ) where
  altered-is : (c : Change) → LineIs (altered w.entries w.boxes w.cache w.peers w.answer h f s c) true h.mempool.config (comes_to w h f s c)
  unfolding altered processed_line applied_line done_line pass_line
  altered-is (Submit t) = record { ready = refl; config = refl; world = refl; pass = refl }
  altered-is (Return g) = record { ready = refl; config = refl; world = refl; pass = refl }
  altered-is (Block g) = record { ready = refl; config = refl; world = refl; pass = refl }
  altered-is (Invalidate time x) = record { ready = refl; config = refl; world = refl; pass = refl }
  altered-is (Open time limit preheader) = record { ready = refl; config = refl; world = refl; pass = refl }
  altered-is Next = record { ready = refl; config = refl; world = refl; pass = refl }
  altered-is (Answer n v) = record { ready = refl; config = refl; world = refl; pass = refl }

  -- the same, as a step of the ledger's lists
  abbrev before : Moment
  before = moment w.entries w.boxes w.cache (records w.peers) h.mempool

  step_of : (c : Change) (n : Moment) → Became before n (comes_to w h f s c).outcome (comes_to w h f s c) → Step (made_call f s c) (comes_to w h f s c).outcome before n
  step_of (Submit t) n b = record { room = length w.answer / 4; left = λ _. b }
  step_of (Return g) n b = λ _. b
  step_of (Block g) n b = record { room = length w.answer / 4; stats = h.stats; left = λ _. b }
  step_of (Invalidate time x) n b = λ _. b
  step_of (Open time limit preheader) n b = λ _. b
  step_of Next n b = λ _. b
  step_of (Answer k v) n b = λ _. b

-- ---- a line that was answered

module _ {s s' : State} {t : List ℕ} (x : Answered s t s') where
  abbrev line : Call → Line
  line c = here s.words s.kept s'.number 1024 x.comes.first x.comes.second c

  -- the line that it came to, of the call c
  came : (c : Call) → call_of x.comes.form ≡ c → x.to ≡ line c
  came c q = x.comes.is ∙ ap line q

  -- what is held then is what the line says
  became : {ready : Bool} {config : MempoolConfig} {r : PassResult} (o : Outcome) → o ≡ r.outcome → LineIs x.to ready config r → config ≡ s.kept.mempool.config → Became (moment_of s) (moment_of s') o r
  became o q l z =
      record { kept = x.leaves.holds.store; config = x.leaves.config ∙ l.config ∙ z; outcome = q; world = x.leaves.world ∙ l.world; pass = x.leaves.pass ∙ l.pass }

  is-as : {m : Line} {ready : Bool} {config : MempoolConfig} {r : PassResult} → x.to ≡ m → LineIs m ready config r → LineIs x.to ready config r
  is-as e l = rw e l

  -- a changing form, of a pool that is there
  made-is : (c : Change) → call_of x.comes.form ≡ call.Alter c → s.kept.ready ≡ true → LineIs x.to true s.kept.mempool.config (comes_to s.words s.kept (list_one x c) (list_two x c) c)
  made-is c q r =
      is-as (came (call.Alter c) q ∙ line-alters s.words s.kept s'.number 1024 x.comes.first x.comes.second c r)
      (altered-is s.words s.kept (list_one x c) (list_two x c) c)

  -- nothing but the text
  same-is : (m : List ℕ) → LineIs (same s.words.entries s.words.boxes s.words.cache s.words.peers s.words.answer s.kept m) s.kept.ready s.kept.mempool.config (still done (world_at (moment_of s)) (pass_at (moment_of s)))
  unfolding same
  same-is m = record { ready = refl; config = refl; world = refl; pass = refl }

  other-is : (c : Call) → call_of x.comes.form ≡ c → Other s.words c → LineIs x.to s.kept.ready s.kept.mempool.config (still done (world_at (moment_of s)) (pass_at (moment_of s)))
  unfolding line_of called lacks_pool started_line
  other-is _ e (asks q) = is-as (came (call.Ask q) e) (go (not s.kept.ready))
    where
      go : (b : Bool) → LineIs (pick b (same s.words.entries s.words.boxes s.words.cache s.words.peers s.words.answer s.kept w_no_pool) (same s.words.entries s.words.boxes s.words.cache s.words.peers s.words.answer s.kept (asked s.words.entries s.words.boxes s.words.cache s.words.peers s.words.answer s.kept 1024 x.comes.first q))) s.kept.ready s.kept.mempool.config (still done (world_at (moment_of s)) (pass_at (moment_of s)))
      go true = same-is _
      go false = same-is _
  other-is _ e unreadable = is-as (came call.Unreadable e) (same-is _)
  other-is _ e (refused p f q) =
      is-as {m = started_line s.words.entries s.words.boxes s.words.cache s.words.peers s.words.answer s.kept (Err f)}
      (came (call.Start p) e ∙ line-starts s.words s.kept s'.number 1024 x.comes.first x.comes.second p ∙ ap (started_line s.words.entries s.words.boxes s.words.cache s.words.peers s.words.answer s.kept) q)
      (record { ready = refl; config = refl; world = refl; pass = refl })

-- ---- from line to line

-- a pool that was started is there
there : {g : MempoolConfig} {h : List Heard} {s : State} → Since g h s → s.kept.ready ≡ true
unfolding started_line
there (begins {s = s} {s' = s'} x p st q e c) =
    x.leaves.ready
    ∙ ap (λ (m : Line). m.ready) (came x (call.Start p) q ∙ line-starts s.words s.kept s'.number 1024 x.comes.first x.comes.second p ∙ ap (started_line s.words.entries s.words.boxes s.words.cache s.words.peers s.words.answer s.kept) e)
there (makes i x c q) = x.leaves.ready ∙ (made-is x c q (there i)).ready
there (tells i x o) = x.leaves.ready ∙ (other-is x _ refl o).ready ∙ there i
there (goes i w k) = ap (λ (m : Kept). m.ready) k ∙ there i

since-told : {g : MempoolConfig} {h : List Heard} {s : State} → 1 ≤ g.cost_per_peer_per_block → Since g h s → Told g h (moment_of s)
unfolding started_line empty
since-told {g} one (begins {s = s} {s' = s'} x p st q e c) =
    told-begin g (moment_of s')
    (record {
      sizes = sizes_of s.words;
      accepted = ap (started (sizes_of s.words)) (sym c) ∙ e ∙ ap Ok new;
      kept = x.leaves.holds.store;
      config = x.leaves.config ∙ ap (λ (m : Line). m.config) to ∙ ap (λ (m : Mempool). m.config) new;
      world = x.leaves.world ∙ ap (λ (m : Line). m.world) to ∙ ap (world_of s.words.entries s.words.boxes s.words.cache (records s.words.peers)) new ∙ empty-world s.words.entries s.words.boxes s.words.cache (records s.words.peers) g;
      pass = x.leaves.pass ∙ ap (λ (m : Line). m.pass) to ∙ ap (λ (m : Mempool). pass_of m.pass) new ∙ empty-pass g;
    })
    one
  where
    new : st ≡ empty g
    new = (accepted-start (sizes_of s.words) g st (ap (started (sizes_of s.words)) (sym c) ∙ e)).state

    to : x.to ≡ started_line s.words.entries s.words.boxes s.words.cache s.words.peers s.words.answer s.kept (Ok st)
    to = came x (call.Start p) q ∙ line-starts s.words s.kept s'.number 1024 x.comes.first x.comes.second p ∙ ap (started_line s.words.entries s.words.boxes s.words.cache s.words.peers s.words.answer s.kept) e
since-told {g} one (makes {s = s} {s' = s'} i x c q) =
    told-call g (since-told one i) (heard_of x c).call (heard_of x c).outcome
    (step_of s.words s.kept (list_one x c) (list_two x c) c (moment_of s') (became x _ refl (made-is x c q (there i)) refl))
since-told {g} one (tells {s = s} {s' = s'} i x o) = told-still g (since-told one i) done (λ _. became x done refl (other-is x _ refl o) refl)
since-told {g} one (goes {h = h} {s = s} {s' = s'} i w k) = subst (Told g h) (sym same-moment) (since-told one i)
  where
    same-moment : moment_of s' ≡ moment_of s
    same-moment = λ j. moment (w j).entries (w j).boxes (w j).cache (records (w j).peers) (k j).mempool

-- ---- from the first byte

-- a state of the program: where a pool is there, it has a history
abbrev Known : State → Type 0
Known s = s.kept.ready ≡ true → History s

module _ {s s' : State} {t : List ℕ} (k : Known s) (x : Answered s t s') where
  -- a changing form makes no pool
  was : (c : Change) → call_of x.comes.form ≡ call.Alter c → (b : Bool) → s.kept.ready ≡ b → s'.kept.ready ≡ true → s.kept.ready ≡ true
  unfolding line_of lacks_pool same
  was c q true e r = e
  was c q false e r =
      let z : s'.kept.ready ≡ s.kept.ready = x.leaves.ready ∙ ap (λ (m : Line). m.ready) (came x (call.Alter c) q) ∙ rw e in
      sym z ∙ r

  other : (c : Call) → call_of x.comes.form ≡ c → Other s.words c → Known s'
  other c q o = λ r.
      let i = k (sym (x.leaves.ready ∙ (other-is x c q o).ready) ∙ r) in
      record { settings = i.settings; heard = i.heard; since = tells i.since x (subst (Other s.words) (sym q) o) }

  started-line : (p : PoolForm) → call_of x.comes.form ≡ call.Start p → (z : Result Mempool Refusal) → started (sizes_of s.words) (config_of p) ≡ z → Known s'
  started-line p q (Ok st) e = λ _. record { settings = config_of p; heard = []; since = begins x p st q e refl }
  started-line p q (Err n) e = other (call.Start p) q (refused p n e)

  known-call : (c : Call) → call_of x.comes.form ≡ c → Known s'
  known-call (call.Start p) q = started-line p q (started (sizes_of s.words) (config_of p)) refl
  known-call (call.Alter c) q = λ r. let i = k (was c q s.kept.ready refl r) in record { settings = i.settings; heard = heard_of x c ∷ i.heard; since = makes i.since x c q }
  known-call (call.Ask y) q = other (call.Ask y) q (asks y)
  known-call call.Unreadable q = other call.Unreadable q unreadable

  known-line : Known s'
  known-line = known-call (call_of x.comes.form) refl

known-goes : {s s' : State} → Known s → s'.words ≡ s.words → s'.kept ≡ s.kept → Known s'
known-goes k w e = λ r. let i = k (sym (ap (λ (m : Kept). m.ready) e) ∙ r) in record { settings = i.settings; heard = i.heard; since = goes i.since w e }

known_step : {b : ℕ} {s s' : State} {t : List ℕ} → Known s → input.Step b s t s' → Known s'
unfolding added
known_step k (adds h) = known-goes k refl refl
known_step k (ends e x) = known-line k x

pub known-fed : {bs ts : List ℕ} {s s' : State} → Known s → Fed bs s ts s' → Known s'
known-fed k none = k
known-fed k (more x f) = known-fed (known_step k x) f

known-finished : {s s' : State} {t : List ℕ} → Known s → Finished s t s' → Known s'
unfolding ended
known-finished k (between e) = known-goes k refl refl
known-finished k (last e x) = known-goes (known-line k x) refl refl

known-turn : {r t : List ℕ} {s s' : State} → Known s → Turn r s t s' → Known s'
known-turn k (over f) = known-finished k f
known-turn k (some f) = known-fed k f

known-served : {rs : List (List ℕ)} {t : List ℕ} {s s' : State} → Known s → Served rs s t s' → Known s'
known-served k unread = k
known-served k (reads o x f) = known-served (known-turn k x) f

-- ---- demand 3 of what poolrun holds, with the ledger fed the forms read since the last `(ready)` and what they were answered

pub record Demanded (s : State) : Type 0 where
  pub history : History s
  pub demand : 1 ≤ history.settings.cost_per_peer_per_block → Demand3 history.settings history.heard (moment_of s)

-- For every input, however its bytes are read: reads may end anywhere, so this is every moment, and after each line.
pub poolrun-demand3 : {rs : List (List ℕ)} (e b k p a : List ℕ) {t : List ℕ} {s : State} → Served rs (at_start e b k p a) t s → s.kept.ready ≡ true → Demanded s
poolrun-demand3 e b k p a {s = s} f r =
    let i : History s = known-served {s = at_start e b k p a} (λ q. let z : ◌≡◌ {A = ℕ} 0 1 = cc in absurd (omega arith)) f r in
    record { history = i; demand = λ one. told-demand3 i.settings i.heard (moment_of s) (since-told one i.since) }
