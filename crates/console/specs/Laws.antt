-- Laws of a line: how many ids a submission wrote, what of them stands in the answer buffer, and that a start fits.
use Rattle.pool_types.specs.declared.Refusal.TheVariants.{Settings}
use Rattle.pool_types.specs.Refusals.{refusal_number}
use Rattle.std.specs.Prelude.{Err, Ok, Result}
use Rattle.pool_types.specs.declared.Refusal.{Refusal}
use Rattle.std.specs.Prelude.{ℕ, suc, ◌+◌, ◌*◌, ◌/◌, ◌≤◌, min, max, Bool, not, eqb, leb, ltb, length, take, set}
use Rattle.std.proofs.Math.Path.{◌≡◌, refl, subst}
use Rattle.std.proofs.Common.{sym, ap, ◌∙◌, add-suc, suc-add, length-set, length-append, length-take, take_all, take-suc-set}
use Rattle.std.proofs.Math.Bool.{true, false}
use mathlib.Core.List.{List, [], ◌∷◌, ◌++◌, append_assoc, append-nil}
use native.Mathlib.Omega.{arith}
use borrow.Author.Tests.{eqb-true, eqb-false, ltb-false, le-leb}
use Rattle.words.specs.Tables.{of_none}
use Rattle.pool.specs.Laws.{fits-true}
use Rattle.std.proofs.lemmas.List.Edits.{sets}
use Rattle.std.proofs.Math.Seq.{set_out, take-append_seam}
use Rattle.words.specs.Lists.{pick}
use Rattle.words.specs.Lists.{yes as met, no as unmet}
use Rattle.pool_types.specs.declared.MempoolConfig.{MempoolConfig}
use Rattle.pool_types.specs.declared.Mempool.{Mempool}
use Rattle.pool_types.specs.declared.Submission.{Submission}
use Rattle.pool_types.specs.declared.Verdict.{Verdict}
use Rattle.pool_types.specs.declared.Verdict.TheVariants.{Valid, Invalid, Absent}
use Rattle.pool_types.specs.Outcomes.{Outcome, refused, wrote, processed_of, listed_of}
use Rattle.entries.specs.Entries.{Entry}
use Rattle.boxes.specs.Flat.{count_of, ids_to, ids_of, ids}
use Rattle.pool.specs.Pool.{Tables, remove_all, evicted, fits_test}
use Rattle.answers.specs.Answers.{Wrote}
use Rattle.boxes.specs.Records.{index, conflicts}
use Rattle.arguments.specs.Arguments.{fee_of}
use Rattle.checks.specs.Checks.{refusal_of}
use Rattle.admit.specs.Admit.{Admitted, settled, seated, contested, admit_spec, crowded, loses, joined, newcomer, base_of}
use Rattle.store.specs.World.{World, Result as Reached, unchanged}
use Rattle.process.specs.Process.{Limits, standing_of, judged, processed}
use Rattle.entries.specs.Layout.{entries_room}
use Rattle.entries.specs.Layout.{kept-none as entries_none}
use Rattle.boxes.specs.Index.{kept-none as boxes-none}
use Rattle.expiring_cache.specs.Layout.{kept-none as cache-none}
use Rattle.boxes.specs.Layout.{boxes_room}
use Rattle.expiring_cache.specs.Layout.{cache_room, ok-room}
use Rattle.forms.specs.Nums.{Prints}
use Rattle.stats.specs.Stats.{fresh}
use Rattle.stats.specs.declared.FeeStats.{FeeStats}
use Rattle.store.specs.Fits.{goes_on, un_not}
use Rattle.store.specs.Fits.{Kept as Sound}
use Rattle.peers.specs.Flat.{records, flats}
use Rattle.process.specs.Post.{Post}
use Rattle.pool_types.specs.declared.Done.{Done}
use Rattle.pool_types.specs.declared.ProcessingOutcome.{ProcessingOutcome}
use Rattle.returns.specs.Post.{Meets}
use Rattle.cleanup.specs.Passes.{pass_of, PassResult}
use Rattle.cleanup.specs.Rebroadcast.{chosen, rebroadcast_refusal, rebroadcast}
use Rattle.cleanup.specs.Post.{PassPost, Sent}
use Rattle.blocks.specs.Blocks as blocks
use Rattle.blocks.specs.Blocks.{BlockResult, applied_txs, confirmed_of, block_refusal, begun, applied}
use Rattle.blocks.specs.Post.{Post as BlockPost}
use Rattle.blocks.specs.declared.Applied.{Applied}
use Rattle.mempool.specs.Start.{Sizes, sizes, within, sized, settled as settles, empty, started}
use Rattle.lines.specs.declared.read.PoolForm.{PoolForm}
use Rattle.console.specs.declared.calls.Call.{Call}
use Rattle.console.specs.declared.calls.Call.TheVariants.{Start, Alter, Ask, Unreadable}
use Rattle.console.specs.declared.calls.Change.{Change}
use Rattle.console.specs.declared.calls.Query.{Query}
use Rattle.console.specs.declared.calls.Words.{Words}
use Rattle.console.specs.Calls.{lacks_pool, words_of}
use Rattle.console.specs.Console.{Line, w_ready, w_no_pool, w_ids, refused_text, sent_text, unread_text, tx_text, or_refused, removed_text, pass_text, config_of, no_config, nothing, processed_line, applied_line, done_line, pass_line, altered, started_line, same, asked, called, line_of}
use Rattle.pool_types.specs.Outcomes.{written_of}
use Rattle.console.specs.Texts.{prints-as, list_count, list-text, list-refused}
use Rattle.replies.specs.Replies.{listed}
use Rattle.console.specs.After.{Holds, After, Told, ToldOf}
use Rattle.console.specs.Kept.{Kept}

-- ---- a submission's outcome says how many ids it wrote

record SaysAdmitted (room : ℕ) (d : Admitted) : Type 0 where
  is : written_of d.outcome ≡ min room (length d.written)

record SaysResult (room : ℕ) (r : Reached) : Type 0 where
  is : written_of r.outcome ≡ min room (length r.written)

picked : {room : ℕ} (t : Bool) (x y : Admitted) → SaysAdmitted room x → SaysAdmitted room y → SaysAdmitted room (pick t x y)
picked true x y p q = p
picked false x y p q = q

stopped : {room : ℕ} (n : ℕ) (t : Tables) → SaysAdmitted room (record { outcome = refused n 0; tables = t; written = [] })
unfolding written_of
stopped n t = record { is = omega arith }

lost : (room : ℕ) (ks : List ℕ) (t : Tables) → SaysAdmitted room (record { outcome = refused 29 (min room (length ks)); tables = t; written = ks })
unfolding written_of
lost room ks t = record { is = refl }

says-settled : (room capacity : ℕ) (ks : List ℕ) (t : Tables) → SaysAdmitted room (settled room capacity ks t)
unfolding settled written_of
says-settled room capacity [] t = record { is = omega arith }
says-settled room capacity (k ∷ ks) t = record { is = ap (min room) (sym (length-append (k ∷ ks) (evicted capacity t))) }

module _ (visits room capacity : ℕ) (e : Entry) (ins outs : List ℕ) where
  says-seated : (ks : List ℕ) (t : Tables) → SaysAdmitted room (seated visits room capacity e ins outs ks t)
  unfolding seated
  says-seated ks t =
      picked (crowded capacity e.base t.entries) (record { outcome = refused 30 0; tables = t; written = [] }) (settled room capacity ks (joined visits e ins outs t))
      (stopped 30 t) (says-settled room capacity ks (joined visits e ins outs t))

  says-contested : (ks : List ℕ) (t : Tables) → SaysAdmitted room (contested visits room capacity e ins outs ks t)
  unfolding contested
  says-contested ks t =
      picked (loses e.base ks t.entries) (record { outcome = refused 29 (min room (length ks)); tables = t; written = ks }) (seated visits room capacity e ins outs ks (remove_all ks t))
      (lost room ks t) (says-seated ks (remove_all ks t))

says-admitted : (visits room : ℕ) (g : MempoolConfig) (t : Tables) (a : Submission) (c : ℕ) (ins outs : List ℕ) → SaysAdmitted room (admit_spec visits room g t a c ins outs)
unfolding admit_spec
says-admitted visits room g t a c ins outs =
    picked (ltb (fee_of outs) g.min_fee) (record { outcome = refused 10 0; tables = t; written = [] }) _
    (stopped 10 t) (says-contested visits room g.capacity (newcomer a c (base_of g a c outs) ins outs) ins outs (conflicts (index false t.boxes) (ids_of 5 ins)) t)

says-judged : (visits room : ℕ) (st : Mempool) (w : World) (a : Submission) (ins outs : List ℕ) (v : Verdict) → SaysResult room (judged visits room st w a ins outs v)
unfolding judged written_of
says-judged visits room st w a ins outs Absent = record { is = omega arith }
says-judged visits room st w a ins outs Invalid = record { is = omega arith }
says-judged visits room st w a ins outs (Valid c) = let h = says-admitted visits room st.config w.tables a c ins outs in record { is = h.is }

unless : (room n : ℕ) (r : Reached) (w : World) (t : Bool) → SaysResult room r → SaysResult room (pick t r (unchanged (refused n 0) w))
unfolding written_of
unless room n r w true q = q
unless room n r w false q = record { is = omega arith }

pub says-processed : (m : Limits) (st : Mempool) (w : World) (room : ℕ) (a : Submission) (ins outs : List ℕ) → written_of (processed m st w room a ins outs).outcome ≡ min room (length (processed m st w room a ins outs).written)
unfolding processed
says-processed m st w room a ins outs =
    let n = refusal_of m.inputs m.entries m.boxes st room w.tables w.cache (standing_of a.source w.peers) a ins outs in
    (unless room n (judged m.visits room st w a ins outs a.verdict) w (eqb n 0) (says-judged m.visits room st w a ins outs a.verdict)).is

-- ---- of the ids written, the buffer holds those that it has places for

sets-out : (ks l : List ℕ) (i : ℕ) → length l ≤ i → sets l i ks ≡ l
sets-out [] l i h = refl
sets-out (k ∷ ks) l i h = rw (set_out l i k h) (sets-out ks l (suc i) (omega arith))

take-sets : (ks l : List ℕ) (i : ℕ) → i ≤ length l → take (min (i + length ks) (length l)) (sets l i ks) ≡ take (length l) (take i l ++ ks)
take-sets [] l i h =
    let m : min (i + 0) (length l) ≡ i = omega arith in
    rw (m, append-nil (take i l)) (sym (take_all (length l) (take i l) (omega (arith, length-take i l))))
take-sets (k ∷ ks) l i h = go (λ z. take-sets ks (set l i k) (suc i) z) (native.Mathlib.Decide.dec_le (suc i) (length l))
  where
    go : (suc i ≤ length (set l i k) → take (min (suc i + length ks) (length (set l i k))) (sets (set l i k) (suc i) ks) ≡ take (length (set l i k)) (take (suc i) (set l i k) ++ ks))
        → Dec (suc i ≤ length l) → take (min (i + suc (length ks)) (length l)) (sets (set l i k) (suc i) ks) ≡ take (length l) (take i l ++ (k ∷ ks))
    go more (yes p) =
        let a : i + suc (length ks) ≡ suc i + length ks = add-suc i (length ks) ∙ sym (suc-add i (length ks)) in
        let r = more (omega (arith, length-set l i k)) in
        rw a (rw (length-set l i k, take-suc-set l i k p, append_assoc (take i l) (k ∷ []) ks) at r)
    go more (no p) =
        let q : length l ≡ i = omega (arith, p) in
        let m : min (i + suc (length ks)) (length l) ≡ length l = omega (arith, p) in
        rw (m, set_out l i k (omega (arith, p)), sets-out ks l (suc i) (omega (arith, p)), take_all (length l) l (omega arith), take_all i l (omega (arith, q)))
        (sym (take-append_seam l (k ∷ ks)))

pub shown : (l m ks : List ℕ) (n : ℕ) → Wrote l m 0 ks → n ≡ length ks → ids_to 4 m (min n (count_of 4 l)) ≡ take (count_of 4 l) ks
shown l m ks n w q =
    let c : count_of 4 m ≡ count_of 4 l = ap (λ (x : ℕ). x / 4) w.kept in
    let z : length (ids_of 4 l) ≡ count_of 4 l = (ids 4).len l (count_of 4 l) in
    let f : take (min n (count_of 4 l)) (ids_of 4 m) ≡ ids_to 4 m (min n (count_of 4 l)) = (ids 4).first m (min n (count_of 4 l)) (count_of 4 m) (omega (arith, c)) in
    let s = take-sets ks (ids_of 4 l) 0 (omega arith) in
    let y : 0 + length ks ≡ length ks = omega arith in
    sym f ∙ rw (w.ids, q) (rw (y, z) at s)

-- where each has its place, they are all there
pub shown-whole : (l m ks : List ℕ) → Wrote l m 0 ks → length ks ≤ count_of 4 l → ids_to 4 m (length ks) ≡ ks
shown-whole l m ks w h =
    let z : min (length ks) (count_of 4 l) ≡ length ks = omega arith in
    rw z at (shown l m ks (length ks) w refl) ∙ take_all (count_of 4 l) ks h

-- a part of a list that is longer than the list is the list
pub take_min : (n m : ℕ) (l : List ℕ) → m ≡ min n (length l) → take m l ≡ take n l
take_min n m l q = rw q (go (native.Mathlib.Decide.dec_le n (length l)))
  where
    go : Dec (n ≤ length l) → take (min n (length l)) l ≡ take n l
    go (yes p) = let z : min n (length l) ≡ n = omega arith in rw z
    go (no p) = let z : min n (length l) ≡ length l = omega (arith, p) in rw z (take_all (length l) l (omega arith) ∙ sym (take_all n l (omega (arith, p))))

-- .. and is what is held of them then
module _ (a a' ks : List ℕ) (n : Outcome) (y : written_of n ≡ min (length a / 4) (length ks)) (d : Wrote a a' 0 ks) {m : Mempool} {s : FeeStats} {text : List ℕ → List ℕ} {o₀ o : List ℕ} (t : Told) (w : ToldOf a' m s n text o₀ o t) where
  count-is : t.kept.written ≡ min (length ks) (count_of 4 a)
  count-is = omega (arith, w.written, y, d.kept)

  held : ids_to 4 a' t.kept.written ≡ take (count_of 4 a) ks
  held = rw count-is (shown a a' ks (length ks) d refl)

-- ---- a submission's line

module _ (e b k p a e' b' k' p' a' : List ℕ) (h : Kept) (r : Done ProcessingOutcome) (s : Reached) (d : Post h.mempool r e' b' k' (records p') a a' s) (y : written_of s.outcome ≡ min (length a / 4) (length s.written))
    (x : ℕ) (o₀ o : List ℕ) (t : Told) (w : ToldOf a' r.mempool h.stats (processed_of r.outcome) (tx_text (processed_of r.outcome) x) o₀ o t) where
  held-processed : ids_to 4 a' t.kept.written ≡ take (count_of 4 a) s.written
  held-processed = held a a' s.written (processed_of r.outcome) (ap written_of d.outcome ∙ y) d.wrote t w

  pub after-processed : After e' b' k' p' a' o₀ o t (processed_line e b k p a h s x)
  unfolding processed_line
  after-processed =
      record {
        holds = record { store = rw w.mempool d.kept; written = omega (arith, w.written) };
        prints = prints-as (rw (d.outcome, held-processed)) w.prints;
        ready = w.ready;
        config = rw w.mempool d.config;
        pass = rw w.mempool (ap pass_of d.pass);
        world = rw w.mempool d.world;
        stats = w.stats;
        written = held-processed;
      }

-- a part that ends where a number or the list does has as many as it says
pub cut-is : (r a : ℕ) (l : List ℕ) → r ≡ min a (length l) → r ≡ length (take r l)
cut-is r a l q = omega (arith, length-take r l)

-- the lists are cut where the form's numbers of words say, or where the words end
pub after-cut : (e b k p a e' b' k' p' a' o₀ o : List ℕ) (h : Kept) (t : Told) (f s : List ℕ) (g : Change) (c : Words) (n m : ℕ) → c ≡ words_of g → n ≡ min c.one (length f) → m ≡ min c.two (length s)
    → After e' b' k' p' a' o₀ o t (altered e b k p a h (take n f) (take m s) g) → After e' b' k' p' a' o₀ o t (altered e b k p a h (take (words_of g).one f) (take (words_of g).two s) g)
after-cut e b k p a e' b' k' p' a' o₀ o h t f s g c n m x v w q = rw (← x, ← take_min c.one n f v, ← take_min c.two m s w) q

-- ---- a block's line

pub says-applied : (st : Mempool) (w : World) (s : FeeStats) (room time : ℕ) (txs ins : List ℕ) → written_of (applied st w s room time txs ins).result.outcome ≡ length (applied st w s room time txs ins).result.written
unfolding applied blocks.settled written_of
says-applied st w s room time txs ins = go (eqb (block_refusal st room txs ins) 0)
  where
    go : (t : Bool) → written_of (pick t (blocks.settled st w time (applied_txs time (confirmed_of txs ins) (begun w s))) (record { result = unchanged (refused (block_refusal st room txs ins) 0) w; stats = s })).result.outcome
        ≡ length (pick t (blocks.settled st w time (applied_txs time (confirmed_of txs ins) (begun w s))) (record { result = unchanged (refused (block_refusal st room txs ins) 0) w; stats = s })).result.written
    go true = refl
    go false = refl

-- each id that it wrote has its place, so all are held
module _ (e b k p a e' b' k' a' : List ℕ) (h : Kept) (r : Applied) (s : BlockResult) (d : BlockPost h.mempool r e' b' k' (records p) a a' s)
    (y : written_of s.result.outcome ≡ length s.result.written) (o₀ o : List ℕ) (t : Told) (w : ToldOf a' r.mempool r.stats (listed_of r.outcome) (removed_text (listed_of r.outcome)) o₀ o t) where
  held-removed : ids_to 4 a' t.kept.written ≡ s.result.written
  held-removed =
      held a a' s.result.written (listed_of r.outcome) (let z : written_of (listed_of r.outcome) ≡ length s.result.written = ap written_of d.outcome ∙ y in omega (arith, z, d.placed)) d.wrote t w
      ∙ take_all (count_of 4 a) s.result.written d.placed

  pub after-applied : After e' b' k' p a' o₀ o t (applied_line e b k p a h s)
  unfolding applied_line
  after-applied =
      record {
        holds = record { store = rw w.mempool d.kept; written = omega (arith, w.written) };
        prints = prints-as (rw (d.outcome, held-removed)) w.prints;
        ready = w.ready;
        config = rw w.mempool d.config;
        pass = rw w.mempool (ap pass_of d.pass);
        world = rw w.mempool d.world;
        stats = w.stats ∙ d.stats;
        written = held-removed;
      }

-- ---- a rebroadcast's text

says-sent : (st : Mempool) (w : World) (room : ℕ) (c : List ℕ) → written_of (rebroadcast st w room c).outcome ≡ length (rebroadcast st w room c).written
unfolding rebroadcast written_of
says-sent st w room c = go (eqb (rebroadcast_refusal st room c) 0)
  where
    go : (t : Bool) → written_of (pick t (record { outcome = wrote (length (chosen st.config.rebroadcast_count (ids_of 4 c) w.tables)); world = w; written = chosen st.config.rebroadcast_count (ids_of 4 c) w.tables }) (unchanged (refused (rebroadcast_refusal st room c) 0) w)).outcome
        ≡ length (pick t (record { outcome = wrote (length (chosen st.config.rebroadcast_count (ids_of 4 c) w.tables)); world = w; written = chosen st.config.rebroadcast_count (ids_of 4 c) w.tables }) (unchanged (refused (rebroadcast_refusal st room c) 0) w)).written
    go true = refl
    go false = refl

module _ {l m : List ℕ} {r : Result ℕ Refusal} (st : Mempool) (w : World) (c : List ℕ) (d : Sent l m (listed_of r) w (rebroadcast st w (length l / 4) c)) where
  sent-count : {n : ℕ} → r ≡ Ok n → n ≡ length (rebroadcast st w (length l / 4) c).written
  sent-count q = list_count d.outcome q ∙ says-sent st w (length l / 4) c

  pub sent-placed : {n : ℕ} → r ≡ Ok n → n ≤ length l / 4
  sent-placed q = omega (arith, sent-count q, d.placed)

  pub sent-ids : {n : ℕ} → r ≡ Ok n → listed w_ids (ids_to 4 m n) ≡ sent_text (rebroadcast st w (length l / 4) c)
  unfolding sent_text
  sent-ids q = list-text (ids_to 4) (listed w_ids) m d.outcome q (sent-count q) (shown-whole l m (rebroadcast st w (length l / 4) c).written d.wrote d.placed)

  pub sent-not : {f : Refusal} → r ≡ Err f → refused_text (refusal_number f) ≡ sent_text (rebroadcast st w (length l / 4) c)
  unfolding sent_text
  sent-not q = list-refused _ d.outcome q

-- the list is cut where the form's number of words says, or where the words end
pub sent-cut : (st : Mempool) (w : World) (room n m : ℕ) (f : List ℕ) → m ≡ min n (length f) → sent_text (rebroadcast st w room (take m f)) ≡ sent_text (rebroadcast st w room (take n f))
sent-cut st w room n m f q = ap (λ (x : List ℕ). sent_text (rebroadcast st w room x)) (take_min n m f q)

-- ---- the line of a call that writes no ids

pub after-done : (e b k p a e' b' k' p' o₀ o : List ℕ) (h : Kept) (r : Mempool) (n : Outcome) (s : Reached) (u : List ℕ) (len : ℕ) → Meets h.mempool r n e' b' k' (records p') s → Prints (or_refused u n) 0 o₀ o len
    → After e' b' k' p' a o₀ o (record { kept = record { ready = true; mempool = r; stats = h.stats; written = 0 }; len = len }) (done_line e b k p a h u s)
unfolding done_line
after-done e b k p a e' b' k' p' o₀ o h r n s u len d t =
    record {
      holds = record { store = d.kept; written = omega arith };
      prints = prints-as (ap (or_refused u) d.outcome) t;
      ready = refl;
      config = d.config;
      pass = ap pass_of d.pass;
      world = d.world;
      stats = refl;
      written = of_none (ids 4) a;
    }

pub after-pass : (e b k p a e' b' k' p' o₀ o : List ℕ) (h : Kept) (r : Mempool) (n : Outcome) (s : PassResult) (len : ℕ) → PassPost h.mempool r n e' b' k' (records p') s → Prints (pass_text n) 0 o₀ o len
    → After e' b' k' p' a o₀ o (record { kept = record { ready = true; mempool = r; stats = h.stats; written = 0 }; len = len }) (pass_line e b k p a h s)
unfolding pass_line
after-pass e b k p a e' b' k' p' o₀ o h r n s len d t =
    record {
      holds = record { store = d.kept; written = omega arith };
      prints = prints-as (ap pass_text d.outcome) t;
      ready = refl;
      config = d.config;
      pass = d.pass;
      world = d.world;
      stats = refl;
      written = of_none (ids 4) a;
    }

-- ---- a start's line

-- no count is too large for no words
fits-none : (e b : List ℕ) → fits_test e b (record { pooled = 0; records = 0 }) ≡ true
fits-none e b = rw (le-leb 0 (entries_room e) (omega arith)) (le-leb 0 (boxes_room b) (omega arith))

pub kept_new : (e b k p : List ℕ) (c : MempoolConfig) → max c.invalidation_capacity 1 ≤ cache_room k → 512 ≤ length p → Sound e b k (records p) (empty c)
unfolding empty
kept_new e b k p c y z =
    record {
      fits =
          record {
            tests = record { pool = fits-true e b _ (fits-none e b); cache = ok-room k 0 (omega arith) };
            keeps = y;
            records = omega (arith, z, flats.len p (length p / 2));
            used = omega arith;
          };
      indexed = record { pool = record { entries = entries_none e; boxes = boxes-none b }; cache = cache-none k };
    }

-- the records in use are among the words
pub peers-words : (p : List ℕ) (used : ℕ) → 256 ≤ length (records p) → used ≤ 256 → used * 2 ≤ length p
peers-words p used h u = omega (arith, h, u, flats.len p (length p / 2))

-- before the first start
pub holds-nothing : (e b k p a : List ℕ) → 16 ≤ length k → 512 ≤ length p → Holds e b k p a nothing
unfolding cache_room
holds-nothing e b k p a y z = record { store = kept_new e b k p no_config (omega arith) z; written = omega arith }

module _ (e b k p : List ℕ) (c : MempoolConfig) where
  abbrev sizes_here : Sizes
  sizes_here = sizes (entries_room e) (boxes_room b) (cache_room k) (length p / 2)

  -- the sizes that were tested, as far as they are needed
  within-one : (n most : ℕ) → within n most ≡ true → 1 ≤ n
  within-one n most h = go (eqb n 0) refl h
    where
      go : (t : Bool) → eqb n 0 ≡ t → pick t false (leb n most) ≡ true → 1 ≤ n
      go true q z = let y : ◌≡◌ {A = ℕ} 0 1 = cc in absurd (omega arith)
      go false q z = let y = eqb-false n 0 q in omega (arith, y)

  sized-needs : sized sizes_here ≡ true → (1 ≤ cache_room k) × (512 ≤ length p)
  unfolding sized
  sized-needs h =
      let q = goes_on (not (within (entries_room e) 4096)) _ h in
      let r = goes_on (not (within (boxes_room b) 65536)) _ q.1 in
      let s = goes_on (not (within (cache_room k) 10000)) _ r.1 in
      let z = eqb-true (length p / 2) 256 s.1 in
      (within-one (cache_room k) 10000 (un_not _ s.0), omega (arith, z))

  settled-needs : settles sizes_here c ≡ true → c.invalidation_capacity ≤ cache_room k
  unfolding settles
  settled-needs h =
      let q = goes_on (leb (entries_room e) c.capacity) _ h in
      let r = goes_on (ltb (cache_room k) c.invalidation_capacity) _ q.1 in
      ltb-false _ _ r.0

  kept-empty : sized sizes_here ≡ true → settles sizes_here c ≡ true → Sound e b k (records p) (empty c)
  kept-empty t u = let z = sized-needs t in let y = settled-needs u in kept_new e b k p c (omega (arith, z.0, y)) z.1

  pub kept-started : (st : Mempool) → started sizes_here c ≡ Ok st → Sound e b k (records p) st
  unfolding started
  kept-started st h = go (sized sizes_here) (settles sizes_here c) refl refl h
    where
      go : (t u : Bool) → sized sizes_here ≡ t → settles sizes_here c ≡ u → pick t (pick u (Ok (empty c)) (Err Settings)) (Err Settings) ≡ Ok st → Sound e b k (records p) st
      go true true q r z = let y : empty c ≡ st = cc in subst (λ (s : Mempool). Sound e b k (records p) s) y (kept-empty q r)
      go true false q r z = let y : ◌≡◌ {A = ℕ} 0 1 = cc in absurd (omega arith)
      go false u q r z = let y : ◌≡◌ {A = ℕ} 0 1 = cc in absurd (omega arith)

  module _ (a o₀ o : List ℕ) (h : Kept) (len : ℕ) (f : Holds e b k p a h) where
    pub after-ready : (st : Mempool) (s : FeeStats) → started sizes_here c ≡ Ok st → s ≡ fresh 0 → Prints w_ready 0 o₀ o len
        → After e b k p a o₀ o (record { kept = record { ready = true; mempool = st; stats = s; written = 0 }; len = len }) (started_line e b k p a h (started sizes_here c))
    unfolding started_line
    after-ready st s q z t =
        rw q
        (record {
          holds = record { store = kept-started st q; written = omega arith };
          prints = t;
          ready = refl;
          config = refl;
          pass = refl;
          world = refl;
          stats = z;
          written = of_none (ids 4) a;
        })

    pub after-refused : (f : Refusal) → started sizes_here c ≡ Err f → Prints (refused_text (refusal_number f)) 0 o₀ o len
        → After e b k p a o₀ o (record { kept = record { ready = h.ready; mempool = h.mempool; stats = h.stats; written = 0 }; len = len }) (started_line e b k p a h (started sizes_here c))
    unfolding started_line
    after-refused n q t =
        rw q
        (record {
          holds = record { store = f.store; written = omega arith };
          prints = t;
          ready = refl;
          config = refl;
          pass = refl;
          world = refl;
          stats = refl;
          written = of_none (ids 4) a;
        })

-- ---- a line, call by call

module _ (e b k p a : List ℕ) (h : Kept) (n room : ℕ) (f s : List ℕ) (call : Call) where
  pub line-called : {t : Bool} → t ≡ lacks_pool h.ready call → t ≡ false → line_of e b k p a h n room f s call ≡ called e b k p a h n room f s call
  unfolding line_of
  line-called q z = unmet _ _ _ (sym q ∙ z)

  pub line-lacking : {t : Bool} → t ≡ lacks_pool h.ready call → t ≡ true → line_of e b k p a h n room f s call ≡ same e b k p a h w_no_pool
  unfolding line_of
  line-lacking q z = met _ _ _ (sym q ∙ z)

  pub called-started : (g : PoolForm) → call ≡ Start g → called e b k p a h n room f s call ≡ started_line e b k p a h (started (sizes (entries_room e) (boxes_room b) (cache_room k) (length p / 2)) (config_of g))
  unfolding called
  called-started g q = rw q

  pub called-altered : (g : Change) → call ≡ Alter g → called e b k p a h n room f s call ≡ altered e b k p a h (take (words_of g).one f) (take (words_of g).two s) g
  unfolding called
  called-altered g q = rw q

  pub called-asked : (t : Query) → call ≡ Ask t → called e b k p a h n room f s call ≡ same e b k p a h (asked e b k p a h room f t)
  unfolding called
  called-asked t q = rw q

  pub called-unread : call ≡ Unreadable → called e b k p a h n room f s call ≡ same e b k p a h (unread_text n)
  unfolding called
  called-unread q = rw q

pub after-as : {e b k p a o₀ o : List ℕ} {t : Told} {m m' : Line} → m' ≡ m → After e b k p a o₀ o t m → After e b k p a o₀ o t m'
after-as q h = rw q h
