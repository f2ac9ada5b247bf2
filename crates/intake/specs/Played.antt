-- Every list of calls can be made, and answers as the lists of Queue.antt say: so the theorem speaks of something, and what is computed on lists is a
-- run of the calls.
use Rattle.std.specs.Prelude.{ℕ, ◌≤◌, ◌<◌, ◌≡◌, refl, Bool, true, false, List, [], ◌∷◌, ltb, leb, get_or, set, Option, Some, None, Ok, Err}
use Rattle.std.proofs.Common.{sym, ap, ◌∙◌, arith, ltb-true, ltb-false, leb-true, leb-false, length-set}
use Rattle.intake.specs.declared.calls.Refusal.TheVariants.{NoRoom}
use Rattle.intake.specs.declared.calls.Served.{Served}
use Rattle.intake.specs.Queue.{Said, served, Queue, empty, circle, first_held, put, turn, AfterPut, AfterTurn}
use Rattle.intake.specs.Words.{Room, head_of, place, held_of, lines_of, last_of, queue_of}
use Rattle.intake.specs.Laws.{appends, appended, takes, taken}
use Rattle.intake.specs.Circle.{next-is}
use Rattle.intake.specs.Promises.{StartPromise, PutPromise, TurnPromise}
use Rattle.intake.specs.Kept.{put-high, put_full, put-stored, able, turned, turned-none}
use Rattle.intake.specs.Run.{Event, Puts, Turns, Run, begin, puts, turns}
use Rattle.intake.specs.Theorem.{run_room, started-empty}

pub data Call : Type 0 where
  Put : ℕ → ℕ → Call
  Turn : Call

pub record Played : Type 0 where
  pub events : List Event
  pub queue : Queue

abbrev put_to : ℕ → ℕ → List Event → AfterPut → Played
put_to i x h a = record { events = Puts i x a.outcome ∷ h; queue = a.queue }

abbrev turn_to : List Event → AfterTurn → Played
turn_to h a = record { events = Turns a.outcome ∷ h; queue = a.queue }

abbrev step : Call → Played → Played
step (Put i x) p = put_to i x p.events (put p.queue i x)
step Turn p = turn_to p.events (turn p.queue)

-- the calls, the last one first, on lists
abbrev pub play : List Call → Played
play [] = record { events = []; queue = empty }
play (c ∷ cs) = step c (play cs)

-- ---- each call can be made

record CanPut (m : List ℕ) (i x : ℕ) : Type 0 where
  said : Said
  left : List ℕ
  post : PutPromise m i x left said

can-put : (m : List ℕ) → Room m → (i x : ℕ) → CanPut m i x
can-put m room i x = go (ltb 255 i) refl (leb 16 (held_of m i)) refl
  where
    go : (s : Bool) → ltb 255 i ≡ s → (t : Bool) → leb 16 (held_of m i) ≡ t → CanPut m i x
    go true s t f = record { said = Err NoRoom; left = m; post = put-high m i x room (ltb-true 255 i s) }
    go false s true f = record { said = Err NoRoom; left = m; post = put_full m i x room (ltb-false 255 i s) (leb-true 16 (held_of m i) f) }
    go false s false f =
        let b : i ≤ 255 = ltb-false 255 i s in
        let few : held_of m i < 16 = leb-false 16 (held_of m i) f in
        record { said = (Ok tt); left = appends m i x; post = put-stored m i x room (appends m i x) b few (appended m i x room (omega arith) few) }

record CanTurn (m : List ℕ) : Type 0 where
  said : Option Served
  left : List ℕ
  post : TurnPromise m left said

can-turn : (m : List ℕ) → Room m → CanTurn m
can-turn m room = go (first_held (lines_of m) (circle (last_of m))) refl
  where
    go : (n : Option ℕ) → n ≡ first_held (lines_of m) (circle (last_of m)) → CanTurn m
    go (Some i) e =
        let mid = set m 4608 i in
        let x = get_or mid (place i (head_of mid i)) 0 in
        let b : i < 256 = (next-is (lines_of m) (last_of m) (omega arith) i (sym e)).below in
        record { said = served i x; left = takes mid i; post = turned m room i e x (takes mid i) (taken mid i (rw length-set room) b (able m room i e)) }
    go None e = record { said = None; left = m; post = turned-none m room e }

-- ---- and every list of them, from what a start left

pub record Ran (cs : List Call) : Type 0 where
  pub words : List ℕ
  pub run : Run (play cs).events words
  pub queue : queue_of words ≡ (play cs).queue

module _ (was is : List ℕ) (enough : Room was) (start : StartPromise was is (Ok tt)) where
  pub ran : (cs : List Call) → Ran cs
  ran [] = record { words = is; run = begin (started-empty enough start); queue = start.ready refl }
  ran (Put i x ∷ cs) =
      let r = ran cs in
      let room = run_room r.run in
      let c = can-put r.words room i x in
      let eq = c.post.puts room ∙ ap (λ (q : Queue). put q i x) r.queue in
      let said : c.said ≡ (put (play cs).queue i x).outcome = ap (λ (a : AfterPut). a.outcome) eq in
      record { words = c.left; run = rw said at (puts r.run i x c.said c.post); queue = ap (λ (a : AfterPut). a.queue) eq }
  ran (Turn ∷ cs) =
      let r = ran cs in
      let room = run_room r.run in
      let c = can-turn r.words room in
      let eq = c.post.turns room ∙ ap turn r.queue in
      let said : c.said ≡ (turn (play cs).queue).outcome = ap (λ (a : AfterTurn). a.outcome) eq in
      record { words = c.left; run = rw said at (turns r.run c.said c.post); queue = ap (λ (a : AfterTurn). a.queue) eq }
