-- On words of any kind, whoever wrote them and however few, the exported calls answer with an outcome of their kinds.
use Rattle.std.specs.Prelude.{ℕ, ◌<◌, ◌≡◌, refl, Bool, true, false, ◌⊎◌, List, [], ◌∷◌, ◌++◌, ltb, length, get_or, set, Option, Some, None, Ok, Err}
use Rattle.std.proofs.Common.{ap, ◌∙◌, inl, inr, arith, ltb-true, ltb-false}
use Rattle.words.specs.Lists.{pick}
use Rattle.intake.specs.declared.calls.Refusal.TheVariants.{NoRoom}
use Rattle.intake.specs.declared.calls.Served.{Served}
use Rattle.intake.specs.Queue.{served, AfterPut, no_room, after_put, queue}
use Rattle.intake.specs.Words.{lines_of, last_of, queue_of}
use Rattle.intake.specs.Promises.{TurnPromise}
use Rattle.intake.specs.Steps.{turn_step}
use Rattle.intake.specs.Exports.{said_code, turn_code, ToldStart, ToldPut, ToldTurn}

-- ready, or refusal 1
pub start-kinds : (was is : List ℕ) (r : ℕ) → ToldStart was is r → (r ≡ 0) ⊎ (r ≡ 1)
start-kinds was is r t = go (ltb (length was) 4609) refl
  where
    go : (b : Bool) → ltb (length was) 4609 ≡ b → (r ≡ 0) ⊎ (r ≡ 1)
    go true b = inr (t.code ∙ ap said_code (t.post.short (ltb-true (length was) 4609 b)))
    go false b = inl (t.code ∙ ap said_code (t.post.enough (ltb-false (length was) 4609 b)))

-- stored, or refusal 32
pub put-kinds : (was : List ℕ) (i x : ℕ) (is : List ℕ) (r : ℕ) → ToldPut was i x is r → (r ≡ 0) ⊎ (r ≡ 32)
put-kinds was i x is r t = go (ltb (length was) 4609) refl
  where
    either : (b : Bool) → t.said ≡ (pick b (after_put (queue_of was) (Err NoRoom)) (after_put (queue (set (lines_of was) i (get_or (lines_of was) i [] ++ (x ∷ []))) (last_of was)) (Ok tt))).outcome → (r ≡ 0) ⊎ (r ≡ 32)
    either true e = inr (t.code ∙ ap said_code e)
    either false e = inl (t.code ∙ ap said_code e)

    go : (b : Bool) → ltb (length was) 4609 ≡ b → (r ≡ 0) ⊎ (r ≡ 32)
    go true b = inr (t.code ∙ ap said_code (t.post.short (ltb-true (length was) 4609 b)))
    go false b = either (no_room (queue_of was) i) (ap (λ (a : AfterPut). a.outcome) (t.post.puts (ltb-false (length was) 4609 b)))

-- none, or a handle
pub turn-kinds : (was is a b : List ℕ) (r : ℕ) → ToldTurn was is a b r → (r ≡ 0) ⊎ (r ≡ 1)
turn-kinds was is a b r t = go (ltb (length a) 2) refl
  where
    told : (o : Option Served) → r ≡ turn_code o → (r ≡ 0) ⊎ (r ≡ 1)
    told (Some s) e = inr e
    told None e = inl e

    go : (c : Bool) → ltb (length a) 2 ≡ c → (r ≡ 0) ⊎ (r ≡ 1)
    go true c = inl (t.short (ltb-true (length a) 2 c)).0
    go false c = let u = t.turned (ltb-false (length a) 2 c) in told u.said u.code

-- and the line of a handle is below 256
pub turn-line : (was is : List ℕ) (i x : ℕ) → TurnPromise was is (served i x) → i < 256
turn-line was is i x p = go (ltb (length was) 4609) refl
  where
    go : (c : Bool) → ltb (length was) 4609 ≡ c → i < 256
    go true c = let z : ◌≡◌ {A = ℕ} 0 1 = cc (p.short (ltb-true (length was) 4609 c)) in absurd (omega arith)
    go false c = (turn_step was is (ltb-false (length was) 4609 c) i x p).next.below
