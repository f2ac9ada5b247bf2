-- How a result record is filled: words that have room for one hold it, and fewer stay as they are.
use Rattle.std.specs.Prelude.{ℕ, ◌≤◌, ◌<◌, Bool, List, length, get_or}
use Rattle.std.proofs.Math.Path.{◌≡◌, refl}
use Rattle.std.proofs.Common.{sym, ap, ◌∙◌, arith}
use Rattle.std.proofs.Math.Bool.{true, false}
use Rattle.std.proofs.Math.Dec.{ltb}
use Rattle.std.proofs.lemmas.List.Edits.{sets}
use borrow.Author.Tests.{ltb-false, lt-ltb, le-ltb}
use Rattle.words.specs.Lists.{pick}
use Rattle.words.specs.Ids.{id_words}
use Rattle.words.specs.Rows.{stored, stored-sets}
use Rattle.pool_types.specs.Outcomes.{Outcome, refused, done}
use Rattle.host.specs.Codes.{code_of, about_of, sum_of, four_of, sheet, result_of}
use Rattle.pool_types.specs.Outcomes.{written_of}
use Rattle.host.specs.declared.codes.Told.{Told}

-- what the code puts together
unfoldable pub told_words : Told → List ℕ
told_words t = sheet t.code t.written (id_words t.id) t.sum

-- a list of m words where `need` are read, and a record of `room`: too few of one
unfoldable pub lacking : ℕ → ℕ → ℕ → Bool
lacking m need room = pick (ltb m need) true (ltb room 16)

unfoldable pub filled : List ℕ → List ℕ → List ℕ
filled r ws = pick (ltb (length r) 16) r (sets r 0 ws)

-- the record's words were r₀ and are r, and `code` is answered
pub record Puts (r₀ r : List ℕ) (t : Told) (code : ℕ) : Type 0 where
  pub answered : code ≡ t.code
  pub result : r ≡ filled r₀ (told_words t)

pub record Says (r₀ r : List ℕ) (o : Outcome) (code : ℕ) : Type 0 where
  pub answered : code ≡ code_of o
  pub result : r ≡ filled r₀ (result_of o)

pub says-by : {r₀ r : List ℕ} {t : Told} {o : Outcome} {code : ℕ} → Puts r₀ r t code → told_words t ≡ result_of o → Says r₀ r o code
unfolding told_words result_of
says-by {r₀} p e = record { answered = p.answered ∙ ap (λ (l : List ℕ). get_or l 0 0) e; result = p.result ∙ ap (filled r₀) e }

pub refusal-words : (t : Told) (n : ℕ) → told_words t ≡ sheet n 0 (four_of 0) 0 → told_words t ≡ result_of (refused n 0)
unfolding result_of code_of written_of about_of sum_of
refusal-words t n e = e

pub done-words : (t : Told) → told_words t ≡ sheet 0 0 (four_of 0) 0 → told_words t ≡ result_of done
unfolding result_of code_of written_of about_of sum_of
done-words t e = e

-- as the code stores it
pub puts_none : (r : List ℕ) (t : Told) → length r < 16 → Puts r r t t.code
unfolding filled
puts_none r t h = record { answered = refl; result = rw (lt-ltb (length r) 16 h) }

pub puts-all : (r m : List ℕ) (t : Told) → 16 ≤ length r → m ≡ stored r 0 (told_words t) → Puts r m t t.code
unfolding filled
puts-all r m t h q = record { answered = refl; result = q ∙ stored-sets (told_words t) r 0 ∙ rw (le-ltb (length r) 16 h) }

pub lacks-list : (m need room : ℕ) → m < need → true ≡ lacking m need room
unfolding lacking
lacks-list m need room h = rw (lt-ltb m need h)

pub lacks-room : (m need room : ℕ) → need ≤ m → ltb room 16 ≡ lacking m need room
unfolding lacking
lacks-room m need room h = rw (le-ltb m need h)

module _ (m need room : ℕ) where
  -- nothing is missing
  pub lacks-none : lacking m need room ≡ false → (need ≤ m) × (16 ≤ room)
  unfolding lacking
  lacks-none q = go (ltb m need) refl q
    where
      go : (t : Bool) → ltb m need ≡ t → pick t true (ltb room 16) ≡ false → (need ≤ m) × (16 ≤ room)
      go true p q = let z : ◌≡◌ {A = ℕ} 0 1 = cc in absurd (omega arith)
      go false p q = (ltb-false m need p, ltb-false room 16 q)

-- .. as a test that was not met tells it
pub lacked : (m need room : ℕ) {t : Bool} → t ≡ lacking m need room → t ≡ false → need ≤ m
lacked m need room q f = (lacks-none m need room (sym q ∙ f)).0
