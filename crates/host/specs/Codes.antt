-- What a call answers the C side: one number, and the words of its result record.
use Rattle.std.specs.Prelude.{ℕ, ◌/◌, ◌%◌, ◌^◌, ◌<◌, ◌≡◌, refl, List, [], ◌∷◌, ◌++◌}
use Rattle.std.proofs.Common.{arith}
use Rattle.words.specs.Ids.{join, join_is, id_of, id_words, Words}
use Rattle.words.specs.declared.ids.Id.{Id}
use Rattle.pool_types.specs.Outcomes.{Outcome, refused, done, wrote, needed, candidate, ended, missing, invalid, valid, number, said, entry, none, written_of}

-- a changing call: a refusal answers with its number, 1 to 30; done is 0, and what is neither has a number from 100 on
unfoldable pub code_of : Outcome → ℕ
code_of (refused n k) = n
code_of done = 0
code_of (wrote k) = 100
code_of needed = 101
code_of (candidate k) = 102
code_of (ended n) = 103
code_of (missing k) = 104
code_of (invalid k) = 105
code_of (valid k) = 106
code_of (number n) = 107
code_of (said b) = 108
code_of (entry k w b) = 109
code_of none = 110

-- a double-spend loser: 29, with the ids of the conflicts written; replaced: 100, with those that went
losers : (code_of (refused 29 3) ≡ 29) × (written_of (refused 29 3) ≡ 3) × (code_of (wrote 2) ≡ 100) × (written_of (wrote 2) ≡ 2)
unfolding code_of written_of
losers = (refl, refl, refl, refl)

-- the id that it speaks of; 0 elsewhere
unfoldable pub about_of : Outcome → ℕ
about_of (refused n k) = 0
about_of done = 0
about_of (wrote k) = 0
about_of needed = 0
about_of (candidate k) = k
about_of (ended n) = 0
about_of (missing k) = k
about_of (invalid k) = k
about_of (valid k) = k
about_of (number n) = 0
about_of (said b) = 0
about_of (entry k w b) = k
about_of none = 0

-- the sum of an ended pass; 0 elsewhere
unfoldable pub sum_of : Outcome → ℕ
sum_of (refused n k) = 0
sum_of done = 0
sum_of (wrote k) = 0
sum_of needed = 0
sum_of (candidate k) = 0
sum_of (ended n) = n
sum_of (missing k) = 0
sum_of (invalid k) = 0
sum_of (valid k) = 0
sum_of (number n) = 0
sum_of (said b) = 0
sum_of (entry k w b) = 0
sum_of none = 0

-- ---- an id's four words, the first bytes first

abbrev front : ℕ → ℕ
front k = k / 18446744073709551616

abbrev last : ℕ → ℕ
last k = k % 18446744073709551616

abbrev pub four_of : ℕ → List ℕ
four_of k = front (front (front k)) ∷ last (front (front k)) ∷ last (front k) ∷ last k ∷ []

front-join : (p w : ℕ) → w < 2 ^ 64 → front (join p w) ≡ p
front-join p w h = rw (join_is p w) (omega arith)

last-join : (p w : ℕ) → w < 2 ^ 64 → last (join p w) ≡ w
last-join p w h = rw (join_is p w) (omega arith)

pub four_is : (x : Id) → Words x → four_of (id_of x) ≡ id_words x
unfolding id_of
four_is x h =
    rw (
      front-join (join (join x.a x.b) x.c) x.d h.3,
      last-join (join (join x.a x.b) x.c) x.d h.3,
      front-join (join x.a x.b) x.c h.2,
      last-join (join x.a x.b) x.c h.2,
      front-join x.a x.b h.1,
      last-join x.a x.b h.1,
    )

-- ---- the result record: 16 words, of which the last nine are kept for later

-- the number, how many ids were written, an id's words, a sum
abbrev pub sheet : ℕ → ℕ → List ℕ → ℕ → List ℕ
sheet code k x n = code ∷ k ∷ (x ++ (n ∷ 0 ∷ 0 ∷ 0 ∷ 0 ∷ 0 ∷ 0 ∷ 0 ∷ 0 ∷ 0 ∷ []))

unfoldable pub result_of : Outcome → List ℕ
result_of o = sheet (code_of o) (written_of o) (four_of (about_of o)) (sum_of o)

-- a pass that ended with a sum of 7; a candidate whose id is 2 ^ 64 + 5
ended-seven : result_of (ended 7) ≡ 103 ∷ 0 ∷ 0 ∷ 0 ∷ 0 ∷ 0 ∷ 7 ∷ 0 ∷ 0 ∷ 0 ∷ 0 ∷ 0 ∷ 0 ∷ 0 ∷ 0 ∷ 0 ∷ []
unfolding result_of code_of written_of about_of sum_of
ended-seven = refl

with-id : result_of (candidate 18446744073709551621) ≡ 102 ∷ 0 ∷ 0 ∷ 0 ∷ 1 ∷ 5 ∷ 0 ∷ 0 ∷ 0 ∷ 0 ∷ 0 ∷ 0 ∷ 0 ∷ 0 ∷ 0 ∷ 0 ∷ []
unfolding result_of code_of written_of about_of sum_of
with-id = refl
