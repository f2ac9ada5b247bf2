-- The walk by frames (docs/DECISIONS.md, D19). A frame stands for the parents that the inputs of its transaction in the first slots
-- still give; the frames together stand for the stack of parents, the last frame on top. A turn looks at the last frame: it pops it, or visits its last parent.
use Rattle.std.specs.Prelude.{ℕ, zero, suc, ◌-◌, ◌≤◌, ◌<◌, ◌≡◌, refl, true, length, take}
use Rattle.std.proofs.Common.{sym, ap, arith, take_all}
use mathlib.Core.List.{List, [], ◌∷◌, ◌++◌, reverse_aux}
use Rattle.entries.specs.Entries.{Entry, credit}
use Rattle.words.specs.Lists.{flat}
use Rattle.boxes.specs.Records.{BoxRec, index, lookup, inputs_of, parents}
use Rattle.pool.specs.Pool.{credits}
use Rattle.family.specs.Walk.{visits}
use Rattle.family.specs.Chains.{walked}
use Rattle.family.specs.Frames.{Todo}

-- the producers of the inputs that a frame has left, in input order
abbrev pub todo : List BoxRec → Todo → List ℕ
todo rs t = flat (lookup (index true rs)) (inputs_of t.id (take t.bound rs))

-- a frame of the inputs of a transaction in the first m slots: all, where there are no more slots
abbrev pub whole : ℕ → ℕ → Todo
whole m k = record { id = k; bound = m }

-- the stack of parents that frames stand for, over a stack
abbrev pub pending : List BoxRec → List Todo → List ℕ → List ℕ
pending rs [] st = st
pending rs (t ∷ ts) st = pending rs ts (reverse_aux (todo rs t) st)

-- what is left of a walk: with b visits at most over these frames, crediting c
abbrev pub rest : List BoxRec → ℕ → ℕ → List Todo → List Entry → List Entry
rest rs c b ts es = credits c (visits b (parents rs) (pending rs ts [])) es

visits-none : (f : ℕ → List ℕ) (b : ℕ) → visits b f [] ≡ []
visits-none f zero = refl
visits-none f (suc b) = refl

module _ (rs : List BoxRec) (c : ℕ) where
  pending-last : (ts : List Todo) (t : Todo) (st : List ℕ) → pending rs (ts ++ (t ∷ [])) st ≡ reverse_aux (todo rs t) (pending rs ts st)
  pending-last [] t st = refl
  pending-last (u ∷ ts) t st = pending-last ts t (reverse_aux (todo rs u) st)

  todo-whole : (m : ℕ) → length rs ≤ m → (k : ℕ) → todo rs (whole m k) ≡ parents rs k
  todo-whole m l k = rw (take_all m rs l)

  -- the newcomer's frame alone: the whole walk
  pub rest_all : (m : ℕ) → length rs ≤ m → (b k : ℕ) (es : List Entry) → rest rs c b (whole m k ∷ []) es ≡ credits c (walked (parents rs) b k) es
  rest_all m l b k es = rw (todo-whole m l k)

  -- no frame left
  pub rest-none : (b : ℕ) (es : List Entry) → rest rs c b [] es ≡ es
  rest-none b es = rw (visits-none (parents rs) b)

  -- a frame that has no parent left goes
  pub rest-pop : (b : ℕ) (ts : List Todo) (t : Todo) (es : List Entry) → ((st : List ℕ) → reverse_aux (todo rs t) st ≡ st) → rest rs c b ts es ≡ rest rs c b (ts ++ (t ∷ [])) es
  rest-pop b ts t es h = rw (pending-last ts t [], h (pending rs ts []))

  -- a visit: the last parent of the last frame is credited, that frame keeps what is before it, and the parent's own frame comes on top
  pub rest-visit : (m : ℕ) → length rs ≤ m → (b : ℕ) (ts : List Todo) (t u : Todo) (p : ℕ) (es : List Entry) → 0 < b → ((st : List ℕ) → reverse_aux (todo rs t) st ≡ p ∷ reverse_aux (todo rs u) st)
      → rest rs c (b - 1) ((ts ++ (u ∷ [])) ++ (whole m p ∷ [])) (credit c p es) ≡ rest rs c b (ts ++ (t ∷ [])) es
  rest-visit m l b ts t u p es h q =
      let e : b ≡ suc (b - 1) = omega arith in
      rw (pending-last (ts ++ (u ∷ [])) (whole m p) [], pending-last ts u [], todo-whole m l p, pending-last ts t [], q (pending rs ts []))
      (ap (λ (n : ℕ). credits c (visits n (parents rs) (p ∷ reverse_aux (todo rs u) (pending rs ts []))) es) (sym e))
