-- The family walk, and that it visits each chain once. Nothing here knows of a pool: `f` gives each one's parents.
use Rattle.std.specs.Prelude.{ℕ, zero, suc, ◌+◌, ◌≤◌, ◌<◌, min, ◌≡◌, refl, length, take}
use Rattle.std.proofs.Common.{sym, ap, ◌∙◌, not-suc-le-zero, suc-ne-zero, suc-add, zero-add, arith, length-append}
use mathlib.Core.List.{List, [], ◌∷◌, ◌++◌, append_assoc, append-nil, reverse_aux}
use Rattle.words.specs.Lists.{flat, flat_append}

-- the walk: pop, visit, push that one's parents in order. The stack's top is the list's head.
abbrev pub visits : ℕ → (ℕ → List ℕ) → List ℕ → List ℕ
visits zero f st = []
visits (suc b) f [] = []
visits (suc b) f (k ∷ st) = k ∷ visits b f (reverse_aux (f k) st)

-- the stack that it leaves
abbrev pub left : ℕ → (ℕ → List ℕ) → List ℕ → List ℕ
left zero f st = st
left (suc b) f [] = []
left (suc b) f (k ∷ st) = left b f (reverse_aux (f k) st)

-- the ends of the chains that have d links more than those that end at st; and all that have fewer
abbrev pub level : ℕ → (ℕ → List ℕ) → List ℕ → List ℕ
level zero f st = st
level (suc d) f st = level d f (flat f st)

abbrev pub upto : ℕ → (ℕ → List ℕ) → List ℕ → List ℕ
upto zero f st = []
upto (suc d) f st = st ++ upto d f (flat f st)

-- what is counted: how often one stands there, how many there are
abbrev pub Additive : (List ℕ → ℕ) → Type 0
Additive m = (a b : List ℕ) → m (a ++ b) ≡ m a + m b

module _ (m : List ℕ → ℕ) (add : Additive m) where
  pub at-nil : m [] ≡ 0
  at-nil = omega (arith, add [] [])

  pub push : (a st : List ℕ) → m (reverse_aux a st) ≡ m a + m st
  push [] st = omega (arith, at-nil)
  push (x ∷ a) st = omega (arith, push a (x ∷ st), add (x ∷ []) st, add (x ∷ []) a)

module _ (f : ℕ → List ℕ) where
  pub level-append : (d : ℕ) (a b : List ℕ) → level d f (a ++ b) ≡ level d f a ++ level d f b
  level-append zero a b = refl
  level-append (suc d) a b = rw (flat_append f a b) (level-append d (flat f a) (flat f b))

  level-last : (d : ℕ) (st : List ℕ) → level d f (flat f st) ≡ flat f (level d f st)
  level-last zero st = refl
  level-last (suc d) st = level-last d (flat f st)

  pub upto-last : (d : ℕ) (st : List ℕ) → st ++ upto d f (flat f st) ≡ upto d f st ++ level d f st
  upto-last zero st = append-nil st
  upto-last (suc d) st = rw (upto-last d (flat f st)) (sym (append_assoc st (upto d f (flat f st)) (level d f (flat f st))))

  pub upto-nil : (d : ℕ) → upto d f [] ≡ []
  upto-nil zero = refl
  upto-nil (suc d) = upto-nil d

  pub level-nil : (d : ℕ) → level d f [] ≡ []
  level-nil zero = refl
  level-nil (suc d) = level-nil d

  -- both are additive in the stack
  pub wide : (d : ℕ) → Additive (λ st. length (level d f st))
  wide d a b = ap length (level-append d a b) ∙ length-append (level d f a) (level d f b)

  pub all : (m : List ℕ → ℕ) → Additive m → (d : ℕ) → Additive (λ st. m (upto d f st))
  all m add zero a b = omega (arith, at-nil m add)
  all m add (suc d) a b =
      rw (flat_append f a b)
      (omega (arith, add (a ++ b) (upto d f (flat f a ++ flat f b)), add a b, all m add d (flat f a) (flat f b), add a (upto d f (flat f a)), add b (upto d f (flat f b))))

  -- a level below an empty one is empty
  pub none_below : (d : ℕ) (st : List ℕ) → length (level d f st) ≡ 0 → length (level d f (flat f st)) ≡ 0
  none_below d st h = rw (level-last d st) (go (level d f st) h)
    where
      go : (l : List ℕ) → length l ≡ 0 → length (flat f l) ≡ 0
      go [] h = refl
      go (x ∷ l) h = absurd (suc-ne-zero (length l) h)

  -- A walk that ended with an empty stack within the budget b: level b is empty, and what was visited is what stands in the levels
  -- below b, as often.
  pub ended-level : (b : ℕ) (st : List ℕ) → left b f st ≡ [] → length (level b f st) ≡ 0
  ended-level zero st e = ap length e
  ended-level (suc b) [] e = ap length (level-nil b)
  ended-level (suc b) (k ∷ st) e =
      let p = push (λ l. length (level b f l)) (wide b) (f k) st in
      let h = ended-level b (reverse_aux (f k) st) e in
      let g : length (level b f (flat f st)) ≡ 0 = none_below b st (omega arith) in
      omega (arith, wide b (f k) (flat f st))

  module _ (m : List ℕ → ℕ) (add : Additive m) where
    -- one more level, by what comes first and by what comes last
    more : (d : ℕ) (st : List ℕ) → m st + m (upto d f (flat f st)) ≡ m (upto d f st) + m (level d f st)
    more d st = omega (arith, ap m (upto-last d st), add st (upto d f (flat f st)), add (upto d f st) (level d f st))

    empty : (l : List ℕ) → length l ≡ 0 → m l ≡ 0
    empty [] h = at-nil m add
    empty (x ∷ l) h = absurd (suc-ne-zero (length l) h)

    pub ended-visits : (b : ℕ) (st : List ℕ) → left b f st ≡ [] → m (visits b f st) ≡ m (upto b f st)
    ended-visits zero st e = refl
    ended-visits (suc b) [] e = ap m (sym (upto-nil b))
    ended-visits (suc b) (k ∷ st) e =
        let h = ended-visits b (reverse_aux (f k) st) e in
        let p = push (λ l. m (upto b f l)) (all m add b) (f k) st in
        let z = ended-level b (reverse_aux (f k) st) e in
        let q = push (λ l. length (level b f l)) (wide b) (f k) st in
        omega (
          arith,
          add (k ∷ []) (visits b f (reverse_aux (f k) st)),
          add (k ∷ st) (upto b f (f k ++ flat f st)),
          add (k ∷ []) st,
          all m add b (f k) (flat f st),
          more b st,
          empty (level b f st) (omega arith),
        )

  -- where a level is not empty, no level above it is
  deep : (d : ℕ) (st : List ℕ) → 0 < length (level d f st) → d ≤ length (upto d f st)
  deep zero st h = omega arith
  deep (suc d) st h = go (length (level d f st)) refl (deep d st)
    where
      go : (n : ℕ) → length (level d f st) ≡ n → (0 < length (level d f st) → d ≤ length (upto d f st)) → suc d ≤ length (st ++ upto d f (flat f st))
      go zero e ih = absurd (omega (arith, none_below d st e))
      go (suc n) e ih = omega (arith, ih (omega arith), ap length (upto-last d st), length-append (upto d f st) (level d f st))

  -- How many visits: as many as the levels have, or the budget if that is less. Levels from the budget on make no difference.
  pub visits-length : (b d : ℕ) (st : List ℕ) → b ≤ d → length (visits b f st) ≡ min b (length (upto d f st))
  visits-length zero d st h = omega arith
  visits-length (suc b) zero st h = absurd (not-suc-le-zero h)
  visits-length (suc b) (suc d) [] h = rw (upto-nil d) (omega arith)
  visits-length (suc b) (suc d) (k ∷ st) h = go (length (level d f st)) refl (visits-length b d (reverse_aux (f k) st) (omega arith))
    where
      go : (n : ℕ) → length (level d f st) ≡ n → length (visits b f (reverse_aux (f k) st)) ≡ min b (length (upto d f (reverse_aux (f k) st)))
          → suc (length (visits b f (reverse_aux (f k) st))) ≡ min (suc b) (suc (length (st ++ upto d f (f k ++ flat f st))))
      go zero e ih =
          omega (
            arith,
            push (λ l. length (upto d f l)) (all length length-append d) (f k) st,
            more length length-append d st,
            length-append st (upto d f (f k ++ flat f st)),
            all length length-append d (f k) (flat f st),
          )
      go (suc n) e ih =
          omega (
            arith,
            push (λ l. length (upto d f l)) (all length length-append d) (f k) st,
            more length length-append d st,
            length-append st (upto d f (f k ++ flat f st)),
            all length length-append d (f k) (flat f st),
            deep d st (omega arith),
          )

  -- after an empty level nothing comes
  empty-on : (d j : ℕ) (st : List ℕ) → length (level d f st) ≡ 0 → length (level (j + d) f st) ≡ 0
  empty-on d zero st h = rw (zero-add d) h
  empty-on d (suc j) st h = rw (suc-add j d) (none_below (j + d) st (empty-on d j st h))

  pub upto-on : (d j : ℕ) (st : List ℕ) → length (level d f st) ≡ 0 → length (upto (j + d) f st) ≡ length (upto d f st)
  upto-on d zero st h = rw (zero-add d)
  upto-on d (suc j) st h =
      rw (suc-add j d)
      (omega (arith, ap length (upto-last (j + d) st), length-append (upto (j + d) f st) (level (j + d) f st), empty-on d j st h, upto-on d j st h))

  -- only as much of the stack matters as there is budget: a walk needs room for no more
  push-take : (p : List ℕ) (n : ℕ) (st : List ℕ) → take (length p + n) (reverse_aux p st) ≡ reverse_aux p (take n st)
  push-take [] n st = rw (zero-add n)
  push-take (x ∷ p) n st = let e : suc (length p) + n ≡ length p + suc n = omega arith in rw e (push-take p (suc n) (x ∷ st))

  pub visits-take : (b n : ℕ) (st : List ℕ) → b ≤ n → visits b f (take n st) ≡ visits b f st
  visits-take zero n st h = refl
  visits-take (suc b) zero st h = absurd (not-suc-le-zero h)
  visits-take (suc b) (suc n) [] h = refl
  visits-take (suc b) (suc n) (k ∷ st) h =
      ap (λ (x : List ℕ). k ∷ x)
      (ap (visits b f) (sym (push-take (f k) n st)) ∙ visits-take b (length (f k) + n) (reverse_aux (f k) st) (omega arith))
