-- THEOREM `served-file`: what tidy writes of an input that has ended is the whole input, tidied. `tidies-input`: and where the bytes of the input and of the
-- output are known, so is the output's text of all that was to be read.
use Rattle.std.specs.Prelude.{ℕ, ◌<◌, ◌≤◌, ◌≡◌, true, false, List, [], ◌∷◌, ◌++◌, length, None, Some}
use Rattle.std.proofs.Math.Path.{refl, subst}
use Rattle.std.proofs.Common.{sym, ap, ◌∙◌, append_assoc, append-nil, arith}
use Rattle.std.proofs.Math.ListN.{length-append}
use Rattle.forms.specs.Text.{Line}
use Rattle.forms.specs.TextLaws.{true-false, by_bool}
use Rattle.spelling.specs.Tidied.{Tidied, kept}
use Rattle.spelling.specs.File as F
use Rattle.std.specs.Io.KnownBytes.{Appends}
use Rattle.streams.specs.Laws.{taken-front, taken-whole}
use Rattle.streams.specs.Streams.{Stand}
use Rattle.words.specs.Sums.{cap}
use Rattle.spelling.specs.File.{File, Clean, clean-join, input_of}
use Rattle.tidy.specs.Input as I
use Rattle.tidy.specs.Loop.{fed-join, fed-over, Serves}
use Rattle.tidy.specs.Input.{State, at_start, grown, spilled, begun, Ending, whole, rest, Step, adds, spills, ends, Fed, none, more, ended, Finished, last, Turn, some, Served, unread, reads}

-- the bytes of the line in progress, those written (`sent`) first
pub record Sent (sent : List ℕ) (s : State) : Type 0 where
  pub clean : Clean (sent ++ s.line)
  pub short : s.long ≡ false → sent ≡ []
  pub long : s.long ≡ true → 4096 < length sent

-- a line of more than 4,096 bytes stays
too_long : (l : List ℕ) → 4096 < length l → Tidied l l
unfolding Line
too_long l h = kept (λ m p. absurd (omega (arith, p.4)))

-- how the line in progress comes out
comes-out : {t : List ℕ} (sent : List ℕ) (s : State) → Sent sent s → Ending s t → Tidied (sent ++ s.line) (sent ++ t)
comes-out {t} sent s h (whole e x) = subst (λ (z : List ℕ). Tidied (z ++ s.line) (z ++ t)) (sym (h.short e)) x
comes-out sent s h (rest e) = too_long (sent ++ s.line) (omega (arith, h.long e, length-append sent s.line))

module _ (sent : List ℕ) (s : State) (b : ℕ) (h : Sent sent s) (no : b ≡ 10 → ⊥) where
  sent-grown : Sent sent (grown b s)
  unfolding Clean
  sent-grown = record { clean = subst Clean (append_assoc sent s.line (b ∷ [])) (clean-join (sent ++ s.line) (b ∷ []) h.clean (no, tt)); short = h.short; long = h.long }

  sent-spilled : 4097 ≤ length s.line → Sent (sent ++ s.line) (spilled b s)
  unfolding Clean
  sent-spilled big =
      record { clean = clean-join (sent ++ s.line) (b ∷ []) h.clean (no, tt); short = λ e. true-false refl e; long = λ e. omega (arith, length-append sent s.line) }

sent-begun : (s : State) → Sent [] (begun s)
unfolding Clean
sent-begun s = record { clean = tt; short = λ e. refl; long = λ e. true-false e refl }

-- the rest of the input, from a state on
pub fed-file : {bs t u : List ℕ} {s s' s'' : State} (sent : List ℕ) → Sent sent s → Fed bs s t s' → Finished s' u s'' → File (sent ++ (s.line ++ bs)) (sent ++ (t ++ u))
fed-file {u = u} {s = s} sent h none (last x) = subst (λ (z : List ℕ). File z (sent ++ u)) (ap (λ (z : List ℕ). sent ++ z) (sym (append-nil s.line))) (F.last h.clean (comes-out sent s h x))
fed-file {u = u} {s = s} sent h (more {b} {bs} {t} {ts} (adds not room) f) g =
    subst (λ (z : List ℕ). File (sent ++ z) (sent ++ (ts ++ u))) (append_assoc s.line (b ∷ []) bs) (fed-file sent (sent-grown sent s b h not) f g)
fed-file {u = u} {s = s} sent h (more {b} {bs} {t} {ts} (spills not big) f) g =
    let r = fed-file (sent ++ s.line) (sent-spilled sent s b h not big) f g in
    subst (λ (z : List ℕ). File z (sent ++ ((s.line ++ ts) ++ u))) (append_assoc sent s.line (b ∷ bs))
    (subst (λ (z : List ℕ). File ((sent ++ s.line) ++ (b ∷ bs)) z) (append_assoc sent s.line (ts ++ u) ∙ ap (λ (z : List ℕ). sent ++ z) (sym (append_assoc s.line ts u))) r)
fed-file {u = u} {s = s} sent h (more {b} {bs} {ts = ts} (ends {t} e y) f) g =
    let r = fed-file [] (sent-begun s) f g in
    let o = F.line h.clean (comes-out sent s h y) r in
    subst (λ (z : List ℕ). File z (sent ++ (((t ++ (10 ∷ [])) ++ ts) ++ u))) (append_assoc sent s.line (10 ∷ bs) ∙ ap (λ (n : ℕ). sent ++ (s.line ++ (n ∷ bs))) (sym e))
    (subst (λ (z : List ℕ). File ((sent ++ s.line) ++ (10 ∷ bs)) z) (append_assoc sent t (10 ∷ (ts ++ u)) ∙ ap (λ (z : List ℕ). sent ++ z) (sym (append_assoc (t ++ (10 ∷ [])) ts u ∙ append_assoc t (10 ∷ []) (ts ++ u)))) o)

-- ---- reads: the pieces that they brought, up to the one that brought nothing

-- behind the end nothing is read
stopped : {rs : List (List ℕ)} {t : List ℕ} {s s' : State} → s.over ≡ true → Served rs s t s' → (input_of rs ≡ []) × (t ≡ [])
unfolding input_of
stopped e unread = (refl, refl)
stopped e (reads h x f) = true-false e h

served-from : {rs : List (List ℕ)} {t bs u : List ℕ} {s s' s'' : State} (sent : List ℕ) → Sent sent s → Fed bs s u s' → s'.over ≡ false → Served rs s' t s'' → s''.over ≡ true
    → File (sent ++ (s.line ++ (bs ++ input_of rs))) (sent ++ (u ++ t))
unfolding input_of
served-from sent h f go unread e = true-false e go
served-from {bs = bs} {u = u} {s = s} sent h f go (reads {rs = rs} {t} {ts} q (I.over (last x)) g) e =
    let z = stopped refl g in
    subst (λ (i : List ℕ). File (sent ++ (s.line ++ (bs ++ i))) (sent ++ (u ++ (t ++ ts)))) (sym z.0)
    (subst (λ (i : List ℕ). File (sent ++ (s.line ++ (bs ++ []))) (sent ++ (u ++ i))) (sym (ap (λ (i : List ℕ). t ++ i) z.1 ∙ append-nil t))
    (subst (λ (i : List ℕ). File (sent ++ (s.line ++ i)) (sent ++ (u ++ t))) (sym (append-nil bs)) (fed-file sent h f (last x))))
served-from {bs = bs} {u = u} {s = s} sent h f go (reads {r} {rs} {t} {ts} q (some x) g) e =
    let k = served-from sent h (fed-join f x) (fed-over x ∙ go) g e in
    subst (λ (i : List ℕ). File (sent ++ (s.line ++ i)) (sent ++ (u ++ (t ++ ts)))) (append_assoc bs r (input_of rs))
    (subst (λ (i : List ℕ). File (sent ++ (s.line ++ ((bs ++ r) ++ input_of rs))) (sent ++ i)) (append_assoc u t ts) k)

-- THEOREM: what was written of an input that has ended is the whole input, tidied
pub served-file : {rs : List (List ℕ)} {t : List ℕ} {s : State} → Served rs at_start t s → s.over ≡ true → File (input_of rs) t
unfolding Clean
served-file g e = served-from [] (record { clean = tt; short = λ x. refl; long = λ x. true-false x refl }) none refl g e

-- ---- what `run` promises: of an input whose bytes f are known, where no read and no write failed, the output has grown by f, tidied

pub record TidiedAs (f : List ℕ) (o o' : Stand) : Type 0 where
  pub text : List ℕ
  pub file : File f text
  pub grows : Appends o.known o'.known text

pub record TidiesInput (i i' o o' : Stand) : Type 0 where
  pub tidied : (f : List ℕ) → i.known ≡ Some f → length f < cap → i'.error ≡ None → o'.error ≡ None → TidiedAs f o o'

over-stays : {rs : List (List ℕ)} {t : List ℕ} {s s' : State} → s.over ≡ true → Served rs s t s' → s'.over ≡ true
over-stays e unread = e
over-stays e (reads h x f) = true-false e h

-- each read but the last brought something
served-long : {rs : List (List ℕ)} {t : List ℕ} {s s' : State} → Served rs s t s' → s'.over ≡ false → length rs ≤ length (input_of rs)
unfolding input_of
served-long unread e = omega arith
served-long (reads h (I.over (last x)) g) e = true-false (over-stays refl g) e
served-long (reads {rs = rs} h (some {b} {bs} x) g) e = omega (arith, served-long g e, length-append (b ∷ bs) (input_of rs))

-- THEOREM: what was written of an input that is known is the whole input, tidied
pub tidies-input : {room : ℕ} {s : State} {i i' o o' : Stand} → 0 < room → Serves room at_start s i i' o o' → TidiesInput i i' o o'
tidies-input {room} {s} {i} {i'} {o} {o'} k x = record { tidied = λ f e h q p. by_bool s.over (λ z. whole f e q p z) (λ z. absurd (omega (arith, x.stops z, served-long x.is z, taken-front f e x.taken, h))) }
  where
    whole : (f : List ℕ) → i.known ≡ Some f → i'.error ≡ None → o'.error ≡ None → s.over ≡ true → TidiedAs f o o'
    whole f e q p z =
        record { text = x.text; file = subst (λ (w : List ℕ). File w x.text) (taken-whole f e x.taken (x.ends z q k)) (served-file x.is z); grows = x.written.grows p }
