-- THEOREM `plays-input`: what poolrun does with an input of known bytes, whatever the reads cut it into: one text is printed of it, the same of the file tidied,
-- and what is held at the end meets demand 3.
use Rattle.std.specs.Prelude.{ℕ, ◌≤◌, ◌<◌, ◌≡◌, true, false, List, ◌∷◌, length, None, Some}
use Rattle.std.proofs.Common.{refl, subst, arith, length-append}
use Rattle.std.specs.Io.KnownBytes.{Appends}
use Rattle.words.specs.Sums.{cap}
use Rattle.forms.specs.TextLaws.{true-false, by_bool}
use Rattle.spelling.specs.File.{File, input_of}
use Rattle.streams.specs.Laws.{taken-front, taken-whole}
use Rattle.streams.specs.Streams.{Stand}
use Rattle.poolrun.specs.Input as I
use Rattle.poolrun.specs.Input.{State, Words, at_start, some, Served, unread, reads}
use Rattle.poolrun.specs.Poolrun.{Serves}
use Rattle.poolrun.specs.Alike.{Runs, file-alike, finished-over, served-runs}
use Rattle.poolrun.specs.Demand.{Demanded, poolrun-demand3}

-- before the first byte, with these words
abbrev pub begins_with : Words → State
begins_with w = at_start w.entries w.boxes w.cache w.peers w.answer

-- the file f was answered, from some words on
pub record Played (f : List ℕ) (o o' : Stand) : Type 0 where
  pub words : Words
  pub text : List ℕ
  pub to : State
  pub runs : Runs f (begins_with words) text to
  pub alike : (u : List ℕ) → File f u → Runs u (begins_with words) text to
  pub demand : to.kept.ready ≡ true → Demanded to
  pub grows : Appends o.known o'.known text

-- what `run` promises: of an input whose bytes f are known, where no read and no write failed
pub record PlaysInput (i i' o o' : Stand) : Type 0 where
  pub played : (f : List ℕ) → i.known ≡ Some f → length f < cap → i'.error ≡ None → o'.error ≡ None → Played f o o'

over-stays : {rs : List (List ℕ)} {t : List ℕ} {s s' : State} → s.over ≡ true → Served rs s t s' → s'.over ≡ true
over-stays e unread = e
over-stays e (reads h x f) = true-false e h

-- each read but the last brought something
served-long : {rs : List (List ℕ)} {t : List ℕ} {s s' : State} → Served rs s t s' → s'.over ≡ false → length rs ≤ length (input_of rs)
unfolding input_of
served-long unread e = omega arith
served-long (reads h (I.over x) g) e = true-false (over-stays (finished-over x) g) e
served-long (reads {rs = rs} h (some {b} {bs} x) g) e = omega (arith, served-long g e, length-append (b ∷ bs) (input_of rs))

pub plays-input : {room : ℕ} {w : Words} {s : State} {i i' o o' : Stand} → 0 < room → Serves room (begins_with w) s i i' o o' → PlaysInput i i' o o'
plays-input {room} {w} {s} {i} {i'} {o} {o'} k x = record { played = λ f e h q p. by_bool s.over (λ z. whole f e q p z) (λ z. absurd (omega (arith, x.stops z, served-long x.is z, taken-front f e x.taken, h))) }
  where
    whole : (f : List ℕ) → i.known ≡ Some f → i'.error ≡ None → o'.error ≡ None → s.over ≡ true → Played f o o'
    whole f e q p z =
        let r : Runs f (begins_with w) x.text s = subst (λ (y : List ℕ). Runs y (begins_with w) x.text s) (taken-whole f e x.taken (x.ends z q k)) (served-runs x.is refl z) in
        record {
          words = w;
          text = x.text;
          to = s;
          runs = r;
          alike = λ u h. file-alike h refl r;
          demand = λ h. poolrun-demand3 w.entries w.boxes w.cache w.peers w.answer x.is h;
          grows = x.written.grows p;
        }
