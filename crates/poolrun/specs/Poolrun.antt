-- What the functions of poolrun's loop promise, over the definitions of Input, and the laws that their proofs cite.
use Rattle.std.specs.Prelude.{ℕ, suc, ◌+◌, ◌-◌, ◌≤◌, ◌<◌, min, ◌≡◌, refl, Bool, true, false, List, [], ◌∷◌, ◌++◌, take, drop, set, get_or, leb, None}
use Rattle.std.proofs.Math.Path.{sym}
use Rattle.std.proofs.Common.{ap, subst, ◌∙◌, true≢false, append_assoc, append-nil, add-one, arith, length-append, length-drop, take_all, take-suc, take-suc-set, take_at, lt-ltb, le-ltb, leb-true, leb-false}
use Rattle.std.proofs.Math.ListN.{length, length-take}
use Rattle.std.proofs.lemmas.List.{take-append-le}
use Rattle.words.specs.Lists.{yes, no}
use Rattle.words.specs.Sums.{cap, capped}
use Rattle.console.specs.Console.{Line}
use Rattle.console.specs.After.{Holds, Told}
use Rattle.console.specs.Kept.{Kept}
use Rattle.spelling.specs.File.{input_of}
use Rattle.std.specs.Io.KnownBytes.{IsAtEnd}
use Rattle.streams.specs.Laws.{written-none, written-then, taken-none, taken-then}
use Rattle.streams.specs.Streams.{Stand, Written, Taken, Brought}
use Rattle.poolrun.specs.Input.{Words, State, add_byte, added, Comes, Leaves, Answered, Step, adds, ends, Fed, none, more, ended, Finished, between, last, Turn, over, some, Served, unread, reads}

-- ---- sizes

-- the buffers have the sizes that every answer needs: a text has at most 32,768 bytes, and the last place is its newline's
pub record Sized (l e b k p a i f s o : List ℕ) : Type 0 where
  pub line : length l ≡ 4097
  pub entries : length e ≡ 2306
  pub boxes : length b ≡ 16642
  pub cache : length k ≡ 8752
  pub peers : length p ≡ 512
  pub answer : length a ≡ 1024
  pub listing : length i ≡ 1024
  pub first : length f ≡ 14336
  pub second : length s ≡ 14336
  pub out : length o ≡ 32769

-- of those, what one line's call needs; its text has the buffer but the last place
pub record Room (a i f s o : List ℕ) : Type 0 where
  pub answer : length a ≤ 1024
  pub listing : length i ≡ 1024
  pub first : length f ≡ 14336
  pub second : length s ≡ 14336
  pub out : 32768 ≤ length o

-- ---- contracts

-- the n-th line, of the bytes l, is read and its call made
pub record Tells (l : List ℕ) (n : ℕ) (w : Words) (h : Kept) (w' : Words) (o₀ o : List ℕ) (t : Told) : Type 0 where
  pub to : Line
  pub comes : Comes l n w h to
  pub leaves : Leaves w' o₀ o t to

-- bytes that stand for a whole line
pub record Whole (l : List ℕ) : Type 0 where
  pub text : List ℕ
  pub is : l ≡ text ++ (10 ∷ [])

-- what was printed stands at the front of the buffer `out`; o and o' are where the output stands before and behind it
pub record Ends (s s' : State) (out : List ℕ) (o o' : Stand) : Type 0 where
  pub text : List ℕ
  pub is : Answered s text s'
  pub handed : take (length (text ++ (10 ∷ []))) out ≡ text ++ (10 ∷ [])
  pub written : Written o o' (text ++ (10 ∷ []))

pub record Steps (b : ℕ) (s s' : State) (out : List ℕ) (o o' : Stand) : Type 0 where
  pub text : List ℕ
  pub is : Step b s text s'
  pub handed : take (length text) out ≡ text
  pub written : Written o o' text

pub record Finishes (s s' : State) (out : List ℕ) (o o' : Stand) : Type 0 where
  pub text : List ℕ
  pub is : Finished s text s'
  pub handed : take (length text) out ≡ text
  pub written : Written o o' text

pub record Feeds (bytes : List ℕ) (s s' : State) (o o' : Stand) : Type 0 where
  pub text : List ℕ
  pub is : Fed bytes s text s'
  pub written : Written o o' text

pub record Turns (bytes : List ℕ) (s s' : State) (o o' : Stand) : Type 0 where
  pub text : List ℕ
  pub is : Turn bytes s text s'
  pub written : Written o o' text

-- reads go on while the input has not ended, or up to 2^64−1 of them; `left` are not made yet. i and i' are where the input stands
pub record Serving (s s' : State) (left : ℕ) (i i' o o' : Stand) : Type 0 where
  pub brought : List (List ℕ)
  pub text : List ℕ
  pub is : Served brought s text s'
  pub count : length brought + left ≡ cap
  pub taken : Taken i i' (input_of brought)
  pub written : Written o o' text

-- each read has so much room
pub record Serves (room : ℕ) (s s' : State) (i i' o o' : Stand) : Type 0 where
  pub brought : List (List ℕ)
  pub text : List ℕ
  pub is : Served brought s text s'
  pub stops : s'.over ≡ false → length brought ≡ cap
  pub taken : Taken i i' (input_of brought)
  pub ends : s'.over ≡ true → i'.error ≡ None → 0 < room → IsAtEnd i'.known
  pub written : Written o o' text

-- ---- a byte of a line

module _ (l : List ℕ) (n b : ℕ) (size : length l ≡ 4097) where
  pub byte-added : n < 4097 → take (n + 1) (set l n b) ≡ add_byte (take n l) b
  unfolding add_byte
  byte-added h =
      let z : length (take n l) < 4097 = omega (arith, length-take n l) in
      rw (add-one n) (take-suc-set l n b (omega arith) ∙ sym (yes _ _ _ (lt-ltb _ _ z)))

  pub byte_left : 4097 ≤ n → take n l ≡ add_byte (take n l) b
  unfolding add_byte
  byte_left h =
      let z : 4097 ≤ length (take n l) = omega (arith, length-take n l) in
      sym (no _ _ _ (le-ltb _ _ z))

-- ---- a line

-- a part from the front has as many as it says
pub front-is : (n : ℕ) (l : List ℕ) → n ≤ length l → n ≡ length (take n l)
front-is n l h = omega (arith, length-take n l)

-- the line in progress ends where its buffer does, at the latest
pub cut_line : (n m : ℕ) (l : List ℕ) → m ≡ min n (length l) → take m l ≡ take n l
cut_line n m l q = go (leb n (length l)) refl
  where
    go : (t : Bool) → leb n (length l) ≡ t → take m l ≡ take n l
    go true e = let z : m ≡ n = omega (arith, leb-true n (length l) e) in ap (λ (i : ℕ). take i l) z
    go false e = take_all m l (omega (arith, leb-false n (length l) e)) ∙ sym (take_all n l (omega (arith, leb-false n (length l) e)))

-- the text of a call is no longer than the buffer that it was printed into
module _ (w : Words) (o₀ o : List ℕ) (t : Told) (m : Line) (x : Leaves w o₀ o t m) (size : length o ≡ length o₀) where
  pub text-fits : t.len ≤ length o
  text-fits =
      let y : length o ≡ length (m.text ++ drop (0 + length m.text) o₀) = ap length x.prints.wrote in
      omega (arith, x.prints.ends, length-append m.text (drop (0 + length m.text) o₀), length-drop (0 + length m.text) o₀)

  -- it stands at the front, and the newline behind it
  pub text-stands : take t.len o ≡ m.text
  text-stands = rw x.prints.wrote (take_at m.text (drop (0 + length m.text) o₀) t.len (omega (arith, x.prints.ends)))

  pub text-handed : (rest out : List ℕ) → 0 < length rest → out ≡ set (o ++ rest) t.len 10 → take (length (m.text ++ (10 ∷ []))) out ≡ m.text ++ (10 ∷ [])
  text-handed rest out h q =
      let n : length (m.text ++ (10 ∷ [])) ≡ suc t.len = omega (arith, length-append m.text (10 ∷ []), x.prints.ends) in
      let z : t.len < length (o ++ rest) = omega (arith, text-fits, length-append o rest) in
      rw (n, q) (take-suc-set (o ++ rest) t.len 10 z ∙ ap (λ (l : List ℕ). l ++ (10 ∷ [])) (take-append-le t.len o rest text-fits ∙ text-stands))

-- the buffer but its last place is lent for the text
pub room_of : {l e b k p a i f s o : List ℕ} → Sized l e b k p a i f s o → Room a i f s (take 32768 o)
room_of {o = o} z = record { answer = omega (arith, z.answer); listing = z.listing; first = z.first; second = z.second; out = omega (arith, length-take 32768 o, z.out) }

module _ (l : List ℕ) (m : ℕ) {w w' : Words} {n : ℕ} {h : Kept} {t : Told} (out o : List ℕ) (size : length out ≡ 32769) (same : length o ≡ length (take 32768 out)) (x : Tells (take m l) n w h w' (take 32768 out) o t) where
  pub newline-fits : t.len < length (o ++ drop 32768 out)
  newline-fits = omega (arith, text-fits _ _ _ _ _ x.leaves same, length-append o (drop 32768 out), length-drop 32768 out)

  pub ends_is : {v v' : Stand} (len number : ℕ) (out' : List ℕ) → m ≡ min len (length l) → n ≡ capped (number + 1) → out' ≡ set (o ++ drop 32768 out) t.len 10 → Written v v' (take (t.len + 1) out')
      → Ends (record { line = take len l; number = number; over = false; words = w; kept = h }) (record { line = []; number = n; over = false; words = w'; kept = t.kept }) out' v v'
  ends_is {v} {v'} len number out' qm qn qo y =
      record {
        text = x.to.text;
        is =
            record {
              line = refl;
              number = qn;
              over = refl;
              to = x.to;
              comes = subst (λ (bs : List ℕ). Comes bs n w h x.to) (cut_line len m l qm) x.comes;
              says = refl;
              before = take 32768 out;
              out = o;
              leaves = subst (λ (i : ℕ). Leaves w' (take 32768 out) o (record { kept = t.kept; len = i }) x.to) long x.leaves;
            };
        handed = handed out' qo;
        written = subst (Written v v') (ap (λ (i : ℕ). take i out') all ∙ handed out' qo) y;
      }
    where
      handed : (z : List ℕ) → z ≡ set (o ++ drop 32768 out) t.len 10 → take (length (x.to.text ++ (10 ∷ []))) z ≡ x.to.text ++ (10 ∷ [])
      handed z q = text-handed _ _ _ _ _ x.leaves same (drop 32768 out) z (omega (arith, length-drop 32768 out)) q

      all : t.len + 1 ≡ length (x.to.text ++ (10 ∷ []))
      all = omega (arith, length-append x.to.text (10 ∷ []), x.leaves.prints.ends)

      long : t.len ≡ length x.to.text
      long = omega (arith, x.leaves.prints.ends)

-- ---- what is held fits after each step

abbrev pub HoldsIn : State → Type 0
HoldsIn s = Holds s.words.entries s.words.boxes s.words.cache s.words.peers s.words.answer s.kept

pub step-holds : {b : ℕ} {t : List ℕ} {s s' : State} → HoldsIn s → Step b s t s' → HoldsIn s'
unfolding added
step-holds y (adds h) = y
step-holds y (ends q x) = x.leaves.holds

pub fed-holds : {bs t : List ℕ} {s s' : State} → HoldsIn s → Fed bs s t s' → HoldsIn s'
fed-holds y none = y
fed-holds y (more x f) = fed-holds (step-holds y x) f

pub finished-holds : {t : List ℕ} {s s' : State} → HoldsIn s → Finished s t s' → HoldsIn s'
unfolding ended
finished-holds y (between h) = y
finished-holds y (last h x) = x.leaves.holds

pub turn_holds : {bs t : List ℕ} {s s' : State} → HoldsIn s → Turn bs s t s' → HoldsIn s'
turn_holds y (over f) = finished-holds y f
turn_holds y (some f) = fed-holds y f

-- ---- the next byte

pub steps-adds : {s s' : State} {w : Stand} (c : ℕ) → (c ≡ 10 → ⊥) → s' ≡ added c s → (out : List ℕ) → Steps c s s' out w w
steps-adds {s} c h q out = record { text = []; is = rw q (adds h); handed = refl; written = written-none }

pub steps-ends : {s s' : State} {out : List ℕ} {w w' : Stand} (c : ℕ) → c ≡ 10 → Ends s s' out w w' → Steps c s s' out w w'
steps-ends c q x = record { text = x.text ++ (10 ∷ []); is = ends q x.is; handed = x.handed; written = x.written }

-- ---- all bytes

pub fed-join : {cs bs t u : List ℕ} {s s' s'' : State} → Fed cs s t s' → Fed bs s' u s'' → Fed (cs ++ bs) s (t ++ u) s''
fed-join none g = g
fed-join (more {b} {bs} {t} {ts} x f) g = rw (append_assoc t ts _) (more x (fed-join f g))

pub feeds-none : {s : State} {o : Stand} → Feeds [] s s o o
feeds-none = record { text = []; is = none; written = written-none }

pub feeds-more : {s s' s'' : State} {o o' o'' : Stand} {out : List ℕ} (l : List ℕ) (i : ℕ) → i < length l → Feeds (take i l) s s' o o' → Steps (get_or l i 0) s' s'' out o' o'' → Feeds (take (i + 1) l) s s'' o o''
feeds-more l i h f x =
    record {
      text = f.text ++ (x.text ++ []);
      is = rw (add-one i, take-suc l i 0 h) (fed-join f.is (more x.is none));
      written = written-then f.written (written-then x.written written-none);
    }

-- ---- the end of the input

pub finishes-between : {s : State} {w : Stand} (out : List ℕ) → s.line ≡ [] → Finishes s (ended s) out w w
finishes-between out h = record { text = []; is = between h; handed = refl; written = written-none }

pub finishes-last : {s s' : State} {w w' : Stand} (out : List ℕ) → (s.line ≡ [] → ⊥) → Ends s s' out w w' → Finishes s (ended s') out w w'
finishes-last out h y = record { text = y.text ++ (10 ∷ []); is = last h y.is; handed = y.handed; written = y.written }

pub not-begun : (l : List ℕ) (n : ℕ) → length l ≡ 4097 → (n ≡ 0 → ⊥) → take n l ≡ [] → ⊥
not-begun l n size h q = let z : length (take n l) ≡ 0 = ap length q in omega (arith, length-take n l, h)

pub step-over : {b : ℕ} {t : List ℕ} {s s' : State} → Step b s t s' → s'.over ≡ s.over
unfolding added
step-over (adds h) = refl
step-over (ends q x) = x.over

pub fed-over : {bs t : List ℕ} {s s' : State} → Fed bs s t s' → s'.over ≡ s.over
fed-over none = refl
fed-over (more x f) = fed-over f ∙ step-over x

-- only a read that brings nothing ends it
turn-over : {bs t : List ℕ} {s s' : State} → Turn bs s t s' → s.over ≡ false → s'.over ≡ true → bs ≡ []
turn-over (over x) h e = refl
turn-over (some f) h e = absurd (true≢false (sym e ∙ fed-over f ∙ h))

-- ---- reads

pub turns-over : {s s' : State} {o o' : Stand} {out : List ℕ} (l : List ℕ) → length l ≡ 0 → Finishes s s' out o o' → Turns l s s' o o'
turns-over [] h x = record { text = x.text; is = over x.is; written = x.written }
turns-over (b ∷ l) h x = absurd (omega arith)

pub turns-some : {s s' : State} {o o' : Stand} (l : List ℕ) → (length l ≡ 0 → ⊥) → Feeds l s s' o o' → Turns l s s' o o'
turns-some [] h x = absurd (h refl)
turns-some (b ∷ l) h x = record { text = x.text; is = some x.is; written = x.written }

pub served-join : {cs bs : List (List ℕ)} {t u : List ℕ} {s s' s'' : State} → Served cs s t s' → Served bs s' u s'' → Served (cs ++ bs) s (t ++ u) s''
served-join unread g = g
served-join (reads {r} {rs} {t} {ts} h x f) g = rw (append_assoc t ts _) (reads h x (served-join f g))

input-more : (rs : List (List ℕ)) (r : List ℕ) → input_of rs ++ r ≡ input_of (rs ++ (r ∷ []))
unfolding input_of
input-more [] r = sym (append-nil r)
input-more (q ∷ rs) r = append_assoc q (input_of rs) r ∙ ap (λ (t : List ℕ). q ++ t) (input-more rs r)

taken-start : {i : Stand} → Taken i i (input_of [])
unfolding input_of
taken-start = taken-none

pub serving-none : {s : State} {i o : Stand} → Serving s s cap i i o o
serving-none = record { brought = []; text = []; is = unread; count = omega arith; taken = taken-start; written = written-none }

-- one read more
module _ {s s' s'' : State} {i i' i'' o o' o'' : Stand} (bs : List ℕ) (n room size : ℕ) (same : size ≡ room) (y : Serving s s' n i i' o o') (go : s'.over ≡ false) (g : Brought size i' i'' bs) (x : Turns bs s' s'' o' o'') where
  one_more : Served (y.brought ++ (bs ∷ [])) s (y.text ++ (x.text ++ [])) s''
  one_more = served-join y.is (reads go x.is unread)

  all-taken : Taken i i'' (input_of (y.brought ++ (bs ∷ [])))
  all-taken = subst (Taken i i'') (input-more y.brought bs) (taken-then y.taken g.taken)

  all-written : Written o o'' (y.text ++ (x.text ++ []))
  all-written = written-then y.written (written-then x.written written-none)

  pub serving-more : 0 < n → Serving s s'' (n - 1) i i'' o o''
  serving-more h =
      record {
        brought = y.brought ++ (bs ∷ []);
        text = y.text ++ (x.text ++ []);
        is = one_more;
        count = omega (arith, length-append y.brought (bs ∷ []), y.count);
        taken = all-taken;
        written = all-written;
      }

  pub serves-over : s''.over ≡ true → Serves room s s'' i i'' o o''
  serves-over h =
      record {
        brought = y.brought ++ (bs ∷ []);
        text = y.text ++ (x.text ++ []);
        is = one_more;
        stops = λ z. absurd (true≢false (sym h ∙ z));
        taken = all-taken;
        ends = λ z e k. g.ends e (omega (arith, same)) (turn-over x.is go h);
        written = all-written;
      }

pub serving-left : {s s' : State} {i i' o o' : Stand} (n m : ℕ) → n ≡ m → Serving s s' n i i' o o' → Serving s s' m i i' o o'
serving-left {s} {s'} {i} {i'} {o} {o'} n m e y = subst (λ (k : ℕ). Serving s s' k i i' o o') e y
