-- What the functions of tidy's loop promise, over the definitions of Input, and the laws that their proofs cite.
use Rattle.std.specs.Prelude.{ℕ, suc, ◌+◌, ◌-◌, ◌≤◌, ◌<◌, min, ◌≡◌, refl, Bool, true, false, List, [], ◌∷◌, ◌++◌, length, take, set, get_or, leb, None}
use Rattle.std.proofs.Common.{sym, ap, subst, ◌∙◌, true≢false, append_assoc, append-nil, add-one, arith, length-take, length-append, take_all, take-suc, take-suc-set, leb-true, leb-false}
use Rattle.words.specs.Sums.{cap}
use Rattle.forms.specs.Nums.{Prints}
use Rattle.replies.specs.ReplyLaws.{line-is}
use Rattle.spelling.specs.File.{input_of}
use Rattle.spelling.specs.Tidied.{Tidied, Tidies, tidied-short}
use Rattle.std.specs.Io.KnownBytes.{IsAtEnd}
use Rattle.streams.specs.Laws.{written-none, written-then, taken-none, taken-then}
use Rattle.streams.specs.Streams.{Stand, Written, Taken, Brought}
use Rattle.tidy.specs.Input as I
use Rattle.tidy.specs.Input.{State, state_of, grown, spilled, begun, Ending, whole, rest, Step, adds, spills, ends, Fed, none, more, ended, Finished, last, Turn, some, Served, unread, reads}

-- ---- sizes: a line that is too long by one byte, and its newline

pub record Sized (l f s o : List ℕ) : Type 0 where
  pub line : length l ≡ 4097
  pub first : length f ≡ 14336
  pub second : length s ≡ 14336
  pub out : length o ≡ 4098

-- ---- contracts

-- the end of the line in progress stands at the start of the buffer `out`, of r bytes
pub record Outs (s : State) (x y : List ℕ) (r : ℕ) : Type 0 where
  pub text : List ℕ
  pub is : Ending s text
  pub prints : Prints text 0 x y r
  pub fits : r ≤ 4097

-- bytes that are how a line comes out, and its newline
pub record Whole (s : State) (bytes : List ℕ) : Type 0 where
  pub text : List ℕ
  pub is : Ending s text
  pub line : bytes ≡ text ++ (10 ∷ [])

-- what was written stands at the front of the buffer `out`; o and o' are where the output stands before and behind it
pub record Steps (b : ℕ) (s s' : State) (out : List ℕ) (o o' : Stand) : Type 0 where
  pub text : List ℕ
  pub is : Step b s text s'
  pub handed : take (length text) out ≡ text
  pub written : Written o o' text

pub record Finishes (s s' : State) (out : List ℕ) (o o' : Stand) : Type 0 where
  pub text : List ℕ
  pub is : Finished s text s'
  pub handed : take (length text) out ≡ text
  pub written : Written o o' text

pub record Feeds (bytes : List ℕ) (s s' : State) (o o' : Stand) : Type 0 where
  pub text : List ℕ
  pub is : Fed bytes s text s'
  pub written : Written o o' text

pub record Turns (bytes : List ℕ) (s s' : State) (o o' : Stand) : Type 0 where
  pub text : List ℕ
  pub is : Turn bytes s text s'
  pub written : Written o o' text

-- reads go on while the input has not ended, or up to 2^64−1 of them; `left` are not made yet. i and i' are where the input stands
pub record Serving (s s' : State) (left : ℕ) (i i' o o' : Stand) : Type 0 where
  pub brought : List (List ℕ)
  pub text : List ℕ
  pub is : Served brought s text s'
  pub count : length brought + left ≡ cap
  pub taken : Taken i i' (input_of brought)
  pub written : Written o o' text

-- each read has so much room
pub record Serves (room : ℕ) (s s' : State) (i i' o o' : Stand) : Type 0 where
  pub brought : List (List ℕ)
  pub text : List ℕ
  pub is : Served brought s text s'
  pub stops : s'.over ≡ false → length brought ≡ cap
  pub taken : Taken i i' (input_of brought)
  pub ends : s'.over ≡ true → i'.error ≡ None → 0 < room → IsAtEnd i'.known
  pub written : Written o o' text

-- ---- a line

-- a part that ends where a length or the list does has as many as it says
pub cut-is : (r a : ℕ) (l : List ℕ) → r ≡ min a (length l) → r ≡ length (take r l)
cut-is r a l q = omega (arith, length-take r l)

-- the line in progress ends where its buffer does, at the latest
pub cut_line : (n m : ℕ) (l : List ℕ) → m ≡ min n (length l) → take m l ≡ take n l
cut_line n m l q = go (leb n (length l)) refl
  where
    go : (t : Bool) → leb n (length l) ≡ t → take m l ≡ take n l
    go true e = let z : m ≡ n = omega (arith, leb-true n (length l) e) in ap (λ (i : ℕ). take i l) z
    go false e = take_all m l (omega (arith, leb-false n (length l) e)) ∙ sym (take_all n l (omega (arith, leb-false n (length l) e)))

module _ (l : List ℕ) (len : ℕ) (long : Bool) (n : ℕ) (x y : List ℕ) (r : ℕ) (size : length l ≡ 4097) (q : n ≡ min len (length l)) where
  pub outs-rest : long ≡ true → Prints (take n l) 0 x y r → Outs (state_of l len long false) x y r
  outs-rest e w =
      record {
        text = take len l;
        is = rest e;
        prints = subst (λ (t : List ℕ). Prints t 0 x y r) (cut_line len n l q) w;
        fits = omega (arith, w.ends, length-take n l);
      }

  pub outs-whole : long ≡ false → Tidies (take n l) x y r → Outs (state_of l len long false) x y r
  outs-whole e w =
      record {
        text = w.text;
        is = whole e (subst (λ (t : List ℕ). Tidied t w.text) (cut_line len n l q) w.is);
        prints = w.prints;
        fits = omega (arith, w.prints.ends, tidied-short w.is, length-take n l);
      }

-- a newline behind what was printed
pub steps-ends : {w w' : Stand} (b : ℕ) (s : State) (x y : List ℕ) (r : ℕ) → b ≡ 10 → length y ≡ length x → length x ≡ 4098 → (o : Outs s x y r) → Written w w' (take (r + 1) (set y r 10)) → Steps b s (begun s) (set y r 10) w w'
steps-ends {w} {w'} b s x y r e k h o v =
    let n : length (o.text ++ (10 ∷ [])) ≡ suc r = omega (arith, length-append o.text (10 ∷ []), o.prints.ends) in
    let f : take (suc r) (set y r 10) ≡ o.text ++ (10 ∷ []) = take-suc-set y r 10 (omega (arith, o.fits)) ∙ ap (λ (t : List ℕ). t ++ (10 ∷ [])) (line-is o.prints) in
    record { text = o.text ++ (10 ∷ []); is = ends e o.is; handed = rw n f; written = subst (Written w w') (ap (λ (i : ℕ). take i (set y r 10)) (add-one r) ∙ f) v }

pub finishes-is : {w w' : Stand} {s s' : State} (x y : List ℕ) (r : ℕ) → s' ≡ s → (o : Outs s x y r) → Written w w' (take r y) → Finishes s (ended s') y w w'
finishes-is {w} {w'} x y r q o v =
    let n : length o.text ≡ r = omega (arith, o.prints.ends) in record { text = o.text; is = rw q (last o.is); handed = rw n (line-is o.prints); written = subst (Written w w') (line-is o.prints) v }

-- ---- a byte of a line

module _ (l : List ℕ) (len : ℕ) (long : Bool) (b : ℕ) (out : List ℕ) (size : length l ≡ 4097) (no : b ≡ 10 → ⊥) where
  pub steps-adds : {w : Stand} → len < 4097 → Steps b (state_of l len long false) (state_of (set l len b) (len + 1) long false) out w w
  steps-adds h =
      record {
        text = [];
        is = rw (add-one len, take-suc-set l len b (omega arith)) (adds no (omega (arith, length-take len l)));
        handed = refl;
        written = written-none;
      }

  pub steps-spills : {v v' : Stand} (x : List ℕ) (r : ℕ) → 4097 ≤ len → Prints l 0 x out r → Written v v' (take r out)
      → Steps b (state_of l len long false) (state_of (set l 0 b) 1 true false) out v v'
  steps-spills {v} {v'} x r h w u =
      let e : take len l ≡ l = take_all len l (omega arith) in
      let one : take 1 (set l 0 b) ≡ b ∷ [] = take-suc-set l 0 b (omega arith) in
      record {
        text = take len l;
        is = rw one (spills no (omega (arith, length-take len l)));
        handed = rw e (ap (λ (n : ℕ). take n out) (let z : length l ≡ r = omega (arith, w.ends) in z) ∙ line-is w);
        written = subst (Written v v') (line-is w ∙ sym e) u;
      }

-- ---- all bytes

pub fed-join : {cs bs t u : List ℕ} {s s' s'' : State} → Fed cs s t s' → Fed bs s' u s'' → Fed (cs ++ bs) s (t ++ u) s''
fed-join none g = g
fed-join (more {b} {bs} {t} {ts} x f) g = rw (append_assoc t ts _) (more x (fed-join f g))

pub feeds-none : {s : State} {o : Stand} → Feeds [] s s o o
feeds-none = record { text = []; is = none; written = written-none }

pub feeds-more : {s s' s'' : State} {o o' o'' : Stand} {out : List ℕ} (l : List ℕ) (i : ℕ) → i < length l → Feeds (take i l) s s' o o' → Steps (get_or l i 0) s' s'' out o' o'' → Feeds (take (i + 1) l) s s'' o o''
feeds-more l i h f x =
    record {
      text = f.text ++ (x.text ++ []);
      is = rw (add-one i, take-suc l i 0 h) (fed-join f.is (more x.is none));
      written = written-then f.written (written-then x.written written-none);
    }

-- ---- the end of the input

pub step-over : {b : ℕ} {t : List ℕ} {s s' : State} → Step b s t s' → s'.over ≡ s.over
step-over (adds x y) = refl
step-over (spills x y) = refl
step-over (ends x y) = refl

pub fed-over : {bs t : List ℕ} {s s' : State} → Fed bs s t s' → s'.over ≡ s.over
fed-over none = refl
fed-over (more x f) = fed-over f ∙ step-over x

-- only a read that brings nothing ends it
turn-over : {bs t : List ℕ} {s s' : State} → Turn bs s t s' → s.over ≡ false → s'.over ≡ true → bs ≡ []
turn-over (I.over x) h e = refl
turn-over (some f) h e = absurd (true≢false (sym e ∙ fed-over f ∙ h))

-- ---- reads

pub turns-over : {s s' : State} {o o' : Stand} {out : List ℕ} (l : List ℕ) → length l ≡ 0 → Finishes s s' out o o' → Turns l s s' o o'
turns-over [] h x = record { text = x.text; is = I.over x.is; written = x.written }
turns-over (b ∷ l) h x = absurd (omega arith)

pub turns-some : {s s' : State} {o o' : Stand} (l : List ℕ) → (length l ≡ 0 → ⊥) → Feeds l s s' o o' → Turns l s s' o o'
turns-some [] h x = absurd (h refl)
turns-some (b ∷ l) h x = record { text = x.text; is = some x.is; written = x.written }

served-join : {cs bs : List (List ℕ)} {t u : List ℕ} {s s' s'' : State} → Served cs s t s' → Served bs s' u s'' → Served (cs ++ bs) s (t ++ u) s''
served-join unread g = g
served-join (reads {r} {rs} {t} {ts} h x f) g = rw (append_assoc t ts _) (reads h x (served-join f g))

input-more : (rs : List (List ℕ)) (r : List ℕ) → input_of rs ++ r ≡ input_of (rs ++ (r ∷ []))
unfolding input_of
input-more [] r = sym (append-nil r)
input-more (q ∷ rs) r = append_assoc q (input_of rs) r ∙ ap (λ (t : List ℕ). q ++ t) (input-more rs r)

taken-start : {i : Stand} → Taken i i (input_of [])
unfolding input_of
taken-start = taken-none

pub serving-none : {s : State} {i o : Stand} → Serving s s cap i i o o
serving-none = record { brought = []; text = []; is = unread; count = omega arith; taken = taken-start; written = written-none }

-- one read more
module _ {s s' s'' : State} {i i' i'' o o' o'' : Stand} (bs : List ℕ) (n room size : ℕ) (same : size ≡ room) (y : Serving s s' n i i' o o') (go : s'.over ≡ false) (g : Brought size i' i'' bs) (x : Turns bs s' s'' o' o'') where
  one_more : Served (y.brought ++ (bs ∷ [])) s (y.text ++ (x.text ++ [])) s''
  one_more = served-join y.is (reads go x.is unread)

  all-taken : Taken i i'' (input_of (y.brought ++ (bs ∷ [])))
  all-taken = subst (Taken i i'') (input-more y.brought bs) (taken-then y.taken g.taken)

  all-written : Written o o'' (y.text ++ (x.text ++ []))
  all-written = written-then y.written (written-then x.written written-none)

  pub serving-more : 0 < n → Serving s s'' (n - 1) i i'' o o''
  serving-more h =
      record {
        brought = y.brought ++ (bs ∷ []);
        text = y.text ++ (x.text ++ []);
        is = one_more;
        count = omega (arith, length-append y.brought (bs ∷ []), y.count);
        taken = all-taken;
        written = all-written;
      }

  pub serves-over : s''.over ≡ true → Serves room s s'' i i'' o o''
  serves-over h =
      record {
        brought = y.brought ++ (bs ∷ []);
        text = y.text ++ (x.text ++ []);
        is = one_more;
        stops = λ z. absurd (true≢false (sym h ∙ z));
        taken = all-taken;
        ends = λ z e k. g.ends e (omega (arith, same)) (turn-over x.is go h);
        written = all-written;
      }

pub serving-left : {s s' : State} {i i' o o' : Stand} (n m : ℕ) → n ≡ m → Serving s s' n i i' o o' → Serving s s' m i i' o o'
serving-left {s} {s'} {i} {i'} {o} {o'} n m e y = subst (λ (k : ℕ). Serving s s' k i i' o o') e y
