-- Ids in an answer buffer. What is written stands in whole places of four words; a place that the buffer lacks is not written (refusal 2 sees to
-- it that there is none), and "words past what is written keep their value" (docs/DECISIONS.md, D5).
use Rattle.std.specs.Prelude.{ℕ, suc, ◌+◌, ◌*◌, ◌/◌, ◌≤◌, ◌<◌, ◌≡◌, refl, List, [], ◌∷◌, ◌++◌, length, drop, set}
use Rattle.std.proofs.Common.{sym, ap, ◌∙◌, add-zero, add-suc, suc-add, add-one, arith, length-set, drop-set-lt}
use Rattle.std.proofs.lemmas.List.Edits.{sets}
use Rattle.std.proofs.Math.Seq.{set_out}
use Rattle.words.specs.Rows.{stored}
use Rattle.words.specs.Ids.{num, id_of, id_at, id_words}
use Rattle.words.specs.declared.ids.Id.{Id}
use Rattle.boxes.specs.Flat.{count_of, ids_to, ids_of, ids, ids-put}

-- the words behind the last whole place
abbrev pub behind : List ℕ → List ℕ
behind l = drop (count_of 4 l * 4) l

-- the ids ks were written from place `at` on, to a buffer that held l and holds m; nothing else changed
pub record Wrote (l m : List ℕ) (at : ℕ) (ks : List ℕ) : Type 0 where
  pub kept : length m ≡ length l
  pub ids : ids_of 4 m ≡ sets (ids_of 4 l) at ks
  pub rest : behind m ≡ behind l

-- a buffer of two places and a word: an id goes to its place, and one that has no place goes nowhere
places : (sets (ids_of 4 (0 ∷ 0 ∷ 0 ∷ 1 ∷ 0 ∷ 0 ∷ 0 ∷ 2 ∷ 9 ∷ [])) 1 (7 ∷ 8 ∷ []) ≡ num 0 0 0 1 ∷ 7 ∷ []) × (behind (0 ∷ 0 ∷ 0 ∷ 1 ∷ 0 ∷ 0 ∷ 0 ∷ 2 ∷ 9 ∷ []) ≡ 9 ∷ [])
unfolding ids_to id_at
places = (refl, refl)

-- ---- one id

module _ (l : List ℕ) (k : ℕ) where
  pub wrote_one : (x : Id) → k < count_of 4 l → Wrote l (stored l (k * 4) (id_words x)) k (id_of x ∷ [])
  wrote_one x h =
      record {
        kept = same;
        ids = ap (λ (n : ℕ). ids_to 4 m (n / 4)) same ∙ ids-put l k x (omega arith) (count_of 4 l);
        rest = ap (λ (n : ℕ). drop (n / 4 * 4) m) same ∙ tail x.a x.b x.c x.d;
      }
    where
      m : List ℕ
      m = stored l (k * 4) (id_words x)

      same : length m ≡ length l
      same = simp length-set

      tail : (a b c d : ℕ) → drop (count_of 4 l * 4) (stored l (k * 4) (a ∷ b ∷ c ∷ d ∷ [])) ≡ behind l
      tail a b c d =
          drop-set-lt (count_of 4 l * 4) _ (k * 4 + 3) d (omega arith)
          ∙ drop-set-lt (count_of 4 l * 4) _ (k * 4 + 2) c (omega arith)
          ∙ drop-set-lt (count_of 4 l * 4) _ (k * 4 + 1) b (omega arith)
          ∙ drop-set-lt (count_of 4 l * 4) l (k * 4) a (omega arith)

  pub wrote_nowhere : (x : ℕ) → count_of 4 l ≤ k → Wrote l l k (x ∷ [])
  wrote_nowhere x h = record { kept = refl; ids = sym (set_out (ids_of 4 l) k x (omega (arith, (ids 4).len l (count_of 4 l)))); rest = refl }

pub wrote_nothing : (l : List ℕ) (at : ℕ) → Wrote l l at []
wrote_nothing l at = record { kept = refl; ids = refl; rest = refl }

-- ---- one list behind the other

sets-append : (us vs l : List ℕ) (p : ℕ) → sets l p (us ++ vs) ≡ sets (sets l p us) (p + length us) vs
sets-append [] vs l p = rw add-zero
sets-append (u ∷ us) vs l p = sets-append us vs (set l p u) (suc p) ∙ rw (suc-add, add-suc)

pub wrote-both : (l m o : List ℕ) (at n : ℕ) (ks js : List ℕ) → n ≡ length ks → Wrote l m at ks → Wrote m o (at + n) js → Wrote l o at (ks ++ js)
wrote-both l m o at n ks js e a b =
    record {
      kept = b.kept ∙ a.kept;
      ids = b.ids ∙ rw (a.ids, e) (sym (sets-append ks js (ids_of 4 l) at));
      rest = b.rest ∙ a.rest;
    }

-- ---- one id after the other: writing the ids js that are left, from place p on, gives what writing ks from place `at` on gave at the beginning

pub record Writing (l₀ l : List ℕ) (at p : ℕ) (ks js : List ℕ) : Type 0 where
  pub kept : length l ≡ length l₀
  pub ids : sets (ids_of 4 l) p js ≡ sets (ids_of 4 l₀) at ks
  pub rest : behind l ≡ behind l₀

pub writing-none : (l : List ℕ) (at : ℕ) (ks : List ℕ) → Writing l l at at ks ks
writing-none l at ks = record { kept = refl; ids = refl; rest = refl }

pub writing_more : {l₀ l m : List ℕ} {at p k : ℕ} {ks js : List ℕ} → Writing l₀ l at p ks (k ∷ js) → Wrote l m p (k ∷ []) → Writing l₀ m at (p + 1) ks js
writing_more {js = js} w a = record { kept = a.kept ∙ w.kept; ids = rw (add-one, a.ids) w.ids; rest = a.rest ∙ w.rest }

pub writing-all : {l₀ l : List ℕ} {at p : ℕ} {ks : List ℕ} → Writing l₀ l at p ks [] → Wrote l₀ l at ks
writing-all w = record { kept = w.kept; ids = w.ids; rest = w.rest }
