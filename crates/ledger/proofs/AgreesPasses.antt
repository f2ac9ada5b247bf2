-- The calls of a pass keep the agreement: open, next and answer.
use Rattle.std.specs.Prelude.{ℕ, ◌≡◌, Bool, not, ◌&&◌, leb}
use Rattle.std.proofs.Math.Path.{refl}
use Rattle.std.proofs.Common.{sym, ◌∙◌, arith}
use Rattle.std.proofs.Math.Bool.{true, false}
use mathlib.Core.List.{List, [], ◌∷◌}
use Rattle.std.proofs.Math.Dec.{eqb}
use borrow.Author.Tests.{eqb-true, not-false}
use Rattle.words.specs.Lists.{pick}
use Rattle.pool_types.specs.declared.MempoolConfig.{MempoolConfig}
use Rattle.pool_types.specs.declared.Verdict.{Verdict}
use Rattle.pool_types.specs.declared.Verdict.TheVariants.{Valid, Invalid, Absent}
use Rattle.pool_types.specs.Outcomes.{Outcome, refused, done, missing, reading_of}
use Rattle.pool.specs.Pool.{remove_tx}
use Rattle.store.specs.World.{World}
use Rattle.cleanup.specs.Passes.{PassNow, PassResult, still, opened, first_due, sought, nexted, offered, answer_refusal, lacks_input, goes, answered_with, weighed, answered}
use Rattle.ledger.specs.Book.{all_leave}
use Rattle.ledger.proofs.Same.{SameBook}
use Rattle.ledger.proofs.SameLaws.{same-remove, same-stamped}
use Rattle.ledger.specs.Ledger.{Open, Next, Answer, Ledger, gives_next, failed}
use Rattle.ledger.specs.Run.{Moment, world_at, pass_at, Becomes, Step}
use Rattle.ledger.proofs.Agrees.{SameWorld, Recalls, Agrees, Tallies, became-agrees}
use Rattle.ledger.proofs.AgreesCalls.{zero-not}

-- no candidate is out
false-true : {A : Type 0} → false ≡ true → A
false-true q = let z : ◌≡◌ {A = ℕ} 0 1 = cc in absurd (omega arith)

and-false : (t : Bool) → (t && false) ≡ false
and-false true = refl
and-false false = refl

none_out_absurd : (t : Bool) {A : Type 0} → (t && false) ≡ true → A
none_out_absurd t q = false-true (sym (and-false t) ∙ q)

module _ (g : MempoolConfig) (w : World) (p : PassNow) (l : Ledger) (s : SameWorld g w l) (h : Recalls p l) where
  -- ---- open

  open-passes : (time limit preheader : ℕ) → Tallies g (opened w p time limit preheader) l
  unfolding opened
  open-passes time limit preheader = go p.is_open refl
    where
      go : (t : Bool) → p.is_open ≡ t
          → Tallies g (pick t (still (refused 20 0) w p) (record { outcome = done; world = w; pass = record { is_open = true; out = false; candidate = 0; time = time; limit = limit; preheader = preheader; spent = 0 } })) l
      go true e = record { world = s; given = h }
      go false e = record { world = s; given = λ q. false-true q }

  -- ---- next

  given-passes : (ks : List ℕ) → Tallies g (offered ks w p) (gives_next (reading_of (offered ks w p).outcome) l)
  unfolding offered gives_next
  given-passes [] = record { world = s; given = λ q. false-true q }
  given-passes (k ∷ ks) = record { world = record { book = s.book; charges = s.charges; fair = s.fair }; given = λ q. refl }

  either : (t : Bool) (x y : PassResult) → Tallies g x (gives_next (reading_of x.outcome) l) → Tallies g y (gives_next (reading_of y.outcome) l) → Tallies g (pick t x y) (gives_next (reading_of (pick t x y).outcome) l)
  either true x y a b = a
  either false x y a b = b

  next-passes : (c : MempoolConfig) → Tallies g (nexted c w p) (gives_next (reading_of (nexted c w p).outcome) l)
  unfolding nexted sought gives_next
  next-passes c =
      either (not p.is_open) _ _ (record { world = s; given = h })
      (either p.out _ _ (record { world = record { book = s.book; charges = s.charges; fair = s.fair }; given = λ q. refl })
      (either (leb p.limit p.spent) _ _ (given-passes []) (given-passes (first_due c.cleanup_interval p w.tables.entries))))

  -- ---- answer

  -- the candidate was given, and leaves both
  gone : (p.is_open && p.out) ≡ true → SameBook (remove_tx p.candidate w.tables) (all_leave l.given l.book)
  gone q = rw (h q) (same-remove p.candidate w.tables l.book s.book)

  settle : (t : Bool) (x y : PassResult) → Tallies g x (failed (reading_of x.outcome) l) → Tallies g y (failed (reading_of y.outcome) l) → Tallies g (pick t x y) (failed (reading_of (pick t x y).outcome) l)
  settle true x y a b = a
  settle false x y a b = b

  weighed-passes : (c : MempoolConfig) → (p.is_open && p.out) ≡ true → (v : Verdict) → Tallies g (weighed c w p v) (failed (reading_of (weighed c w p v).outcome) l)
  unfolding weighed failed answered_with
  weighed-passes c q Absent = record { world = s; given = h }
  weighed-passes c q Invalid = record { world = record { book = gone q; charges = s.charges; fair = s.fair }; given = λ z. none_out_absurd p.is_open z }
  weighed-passes c q (Valid n) = record { world = record { book = same-stamped p.candidate _ p.time w.tables l.book s.book; charges = s.charges; fair = s.fair }; given = λ z. none_out_absurd p.is_open z }

  is-out : (flags : List ℕ) → answer_refusal w p flags ≡ 0 → (p.is_open && p.out) ≡ true
  unfolding answer_refusal
  is-out flags e = not-false _ (zero-not (not (p.is_open && p.out)) 21 _ tt e).0

  answer-passes : (c : MempoolConfig) (flags : List ℕ) (v : Verdict) → Tallies g (answered c w p flags v) (failed (reading_of (answered c w p flags v).outcome) l)
  unfolding answered failed answered_with
  answer-passes c flags v = go (eqb (answer_refusal w p flags) 0) refl
    where
      go : (t : Bool) → eqb (answer_refusal w p flags) 0 ≡ t
          → Tallies g (pick t (pick (lacks_input w p.candidate flags) (goes (missing p.candidate) w p) (weighed c w p v)) (still (refused (answer_refusal w p flags) 0) w p))
          (failed (reading_of (pick t (pick (lacks_input w p.candidate flags) (goes (missing p.candidate) w p) (weighed c w p v)) (still (refused (answer_refusal w p flags) 0) w p)).outcome) l)
      go true e =
          let q : (p.is_open && p.out) ≡ true = is-out flags (eqb-true _ 0 e) in
          settle (lacks_input w p.candidate flags) _ _
          (record { world = record { book = gone q; charges = s.charges; fair = s.fair }; given = λ z. none_out_absurd p.is_open z })
          (weighed-passes c q v)
      go false e = record { world = s; given = h }

-- ---- the calls

module _ (g : MempoolConfig) (m k : Moment) (l : Ledger) (o : Outcome) (s : Agrees g m l) where
  pub open-agrees : (time limit preheader : ℕ) → Step (Open time limit preheader) o m k → Agrees g k l
  open-agrees time limit preheader c =
      became-agrees g m k l o (opened (world_at m) (pass_at m) time limit preheader) (λ x. l) s c (open-passes g (world_at m) (pass_at m) l s.world s.given time limit preheader)

  pub next-agrees : Step Next o m k → Agrees g k (gives_next (reading_of o) l)
  next-agrees c =
      became-agrees g m k l o (nexted m.state.config (world_at m) (pass_at m)) (λ x. gives_next x l) s c (next-passes g (world_at m) (pass_at m) l s.world s.given m.state.config)

  pub answer-agrees : (flags : List ℕ) (v : Verdict) → Step (Answer flags v) o m k → Agrees g k (failed (reading_of o) l)
  answer-agrees flags v c =
      became-agrees g m k l o (answered m.state.config (world_at m) (pass_at m) flags v) (λ x. failed x l) s c (answer-passes g (world_at m) (pass_at m) l s.world s.given m.state.config flags v)

  -- nothing changed: a query, or a start that was refused
  pub still-agrees : Becomes m k o (still o (world_at m) (pass_at m)) → Agrees g k l
  still-agrees c = became-agrees g m k l o (still o (world_at m) (pass_at m)) (λ x. l) s c (record { world = s.world; given = s.given })
