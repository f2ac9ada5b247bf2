-- A block from one confirmation to the next, the laws that rest on which of a transaction's steps comes first: the statistics of a whole transaction, and one
-- transaction more of the loop of `next`.
use Rattle.std.specs.Prelude.{Option, None, Some, is_some, ℕ, ◌+◌, ◌*◌, ◌<◌, ◌≡◌, true, false, List}
use Rattle.std.proofs.Math.Path.{refl}
use Rattle.std.proofs.Common.{ap, ◌∙◌, arith}
use Rattle.words.specs.Find.{found}
use Rattle.words.specs.Ids.{id_at}
use Rattle.arguments.specs.Arguments.{records, field}
use Rattle.entries.specs.Layout.{entries_of, EntriesKept}
use Rattle.pool.specs.Pool.{Tables}
use Rattle.blocks.specs.Blocks.{Progress, confirm_one, applied_tx, inputs_at}
use Rattle.blocks.specs.Steps.{Removal, Doing, Does, safe-after, later, agreed-more, later_more}
use Rattle.entries.specs.declared.fields.Since.{Since}
use Rattle.blocks.specs.Runs.{Run, seen_of, tallied, recorded-seen, spent-stats, confirm-stats, Come, Went, Passing}

-- the statistics of one transaction
applied-stats : (time k : ℕ) (bs : List ℕ) (m : Progress) (v : Option Since) → v ≡ seen_of (found (λ e. e.id) k m.tables.entries) → (applied_tx time k bs m).stats ≡ tallied time v m.stats
applied-stats time k bs m v q =
    spent-stats k bs (confirm_one time k m) ∙ confirm-stats time k m ∙ recorded-seen time (found (λ e. e.id) k m.tables.entries) m.stats ∙ rw q

unseen : (v : Option Since) → is_some v ≡ false → v ≡ None
unseen None h = refl
unseen (Some v) h = let w : ◌≡◌ {A = ℕ} 0 1 = cc in absurd (omega arith)

-- one transaction more, which was seen so
module _ (txs ins : List ℕ) (i j to : ℕ) (h : i < records 5 txs) (q : to ≡ j + field 5 4 txs i) (k n : ℕ) (kq : k ≡ id_at txs (i * 5)) (nq : n ≡ field 5 4 txs i) {e b a e' b' a' e'' b'' a'' : List ℕ} {g : Run} {r r' : Removal} (v : Option Since)
    (vq : EntriesKept e' r.counts.pooled → v ≡ seen_of (found (λ x. x.id) k (entries_of e' r.counts.pooled))) (p : Passing txs ins e b a g e' b' a' r i j)
    (d : (time : ℕ) → Does (applied_tx time k (inputs_at ins j n)) e' b' a' r e'' b'' a'' r') where
  one-come : (time : ℕ) (a₀ : List ℕ) (m : Progress) → Doing e b a₀ a g.left m
      → Come txs ins (i + 1) to time (tallied time v m.stats) (later txs ins g.at g.from time m) e'' b'' a₀ a'' r'
  one-come time a₀ m f =
      let c = p.goes time a₀ m f in
      record {
        here = applied_tx time k (inputs_at ins j n) c.here;
        doing = (d time).does a₀ c.here c.doing;
        stats = applied-stats time k (inputs_at ins j n) c.here v (vq c.doing.kept.entries ∙ ap (λ (t : Tables). seen_of (found (λ x. x.id) k t.entries)) c.doing.tables) ∙ ap (tallied time v) c.stats;
        same = later_more txs ins i j to h q time k n kq nq c.here ∙ c.same;
      }

  -- it was not pooled
  pub passing-more : is_some v ≡ false → Passing txs ins e b a g e'' b'' a'' r' (i + 1) to
  passing-more z =
      record {
        safe = safe-after p.safe (d 0);
        agreed = agreed-more txs ins i j to h q p.agreed;
        since = omega (arith, p.since);
        sum = omega (arith, (d 0).sum, p.sum);
        goes = λ time a₀ m f. rw (unseen v z) at (one-come time a₀ m f);
      }

  -- it was: this is the next one
  pub went-hit : is_some v ≡ true → Went txs ins e b a g e'' b'' a'' (record { cached = g.cached; at = i + 1; from = to; left = r'; seen = v })
  went-hit z =
      record {
        cached = refl;
        ready = record { safe = safe-after p.safe (d 0); agreed = agreed-more txs ins i j to h q p.agreed };
        on = λ w y. (omega (arith, p.since), omega arith);
        ended = λ y. let w : ◌≡◌ {A = ℕ} 0 1 = cc in absurd (omega arith);
        sum = omega (arith, (d 0).sum, p.sum);
        goes = one-come;
      }
