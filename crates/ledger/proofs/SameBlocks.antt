-- A block's transaction is confirmed in the pool as in the book: it leaves, and those leave that spend one of its inputs.
use Rattle.std.specs.Prelude.{ℕ, ◌≡◌, refl, Bool, true, false, List, [], ◌∷◌, ◌++◌, eqb}
use Rattle.std.proofs.Common.{sym, subst, ◌∙◌}
use Rattle.words.specs.Lists.{pick}
use Rattle.words.specs.Find.{found, without}
use Rattle.entries.specs.Entries.{pooled}
use Rattle.boxes.specs.Records.{index, lookup, drop_owner}
use Rattle.pool.specs.Pool.{Tables, remove_tx}
use Rattle.blocks.specs.Blocks.{Progress, recorded, confirm_one, drive_out, rivals, spent, spent_one, applied_tx}
use Rattle.ledger.specs.Book.{Book, leaves, rival_leaves, rivals_leave, confirms}
use Rattle.ledger.proofs.Same.{SameBook}
use Rattle.ledger.proofs.SameLaws.{same-remove}

-- a removal of one that is not pooled changes nothing, so that a second test makes no difference
twice : (k : ℕ) (p : Progress) → pick (pooled k p.tables.entries) (remove_tx k p.tables) p.tables ≡ remove_tx k p.tables
twice k p =
    go (pooled k p.tables.entries) (record { entries = without (λ e. e.id) k p.tables.entries; boxes = drop_owner k p.tables.boxes }) p.tables
  where
    go : (t : Bool) (x y : Tables) → pick t (pick t x y) y ≡ pick t x y
    go true x y = refl
    go false x y = refl

-- of the tables each step is a removal; statistics and what is written stand beside them
pick-tables : (t : Bool) (x p : Progress) → (pick t x p).tables ≡ pick t x.tables p.tables
pick-tables true x p = refl
pick-tables false x p = refl

confirm-tables : (time k : ℕ) (p : Progress) → (confirm_one time k p).tables ≡ remove_tx k p.tables
unfolding confirm_one
confirm-tables time k p = pick-tables (pooled k p.tables.entries) (record { tables = remove_tx k p.tables; stats = recorded time (found (λ e. e.id) k p.tables.entries) p.stats; removed = p.removed ++ (k ∷ []) }) p ∙ twice k p

out-tables : (o : ℕ) (p : Progress) → (drive_out o p).tables ≡ remove_tx o p.tables
unfolding drive_out
out-tables o p = pick-tables (pooled o p.tables.entries) (record { tables = remove_tx o p.tables; stats = p.stats; removed = p.removed ++ (o ∷ []) }) p ∙ twice o p

same-rivals : (k : ℕ) (os : List ℕ) (p : Progress) (b : Book) → SameBook p.tables b → SameBook (rivals k os p).tables (rival_leaves k os b)
unfolding rivals
same-rivals k [] p b s = s
same-rivals k (o ∷ os) p b s = go (eqb o k)
  where
    go : (t : Bool) → SameBook (pick t p (drive_out o p)).tables (pick t b (leaves o b))
    go true = s
    go false = subst (λ t. SameBook t (leaves o b)) (sym (out-tables o p)) (same-remove o p.tables b s)

same-spent : (k : ℕ) (bs : List ℕ) (p : Progress) (b : Book) → SameBook p.tables b → SameBook (spent k bs p).tables (rivals_leave k bs b)
unfolding spent
same-spent k [] p b s = s
same-spent k (x ∷ xs) p b s =
    same-spent k xs (spent_one k x p) (rival_leaves k (lookup b.spenders x) b)
    (subst (λ ps. SameBook (spent_one k x p).tables (rival_leaves k (lookup ps x) b)) s.spenders (same-rivals k (lookup (index false p.tables.boxes) x) p b s))

pub same-applied : (time k : ℕ) (bs : List ℕ) (p : Progress) (b : Book) → SameBook p.tables b → SameBook (applied_tx time k bs p).tables (confirms k bs b)
unfolding confirms
same-applied time k bs p b s =
    same-spent k bs (confirm_one time k p) (leaves k b) (subst (λ t. SameBook t (leaves k b)) (sym (confirm-tables time k p)) (same-remove k p.tables b s))
